-- Where the tokens of a text, and the trees that they spell, stand in its bytes.
use Rattle.std.proofs.Common.{◌≡◌, ℕ, ◌+◌, ◌-◌, ◌<◌, ◌≤◌, List, [], ◌∷◌, ◌++◌, length}
use Rattle.std.proofs.Common.{take, drop, slice_get, slice_range, Some, refl, sym, ap, subst, ◌∙◌, arith}
use Rattle.std.specs.List.{AllByRecursion}
use Rattle.std.proofs.lemmas.Option.{slice_get_within}
use Rattle.std.proofs.lemmas.Bool.Decides.{nat_tests}
use Rattle.std.proofs.lemmas.List.{length_push}
use Rattle.sexp_read.specs.declared.token.Class.{Class}
use Rattle.sexp_read.specs.declared.token.Class.TheVariants.{Blank, LineFeed, Semicolon, Left, Right, Letter}
use Rattle.sexp_read.specs.Token.{class_of, Token, Open, Close, Atom, Mode, Between, Comment, Within, mode_after}
use Rattle.sexp_read.specs.Token.{word_in, tokens_at, tokens_from, tokens}
use Rattle.list_lemmas.proofs.Lookups.{all-append, all-weaker, drop-head, slice_range-more}

-- a parenthesis from a place on, or any word
abbrev pub IsFrom : ℕ → Token → Type 0
IsFrom place (Open at) = place ≤ at
IsFrom place (Close to) = place < to
IsFrom place (Atom first word) = Unit {0}

is-from-earlier : (place : ℕ) (token : Token) → IsFrom (place + 1) token → IsFrom place token
is-from-earlier place (Open at) h = omega arith
is-from-earlier place (Close to) h = omega arith
is-from-earlier place (Atom first word) h = tt

words-from : (mode : Mode) (place : ℕ) → AllByRecursion (IsFrom place) (word_in mode)
words-from Between place = tt
words-from Comment place = tt
words-from (Within first word) place = (tt, tt)

tokens_at-from : (mode : Mode) (class : Class) (place : ℕ) → AllByRecursion (IsFrom place) (tokens_at mode class place)
tokens_at-from Comment Blank place = tt
tokens_at-from Comment _ place = tt
tokens_at-from Between Left place = (omega arith, tt)
tokens_at-from Between Right place = (omega arith, tt)
tokens_at-from Between _ place = tt
tokens_at-from (Within first word) Letter place = tt
tokens_at-from (Within first word) Left place = (tt, (omega arith, tt))
tokens_at-from (Within first word) Right place = (tt, (omega arith, tt))
tokens_at-from (Within first word) _ place = (tt, tt)

pub tokens_from-from : (mode : Mode) (place : ℕ) (bytes : List ℕ)
    → AllByRecursion (IsFrom place) (tokens_from mode place bytes)
tokens_from-from mode place [] = words-from mode place
tokens_from-from mode place (b ∷ bytes) =
    all-append (IsFrom place) (tokens_at mode (class_of b) place) _ (tokens_at-from mode (class_of b) place)
    (all-weaker (IsFrom (place + 1)) (IsFrom place) (is-from-earlier place) _
    (tokens_from-from (mode_after mode (class_of b) place b) (place + 1) bytes))

pub left-byte : (b : ℕ) → class_of b ≡ Left → b ≡ 40
left-byte b e = grind (arith, nat_tests)

pub right-byte : (b : ℕ) → class_of b ≡ Right → b ≡ 41
right-byte b e = grind (arith, nat_tests)

-- the tokens stand in the bytes, one after the other, from a place on
abbrev pub Spans : List ℕ → ℕ → List Token → Type 0
Spans bytes place [] = Unit {0}
Spans bytes place (Open at ∷ ts) = (place ≤ at) × (slice_get bytes at ≡ Some 40) × Spans bytes (at + 1) ts
Spans bytes place (Close to ∷ ts) = (place < to) × (slice_get bytes (to - 1) ≡ Some 41) × Spans bytes to ts
Spans bytes place (Atom first word ∷ ts) =
    (place ≤ first) × (first + length word ≤ length bytes) × (slice_range bytes first (first + length word) ≡ word)
    × Spans bytes (first + length word) ts

spans-earlier : (bytes : List ℕ) (place : ℕ) (ts : List Token) → Spans bytes (place + 1) ts → Spans bytes place ts
spans-earlier bytes place [] h = tt
spans-earlier bytes place (Open at ∷ ts) h = (omega arith, h.1, h.2)
spans-earlier bytes place (Close to ∷ ts) h = (omega arith, h.1, h.2)
spans-earlier bytes place (Atom first word ∷ ts) h = (omega arith, h.1, h.2, h.3)

-- where what is open began
abbrev begin : ℕ → Mode → ℕ
begin place (Within first word) = first
begin place _ = place

-- an open word is the bytes from its first to a place
abbrev pub ModeIn : List ℕ → ℕ → Mode → Type 0
ModeIn bytes place (Within first word) = (first + length word ≡ place) × (slice_range bytes first place ≡ word)
ModeIn bytes place _ = Unit {0}

mode-in : (bytes : List ℕ) (place b : ℕ) (mode : Mode) (class : Class) → slice_get bytes place ≡ Some b
    → ModeIn bytes place mode → ModeIn bytes (place + 1) (mode_after mode class place b)
mode-in bytes place b Comment LineFeed here h = tt
mode-in bytes place b Comment _ here h = tt
mode-in bytes place b Between Letter here h =
    let none : place - place ≡ 0 = omega arith in
    (refl, slice_range-more bytes place place b (omega arith) here ∙ ap (λ n. take n (drop place bytes) ++ b ∷ []) none)
mode-in bytes place b Between Semicolon here h = tt
mode-in bytes place b Between _ here h = tt
mode-in bytes place b (Within first word) Letter here h = (
  omega (arith, length_push word b),
  slice_range-more bytes first place b (omega arith) here
      ∙ ap (λ ws. ws ++ b ∷ []) h.1,
)
mode-in bytes place b (Within first word) Semicolon here h = tt
mode-in bytes place b (Within first word) _ here h = tt

word-then : (bytes : List ℕ) (place first : ℕ) (word : List ℕ) → place ≤ length bytes
    → ModeIn bytes place (Within first word) →
    (ts : List Token) → Spans bytes place ts → Spans bytes first (Atom first word ∷ ts)
word-then bytes place first word le h ts later =
    (omega arith, omega arith, ap (slice_range bytes first) h.0 ∙ h.1, subst (λ n. Spans bytes n ts) (sym h.0) later)

word-spans : (bytes : List ℕ) (place : ℕ) (mode : Mode) → place ≤ length bytes → ModeIn bytes place mode
    → Spans bytes (begin place mode) (word_in mode)
word-spans bytes place Between le h = tt
word-spans bytes place Comment le h = tt
word-spans bytes place (Within first word) le h = word-then bytes place first word le h [] tt

step-spans : (bytes : List ℕ) (place b : ℕ) (mode : Mode) (class : Class) → slice_get bytes place ≡ Some b →
    (class ≡ Left → b ≡ 40) → (class ≡ Right → b ≡ 41) → ModeIn bytes place mode →
    (ts : List Token) → Spans bytes (begin (place + 1) (mode_after mode class place b)) ts
    → Spans bytes (begin place mode) (tokens_at mode class place ++ ts)
step-spans bytes place b Comment LineFeed here left right h ts later = spans-earlier bytes place ts later
step-spans bytes place b Comment _ here left right h ts later = spans-earlier bytes place ts later
step-spans bytes place b Between Letter here left right h ts later = later
step-spans bytes place b Between Left here left right h ts later = (omega arith, here ∙ ap Some (left refl), later)
step-spans bytes place b Between Right here left right h ts later =
    (omega arith, ap (slice_get bytes) (omega arith) ∙ here ∙ ap Some (right refl), later)
step-spans bytes place b Between Semicolon here left right h ts later = spans-earlier bytes place ts later
step-spans bytes place b Between _ here left right h ts later = spans-earlier bytes place ts later
step-spans bytes place b (Within first word) Letter here left right h ts later = later
step-spans bytes place b (Within first word) Left here left right h ts later =
    word-then bytes place first word (omega (arith, slice_get_within bytes place b here)) h (Open place ∷ ts)
    (omega arith, here ∙ ap Some (left refl), later)
step-spans bytes place b (Within first word) Right here left right h ts later =
    word-then bytes place first word (omega (arith, slice_get_within bytes place b here)) h (Close (place + 1) ∷ ts)
    (omega arith, ap (slice_get bytes) (omega arith) ∙ here ∙ ap Some (right refl), later)
step-spans bytes place b (Within first word) Semicolon here left right h ts later =
    word-then bytes place first word (omega (arith, slice_get_within bytes place b here)) h ts
    (spans-earlier bytes place ts later)
step-spans bytes place b (Within first word) _ here left right h ts later =
    word-then bytes place first word (omega (arith, slice_get_within bytes place b here)) h ts
    (spans-earlier bytes place ts later)

pub tokens_from-spans : (bytes : List ℕ) (mode : Mode) (place : ℕ) (rest : List ℕ) → drop place bytes ≡ rest
    → place ≤ length bytes → ModeIn bytes place mode →
    Spans bytes (begin place mode) (tokens_from mode place rest)
tokens_from-spans bytes mode place [] e le h = word-spans bytes place mode le h
tokens_from-spans bytes mode place (b ∷ rest) e le h =
    let here = drop-head bytes place b rest e in
    let within : place < length bytes = slice_get_within bytes place b here.0 in
    step-spans bytes place b mode (class_of b) here.0 (left-byte b) (right-byte b) h _
    (tokens_from-spans bytes (mode_after mode (class_of b) place b) (place + 1) rest here.1 (omega arith)
    (mode-in bytes place b mode (class_of b) here.0 h))

pub tokens-span : (bytes : List ℕ) → Spans bytes 0 (tokens bytes)
tokens-span bytes = tokens_from-spans bytes Between 0 bytes refl (omega arith) tt
