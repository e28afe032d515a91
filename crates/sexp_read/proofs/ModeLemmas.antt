-- What the bytes before a place leave open, by place: a comment, a word or nothing.
use Rattle.std.proofs.Common.{◌≡◌, ◌≢◌, ℕ, ◌+◌, ◌-◌, ◌<◌, ◌≤◌, List, [], ◌∷◌, ◌++◌, length}
use Rattle.std.proofs.Common.{slice_get, slice_range, Some, refl, sym, ap, subst, ◌∙◌, inl, inr, arith}
use Rattle.std.specs.Prelude.{option_map}
use Rattle.std.proofs.lemmas.Bool.{cases_lt}
use Rattle.std.proofs.lemmas.Option.{same_Some, slice_get_within}
use Rattle.sexp_read.specs.declared.token.Class.{Class}
use Rattle.sexp_read.specs.declared.token.Class.TheVariants.{LineFeed, Semicolon, Letter}
use Rattle.sexp_read.specs.Token.{class_of, Mode, Between, Comment, Within, mode_after}
use Rattle.sexp_read.specs.Lexical.{IsAt, IsInComment, IsLetter, IsWord}
use Rattle.list_lemmas.proofs.Lookups.{slice_range-more, slice_range-one, slice_range-end}
use Rattle.list_lemmas.proofs.Options.{option_map-some}

-- a place has one class, and lies in the text
pub one-class : (bytes : List ℕ) (k : ℕ) (class other : Class) → IsAt bytes k class → IsAt bytes k other → class ≡ other
one-class bytes k class other h i = same_Some class other (sym h ∙ i)

pub at-byte : (bytes : List ℕ) (k b : ℕ) (class : Class) → slice_get bytes k ≡ Some b → class_of b ≡ class
    → IsAt bytes k class
at-byte bytes k b class here of-class = ap (option_map class_of) here ∙ ap Some of-class

pub at-within : (bytes : List ℕ) (k : ℕ) (class : Class) → IsAt bytes k class → k < length bytes
at-within bytes k class h =
    let byte = option_map-some class_of (slice_get bytes k) class h in
    slice_get_within bytes k byte.0 byte.1

-- a comment goes on at a place: a `;` stands before it, and no line feed from there up to it
abbrev pub IsOpen : List ℕ → ℕ → Type 0
IsOpen bytes place =
    (first : ℕ) × (first < place) × IsAt bytes first Semicolon
    × ((k : ℕ) → first ≤ k → k < place → ¬ IsAt bytes k LineFeed)

open-next : (bytes : List ℕ) (k place : ℕ) → k + 1 ≡ place → IsInComment bytes k → IsOpen bytes place
open-next bytes k place next i = (i.0, omega (arith, i.1), i.2, λ j l m. i.3 j l (omega arith))

pub open-last : (bytes : List ℕ) (k place : ℕ) → k + 1 ≡ place → IsOpen bytes place → IsInComment bytes k
open-last bytes k place next o = (o.0, omega (arith, o.1), o.2, λ j l m. o.3 j l (omega arith))

comment-begins : (bytes : List ℕ) (place : ℕ) → IsAt bytes place Semicolon → IsInComment bytes place
comment-begins bytes place here = (
  place,
  omega arith,
  here,
  λ k l m feed. let at : k ≡ place = omega arith in
      let same : Semicolon ≡ LineFeed =
      one-class bytes place Semicolon LineFeed here (subst (λ n. IsAt bytes n LineFeed) at feed) in
      absurd (cc),
)

comment-ends : (bytes : List ℕ) (place : ℕ) → IsAt bytes place LineFeed → ¬ IsInComment bytes place
comment-ends bytes place here i = i.3 place i.1 (omega arith) here

pub comment-goes_on : (bytes : List ℕ) (place : ℕ) (class : Class) → IsOpen bytes place → IsAt bytes place class
    → class ≢ LineFeed → IsInComment bytes place
comment-goes_on bytes place class o here apart = (
  o.0,
  omega (arith, o.1),
  o.2,
  λ k l m feed. elim (cases_lt k place) [
    | inl lt ↦ o.3 k l lt feed
    | inr le ↦ (let at : k ≡ place = omega arith in
        apart (one-class bytes place class LineFeed here (subst (λ n. IsAt bytes n LineFeed) at feed)))
  ],
)

pub comment-only_from : (bytes : List ℕ) (place : ℕ) (class : Class) → (¬ IsOpen bytes place) → IsAt bytes place class
    → class ≢ Semicolon → ¬ IsInComment bytes place
comment-only_from bytes place class closed here apart i =
    elim (cases_lt i.0 place) [
      | inl lt ↦ closed (i.0, lt, i.2, λ k l m. i.3 k l (omega arith))
      | inr le ↦ (let at : i.0 ≡ place = omega (arith, i.1) in
          apart (one-class bytes place class Semicolon here (subst (λ n. IsAt bytes n Semicolon) at i.2)))
    ]

-- what the bytes before a place leave open, by place
pub record IsBegun (bytes : List ℕ) (first place : ℕ) (word : List ℕ) : Type 0 where
  pub not_empty : first < place
  pub letters : (k : ℕ) → first ≤ k → k < place → IsLetter bytes k
  pub none_before : (k : ℕ) → k + 1 ≡ first → ¬ IsLetter bytes k
  pub spelled : word ≡ slice_range bytes first place

abbrev pub HasMode : List ℕ → ℕ → Mode → Type 0
HasMode bytes place Between = (¬ IsOpen bytes place) × ((k : ℕ) → k + 1 ≡ place → ¬ IsLetter bytes k)
HasMode bytes place Comment = IsOpen bytes place
HasMode bytes place (Within first word) = IsBegun bytes first place word

-- the last letter of a run
pub last-letter : (bytes : List ℕ) (first to : ℕ) → first < to
    → ((k : ℕ) → first ≤ k → k < to → IsLetter bytes k)
    → (k : ℕ) × (k + 1 ≡ to) × (first ≤ k) × IsLetter bytes k
last-letter bytes first to not_empty letters =
    (to - 1, omega arith, omega arith, letters (to - 1) (omega arith) (omega arith))

pub closed-outside : (bytes : List ℕ) (place : ℕ) (mode : Mode) → HasMode bytes place mode → mode ≢ Comment
    → ¬ IsOpen bytes place
closed-outside bytes place Between h apart o = h.0 o
closed-outside bytes place Comment h apart o = apart refl
closed-outside bytes place (Within first word) h apart o =
    let last = last-letter bytes first place h.not_empty h.letters in
    last.3.1 (open-last bytes last.0 place last.1 o)

-- one byte more
between-again : (bytes : List ℕ) (place : ℕ) (class : Class) → IsAt bytes place class → (¬ IsInComment bytes place)
    → class ≢ Letter → HasMode bytes (place + 1) Between
between-again bytes place class here out apart = (
  λ o. out (open-last bytes place (place + 1) refl o),
  λ k next letter. let at : k ≡ place = omega arith in
      apart (one-class bytes place class Letter here (subst (λ n. IsAt bytes n Letter) at letter.0)),
)

word-begins : (bytes : List ℕ) (place b : ℕ) → slice_get bytes place ≡ Some b → IsLetter bytes place
    → ((k : ℕ) → k + 1 ≡ place → ¬ IsLetter bytes k) → IsBegun bytes place (place + 1) (b ∷ [])
word-begins bytes place b here letter none =
    record {
      not_empty = omega arith;
      letters = λ k l m. let at : place ≡ k = omega arith in subst (IsLetter bytes) at letter;
      none_before = none;
      spelled = sym (slice_range-one bytes place b here);
    }

word-goes_on : (bytes : List ℕ) (first place b : ℕ) (word : List ℕ) → slice_get bytes place ≡ Some b
    → IsLetter bytes place → IsBegun bytes first place word → IsBegun bytes first (place + 1) (word ++ b ∷ [])
word-goes_on bytes first place b word here letter h =
    let not_empty : first < place = h.not_empty in
    record {
      not_empty = omega arith;
      letters = λ k l m. elim (cases_lt k place) [
        | inl lt ↦ h.letters k l lt
        | inr le ↦ (let at : place ≡ k = omega arith in subst (IsLetter bytes) at letter)
      ];
      none_before = h.none_before;
      spelled = ap (λ bs. bs ++ b ∷ []) h.spelled ∙ sym (slice_range-more bytes first place b (omega arith) here);
    }

comment-more : (bytes : List ℕ) (place b : ℕ) (class : Class) → IsOpen bytes place → IsAt bytes place class
    → HasMode bytes (place + 1) (mode_after Comment class place b)
comment-more bytes place b LineFeed o at =
    between-again bytes place LineFeed at (comment-ends bytes place at) (λ e. cc)
comment-more bytes place b class o at =
    open-next bytes place (place + 1) refl (comment-goes_on bytes place class o at (λ e. cc))

outside-more : (bytes : List ℕ) (place b : ℕ) (class : Class) → (¬ IsOpen bytes place) → IsAt bytes place class
    → class ≢ Letter → HasMode bytes (place + 1) (mode_after Between class place b)
outside-more bytes place b Letter closed at apart = absurd (apart refl)
outside-more bytes place b Semicolon closed at apart =
    open-next bytes place (place + 1) refl (comment-begins bytes place at)
outside-more bytes place b class closed at apart =
    between-again bytes place class at (comment-only_from bytes place class closed at (λ e. cc)) apart

pub letter-at : (bytes : List ℕ) (place : ℕ) → (¬ IsOpen bytes place) → IsAt bytes place Letter → IsLetter bytes place
letter-at bytes place closed here = (here, comment-only_from bytes place Letter closed here (λ e. cc))

between-more : (bytes : List ℕ) (place b : ℕ) (class : Class) → slice_get bytes place ≡ Some b
    → IsAt bytes place class → HasMode bytes place Between
    → HasMode bytes (place + 1) (mode_after Between class place b)
between-more bytes place b Letter here at h =
    word-begins bytes place b here (letter-at bytes place h.0 at) h.1
between-more bytes place b class here at h = outside-more bytes place b class h.0 at (λ e. cc)

within-more : (bytes : List ℕ) (place b first : ℕ) (word : List ℕ) (class : Class) → slice_get bytes place ≡ Some b
    → IsAt bytes place class → (¬ IsOpen bytes place) → IsBegun bytes first place word
    → HasMode bytes (place + 1) (mode_after (Within first word) class place b)
within-more bytes place b first word Letter here at closed h =
    word-goes_on bytes first place b word here (letter-at bytes place closed at) h
within-more bytes place b first word class here at closed h = outside-more bytes place b class closed at (λ e. cc)

pub mode-more : (bytes : List ℕ) (place b : ℕ) (mode : Mode) (class : Class) → slice_get bytes place ≡ Some b
    → IsAt bytes place class → HasMode bytes place mode → HasMode bytes (place + 1) (mode_after mode class place b)
mode-more bytes place b Comment class here at h = comment-more bytes place b class h at
mode-more bytes place b Between class here at h = between-more bytes place b class here at h
mode-more bytes place b (Within first word) class here at h =
    within-more bytes place b first word class here at
    (closed-outside bytes place (Within first word) h (λ e. cc)) h

-- where words end
run-within : (bytes : List ℕ) (first to : ℕ) → first < to → ((k : ℕ) → first ≤ k → k < to → IsLetter bytes k)
    → to ≤ length bytes
run-within bytes first to not_empty letters =
    let last = last-letter bytes first to not_empty letters in
    omega (arith, last.1, at-within bytes last.0 Letter last.3.0)

pub word-within : (bytes : List ℕ) (first to : ℕ) → IsWord bytes first to → to ≤ length bytes
word-within bytes first to w = run-within bytes first to w.not_empty w.letters

run-end : (bytes : List ℕ) (first to : ℕ) → first < to → ((k : ℕ) → first ≤ k → k < to → IsLetter bytes k)
    → first + length (slice_range bytes first to) ≡ to
run-end bytes first to not_empty letters =
    let within = run-within bytes first to not_empty letters in
    slice_range-end bytes first to (omega arith) within

pub word-end : (bytes : List ℕ) (first to : ℕ) (word : List ℕ) → IsWord bytes first to
    → word ≡ slice_range bytes first to → first + length word ≡ to
word-end bytes first to word w is =
    ap (λ ws. first + length ws) is ∙ run-end bytes first to w.not_empty w.letters

pub begun-end : (bytes : List ℕ) (first place : ℕ) (word : List ℕ) → IsBegun bytes first place word
    → first + length word ≡ place
begun-end bytes first place word h =
    ap (λ ws. first + length ws) h.spelled ∙ run-end bytes first place h.not_empty h.letters
