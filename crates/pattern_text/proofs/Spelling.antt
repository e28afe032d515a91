-- Which tokens the bytes from a place on spell, whatever follows that ends a word.
use Rattle.std.proofs.Common.{◌≡◌, ℕ, ◌+◌, ◌<◌, ◌≤◌, Bool, true, false, eqb, List, [], ◌∷◌, ◌++◌}
use Rattle.std.proofs.Common.{length, codes, refl, sym, ap, ◌∙◌, subst, arith, append_assoc, length-append, ◌&&◌}
use Rattle.std.specs.List.{list_all}
use Rattle.std.proofs.lemmas.Bool.Decides.{nat_tests}
use Rattle.std.proofs.lemmas.List.Folds.{list_all-append}
use Rattle.list_lemmas.proofs.Bools.{and_parts, and-both}
use Rattle.list_lemmas.proofs.Lists.{append-nothing}
use Rattle.sexp_read.specs.declared.token.Class.{Class}
use Rattle.sexp_read.specs.declared.token.Class.TheVariants.{Blank, LineFeed, Semicolon, Left, Right, Letter}
use Rattle.sexp_read.specs.Token.{is_text_byte, class_of, Token, Open, Close, Atom, Between, Within}
use Rattle.sexp_read.specs.Token.{mode_after, tokens_at, tokens_from}

abbrev pub is_letter : Class → Bool
is_letter Letter = true
is_letter _ = false

abbrev pub is_letter_byte : ℕ → Bool
is_letter_byte b = is_letter (class_of b)

-- a word ends before these bytes
abbrev pub Ends : List ℕ → Type 0
Ends [] = Unit {0}
Ends (b ∷ rest) = is_letter_byte b ≡ false

pub record Spelled (place : ℕ) (bytes : List ℕ) (ts : List Token) : Type 0 where
  pub text : list_all is_text_byte bytes ≡ true
  pub spelled : (rest : List ℕ) → Ends rest
      → tokens_from Between place (bytes ++ rest) ≡ ts ++ tokens_from Between (place + length bytes) rest

-- ---- words

abbrev pub is_word_byte : ℕ → Bool
is_word_byte b = is_text_byte b && is_letter_byte b

letter-class : (class : Class) → is_letter class ≡ true → class ≡ Letter
letter-class Letter h = refl
letter-class Blank h = cc
letter-class LineFeed h = cc
letter-class Semicolon h = cc
letter-class Left h = cc
letter-class Right h = cc

letter : (b : ℕ) → is_word_byte b ≡ true → class_of b ≡ Letter
letter b h = letter-class (class_of b) (and_parts (is_text_byte b) (is_letter_byte b) h).1

-- the tokens from a byte on, by its class
abbrev after-byte : (first place b : ℕ) (word rest : List ℕ) → Class → Type 0
after-byte first place b word rest class =
    tokens_at (Within first word) class place
    ++ tokens_from (mode_after (Within first word) class place b) (place + 1) rest
    ≡ Atom first word ∷ (tokens_at Between class place
    ++ tokens_from (mode_after Between class place b) (place + 1) rest)

ends-by-class : (first place b : ℕ) (word rest : List ℕ) (class : Class) → is_letter class ≡ false
    → after-byte first place b word rest class
ends-by-class first place b word rest Letter h = absurd (cc)
ends-by-class first place b word rest Blank h = refl
ends-by-class first place b word rest LineFeed h = refl
ends-by-class first place b word rest Semicolon h = refl
ends-by-class first place b word rest Left h = refl
ends-by-class first place b word rest Right h = refl

word-ends : (first place : ℕ) (word rest : List ℕ) → Ends rest
    → tokens_from (Within first word) place rest ≡ Atom first word ∷ tokens_from Between place rest
word-ends first place word [] e = refl
word-ends first place word (b ∷ rest) e = ends-by-class first place b word rest (class_of b) e

word-goes_on : (first place : ℕ) (word bs rest : List ℕ) → list_all is_word_byte bs ≡ true → Ends rest
    → tokens_from (Within first word) place (bs ++ rest)
    ≡ Atom first (word ++ bs) ∷ tokens_from Between (place + length bs) rest
word-goes_on first place word [] rest h e =
    word-ends first place word rest e
    ∙ ap (λ w. Atom first w ∷ tokens_from Between place rest) (sym (append-nothing word))
    ∙ (let same : place ≡ place + 0 = omega arith in
    ap (λ q. Atom first (word ++ []) ∷ tokens_from Between q rest) same)
word-goes_on first place word (b ∷ bs) rest h e =
    let parts = and_parts (is_word_byte b) (list_all is_word_byte bs) h in
    let same : place + 1 + length bs ≡ place + length (b ∷ bs) = omega arith in
    ap (λ class. tokens_at (Within first word) class place
    ++ tokens_from (mode_after (Within first word) class place b) (place + 1) (bs ++ rest)) (letter b parts.0)
    ∙ word-goes_on first (place + 1) (word ++ b ∷ []) bs rest parts.1 e
    ∙ ap (λ w. Atom first w ∷ tokens_from Between (place + 1 + length bs) rest) (append_assoc word (b ∷ []) bs)
    ∙ ap (λ q. Atom first (word ++ b ∷ bs) ∷ tokens_from Between q rest) same

word-text : (bs : List ℕ) → list_all is_word_byte bs ≡ true → list_all is_text_byte bs ≡ true
word-text [] h = refl
word-text (b ∷ bs) h =
    let parts = and_parts (is_word_byte b) (list_all is_word_byte bs) h in
    and-both (is_text_byte b) (list_all is_text_byte bs) (and_parts (is_text_byte b) (is_letter_byte b) parts.0).0
    (word-text bs parts.1)

pub word-spelled : (place : ℕ) (word : List ℕ) → 0 < length word → list_all is_word_byte word ≡ true
    → Spelled place word (Atom place word ∷ [])
word-spelled place [] some h = absurd (omega arith)
word-spelled place (b ∷ bs) some h =
    let parts = and_parts (is_word_byte b) (list_all is_word_byte bs) h in
    let same : place + 1 + length bs ≡ place + length (b ∷ bs) = omega arith in
    record {
      text = word-text (b ∷ bs) h;
      spelled = λ rest e. ap (λ class. tokens_at Between class place
          ++ tokens_from (mode_after Between class place b) (place + 1) (bs ++ rest)) (letter b parts.0)
          ∙ word-goes_on place (place + 1) (b ∷ []) bs rest parts.1 e
          ∙ ap (λ q. Atom place (b ∷ bs) ∷ tokens_from Between q rest) same;
    }

-- ---- texts joined

pub nothing-spelled : (place : ℕ) → Spelled place [] []
nothing-spelled place = record {
  text = refl;
  spelled = λ rest e. let same : place ≡ place + 0 = omega arith in ap (λ q. tokens_from Between q rest) same;
}

pub spelled-same : (place : ℕ) (bs cs : List ℕ) (ts us : List Token) → bs ≡ cs → ts ≡ us → Spelled place bs ts
    → Spelled place cs us
spelled-same place bs cs ts us same equal s =
    subst (λ bs. Spelled place bs us) same (subst (λ ts. Spelled place bs ts) equal s)

pub after-space : (place : ℕ) (bs : List ℕ) (ts : List Token) → Spelled (place + 1) bs ts
    → Spelled place (codes " " ++ bs) ts
after-space place bs ts s =
    let same : place + 1 + length bs ≡ place + length (codes " " ++ bs) = omega arith in
    record {
      text = s.text;
      spelled = λ rest e. s.spelled rest e ∙ ap (λ q. ts ++ tokens_from Between q rest) same;
    }

pub after-line_feed : (place : ℕ) (bs : List ℕ) (ts : List Token) → Spelled (place + 1) bs ts
    → Spelled place (10 ∷ bs) ts
after-line_feed place bs ts s =
    let same : place + 1 + length bs ≡ place + length (10 ∷ bs) = omega arith in
    record {
      text = s.text;
      spelled = λ rest e. s.spelled rest e ∙ ap (λ q. ts ++ tokens_from Between q rest) same;
    }

-- one text and then another, which begins where a word ends
pub both-spelled : (place : ℕ) (bs cs : List ℕ) (ts us : List Token) → Spelled place bs ts
    → Spelled (place + length bs) cs us → ((rest : List ℕ) → Ends rest → Ends (cs ++ rest))
    → Spelled place (bs ++ cs) (ts ++ us)
both-spelled place bs cs ts us s r ends =
    let same : place + length bs + length cs ≡ place + length (bs ++ cs) = omega (arith, length-append bs cs) in
    record {
      text = list_all-append is_text_byte bs cs
          ∙ and-both (list_all is_text_byte bs) (list_all is_text_byte cs) s.text r.text;
      spelled = λ rest e. ap (tokens_from Between place) (append_assoc bs cs rest)
          ∙ s.spelled (cs ++ rest) (ends rest e) ∙ ap (λ vs. ts ++ vs) (r.spelled rest e)
          ∙ sym (append_assoc ts us (tokens_from Between (place + length bs + length cs) rest))
          ∙ ap (λ q. (ts ++ us) ++ tokens_from Between q rest) same;
    }

-- a line, after which any text may follow
pub line-spelled : (place : ℕ) (bs : List ℕ) (ts : List Token) → Spelled place bs ts → Spelled place (bs ++ 10 ∷ []) ts
line-spelled place bs ts s =
    let same : place + length bs + 1 ≡ place + length (bs ++ 10 ∷ []) = omega (arith, length-append bs (10 ∷ [])) in
    record {
      text = list_all-append is_text_byte bs (10 ∷ []) ∙ and-both (list_all is_text_byte bs) true s.text refl;
      spelled = λ rest e. ap (tokens_from Between place) (append_assoc bs (10 ∷ []) rest)
          ∙ s.spelled (10 ∷ rest) refl ∙ ap (λ q. ts ++ tokens_from Between q rest) same;
    }

-- the place after a list
abbrev pub list_end : ℕ → List ℕ → ℕ
list_end place bs = place + 1 + length bs + 1

pub in-parentheses : (place : ℕ) (bs : List ℕ) (ts : List Token) → Spelled (place + 1) bs ts
    → Spelled place (codes "(" ++ bs ++ codes ")") (Open place ∷ (ts ++ Close (list_end place bs) ∷ []))
in-parentheses place bs ts s =
    let q : ℕ = place + 1 + length bs in
    let same : q + 1 ≡ place + length (codes "(" ++ bs ++ codes ")") = omega (arith, length-append bs (codes ")")) in
    record {
      text = list_all-append is_text_byte bs (codes ")")
          ∙ and-both (list_all is_text_byte bs) true s.text refl;
      spelled = λ rest e. ap (λ bytes. Open place ∷ tokens_from Between (place + 1) bytes)
          (append_assoc bs (codes ")") rest)
          ∙ ap (λ vs. Open place ∷ vs) (s.spelled (codes ")" ++ rest) refl
          ∙ sym (append_assoc ts (Close (q + 1) ∷ []) (tokens_from Between (q + 1) rest)))
          ∙ ap (λ r. Open place ∷ ((ts ++ Close (q + 1) ∷ []) ++ tokens_from Between r rest)) same;
    }

-- ---- bytes of words

-- a byte past the parentheses, and no `;`, is a letter
pub word-byte : (b : ℕ) → 42 ≤ b → b ≤ 126 → eqb b 59 ≡ false → is_word_byte b ≡ true
word-byte b low high other =
    let left : eqb b 40 ≡ false = grind (arith, nat_tests) in
    let right : eqb b 41 ≡ false = grind (arith, nat_tests) in
    let line_feed : eqb b 10 ≡ false = grind (arith, nat_tests) in
    let space : eqb b 32 ≡ false = grind (arith, nat_tests) in
    let tab : eqb b 9 ≡ false = grind (arith, nat_tests) in
    let return : eqb b 13 ≡ false = grind (arith, nat_tests) in
    let text : is_text_byte b ≡ true = grind (arith, nat_tests) in
    and-both (is_text_byte b) (is_letter_byte b) text (rw (left, right, other, line_feed, space, tab, return) refl)
