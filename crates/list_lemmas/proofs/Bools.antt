-- Tests: what `&&`, `||` and `not` say, and cases on a test.
use Rattle.std.proofs.Common.{◌≡◌, Bool, true, false, ◌&&◌, refl, ◌⊎◌, cond, inl, inr, ℕ, ◌≤◌, arith, ◌<◌, ap, ◌∙◌}
use Rattle.std.proofs.Common.{◌↔◌, sym, ◌||◌, not}
use Rattle.std.proofs.lemmas.Bool.{false≢true}
use Rattle.std.proofs.lemmas.Bool.Decides.{nat_tests}
use Rattle.std.specs.Prelude.{nat_le, nat_lt}

pub and_parts : (x y : Bool) → (x && y) ≡ true → (x ≡ true) × (y ≡ true)
and_parts true y h = (refl, h)
and_parts false y h = cc

pub and_left : (a b : Bool) → (a && b) ≡ true → a ≡ true
and_left true b e = refl
and_left false b e = e

-- which bytes are parentheses
pub cond-cases : {X : Type 0} (test : Bool) (x y z : X) → cond test x y ≡ z
    → ((test ≡ true) × (x ≡ z)) ⊎ ((test ≡ false) × (y ≡ z))
cond-cases true x y z e = inl (refl, e)
cond-cases false x y z e = inr (refl, e)

pub le_true : (x y : ℕ) → x ≤ y → nat_le x y ≡ true
le_true x y l = grind (arith, nat_tests)

pub lt-true : (a b : ℕ) → a < b → nat_lt a b ≡ true
lt-true a b h = grind (arith, nat_tests)

pub and_right : (a b : Bool) → (a && b) ≡ true → b ≡ true
and_right true b e = e
and_right false b e = cc

pub false_unless : (b : Bool) → (b ≡ true → ⊥) → b ≡ false
false_unless true h = absurd (h refl)
false_unless false h = refl

pub and_false : (a b : Bool) → b ≡ false → (a && b) ≡ false
and_false true b e = e
and_false false b e = refl

pub and-both : (a b : Bool) → a ≡ true → b ≡ true → (a && b) ≡ true
and-both a b h k = ap (λ x. x && b) h ∙ k

pub le-from_test : (x y : ℕ) → nat_le x y ≡ true → x ≤ y
le-from_test x y h = grind (arith, nat_tests)

pub not_by_test : {P : Type 0} (b : Bool) → b ≡ false → (b ≡ true) ↔ P → P → ⊥
not_by_test b f h p = false≢true (sym f ∙ h.1 p)

pub no_answer : {P : Type 0} → (P → ⊥) → (false ≡ true) ↔ P
no_answer n = (λ t. absurd (false≢true t), λ p. absurd (n p))

pub yes_answer : {P : Type 0} → P → (true ≡ true) ↔ P
yes_answer p = (λ t. p, λ q. refl)

pub true-or-false : (b : Bool) → (b ≡ true) ⊎ (b ≡ false)
true-or-false true = inl refl
true-or-false false = inr refl

pub or-right : (a b : Bool) → b ≡ true → (a || b) ≡ true
or-right true b h = refl
or-right false b h = h

pub or-left : (a b : Bool) → a ≡ true → (a || b) ≡ true
or-left a b h = ap (λ x. x || b) h

pub or-cases : (a b : Bool) → (a || b) ≡ true → (a ≡ true) ⊎ (b ≡ true)
or-cases true b h = inl refl
or-cases false b h = inr h

pub not-not : (b : Bool) → not (not b) ≡ b
not-not true = refl
not-not false = refl

pub not-same : (b : Bool) → b ≡ not b → ⊥
not-same true h = false≢true (sym h)
not-same false h = false≢true h

-- two tests agree where each is true where the other is
pub same_test : (a b : Bool) → (a ≡ true → b ≡ true) → (b ≡ true → a ≡ true) → a ≡ b
same_test true true f g = refl
same_test true false f g = sym (f refl)
same_test false true f g = g refl
same_test false false f g = refl
