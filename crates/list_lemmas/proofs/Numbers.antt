-- Numbers, and tests on them.
use Rattle.list_lemmas.proofs.Bools.{true-or-false}
use Rattle.std.proofs.Common.{◌≡◌, ℕ, ◌≤◌, false, nat_lt, arith, ◌*◌, ◌/◌, ◌<◌, sym, ap, ◌∙◌, ◌==◌, true, ◌⊎◌, inl}
use Rattle.std.proofs.Common.{inr}
use Rattle.std.proofs.Math.Nat.{mul-div_cancel_left}
use Rattle.std.proofs.lemmas.Bool.{eqb-true, eqb-false}
use Rattle.std.proofs.lemmas.Bool.Decides.{nat_tests}
use Rattle.std.specs.Prelude.{nat_le}

pub not_less : (m n : ℕ) → nat_lt m n ≡ false → n ≤ m
not_less m n h = grind (arith, nat_tests)

pub exact_quotient : (d p x : ℕ) → 0 < d → d * x ≡ p → p / d ≡ x
exact_quotient d p x l e = ap (λ q. q / d) (sym e) ∙ mul-div_cancel_left x l

pub le_false : (x y : ℕ) → y < x → nat_le x y ≡ false
le_false x y l = grind (arith, nat_tests)

pub equal-or-not : (a b : ℕ) → (a ≡ b) ⊎ (a ≡ b → ⊥)
equal-or-not a b = by (true-or-false (a == b))
  where
    by : ((a == b) ≡ true) ⊎ ((a == b) ≡ false) → (a ≡ b) ⊎ (a ≡ b → ⊥)
    by (inl e) = inl (eqb-true a b e)
    by (inr e) = inr (eqb-false a b e)
