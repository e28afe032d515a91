-- The numbers of literals tell them apart.
use Rattle.std.proofs.Common.{◌≡◌, ℕ, ◌+◌, ◌*◌, ◌/◌, ◌%◌, ◌<◌, ◌==◌, Bool, true, false, cond, sym, ap, ◌∙◌, arith}
use Rattle.std.proofs.lemmas.Bool.{eqb-true, eq-eqb}
use Rattle.std.proofs.lemmas.Bool.Decides.{nat_tests}
use Rattle.cnf_core.specs.declared.clause.Lit.{Lit}
use Rattle.cnf_core.specs.Clause.{same_lit}
use Rattle.cnf_core.proofs.Sets.{same_lit-true, same_lit-from}
use Rattle.cdcl_base.specs.Codes.{code, lit_of}
use Rattle.list_lemmas.proofs.Bools.{same_test}

half : (v : ℕ) (sign : Bool) → (2 * v + cond sign 1 0) / 2 ≡ v
half v true = omega arith
half v false = omega arith

odd : (v : ℕ) (sign : Bool) → ((2 * v + cond sign 1 0) % 2 == 1) ≡ sign
odd v true = grind (arith, nat_tests)
odd v false = grind (arith, nat_tests)

lit_of-code : (l : Lit) → lit_of (code l) ≡ l
lit_of-code l = λ i. record { variable = half l.variable l.positive i; positive = odd l.variable l.positive i }

pub code-same : (l m : Lit) → code l ≡ code m → l ≡ m
code-same l m e = sym (lit_of-code l) ∙ ap lit_of e ∙ lit_of-code m

pub code-test : (l m : Lit) → (code l == code m) ≡ same_lit m l
code-test l m =
    same_test (code l == code m) (same_lit m l)
    (λ h. same_lit-from m l (sym (code-same l m (eqb-true (code l) (code m) h))))
    (λ h. eq-eqb (code l) (code m) (ap code (sym (same_lit-true m l h))))

below : (v n : ℕ) (sign : Bool) → v < n → 2 * v + cond sign 1 0 < 2 * n
below v n true h = omega (arith, h)
below v n false h = omega (arith, h)

pub code-below : (l : Lit) (n : ℕ) → l.variable < n → code l < 2 * n
code-below l n h = below l.variable n l.positive h
