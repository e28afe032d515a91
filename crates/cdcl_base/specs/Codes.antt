-- Literals as numbers: the two literals of a variable are neighbours, as in N. Eén, N. Sörensson, An Extensible
-- SAT-solver, SAT 2003.
use Rattle.std.specs.Prelude.{◌≡◌, ℕ, ◌+◌, ◌*◌, ◌/◌, ◌%◌, ◌==◌, if◌then◌else◌}
use Rattle.std.specs.Cmp.{IsPartialEquivalence}
use Rattle.std.proofs.Common.{◌∙◌, arith}
use Rattle.std.proofs.lemmas.Bool.Decides.{nat_tests}
use Rattle.cnf_core.specs.declared.clause.Lit.{Lit}
use Rattle.cnf_core.specs.Clause.{same_lit}
use Rattle.cnf_core.proofs.Sets.{same_lit-sym, same_lit-true, same_lit-from}

-- the number of a literal: twice that of its variable, and one more for the positive one
abbrev pub code : Lit → ℕ
code l = 2 * l.variable + (if l.positive then 1 else 0)

-- the literal of a number
abbrev pub lit_of : ℕ → Lit
lit_of n = record { variable = n / 2; positive = n % 2 == 1 }

pub code-lit_of : (n : ℕ) → code (lit_of n) ≡ n
code-lit_of n = grind (arith, nat_tests)

pub same_lit-laws : IsPartialEquivalence same_lit
same_lit-laws = record {
  symm = same_lit-sym;
  trans = λ x y z p q. same_lit-from x z (same_lit-true x y p ∙ same_lit-true y z q);
}
