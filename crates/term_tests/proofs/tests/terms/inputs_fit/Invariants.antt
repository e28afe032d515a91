use Rattle.std.proofs.Common.{ℕ, ◌<◌}
use Rattle.bv_terms.specs.WellSorted.{InputsFit}
use Rattle.bv_terms.specs.Table.{term_in, terms_of}
use Rattle.term_tests.proofs.tests.terms.inputs_fit.Given as goal

abbrev pub invariant-loop-place : goal.invariant-loop-place
invariant-loop-place l = (k : ℕ) → k < l.place → InputsFit l.env.values (term_in (terms_of l.terms) k)
