use Rattle.std.proofs.Common.{ℕ, ◌<◌, map}
use Rattle.bv_terms.specs.Replaced.{ReplacementsFit}
use Rattle.bv_terms.specs.Table.{term_in, terms_of, term_at}
use Rattle.term_tests.proofs.tests.grafts.replacements_fit.Given as goal

abbrev pub invariant-loop-place : goal.invariant-loop-place
invariant-loop-place l =
    (k : ℕ) → k < l.place
    → ReplacementsFit l.terms.pointer (map (term_at l.terms) l.inputs) (term_in (terms_of l.from) k)
