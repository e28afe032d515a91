use Rattle.std.proofs.Common.{◌≡◌, ◌<◌, ℕ, Some, slice_get}
use Rattle.bv_terms.specs.Term.{value}
use Rattle.bv_terms.specs.WellSorted.{InputsFit}
use Rattle.bv_terms.specs.Table.{term_in, terms_of}
use Rattle.bv_terms.proofs.terms.Terms.eval.Given as goal

-- each place so far has the value of its node's term, where the inputs of that term fit
abbrev pub invariant-loop-place : goal.invariant-loop-place
invariant-loop-place l =
    (k : ℕ) → k < l.place → InputsFit l.env.values (term_in (terms_of l.self) k)
    → slice_get l.room k ≡ Some (value l.env.values (term_in (terms_of l.self) k))
