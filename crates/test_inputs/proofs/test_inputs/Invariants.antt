use Rattle.std.proofs.Common.{take}
use Rattle.bv_terms.specs.Sorts.{HaveSorts}
use Rattle.test_inputs.proofs.test_inputs.Given as goal

abbrev pub invariant-loop-place : goal.invariant-loop-place
invariant-loop-place l = HaveSorts (take l.place l.sorts) l.values.items
