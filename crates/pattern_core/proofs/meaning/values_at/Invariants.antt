use Rattle.std.proofs.Common.{◌≡◌, take}
use Rattle.bv_terms.specs.Eval.{values_in}
use Rattle.pattern_core.proofs.meaning.values_at.Given as goal

abbrev pub invariant-loop-at : goal.invariant-loop-at
invariant-loop-at l = l.values.items ≡ values_in l.room (take l.at-index l.nodes)
