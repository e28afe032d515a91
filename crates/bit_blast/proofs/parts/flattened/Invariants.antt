use Rattle.std.proofs.Common.{◌++◌}
use Rattle.bit_blast.specs.Parts.{AreParts}
use Rattle.bit_blast.proofs.SetLemmas.{most}
use Rattle.bit_blast.proofs.PartLemmas.{rank}
use Rattle.bit_blast.proofs.parts.flattened.Given as goal

-- the part is joined of those that are pending and those that were found
abbrev pub invariant-loop-next : goal.invariant-loop-next
invariant-loop-next l = AreParts l.terms l.fn.join l.fn.part (l.pending.keys ++ l.found.items)

abbrev pub decreases-loop-next : goal.decreases-loop-next
decreases-loop-next l = most rank l.pending.keys
