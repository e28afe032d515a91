use Rattle.std.proofs.Common.{take}
use Rattle.loc_encode.proofs.KindLemmas.{HaveSame}
use Rattle.loc_encode.proofs.lines.kinds_of.Given as goal

abbrev pub invariant-loop-op : goal.invariant-loop-op
invariant-loop-op l = HaveSame l.kinds.items (take l.op-index l.ops)
