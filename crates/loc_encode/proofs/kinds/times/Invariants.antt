use Rattle.std.proofs.Common.{◌≡◌, take, nat_eq}
use Rattle.std.specs.Prelude.{count_by}
use Rattle.loc_encode.proofs.kinds.times.Given as goal

abbrev pub invariant-loop-other : goal.invariant-loop-other
invariant-loop-other l = l.times ≡ count_by (nat_eq l.op) (take l.other-index l.ops)
