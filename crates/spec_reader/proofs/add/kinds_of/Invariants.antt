use Rattle.std.proofs.Common.{◌≡◌, map, take}
use Rattle.spec_reader.proofs.add.kinds_of.Given as goal

abbrev pub invariant-loop-param : goal.invariant-loop-param
invariant-loop-param l = l.kinds.items ≡ map (λ q. (q.kind, q.sort)) (take l.param-index l.params)
