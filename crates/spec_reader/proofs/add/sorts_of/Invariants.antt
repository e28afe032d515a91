use Rattle.std.proofs.Common.{◌≡◌, map, take}
use Rattle.spec_reader.proofs.add.sorts_of.Given as goal

abbrev pub invariant-loop-param : goal.invariant-loop-param
invariant-loop-param l = l.sorts.items ≡ map (λ q. q.sort) (take l.param-index l.params)
