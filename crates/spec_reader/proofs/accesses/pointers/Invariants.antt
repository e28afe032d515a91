use Rattle.std.proofs.Common.{◌≡◌, map, take}
use Rattle.spec_reader.specs.declared.accesses.Access.{Access}
use Rattle.spec_reader.proofs.accesses.pointers.Given as goal

abbrev pub invariant-loop-access : goal.invariant-loop-access
invariant-loop-access l = l.nodes.items ≡ map (λ (a : Access). a.pointer) (take l.access-index l.accesses)
