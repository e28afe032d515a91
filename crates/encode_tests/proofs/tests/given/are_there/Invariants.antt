use Rattle.std.proofs.Common.{◌≡◌, length, nat_lt, drop}
use Rattle.std.specs.List.{list_all}
use Rattle.encode_tests.proofs.tests.given.are_there.Given as goal

abbrev pub invariant-loop-op : goal.invariant-loop-op
invariant-loop-op l =
    list_all (λ op. nat_lt op (length l.spec.ops)) (drop l.op-index l.ops)
    ≡ list_all (λ op. nat_lt op (length l.spec.ops)) l.ops
