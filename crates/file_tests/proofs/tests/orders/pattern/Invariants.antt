use Rattle.std.proofs.Common.{◌≡◌, length}
use Rattle.file_tests.proofs.tests.orders.pattern.Given as goal

abbrev pub invariant-loop-op : goal.invariant-loop-op
invariant-loop-op l = length l.nodes ≡ l.op-index
