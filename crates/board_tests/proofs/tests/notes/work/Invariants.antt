use Rattle.std.proofs.Common.{◌≡◌}
use Rattle.board_tests.proofs.tests.notes.work.Given as goal

abbrev pub invariant-loop : goal.invariant-loop
invariant-loop g l = l.pass.table ≡ g.L.Name.board.table
