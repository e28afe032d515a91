use Rattle.std.proofs.Common.{◌≡◌, length}
use Rattle.board_tests.proofs.tests.machine.published.Given as goal

abbrev pub invariant-loop-turn : goal.invariant-loop-turn
invariant-loop-turn l = length l.core.state.held ≡ 1
