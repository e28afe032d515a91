use Rattle.std.proofs.Common.{◌≡◌, ◌+◌, length}
use Rattle.std.specs.Prelude.{All, vec_len}
use Rattle.std.specs.VecDeque.{deque_items}
use Rattle.claim_board.proofs.library.Library.end_all.Given as goal

abbrev pub invariant-loop-over : goal.invariant-loop-over
invariant-loop-over g l = (l.self.book ≡ l.fn.self.book)
    × (l.self.ended + length (deque_items l.over-iterator.rest) ≡ l.fn.self.ended + vec_len l.fn.overs)
    × All (λ over. over.table ≡ g.L.Name.board.table) (deque_items l.over-iterator.rest)
