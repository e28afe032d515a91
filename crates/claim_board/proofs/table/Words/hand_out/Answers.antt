use Rattle.std.proofs.Common.{arith, ap}
use Rattle.claim_board.proofs.RuleLemmas.{hands_out}
use Rattle.claim_board.proofs.table.Words.hand_out.Goals as goal

pub split_seat-requires : goal.split_seat-requires
split_seat-requires c =
    let one = c.args.self.now.one_word in (
      c.requires.table,
      omega (arith, one),
      hands_out _ _ _ _ c.requires.free.0 (ap (λ m. m.0) c.requires.free.1) c.requires.free.2,
    )
