use Rattle.std.proofs.Common.{arith, ap}
use Rattle.claim_board.proofs.RuleLemmas.{enters}
use Rattle.claim_board.proofs.table.Words.enter.Goals as goal

pub join_seat-requires : goal.join_seat-requires
join_seat-requires g c =
    let one = c.args.self.now.one_word in (
      c.requires.table,
      c.requires.same,
      ap (λ m. m.1) c.requires.claim.2,
      omega (arith, one),
      enters _ _ _ _ g.T.Telling.size _ _ c.requires.keeper.0 c.requires.claim.0 c.requires.claim.1 (ap (λ m. m.0)
          c.requires.keeper.1)
          (ap (λ m. m.0) c.requires.claim.2),
    )
