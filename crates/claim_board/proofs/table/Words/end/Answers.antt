use Rattle.std.proofs.Common.{arith, ap}
use Rattle.claim_board.proofs.RuleLemmas.{ends}
use Rattle.claim_board.proofs.table.Words.end.Goals as goal

pub join_seat-requires : goal.join_seat-requires
join_seat-requires c =
    let one = c.args.self.now.one_word in (
      c.requires.table,
      c.requires.same,
      ap (λ m. m.1) c.requires.over.2,
      omega (arith, one),
      ends _ _ _ _ _ _ c.requires.keeper.0 c.requires.over.0 c.requires.over.1 (ap (λ m. m.0) c.requires.keeper.1)
          (ap (λ m. m.0) c.requires.over.2),
    )
