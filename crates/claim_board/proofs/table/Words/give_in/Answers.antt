use Rattle.std.proofs.Common.{arith, ap}
use Rattle.claim_board.proofs.RuleLemmas.{gives_in}
use Rattle.claim_board.proofs.table.Words.give_in.Goals as goal

pub join_seat-requires : goal.join_seat-requires
join_seat-requires c =
    let one = c.args.self.now.one_word in (
      c.requires.table,
      c.requires.same,
      ap (λ m. m.1) c.requires.idle.1,
      omega (arith, one),
      gives_in _ _ _ _ _ _ c.requires.keeper.0 c.requires.idle.0 (ap (λ m. m.0) c.requires.keeper.1)
          (ap (λ m. m.0) c.requires.idle.1),
    )
