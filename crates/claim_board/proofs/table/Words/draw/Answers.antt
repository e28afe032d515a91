use Rattle.std.proofs.Common.{◌≡◌, ◌+◌, ◌%◌, ◌^◌, arith, length, sym, ap, ◌∙◌, subst}
use Rattle.multiset_rank.specs.Claims.{claims}
use Rattle.atomic_table.specs.Table.{Allows}
use Rattle.claim_board.specs.Rule.{IsKept}
use Rattle.claim_board.specs.Steps.{after_draw}
use Rattle.claim_board.specs.Names.{BoardName}
use Rattle.claim_board.proofs.RuleLemmas.{draws}
use Rattle.claim_board.proofs.table.Words.draw.Goals as goal

pub fetch_add-requires : goal.fetch_add-requires
fetch_add-requires g c =
    let one = c.args.self.now.one_word in
    let same : length (claims c.args.self.now.table.shared.key.plan) ≡ length (claims g.L.Name.board.task.plan) =
    ap (λ (b : BoardName). length (claims b.task.plan)) c.requires.name in (
      c.requires.table ∙ sym (ap (λ (b : BoardName). b.table) c.requires.name),
      omega (arith, one),
      subst (λ n. Allows (IsKept (length (claims c.args.self.now.table.shared.key.plan))
          c.args.self.now.table.shared.key.workers) c.args.self.now.table.shared.table_id.slots c.args.seat.now.id
          c.args.seat.now.me 0 (λ r. (r + 1) % 2 ^ 64)
          (λ read after. after ≡ (after_draw n read c.args.seat.now.me.0, c.args.seat.now.me.1))) same
          (draws (length (claims c.args.self.now.table.shared.key.plan)) _ _ _ c.args.seat.now.me c.requires.idle.0
          c.requires.idle.1),
    )
