use Rattle.std.proofs.Common.{arith, length, sym, ap, ◌∙◌, subst}
use Rattle.multiset_rank.specs.Claims.{claims}
use Rattle.atomic_table.specs.Table.{Allows}
use Rattle.claim_board.specs.Rule.{IsKept}
use Rattle.claim_board.specs.Steps.{Compares}
use Rattle.claim_board.specs.Names.{BoardName}
use Rattle.claim_board.proofs.RuleLemmas.{compares}
use Rattle.claim_board.proofs.table.Words.compare.Goals as goal

pub load-requires : goal.load-requires
load-requires g c =
    let one = c.args.self.now.one_word in (
      c.requires.table ∙ sym (ap (λ (b : BoardName). b.table) c.requires.name),
      omega (arith, one),
      subst (λ (b : BoardName). Allows (IsKept (length (claims c.args.self.now.table.shared.key.plan))
          c.args.self.now.table.shared.key.workers) c.args.self.now.table.shared.table_id.slots c.args.keeper.now.id
          c.args.keeper.now.me 0 (λ r. r)
          (λ read after. Compares (length (claims b.task.plan)) b.task.workers c.args.keeper.now.me after))
          c.requires.name
          (compares (length (claims c.args.self.now.table.shared.key.plan)) c.args.self.now.table.shared.key.workers _ _
          c.args.keeper.now.me c.requires.keeper.0 c.requires.keeper.1),
    )
