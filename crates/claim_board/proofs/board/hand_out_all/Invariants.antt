use Rattle.std.proofs.Common.{◌≡◌, ◌≤◌, ◌-◌, [], replicate}
use Rattle.std.specs.Prelude.{vec_capacity}
use Rattle.claim_board.specs.declared.view.View.TheVariants.{Book}
use Rattle.claim_board.specs.Steps.{empty_ledger}
use Rattle.claim_board.specs.Words.{named}
use Rattle.claim_board.proofs.board.hand_out_all.Given as goal

abbrev pub invariant-loop : goal.invariant-loop
invariant-loop l = (l.keeper.table_id ≡ (named l.words).table)
    × (l.keeper.me ≡ (Book (empty_ledger (l.workers - l.counter)), []))
    × (l.passes.items ≡ replicate l.counter (record { table = (named l.words).table; seen = [] }))
    × (l.workers ≤ vec_capacity l.passes)
