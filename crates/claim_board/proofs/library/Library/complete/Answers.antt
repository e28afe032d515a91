use Rattle.std.proofs.Common.{◌≤◌, ◌∙◌, arith, length, ap, subst, ℕ}
use Rattle.atomic_table.specs.Table.{Me}
use Rattle.multiset_rank.specs.Claims.{claims}
use Rattle.claim_core.specs.Laws.{AreOnceBelow, numbers}
use Rattle.claim_board.specs.declared.view.View.{View}
use Rattle.claim_board.specs.Entries.{ended_in}
use Rattle.claim_board.proofs.LibraryLemmas.{numbers-told}
use Rattle.claim_board.proofs.library.Library.complete.Goals as goal

pub returns-clause-once : goal.returns-clause-once
returns-clause-once g c =
    let library = c.self.invariant.1 in
    let learned = c.compare.ensures.learned library.ledger (ap (λ m. m.0) library.seat) in
    let shown = ap (λ s. s.ended) c.self.view_is in
    let inside = ap (λ (m : Me ℕ View). ended_in m.0) library.seat in
    let all = c.requires.all in
    let ended : g.L.Name.board.task.workers ≤ library.ledger.ended = omega (arith, shown, inside, all) in
    subst (λ xs. AreOnceBelow (length (claims g.L.Name.board.task.plan)) xs)
    (ap numbers library.book ∙ numbers-told g.E.Entry.size c.self.inside.entries.items) (learned.all ended)
