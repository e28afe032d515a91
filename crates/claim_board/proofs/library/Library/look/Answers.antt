use Rattle.std.proofs.Common.{[], ◌∙◌, ap, sym, subst, ℕ}
use mathlib.Core.List.{IsPrefix}
use Rattle.atomic_table.specs.Table.{Me}
use Rattle.claim_board.specs.declared.view.View.{View}
use Rattle.claim_board.specs.Views.{seen_by}
use Rattle.claim_board.specs.Steps.{handed_out}
use Rattle.claim_board.specs.Entries.{AreTold}
use Rattle.claim_board.proofs.LibraryLemmas.{seat-given, told-right}
use Rattle.claim_board.proofs.library.Library.look.Goals as goal

pub returns-clause-earlier : goal.returns-clause-earlier
returns-clause-earlier g c =
    let library = c.self.invariant.1 in
    let seat = seat-given c.self.inside.seat.me c.pass.inside.seat.me c.give_in.new.keeper.me
    library.ledger (seen_by c.pass.inside.seat.me.0) library.seat c.pass.invariant c.give_in.ensures.given in
    let learned = c.compare.ensures.learned _ (ap (λ m. m.0) seat) in
    let given = ap (λ (m : Me ℕ View). seen_by m.0) (c.hand_out.ensures.given
    ∙ ap (λ (m : Me ℕ View). (handed_out m.0, [])) (c.compare.ensures.same ∙ seat)) in
    subst (λ xs. IsPrefix xs (seen_by c.hand_out.result.me.0)) (ap (λ s. s.seen) c.pass.view_is)
    (subst (λ ys. IsPrefix (seen_by c.pass.inside.seat.me.0) ys) (sym given) learned.last)

pub returns-clause-told : goal.returns-clause-told
returns-clause-told g c =
    let library = c.self.invariant.1 in
    subst (λ sizes. AreTold g.L.Name.board.task.plan g.E.Entry.size (g.E.Entry.right g.L.Name.board.task) sizes)
    (sym (c.copy_from_slice.ensures.after ∙ c.as_slice.ensures.value))
    (told-right g.L.Name.board.task.plan g.E.Entry.size (g.E.Entry.right g.L.Name.board.task) library.ledger.book
    c.self.inside.entries.items c.self.inside.sizes.items library.least_sizes library.book library.are_right)
