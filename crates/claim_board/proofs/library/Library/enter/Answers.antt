use Rattle.std.proofs.Common.{◌≡◌, ◌≤◌, ◌<◌, ◌++◌, ◌∷◌, [], ◌∙◌, arith, length, ap, sym, subst, ℕ, Some, slice_get, set}
use Rattle.claim_core.proofs.SizeLemmas.{read-at}
use Rattle.claim_board.specs.Entries.{AreLeast}
use Rattle.std.specs.Prelude.{Option}
use mathlib.Core.List.{IsPrefix}
use Rattle.atomic_table.specs.Table.{Me}
use Rattle.multiset_rank.specs.Claims.{claims}
use Rattle.claim_board.specs.declared.view.View.{View}
use Rattle.claim_board.specs.Names.{BoardName}
use Rattle.claim_board.specs.Views.{seen_by}
use Rattle.claim_board.specs.Steps.{after_hand_out, handed_out}
use Rattle.claim_board.proofs.LibraryLemmas.{entered, less_one, seat-entered, last-below, room-left, told-longer}
use Rattle.claim_board.proofs.LibraryLemmas.{right-longer, least-longer}
use Rattle.claim_board.proofs.library.Library.enter.Goals as goal

pub claim-goal-requires : goal.claim-goal-requires
claim-goal-requires g c =
    let library = c.self.invariant.1 in
    let seat = seat-entered c.least-size.result c.self.inside.seat.me c.claim.inside.seat.me c.enter.new.keeper.me
    library.ledger c.claim.inside.number (seen_by c.claim.inside.seat.me.0) library.seat c.claim.invariant
    c.enter.ensures.entered in
    let learned = c.compare.ensures.learned _ (ap (λ m. m.0) seat) in
    let plan = c.plan.ensures ∙ ap (λ (b : BoardName). b.task.plan) c.requires.words in
    record {
      number = subst (λ p. c.claim.inside.number < length (claims p)) (sym plan)
          (last-below _ library.ledger.book c.claim.inside.number c.least-size.result learned.below);
    }

pub push_reserved-requires : goal.push_reserved-requires
push_reserved-requires g c =
    let library = c.self.invariant.1 in
    let seat = seat-entered c.least-size.result c.self.inside.seat.me c.claim.inside.seat.me c.enter.new.keeper.me
    library.ledger c.claim.inside.number (seen_by c.claim.inside.seat.me.0) library.seat c.claim.invariant
    c.enter.ensures.entered in
    let learned = c.compare.ensures.learned _ (ap (λ m. m.0) seat) in
    let left = room-left _ g.E.Entry.size library.ledger.book c.claim.inside.number c.least-size.result
    c.self.inside.entries.items learned.room library.book in
    let size = c.self.inside.entries.ok.0 in
    let wide = c.self.invariant.2 in
    omega (arith, left, size, wide)

pub invariant_of-self : goal.invariant_of-self
invariant_of-self g c =
    let library = c.self.invariant.1 in
    let number = c.claim.inside.number in
    let seat = seat-entered c.least-size.result c.self.inside.seat.me c.claim.inside.seat.me c.enter.new.keeper.me
    library.ledger number (seen_by c.claim.inside.seat.me.0) library.seat c.claim.invariant c.enter.ensures.entered in
    let plan = c.plan.ensures ∙ ap (λ (b : BoardName). b.task.plan) c.requires.words in
    let goals = subst (λ p. c.claim-goal.result.0 < p.goals) plan c.claim-goal.ensures.in_plan.goal_below in
    let places = library.least_sizes.places in
    let there : c.claim-goal.result.0 < length c.self.inside.sizes.items = omega (arith, goals, places) in (
      c.hand_out.ensures.table.0 ∙ c.compare.ensures.table ∙ c.enter.ensures.table ∙ c.self.invariant.0,
      record {
        ledger = less_one (entered c.least-size.result library.ledger number (seen_by c.claim.inside.seat.me.0));
        seat = c.hand_out.ensures.keeper ∙ ap (λ (m : Me ℕ View). (after_hand_out m.0, []))
            (c.compare.ensures.same ∙ seat);
        book = told-longer g.E.Entry.size library.ledger.book c.self.inside.entries.items c.push_reserved.new.self.items
            number c.args.entry c.least-size.result library.book c.least-size.ensures c.push_reserved.ensures.items;
        are_right = right-longer (g.E.Entry.right g.L.Name.board.task) c.self.inside.entries.items
            c.push_reserved.new.self.items number c.args.entry library.are_right
            (subst (λ (n : ℕ). g.E.Entry.right g.L.Name.board.task n c.args.entry) (sym (ap (λ s. s.number)
            c.claim.view_is))
            c.requires.right) c.push_reserved.ensures.items;
        least_sizes = subst (λ (least : Option ℕ). AreLeast g.L.Name.board.task.plan
            (library.ledger.book ++ (number, c.least-size.result) ∷ [])
            (set c.self.inside.sizes.items c.claim-goal.result.0 least)) (sym c.lesser.ensures)
            (least-longer g.L.Name.board.task.plan library.ledger.book c.self.inside.sizes.items c.claim-goal.result.0
            number
            c.claim-goal.result.1 c.index.result.now c.least-size.result library.least_sizes
            (subst (λ p. slice_get (claims p) number ≡ Some c.claim-goal.result) plan c.claim-goal.ensures.place.there)
            (read-at c.self.inside.sizes.items c.claim-goal.result.0 c.index.result.now there c.index.ensures));
      },
      subst (λ n. length (claims g.L.Name.board.task.plan) ≤ n) (sym c.push_reserved.ensures.capacity)
          c.self.invariant.2,
    )

pub returns-clause-earlier : goal.returns-clause-earlier
returns-clause-earlier g c =
    let library = c.self.invariant.1 in
    let seat = seat-entered c.least-size.result c.self.inside.seat.me c.claim.inside.seat.me c.enter.new.keeper.me
    library.ledger c.claim.inside.number (seen_by c.claim.inside.seat.me.0) library.seat c.claim.invariant
    c.enter.ensures.entered in
    let learned = c.compare.ensures.learned _ (ap (λ m. m.0) seat) in
    let given = ap (λ (m : Me ℕ View). seen_by m.0) (c.hand_out.ensures.given
    ∙ ap (λ (m : Me ℕ View). (handed_out m.0, [])) (c.compare.ensures.same ∙ seat)) in
    subst (λ xs. IsPrefix xs (seen_by c.hand_out.result.me.0)) (ap (λ s. s.seen) c.claim.view_is)
    (subst (λ ys. IsPrefix (seen_by c.claim.inside.seat.me.0) ys) (sym given) learned.last)
