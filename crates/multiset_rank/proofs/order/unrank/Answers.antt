use Rattle.std.proofs.Common.{◌≡◌, arith, sym, ◌∙◌, ap, Some, take, slice_get}
use Rattle.multiset_rank.specs.Multisets.{multisets}
use Rattle.multiset_rank.proofs.TupleLemmas.{stands_once, multiset_at}
use Rattle.multiset_rank.proofs.PlaceLemmas.{unranked_start, unranked_next, unranked_all, unranked_rises}
use Rattle.multiset_rank.proofs.order.unrank.Goals as goal

pub loop-place-init : goal.loop-place-init
loop-place-init c = unranked_start c.args.kinds c.args.size c.args.number c.requires.number

pub loop-place-preserved : goal.loop-place-preserved
loop-place-preserved c =
    let first = c.first_number-first.result.0 in
    let inner = c.first_number-first.result.1 in
    rw c.from.ensures
    (unranked_next c.args.kinds c.args.size c.args.number c.loop-place.place c.loop-place.from c.loop-place.inner first
    inner c.loop-place.places
    c.loop-place.invariant c.loop-place-test.true c.requires.size c.first_number-first.ensures.rest
    c.first_number-first.ensures.place)

pub of_places-requires-clause-order : goal.of_places-requires-clause-order
of_places-requires-clause-order c =
    unranked_rises c.args.kinds c.args.size c.args.number (take c.args.size c.loop-place.places)
    (unranked_all c.args.kinds c.args.size c.args.number c.loop-place.place c.loop-place.from c.loop-place.inner
    c.loop-place.places c.loop-place.invariant (omega arith))

there : (c : goal.After-of_places) → slice_get (multisets c.args.kinds c.args.size) c.args.number
    ≡ Some c.of_places.result
there c =
    unranked_all c.args.kinds c.args.size c.args.number c.loop-place.place c.loop-place.from c.loop-place.inner
    c.loop-place.places c.loop-place.invariant (omega arith)
    ∙ ap Some (sym c.of_places.ensures)

pub returns-clause-place : goal.returns-clause-place
returns-clause-place c = stands_once c.args.kinds c.args.size c.args.number c.of_places.result (there c)

pub returns-clause-size : goal.returns-clause-size
returns-clause-size c = (multiset_at c.args.kinds c.args.size c.args.number c.of_places.result (there c)).0

pub returns-clause-below : goal.returns-clause-below
returns-clause-below c = (multiset_at c.args.kinds c.args.size c.args.number c.of_places.result (there c)).1
