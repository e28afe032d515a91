use Rattle.std.proofs.Common.{◌≤◌, get_or, length, subst, take_all, arith}
use Rattle.std.proofs.lemmas.Option.{slice_get-get_or}
use Rattle.cdcl_base.specs.Analysis.{IsFirstPlace}
use Rattle.cdcl_base.proofs.MarkLemmas.{number-at, first-more}
use Rattle.cdcl_base.proofs.analysis.first_place.Goals as goal

pub offset_bounds-places-marked : goal.offset_bounds-places-marked
offset_bounds-places-marked c =
    let within =
    c.requires.places (get_or c.args.marked.now c.loop-next.next 0)
    (number-at c.args.marked.now c.loop-next.next 0 c.loop-next-test.true) in
    omega (arith, within, c.type_inv.places)

pub bounds-places-marked : goal.bounds-places-marked
bounds-places-marked c =
    c.requires.places (get_or c.args.marked.now c.loop-next.next 0)
    (number-at c.args.marked.now c.loop-next.next 0 c.loop-next-test.true)

pub loop-next-preserved : goal.loop-next-preserved
loop-next-preserved c = λ end before.
    let within =
    c.requires.places (get_or c.args.marked.now c.loop-next.next 0)
    (number-at c.args.marked.now c.loop-next.next 0 c.loop-next-test.true) in
    first-more c.args.places.now c.args.from end c.args.marked.now c.loop-next.next 0 c.loop-next.first
    (get_or c.args.places.now (get_or c.args.marked.now c.loop-next.next 0) 0) c.earlier-first.result
    c.loop-next-test.true
    (slice_get-get_or c.args.places.now (get_or c.args.marked.now c.loop-next.next 0) 0 within)
    c.earlier-first.ensures.within c.earlier-first.ensures.lower c.earlier-first.ensures.found
    (c.loop-next.invariant end before)

pub returns : goal.returns
returns c = λ end before.
    let over : length c.args.marked.now ≤ c.loop-next.next = omega arith in
    subst (λ xs. IsFirstPlace c.args.places.now c.args.from end xs c.loop-next.first)
    (take_all c.loop-next.next c.args.marked.now over) (c.loop-next.invariant end before)
