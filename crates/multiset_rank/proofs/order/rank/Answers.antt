use Rattle.std.proofs.Common.{◌≡◌, ◌+◌, ◌-◌, ◌≤◌, arith, subst, sym, Some, List, ℕ, length, slice_get}
use Rattle.std.specs.Prelude.{IsTrue}
use Rattle.std.proofs.lemmas.Option.{slice_get_within}
use Rattle.multiset_rank.specs.Multisets.{multisets, never_falls, AreBelow}
use Rattle.multiset_rank.specs.Rising.{multichoose}
use Rattle.multiset_rank.proofs.TupleLemmas.{stands_once}
use Rattle.multiset_rank.proofs.PlaceLemmas.{IsRanked, ranked_start, ranked_from, ranked_next, ranked_all, ranked_fits}
use Rattle.multiset_rank.proofs.order.rank.Goals as goal

pub loop-place-init : goal.loop-place-init
loop-place-init c =
    let same : c.args.multi.now ≡ c.ops-ops.result.now = sym c.ops-ops.ensures.numbers in
    ranked_start c.args.kinds c.ops-ops.result.now
    (subst (λ xs. IsTrue (never_falls xs)) same c.ops-ops.ensures.multi.1)
    (subst (λ xs. AreBelow c.args.kinds xs) same c.requires.below)

pub skipped-number-requires-clause-from : goal.skipped-number-requires-clause-from
skipped-number-requires-clause-from c =
    rw c.from-op.ensures (ranked_from c.args.kinds c.loop-place.number c.loop-place.place c.loop-place.from 0
    c.ops-ops.result.now c.loop-place.invariant c.loop-place-test.true).0

pub overflow_add-number : goal.overflow_add-number
overflow_add-number c =
    let most : length c.ops-ops.result.now ≤ 6 =
    subst (λ (xs : List ℕ). length xs ≤ 6) (sym c.ops-ops.ensures.numbers) c.ops-ops.ensures.multi.0 in
    let fits = ranked_fits c.args.kinds c.loop-place.number c.loop-place.place c.loop-place.from c.skipped-number.result
    (multichoose (c.args.kinds - c.from-op.result) (length c.ops-ops.result.now - c.loop-place.place))
    c.ops-ops.result.now
    c.loop-place.invariant c.requires.most most c.skipped-number.ensures in
    omega (arith, fits)

pub loop-place-preserved : goal.loop-place-preserved
loop-place-preserved c =
    let e = c.from-op.ensures in
    let ops = c.ops-ops.result.now in
    let skip = subst (λ x. c.skipped-number.result + multichoose (c.args.kinds - x) (length ops - c.loop-place.place)
    ≡ multichoose (c.args.kinds - c.loop-place.from) (length ops - c.loop-place.place)) e c.skipped-number.ensures
    in
    subst (λ x. IsRanked c.args.kinds (c.loop-place.number + c.skipped-number.result) (c.loop-place.place + 1) x ops)
    (sym e)
    (ranked_next c.args.kinds c.loop-place.number c.loop-place.place c.loop-place.from 0 c.skipped-number.result ops
    c.loop-place.invariant c.loop-place-test.true skip)

there : (c : goal.After-loop-place) → slice_get (multisets c.args.kinds (length c.args.multi.now)) c.loop-place.number
    ≡ Some c.args.multi.now
there c =
    subst (λ (xs : List ℕ). slice_get (multisets c.args.kinds (length xs)) c.loop-place.number
    ≡ Some xs) c.ops-ops.ensures.numbers
    (ranked_all c.args.kinds c.loop-place.number c.loop-place.place c.loop-place.from c.ops-ops.result.now
    c.loop-place.invariant (omega arith))

pub returns-clause-place : goal.returns-clause-place
returns-clause-place c =
    stands_once c.args.kinds (length c.args.multi.now) c.loop-place.number c.args.multi.now (there c)

pub returns-clause-within : goal.returns-clause-within
returns-clause-within c =
    slice_get_within (multisets c.args.kinds (length c.args.multi.now)) c.loop-place.number c.args.multi.now (there c)
