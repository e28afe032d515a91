use Rattle.std.proofs.Common.{◌≡◌, [], get_or, Some, arith, slice_get}
use Rattle.pattern_core.specs.declared.pattern.Node.{Node}
use Rattle.std.proofs.lemmas.Option.{slice_get-get_or, slice_get_within}
use Rattle.pattern_core.proofs.well_formed.are_fitting.Goals as goal
use Rattle.list_lemmas.proofs.Bools.{no_answer, not_by_test as never, yes_answer}

pub returns-then-not-is_fitting : goal.returns-then-not-is_fitting
returns-then-not-is_fitting c = λ g h.
    let nodes = c.args.nodes.now in
    let n : Node = get_or nodes c.loop-place.place (record { op = 0; attrs = []; args = [] }) in
    let at : slice_get nodes c.loop-place.place ≡ Some n =
    slice_get-get_or nodes c.loop-place.place (record { op = 0; attrs = []; args = [] }) c.loop-place-test.true in
    no_answer (λ all. never c.is_fitting.result c.if-not-is_fitting.true (c.is_fitting.ensures g h n at)
    (all c.loop-place.place n at))

pub returns : goal.returns
returns c =
    λ g h. yes_answer (λ k n at. let l = slice_get_within c.args.nodes.now k n at in
    c.loop-place.invariant g h k n (omega arith) at)
