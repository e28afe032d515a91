use Rattle.std.proofs.Common.{◌∙◌, List, length, sym, ap, subst, slice_get, arith}
use Rattle.std.proofs.lemmas.Result.{IfOk-weaker}
use Rattle.isel_spec.specs.Spec.{file}
use Rattle.pattern_core.specs.declared.pattern.Node.{Node}
use Rattle.loc_encode.specs.Matching.{AreResultSlots}
use Rattle.loc_encode.proofs.PatternLemmas.{node-slots, result-slots}
use Rattle.loc_encode.proofs.ConditionLemmas.{truth-first, true-first}
use Rattle.loc_encode.proofs.DifferenceLemmas.{within, limits-by_pattern, difference-is}
use Rattle.loc_encode.proofs.difference.difference.Goals as goal

pub and_nodes-requires-clause-few : goal.and_nodes-requires-clause-few
and_nodes-requires-clause-few c =
    let w =
    within c.args.spec.now c.args.goal c.args.multi.now c.args.pattern.now c.len.ensures.table c.requires.given
    c.requires.pattern in
    let size = w.size in
    omega (arith, ap length c.as_slice.ensures, size)

pub and_nodes-requires-clause-sized : goal.and_nodes-requires-clause-sized
and_nodes-requires-clause-sized c = λ k n e.
    let w =
    within c.args.spec.now c.args.goal c.args.multi.now c.args.pattern.now c.len.ensures.table c.requires.given
    c.requires.pattern in
    w.nodes k n (ap (λ (xs : List Node). slice_get xs k) (sym c.as_slice.ensures) ∙ e)

pub and_results-requires-clause-few : goal.and_results-requires-clause-few
and_results-requires-clause-few c =
    let w =
    within c.args.spec.now c.args.goal c.args.multi.now c.args.pattern.now c.len.ensures.table c.requires.given
    c.requires.pattern in
    let few = w.results in
    omega (arith, ap length c.as_slice-2.ensures, few)

pub returns-clause-difference : goal.returns-clause-difference
returns-clause-difference c = λ claim is.
    let p = c.args.pattern.now in
    let pattern = c.requires.pattern claim is in
    let limits =
    limits-by_pattern c.args.spec.now c.args.goal c.args.multi.now claim p c.len.ensures.table is pattern in
    let results : AreResultSlots claim c.as_slice-2.result.now =
    subst (AreResultSlots claim) (sym c.as_slice-2.ensures) (result-slots claim limits p pattern) in
    IfOk-weaker c.made-2.result _ _
    (λ at made. difference-is claim (file c.args.spec.now) p c.as_slice.result.now c.as_slice-2.result.now limits
    is.of_file c.as_slice.ensures c.as_slice-2.ensures pattern c.made.new.terms c.and_nodes.new.terms
    c.and_results.new.terms c.made-2.new.terms c.in_ok-always.always c.in_ok-nodes.nodes c.in_ok-same.same at
    (truth-first claim c.args.terms.now c.made.new.terms c.in_ok-always.always c.in_ok-always.ensures.made)
    (true-first c.args.terms.now c.made.new.terms c.in_ok-always.always c.in_ok-always.ensures.made)
    (c.in_ok-nodes.ensures.both claim is.of_file (λ k n e.
    node-slots claim p pattern k n (ap (λ (xs : List Node). slice_get xs k) (sym c.as_slice.ensures) ∙ e)))
    (c.in_ok-same.ensures.both claim results) made)
    c.made-2.ensures.made
