use Rattle.std.proofs.Common.{◌≤◌, ◌++◌, length, sym, ap, ◌∙◌, subst, arith}
use Rattle.std.proofs.lemmas.Result.{on_ok_weaker}
use Rattle.isel_spec.proofs.SpecLemmas.{IsSoundOp_at, IsSoundResult-op}
use Rattle.pattern_core.specs.declared.pattern.Src.TheVariants.{Out}
use Rattle.plain_search.proofs.SourceLemmas.{no_results, results_are}
use Rattle.plain_search.proofs.sources.add_node.Goals as goal

pub returns-then-op-len : goal.returns-then-op-len
returns-then-op-len c =
    let past : length c.args.spec.now.ops ≤ c.args.op =
    omega (arith, c.from-op.ensures, c.len.ensures, c.if-op-len.true) in
    no_results (λ r. Out c.args.node r) c.args.spec.now c.args.wanted c.args.op c.args.found.now.items past

pub add_results-requires-clause-few : goal.add_results-requires-clause-few
add_results-requires-clause-few c =
    let sound = IsSoundOp_at c.args.spec.now c.from-op.result _ c.op.ensures.1 in
    subst (λ xs. length xs ≤ 3) (sym c.as_slice-results.ensures) sound.most

pub add_results-requires-clause-there : goal.add_results-requires-clause-there
add_results-requires-clause-there c = λ k d l.
    let sound =
    IsSoundResult-op c.args.spec.now c.from-op.result c.op.ensures.0 c.op.result.now c.as_slice-results.result.now k d
    c.op.ensures.1 c.as_slice-results.ensures l in
    sound.there

pub returns : goal.returns
returns c =
    on_ok_weaker c.add_results.result (λ added. added ∙ ap (λ xs. c.args.found.now.items ++ xs)
    (results_are (λ r. Out c.args.node r) c.args.spec.now c.args.wanted c.args.op c.from-op.result c.op.ensures.0
    c.op.result.now c.as_slice-results.result.now c.from-op.ensures c.op.ensures.1 c.as_slice-results.ensures))
    c.add_results.ensures
