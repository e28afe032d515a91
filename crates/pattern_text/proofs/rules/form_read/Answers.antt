use Rattle.std.proofs.Common.{◌∙◌, sym, map, inr}
use Rattle.sexp_read.specs.Forest.{tree_at}
use Rattle.isel_spec.specs.Spec.{file}
use Rattle.pattern_text.specs.Form.{rule_in}
use Rattle.pattern_text.proofs.PatternLemmas.{rule-ok, rule-err}
use Rattle.pattern_text.proofs.rules.form_read.Goals as goal

pub returns-in-Some-nodes_fault : goal.returns-in-Some-nodes_fault
returns-in-Some-nodes_fault c =
    let tree = tree_at c.args.bytes.now c.args.forest.now.items in
    inr (rule-err (file c.args.spec.now) (tree c.args.item) (rule_in (tree c.args.item)) (map tree c.in-Some.nodes.now)
    (map tree c.in-Some.results.now) c.in-Some-nodes_fault.fault c.in-Some.ensures.value
    (sym c.nodes_fault.ensures ∙ c.in-Some-nodes_fault.is))

pub returns : goal.returns
returns c =
    let tree = tree_at c.args.bytes.now c.args.forest.now.items in
    rule-ok (file c.args.spec.now) (tree c.args.item) (rule_in (tree c.args.item)) (map tree c.in-Some.nodes.now)
    (map tree c.in-Some.results.now) c.in-Some.ensures.value
    (sym c.nodes_fault.ensures ∙ c.in_default-nodes_fault.is) c.in_ok-found.found c.in_ok-found.ensures
