use Rattle.std.proofs.Common.{map}
use Rattle.sexp_read.specs.Forest.{tree_at}
use Rattle.pattern_text.proofs.PartsLemmas.{rule-parts, rule-none}
use Rattle.pattern_text.proofs.form.parts_of.Goals as goal

pub returns-then-are_formed-clause-value : goal.returns-then-are_formed-clause-value
returns-then-are_formed-clause-value c =
    let tree = tree_at c.args.bytes.now c.args.forest.now.items in
    rule-parts (tree c.args.nodes) (tree c.args.results) (map tree c.in_ok-nodes.nodes.now)
    (map tree c.in_ok-results.results.now) c.are_formed.result c.in_ok-nodes.ensures.trees
    c.in_ok-results.ensures.trees c.are_formed.ensures c.if-are_formed.true

pub returns-else-are_formed-clause-value : goal.returns-else-are_formed-clause-value
returns-else-are_formed-clause-value c =
    let tree = tree_at c.args.bytes.now c.args.forest.now.items in
    rule-none (tree c.args.nodes) (tree c.args.results) (map tree c.in_ok-nodes.nodes.now)
    (map tree c.in_ok-results.results.now) c.are_formed.result c.in_ok-nodes.ensures.trees
    c.in_ok-results.ensures.trees c.are_formed.ensures c.if-are_formed.false
