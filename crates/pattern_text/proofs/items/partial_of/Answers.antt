use Rattle.sexp_read.specs.Forest.{tree_at}
use Rattle.pattern_text.proofs.PartialLemmas.{partial-yes, partial-no}
use Rattle.pattern_text.proofs.items.partial_of.Goals as goal

pub returns-then-are_opens-clause-value : goal.returns-then-are_opens-clause-value
returns-then-are_opens-clause-value c =
    let tree = tree_at c.args.bytes.now c.args.forest.now.items in
    partial-yes tree (tree c.args.name) c.args.size c.args.rest.now c.after-opens.result.now
    c.rule_count-count.result c.are_opens.result c.rule_count-count.ensures.value c.after-opens.ensures
    c.are_opens.ensures c.if-are_opens.true

pub returns-else-are_opens-clause-value : goal.returns-else-are_opens-clause-value
returns-else-are_opens-clause-value c =
    let tree = tree_at c.args.bytes.now c.args.forest.now.items in
    partial-no tree (tree c.args.name) c.args.size c.args.rest.now c.after-opens.result.now
    c.rule_count-count.result c.are_opens.result c.rule_count-count.ensures.value c.after-opens.ensures
    c.are_opens.ensures c.if-are_opens.false
