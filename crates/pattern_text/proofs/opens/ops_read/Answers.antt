use Rattle.std.proofs.Common.{◌∙◌, sym, map, inr}
use Rattle.sexp_read.specs.Forest.{tree_at}
use Rattle.isel_spec.specs.Spec.{file}
use Rattle.pattern_text.specs.Rules.{op_read}
use Rattle.pattern_text.proofs.EachReadLemmas.{ops-each, item-stopped, item-read}
use Rattle.pattern_text.proofs.opens.ops_read.Goals as goal

pub returns-in-Err : goal.returns-in-Err
returns-in-Err c =
    let f = file c.args.spec.now in
    let tree = tree_at c.args.bytes.now c.args.forest.now.items in
    inr (item-stopped (op_read f) tree c.args.items.now c.loop-item.item-index c.loop-item.ops.items c.in-Err.fault
    c.loop-item-test.true c.loop-item.invariant c.in-Err.ensures ∙ sym (ops-each f (map tree c.args.items.now)))

pub loop-item-preserved : goal.loop-item-preserved
loop-item-preserved c =
    item-read (op_read (file c.args.spec.now)) (tree_at c.args.bytes.now c.args.forest.now.items) c.args.items.now
    c.loop-item.item-index c.loop-item.ops.items c.push.new.self.items c.in-Ok.op c.loop-item-test.true
    c.loop-item.invariant c.in-Ok.ensures c.in_ok-push.ensures.items
