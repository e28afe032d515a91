use Rattle.std.proofs.Common.{◌∙◌, sym, map, inl, inr, ⊎_elim}
use Rattle.sexp_read.specs.Forest.{tree_at}
use Rattle.isel_spec.specs.Spec.{file}
use Rattle.pattern_text.specs.Rules.{open_read}
use Rattle.pattern_text.proofs.EachReadLemmas.{opens-each, item-stopped-or, item-read}
use Rattle.pattern_text.proofs.opens.opens_read.Goals as goal

pub returns-in-Err : goal.returns-in-Err
returns-in-Err c =
    let f = file c.args.spec.now in
    let tree = tree_at c.args.bytes.now c.args.forest.now.items in
    ⊎_elim (λ memory. inl memory) (λ told. inr (told ∙ sym (opens-each f (map tree c.args.items.now))))
    (item-stopped-or (open_read f) tree c.args.items.now c.loop-item.item-index c.loop-item.opens.items c.in-Err.fault
    c.loop-item-test.true c.loop-item.invariant c.in-Err.ensures)

pub loop-item-preserved : goal.loop-item-preserved
loop-item-preserved c =
    item-read (open_read (file c.args.spec.now)) (tree_at c.args.bytes.now c.args.forest.now.items) c.args.items.now
    c.loop-item.item-index c.loop-item.opens.items c.push.new.self.items c.in-Ok.multi c.loop-item-test.true
    c.loop-item.invariant c.in-Ok.ensures c.in_ok-push.ensures.items
