use Rattle.std.proofs.Common.{◌+◌, drop, sym, ap, ◌∙◌}
use Rattle.std.proofs.lemmas.List.{drop_more}
use Rattle.bv_terms.specs.Subterm.{keys_with}
use Rattle.bit_blast.proofs.nodes.put_all.Goals as goal

pub loop-node-preserved : goal.loop-node-preserved
loop-node-preserved c =
    let i = c.loop-node.node-index in
    let nodes = c.args.nodes.now in
    ap (λ keys. keys_with keys (drop (i + 1) nodes)) c.in_ok-insert.ensures.keys
    ∙ sym (ap (keys_with c.loop-node.set.keys) (drop_more nodes i _ c.loop-node-test.true)) ∙ c.loop-node.invariant
