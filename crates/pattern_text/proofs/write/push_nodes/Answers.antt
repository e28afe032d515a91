use Rattle.std.proofs.Common.{arith, ap, ◌∙◌, ◌++◌}
use Rattle.std.specs.String.{string_bytes}
use Rattle.isel_spec.specs.Spec.{file}
use Rattle.pattern_text.specs.Text.{node_text}
use Rattle.pattern_text.proofs.Joined.{appended_more}
use Rattle.pattern_text.proofs.write.push_nodes.Goals as goal

pub loop-place-preserved : goal.loop-place-preserved
loop-place-preserved c =
    let text = node_text (file c.args.spec.now) in
    appended_more text c.args.nodes.now c.loop-place.place c.index-nodes-place.result _ _ _ _
    (omega arith) c.loop-place.invariant c.in_ok-push_gap.ensures
    (c.in_ok-push_node.ensures ∙ ap (λ n. string_bytes c.push_gap.new.out ++ text n) c.index-nodes-place.is)
