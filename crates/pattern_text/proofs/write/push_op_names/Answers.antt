use Rattle.std.proofs.Common.{arith, slice_get}
use Rattle.isel_spec.specs.Spec.{file}
use Rattle.pattern_text.specs.Text.{op_name}
use Rattle.pattern_text.proofs.Joined.{appended_more}
use Rattle.pattern_text.proofs.write.push_op_names.Goals as goal

pub loop-place-preserved : goal.loop-place-preserved
loop-place-preserved c =
    appended_more (λ op. op_name (slice_get (file c.args.spec.now).ops op)) _ _ _ _ _ _ _
    (omega arith) c.loop-place.invariant c.in_ok-push_gap.ensures c.in_ok-push_op_name.ensures
