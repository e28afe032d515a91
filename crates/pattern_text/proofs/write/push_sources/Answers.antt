use Rattle.std.proofs.Common.{arith}
use Rattle.pattern_text.specs.Text.{source_text}
use Rattle.pattern_text.proofs.Joined.{appended_more}
use Rattle.pattern_text.proofs.write.push_sources.Goals as goal

pub loop-place-preserved : goal.loop-place-preserved
loop-place-preserved c =
    appended_more source_text _ _ _ _ _ _ _
    (omega arith) c.loop-place.invariant c.in_ok-push_gap.ensures c.in_ok-push_source.ensures
