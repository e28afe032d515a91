use Rattle.pattern_core.specs.Pattern.{same_source}
use Rattle.pattern_core.specs.declared.pattern.Src.TheVariants.{Input}
use Rattle.pattern_core.proofs.SourceLemmas.{count_more}
use Rattle.pattern_core.proofs.well_formed.times_among.Goals as goal

pub loop-other-preserved : goal.loop-other-preserved
loop-other-preserved c =
    count_more (same_source c.args.source) c.args.sources.now c.loop-other.other-index (Input 0) c.args.before
    c.loop-other.times c.one_more-times.result c.is_same.result c.loop-other-test.true c.is_same.ensures
    c.loop-other.invariant c.one_more-times.ensures
