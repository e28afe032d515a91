use Rattle.std.proofs.Common.{◌≡◌, ◌+◌, min, take}
use Rattle.std.specs.Prelude.{count_by}
use Rattle.pattern_core.specs.Pattern.{same_source}
use Rattle.pattern_core.proofs.well_formed.times_among.Given as goal

abbrev pub invariant-loop-other : goal.invariant-loop-other
invariant-loop-other l = l.times ≡ min (l.before + count_by (same_source l.source) (take l.other-index l.sources)) 2
