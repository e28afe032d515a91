use Rattle.std.proofs.Common.{◌≡◌, min, take}
use Rattle.std.specs.Prelude.{count_by}
use Rattle.pattern_core.specs.Pattern.{same_source}
use Rattle.pattern_core.proofs.SourceLemmas.{args_in}
use Rattle.pattern_core.proofs.well_formed.times_named.Given as goal

abbrev pub invariant-loop-node : goal.invariant-loop-node
invariant-loop-node l = l.times ≡ min (count_by (same_source l.source) (args_in (take l.node-index l.node-items))) 2
