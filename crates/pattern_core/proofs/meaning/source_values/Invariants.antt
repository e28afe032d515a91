use Rattle.std.proofs.Common.{◌≡◌, map, take}
use Rattle.pattern_core.specs.Rule.{source_value}
use Rattle.pattern_core.proofs.meaning.source_values.Given as goal

abbrev pub invariant-loop-source : goal.invariant-loop-source
invariant-loop-source l = l.values.items ≡ map (source_value l.inputs l.outs) (take l.source-index l.sources)
