use Rattle.std.proofs.Common.{◌≡◌, map, take}
use Rattle.pattern_core.specs.Renaming.{renamed_source, place_of}
use Rattle.pattern_core.proofs.renaming.renamed_sources.Given as goal

abbrev pub invariant-loop-source : goal.invariant-loop-source
invariant-loop-source l = l.renamed.items ≡ map (renamed_source (place_of l.order)) (take l.source-index l.sources)
