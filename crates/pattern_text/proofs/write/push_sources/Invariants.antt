use Rattle.std.proofs.Common.{◌≡◌, ◌++◌, map, take}
use Rattle.std.specs.String.{string_bytes}
use Rattle.pattern_text.specs.Text.{joined, source_text}
use Rattle.pattern_text.proofs.write.push_sources.Given as goal

abbrev pub invariant-loop-place : goal.invariant-loop-place
invariant-loop-place l = string_bytes l.out ≡ string_bytes l.fn.out ++ joined (map source_text (take l.place l.sources))
