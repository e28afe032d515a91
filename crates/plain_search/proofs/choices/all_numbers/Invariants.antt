use Rattle.std.proofs.Common.{◌≡◌, map, take}
use Rattle.plain_search.specs.Patterns.{numbers}
use Rattle.plain_search.proofs.choices.all_numbers.Given as goal

abbrev pub invariant-loop-width : goal.invariant-loop-width
invariant-loop-width l = l.found.items ≡ map numbers (take l.width-index l.widths)
