use Rattle.std.proofs.Common.{◌≡◌, drop}
use Rattle.plain_search.specs.Patterns.{choices}
use Rattle.plain_search.proofs.choices.choices_of.Given as goal

abbrev pub invariant-loop-place : goal.invariant-loop-place
invariant-loop-place g l = l.found.items ≡ choices (drop l.place l.lists)
