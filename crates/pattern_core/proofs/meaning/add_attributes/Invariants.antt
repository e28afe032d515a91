use Rattle.std.proofs.Common.{◌≡◌, ◌++◌, drop}
use Rattle.pattern_core.specs.Rule.{attr_values}
use Rattle.pattern_core.proofs.meaning.add_attributes.Given as goal

abbrev pub invariant-loop-place : goal.invariant-loop-place
invariant-loop-place l =
    l.values.items ++ attr_values (drop l.place l.widths) (drop l.place l.numbers) ≡ l.initial.values.items
    ++ attr_values l.widths l.numbers
