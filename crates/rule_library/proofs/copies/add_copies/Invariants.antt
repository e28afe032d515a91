use Rattle.std.proofs.Common.{◌≡◌, ◌++◌, take}
use Rattle.rule_library.proofs.copies.add_copies.Given as goal

abbrev pub invariant-loop-pattern : goal.invariant-loop-pattern
invariant-loop-pattern l = l.rules.items ≡ l.initial.rules.items ++ take l.pattern-index l.found
