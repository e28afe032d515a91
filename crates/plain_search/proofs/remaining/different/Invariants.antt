use Rattle.std.proofs.Common.{◌≡◌, ◌++◌, drop}
use Rattle.plain_search.specs.Patterns.{different}
use Rattle.plain_search.proofs.remaining.different.Given as goal

abbrev pub invariant-loop-place : goal.invariant-loop-place
invariant-loop-place l = l.found.items ++ different (drop l.place l.ops) ≡ different l.ops
