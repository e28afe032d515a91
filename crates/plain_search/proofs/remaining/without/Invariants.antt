use Rattle.std.proofs.Common.{◌≡◌, ◌++◌, drop}
use Rattle.plain_search.specs.Patterns.{without}
use Rattle.plain_search.proofs.remaining.without.Given as goal

abbrev pub invariant-loop-place : goal.invariant-loop-place
invariant-loop-place l = l.left.items ++ without l.op (drop l.place l.ops) ≡ without l.op l.ops
