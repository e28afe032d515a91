use Rattle.std.proofs.Common.{◌≡◌, ◌++◌, drop}
use Rattle.loc_encode.specs.Layout.{different}
use Rattle.loc_encode.proofs.shape.different.Given as goal

abbrev pub invariant-loop-place : goal.invariant-loop-place
invariant-loop-place l = l.found.items ++ different (drop l.place l.ops) ≡ different l.ops
