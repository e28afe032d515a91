use Rattle.std.proofs.Common.{◌≡◌, take}
use Rattle.multiset_rank.specs.Rising.{padded}
use Rattle.multiset_rank.proofs.multi.Multi.new.Given as goal

abbrev pub invariant-loop-place : goal.invariant-loop-place
invariant-loop-place l = l.places ≡ padded (take l.place l.ops)
