use Rattle.std.proofs.Common.{◌≡◌, ◌-◌, drop}
use Rattle.multiset_rank.specs.Multisets.{never_falls}
use Rattle.multiset_rank.proofs.multi.falls.Given as goal

abbrev pub invariant-loop-place : goal.invariant-loop-place
invariant-loop-place l = never_falls l.ops ≡ never_falls (drop (l.place - 1) l.ops)
