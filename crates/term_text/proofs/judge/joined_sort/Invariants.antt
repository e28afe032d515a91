use Rattle.std.proofs.Common.{◌≡◌, ◌≤◌, take}
use Rattle.std.specs.List.{sum_by}
use Rattle.bv_terms.specs.Sorts.{width_of}
use Rattle.term_text.proofs.judge.joined_sort.Given as goal

-- the width of the sorts so far together
abbrev pub invariant-loop-sort : goal.invariant-loop-sort
invariant-loop-sort l = record { sum : l.width ≡ sum_by width_of (take l.sort-index l.sorts); narrow : l.width ≤ 64 }
