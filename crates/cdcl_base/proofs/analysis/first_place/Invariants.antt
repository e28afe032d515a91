use Rattle.std.proofs.Common.{ℕ, take}
use Rattle.cdcl_base.specs.Analysis.{IsFirstPlace}
use Rattle.cdcl_base.proofs.analysis.first_place.Given as goal

abbrev pub invariant-loop-next : goal.invariant-loop-next
invariant-loop-next l = (end : ℕ) → IsFirstPlace l.places l.from end (take l.done l.marked) l.fn.first →
    IsFirstPlace l.places l.from end (take l.next l.marked) l.first
