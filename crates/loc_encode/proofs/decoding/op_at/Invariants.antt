use Rattle.std.proofs.Common.{◌≡◌, ◌<◌, ℕ, Some, slice_get}
use Rattle.loc_encode.specs.SlotValues.{IsChosenOp}
use Rattle.loc_encode.proofs.decoding.op_at.Given as goal

abbrev pub invariant-loop-place : goal.invariant-loop-place
invariant-loop-place l =
    (op : ℕ) → IsChosenOp l.values l.line l.ops op → (k : ℕ) → k < l.place → slice_get l.ops k ≡ Some op → ⊥
