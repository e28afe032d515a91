use Rattle.std.proofs.Common.{◌≡◌, map, take}
use Rattle.loc_encode.specs.declared.slots.Slot.TheVariants as slot
use Rattle.loc_encode.proofs.layout.Layout.slots_of_line.Given as goal

abbrev pub invariant-loop-op : goal.invariant-loop-op
invariant-loop-op l = l.found.items ≡ map (slot.Kind l.line) (take l.op-index l.kinds)
