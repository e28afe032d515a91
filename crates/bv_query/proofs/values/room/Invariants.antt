use Rattle.std.proofs.Common.{◌≡◌, drop, max}
use Rattle.bv_query.specs.Values.{room_for}
use Rattle.bv_query.proofs.values.room.Given as goal

abbrev pub invariant-loop-number : goal.invariant-loop-number
invariant-loop-number l = max l.room (room_for (drop l.number-index l.inputs)) ≡ room_for l.inputs
