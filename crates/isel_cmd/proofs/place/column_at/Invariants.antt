use Rattle.std.proofs.Common.{◌≡◌, ◌≤◌, ◌+◌}
use Rattle.isel_cmd.specs.Refusal.{column_at}
use Rattle.isel_cmd.proofs.place.column_at.Given as goal

abbrev pub invariant-loop-byte : goal.invariant-loop-byte
invariant-loop-byte l = record {
  counted : l.column ≡ column_at l.before l.byte-index;
  small : l.column ≤ l.byte-index + 1;
}
