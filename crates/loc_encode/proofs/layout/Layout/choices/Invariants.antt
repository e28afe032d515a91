use Rattle.std.proofs.Common.{◌≡◌, map, filter}
use Rattle.std.specs.List.{range_with_len}
use Rattle.loc_encode.specs.Numbers.{source_at}
use Rattle.loc_encode.specs.Layout.{may_name}
use Rattle.loc_encode.specs.Claimed.{claim_in}
use Rattle.loc_encode.proofs.layout.Layout.choices.Given as goal

abbrev pub invariant-loop-number : goal.invariant-loop-number
invariant-loop-number l =
    l.found.items ≡ filter (may_name (claim_in l.self) l.row l.place) (map source_at (range_with_len 0 l.number))
