use Rattle.std.proofs.Common.{◌≡◌, map, take}
use Rattle.loc_encode.specs.Layout.{slot_at}
use Rattle.loc_encode.specs.Claimed.{claim_in}
use Rattle.loc_encode.proofs.layout.Layout.slots_at.Given as goal

abbrev pub invariant-loop-source : goal.invariant-loop-source
invariant-loop-source l =
    l.found.items ≡ map (slot_at (claim_in l.self) l.row l.place) (take l.source-index l.sources)
