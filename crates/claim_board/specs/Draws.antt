-- What a draw gives.
use Rattle.std.specs.Prelude.{◌≡◌, ◌<◌, ◌≤◌, length}
use Rattle.multiset_rank.specs.Claims.{claims}
use Rattle.claim_board.specs.Names.{BoardName}
use Rattle.claim_board.specs.Passes.{PassState}
use Rattle.claim_board.specs.declared.pass.Drawn.{Drawn}
use Rattle.claim_board.specs.declared.pass.Drawn.TheVariants as drawn

-- the claim with the number that was read, where there is one, and else the end of the worker
abbrev pub Draws : BoardName → PassState → Drawn → Type 0
Draws board pass (drawn.Claim claim) = (claim.number < length (claims board.task.plan))
    × (claim ≡ record { table = pass.table; number = claim.number; seen = pass.seen })
Draws board pass (drawn.Over over) = (length (claims board.task.plan) ≤ over.read)
    × (over ≡ record { table = pass.table; read = over.read; seen = pass.seen })
