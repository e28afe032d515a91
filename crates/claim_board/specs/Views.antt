-- What the seats at a board's table know.
use Rattle.std.specs.Prelude.{ℕ, List, [], ◌∷◌, Option}
use Rattle.claim_board.specs.declared.view.View.{View}
use Rattle.claim_board.specs.declared.view.View.TheVariants.{Idle, Claim, Over, Joined, Book}

-- the claims that the seat saw last in the library; of the library's own seat, those that it has still to compare
abbrev pub seen_by : View → List (ℕ × Option ℕ)
seen_by (Idle claims) = claims
seen_by (Claim number claims) = claims
seen_by (Over read claims) = claims
seen_by Joined = []
seen_by (Book ledger) = ledger.last

-- the claim that is out with the seat
abbrev pub claims_out : View → List ℕ
claims_out (Idle claims) = []
claims_out (Claim number claims) = number ∷ []
claims_out (Over read claims) = []
claims_out Joined = []
claims_out (Book ledger) = []

-- 1 for a worker that is over
abbrev pub overs_out : View → ℕ
overs_out (Idle claims) = 0
overs_out (Claim number claims) = 0
overs_out (Over read claims) = 1
overs_out Joined = 0
overs_out (Book ledger) = 0

-- 1 for a worker
abbrev pub workers_out : View → ℕ
workers_out (Idle claims) = 1
workers_out (Claim number claims) = 1
workers_out (Over read claims) = 1
workers_out Joined = 0
workers_out (Book ledger) = 0
