-- What a worker holds.
use Rattle.std.specs.Prelude.{ℕ, List, Option}
use Rattle.atomic_table.specs.Seated.{TableId}

-- a worker that may look or draw: its table, and the claims that it saw last in the library
pub record PassState : Type 0 where
  pub table : TableId
  pub seen : List (ℕ × Option ℕ)

-- a worker with a claim
pub record ClaimState : Type 0 where
  pub table : TableId
  pub number : ℕ
  pub seen : List (ℕ × Option ℕ)

-- a worker that read this number, and there is no claim with it
pub record OverState : Type 0 where
  pub table : TableId
  pub read : ℕ
  pub seen : List (ℕ × Option ℕ)
