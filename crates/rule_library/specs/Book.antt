-- The book of a plan's claims: what became of each. Claims are multisets of operations of growing size, goal by goal:
-- Buchwald, Fried, Hack, CGO 2018.
use Rattle.std.specs.Prelude.{◌≡◌, ℕ, ◌<◌, List, length, Some, slice_get, Bool, true, false, IsTrue}
use Rattle.std.specs.List.{list_any}
use Rattle.isel_spec.specs.File.{File, Goal}
use Rattle.multiset_rank.specs.Claims.{Plan, claims}
use Rattle.claim_outcome.specs.declared.outcome.End.{End}
use Rattle.claim_outcome.specs.declared.outcome.End.TheVariants.{Decided, Spent, Skipped, NoMemory}
use Rattle.claim_outcome.specs.declared.outcome.Outcome.{Outcome}
use Rattle.claim_outcome.specs.Outcome.{IsRight}

-- the plan is of the file: it has as many goals and operations
pub record IsPlanOf (f : File) (p : Plan) : Type 0 where
  pub goals : p.goals ≡ length f.goals
  pub kinds : p.kinds ≡ length f.ops

-- each number below the count stands in the book at one place, and no other number does
pub record IsBook (count : ℕ) (book : List (ℕ × Outcome)) : Type 0 where
  pub within : (place number : ℕ) (o : Outcome) → slice_get book place ≡ Some (number, o) → number < count
  pub there : (number : ℕ) → number < count
      → (place : ℕ) × (o : Outcome) × (slice_get book place ≡ Some (number, o))
  pub once : (j k number : ℕ) (a b : Outcome) → slice_get book j ≡ Some (number, a)
      → slice_get book k ≡ Some (number, b) → j ≡ k

-- what the book has of the claim of a goal with these operations
pub record IsEntry (p : Plan) (book : List (ℕ × Outcome)) (goal : ℕ) (ops : List ℕ) (o : Outcome) : Type 0 where
  pub number : ℕ
  pub claim : slice_get (claims p) number ≡ Some (goal, ops)
  pub place : ℕ
  pub written : slice_get book place ≡ Some (number, o)

-- each entry is right for its claim at this budget
abbrev pub AreRight : File → Plan → ℕ → List (ℕ × Outcome) → Type 0
AreRight f p budget book =
    (goal : ℕ) (g : Goal) (ops : List ℕ) (o : Outcome) → slice_get f.goals goal ≡ Some g
    → IsEntry p book goal ops o → IsRight (record { file = f; goal = g; ops = ops }) budget o

-- the budget was spent
abbrev pub is_spent : End → Bool
is_spent Decided = false
is_spent (Spent r) = true
is_spent (Skipped size) = false
is_spent NoMemory = false

-- memory ran out
abbrev pub ran_out : End → Bool
ran_out Decided = false
ran_out (Spent r) = false
ran_out (Skipped size) = false
ran_out NoMemory = true

-- memory ran out at some claim
abbrev pub HasRunOut : List (ℕ × Outcome) → Type 0
HasRunOut book = IsTrue (list_any (λ (e : ℕ × Outcome). ran_out e.1.end) book)
