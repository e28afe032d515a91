-- What a library keeps of its entries.
use Rattle.std.specs.Prelude.{◌≡◌, ℕ, List, [], length, All, Option, Some, slice_get}
use Rattle.multiset_rank.specs.Claims.{Plan, claims}
use Rattle.atomic_table.specs.Table.{Me}
use Rattle.claim_core.specs.Sizes.{TellsLeast, IsOfGoal, told}
use Rattle.claim_board.specs.declared.entry.Task.{Task}
use Rattle.claim_board.specs.declared.view.Ledger.{Ledger}
use Rattle.claim_board.specs.declared.view.View.{View}
use Rattle.claim_board.specs.declared.view.View.TheVariants.{Idle, Claim, Over, Joined, Book}

-- the claims with their entries, in the order in which they were entered, and how many workers that are over were
-- given in
pub record LibraryState (E : Type 0) : Type 0 where
  pub book : List (ℕ × E)
  pub ended : ℕ

-- each entry is right for the number of its claim
abbrev pub AreRight : {E : Type 0} → (ℕ → E → Type 0) → List (ℕ × E) → Type 0
AreRight right book = All (λ pair. right pair.0 pair.1) book

-- a place for each goal, with the least size that was found
pub record AreLeast (plan : Plan) (pairs : List (ℕ × Option ℕ)) (sizes : List (Option ℕ)) : Type 0 where
  pub places : length sizes ≡ plan.goals
  pub each : (goal : ℕ) (answer : Option ℕ) → slice_get sizes goal ≡ Some answer → TellsLeast plan pairs goal answer

-- a size that an entry tells, which is right for a claim of this goal
pub record IsTold {E : Type 0} (plan : Plan) (least : E → Option ℕ) (right : ℕ → E → Type 0) (goal size : ℕ)
    : Type 0 where
  pub number : ℕ
  pub entry : E
  pub tells : least entry ≡ Some size
  pub is_right : right number entry
  pub of_goal : IsOfGoal plan goal number

-- each size is told so
abbrev pub AreTold : {E : Type 0} → Plan → (E → Option ℕ) → (ℕ → E → Type 0) → List (Option ℕ) → Type 0
AreTold plan least right sizes =
    (goal size : ℕ) → slice_get sizes goal ≡ Some (Some size) → IsTold plan least right goal size

-- how many workers that are over the seat has taken in
abbrev pub ended_in : View → ℕ
ended_in (Idle claims) = 0
ended_in (Claim number claims) = 0
ended_in (Over read claims) = 0
ended_in Joined = 0
ended_in (Book ledger) = ledger.ended

-- the seat is the library's, and its book tells what the entries tell, which are right
pub record IsLibrary {E : Type 0} (task : Task) (least : E → Option ℕ) (right : ℕ → E → Type 0) (me : Me ℕ View)
    (entries : List (ℕ × E)) (sizes : List (Option ℕ)) : Type 0 where
  pub ledger : Ledger
  pub seat : me ≡ (Book ledger, [])
  pub book : ledger.book ≡ told least entries
  pub are_right : AreRight right entries
  pub least_sizes : AreLeast task.plan ledger.book sizes
