-- What a book tells of the sizes that were found.
use Rattle.std.specs.Prelude.{◌≡◌, ℕ, ◌≤◌, List, map, min, Contains, Option, Some, None, slice_get, MatchOption}
use Rattle.multiset_rank.specs.Claims.{Plan, claims}

-- the claim with this number is one of this goal
abbrev pub IsOfGoal : Plan → ℕ → ℕ → Type 0
IsOfGoal plan goal number = (ops : List ℕ) × (slice_get (claims plan) number ≡ Some (goal, ops))

-- a size that a claim of the goal was published with
pub record IsFound (plan : Plan) (pairs : List (ℕ × Option ℕ)) (goal size : ℕ) : Type 0 where
  pub number : ℕ
  pub published : Contains pairs (number, Some size)
  pub of_goal : IsOfGoal plan goal number

-- no size of the goal was found
abbrev pub NoneFound : Plan → List (ℕ × Option ℕ) → ℕ → Type 0
NoneFound plan pairs goal = (size : ℕ) → ¬ (IsFound plan pairs goal size)

-- this one was found, and no lesser one
pub record IsLeastFound (plan : Plan) (pairs : List (ℕ × Option ℕ)) (goal size : ℕ) : Type 0 where
  pub found : IsFound plan pairs goal size
  pub least : (other : ℕ) → IsFound plan pairs goal other → size ≤ other

-- the answer is the least size that was found, or that there is none
abbrev pub TellsLeast : Plan → List (ℕ × Option ℕ) → ℕ → Option ℕ → Type 0
TellsLeast plan pairs goal answer =
    MatchOption answer (NoneFound plan pairs goal) (λ size. IsLeastFound plan pairs goal size)

-- the claims of a book, each with what its entry tells
abbrev pub told : {E : Type 0} → (E → Option ℕ) → List (ℕ × E) → List (ℕ × Option ℕ)
told least book = map (λ pair. (pair.0, least pair.1)) book

-- the lesser of two sizes, where None is no size
abbrev pub lesser : Option ℕ → Option ℕ → Option ℕ
lesser None right = right
lesser (Some a) None = Some a
lesser (Some a) (Some b) = Some (min a b)
