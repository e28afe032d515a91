-- Words of private functions: where the entries of claims stand, and what is known of a goal when some of its claims
-- were looked at, by rising size and then by rising multiset as in Buchwald, Fried, Hack, CGO 2018.
use Rattle.std.specs.Prelude.{◌≡◌, ◌≢◌, ℕ, ◌<◌, ◌⊎◌, List, [], All, length, Some, slice_get}
use Rattle.multiset_rank.specs.Claims.{Plan, claims}
use Rattle.pattern_core.specs.declared.pattern.GoalAnswer.{GoalAnswer}
use Rattle.pattern_core.specs.declared.pattern.GoalAnswer.TheVariants as answer
use Rattle.pattern_core.specs.declared.pattern.Pattern.{Pattern}
use Rattle.pattern_core.specs.Order.{pattern_cmp, multiset, IsRising}
use Rattle.claim_outcome.specs.declared.outcome.Outcome.{Outcome}
use Rattle.rule_library.specs.Book.{IsBook, IsEntry}
use Rattle.rule_library.specs.declared.index.Index.{Index}

-- the places are those of the claims in the book
pub record ArePlaces (count : ℕ) (book : List (ℕ × Outcome)) (places : List ℕ) : Type 0 where
  pub as_many : length places ≡ count
  pub at : (place number : ℕ) (o : Outcome) → slice_get book place ≡ Some (number, o)
      → slice_get places number ≡ Some place

-- the entry of the claim of a goal with these operations stands in a place
pub record StandsIn (p : Plan) (book : List (ℕ × Outcome)) (goal : ℕ) (ops : List ℕ) (place : ℕ) : Type 0 where
  pub there : place < length book
  pub entry : (number : ℕ) (o : Outcome) → slice_get book place ≡ Some (number, o) → IsEntry p book goal ops o

-- the found patterns of each claim have its operations, and rise
pub record AreSorted (p : Plan) (book : List (ℕ × Outcome)) : Type 0 where
  pub ops : (goal : ℕ) (ops : List ℕ) (o : Outcome) → IsEntry p book goal ops o
      → All (λ (q : Pattern). multiset q.nodes ≡ ops) o.found
  pub rising : (goal : ℕ) (ops : List ℕ) (o : Outcome) → IsEntry p book goal ops o → IsRising pattern_cmp o.found

-- the index is of a book of its plan
pub record IsIndex (i : Index) : Type 0 where
  pub book : IsBook (length (claims i.plan)) i.book.now
  pub places : ArePlaces (length (claims i.plan)) i.book.now i.places.items
  pub sorted : AreSorted i.plan i.book.now

-- fewer operations
abbrev pub IsBelow : ℕ → List ℕ → Type 0
IsBelow size ops = length ops < size

-- with rules: complete where nothing is undecided, and else partial
abbrev pub IsMadeWith : ℕ → List Pattern → List (List ℕ) → GoalAnswer → Type 0
IsMadeWith size rules undecided a =
    ((undecided ≡ []) × (a ≡ answer.Complete size rules))
    ⊎ ((undecided ≢ []) × (a ≡ answer.Partial size rules undecided))

-- without: none where nothing is undecided, and else stopped
abbrev pub IsMadeWithout : List (List ℕ) → GoalAnswer → Type 0
IsMadeWithout undecided a =
    ((undecided ≡ []) × (a ≡ answer.None)) ⊎ ((undecided ≢ []) × (a ≡ answer.Stopped undecided))
