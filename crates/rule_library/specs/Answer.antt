-- What a book of claims tells of a goal: the smallest patterns that were found, and the claims that are open.
-- Smallest patterns first, by multisets of operations of growing size: Buchwald, Fried, Hack, CGO 2018.
use Rattle.std.specs.Prelude.{◌≡◌, ◌≢◌, ℕ, ◌≤◌, List, [], length, Contains, ◌↔◌, Some, slice_get, IsTrue}
use Rattle.std.specs.Cmp.Lexicographic.{slice_cmp}
use Rattle.std.specs.Ordering.{nat_cmp, ordering_then}
use Rattle.std.specs.declared.cmp.Ordering.{Ordering}
use Rattle.multiset_rank.specs.Claims.{Plan}
use Rattle.pattern_core.specs.declared.pattern.GoalAnswer.{GoalAnswer}
use Rattle.pattern_core.specs.declared.pattern.GoalAnswer.TheVariants as answer
use Rattle.pattern_core.specs.declared.pattern.Pattern.{Pattern}
use Rattle.pattern_core.specs.Order.{pattern_cmp, IsRising}
use Rattle.claim_outcome.specs.declared.outcome.Outcome.{Outcome}
use Rattle.rule_library.specs.Book.{IsEntry, is_spent}

-- ---- what was found

-- the pattern was found for a claim of the goal
pub record IsFound (p : Plan) (book : List (ℕ × Outcome)) (goal : ℕ) (q : Pattern) : Type 0 where
  pub ops : List ℕ
  pub outcome : Outcome
  pub entry : IsEntry p book goal ops outcome
  pub among : Contains outcome.found q

-- a pattern of this size was found, and no smaller one
pub record IsLeastFound (p : Plan) (book : List (ℕ × Outcome)) (goal size : ℕ) : Type 0 where
  pub pattern : Pattern
  pub found : IsFound p book goal pattern
  pub of_size : length pattern.nodes ≡ size
  pub least : (q : Pattern) → IsFound p book goal q → size ≤ length q.nodes

abbrev pub NoneFound : Plan → List (ℕ × Outcome) → ℕ → Type 0
NoneFound p book goal = (q : Pattern) → IsFound p book goal q → ⊥

-- the found patterns of this size, in the order of patterns, each once
pub record AreFound (p : Plan) (book : List (ℕ × Outcome)) (goal size : ℕ) (rules : List Pattern) : Type 0 where
  pub rising : IsRising pattern_cmp rules
  pub members : (q : Pattern) → Contains rules q ↔ (IsFound p book goal q × (length q.nodes ≡ size))

-- ---- what is open

-- the whole budget was spent on the claim of the goal with these operations
pub record IsOpen (p : Plan) (book : List (ℕ × Outcome)) (goal : ℕ) (ops : List ℕ) : Type 0 where
  pub outcome : Outcome
  pub entry : IsEntry p book goal ops outcome
  pub spent : IsTrue (is_spent outcome.end)

-- by size, and then in lexicographic order
abbrev pub multiset_cmp : List ℕ → List ℕ → Ordering
multiset_cmp xs ys = ordering_then (nat_cmp (length xs) (length ys)) (slice_cmp nat_cmp xs ys)

-- the open multisets of a goal of which this holds, in order, each once
pub record AreOpen (p : Plan) (book : List (ℕ × Outcome)) (goal : ℕ) (Within : List ℕ → Type 0)
    (multis : List (List ℕ)) : Type 0 where
  pub rising : IsRising multiset_cmp multis
  pub members : (ops : List ℕ) → Contains multis ops ↔ (IsOpen p book goal ops × Within ops)

-- at most so many operations
abbrev pub IsAtMost : ℕ → List ℕ → Type 0
IsAtMost size ops = length ops ≤ size

-- any operations
abbrev pub IsAny : List ℕ → Type 0
IsAny ops = Unit {0}

-- ---- the answer for a goal

-- the found patterns of the least size, and the open claims that may have as small ones
pub record IsAnswerWith (p : Plan) (book : List (ℕ × Outcome)) (goal size : ℕ) (rules : List Pattern)
    (undecided : List (List ℕ)) : Type 0 where
  pub least : IsLeastFound p book goal size
  pub listed : AreFound p book goal size rules
  pub left : AreOpen p book goal (IsAtMost size) undecided

-- nothing was found, and these claims are open
pub record IsAnswerWithout (p : Plan) (book : List (ℕ × Outcome)) (goal : ℕ) (undecided : List (List ℕ)) : Type 0 where
  pub none : NoneFound p book goal
  pub left : AreOpen p book goal IsAny undecided

abbrev pub IsAnswerOf : Plan → List (ℕ × Outcome) → ℕ → GoalAnswer → Type 0
IsAnswerOf p book goal (answer.Complete size rules) = IsAnswerWith p book goal size rules []
IsAnswerOf p book goal (answer.Partial size rules undecided) =
    (undecided ≢ []) × IsAnswerWith p book goal size rules undecided
IsAnswerOf p book goal answer.None = IsAnswerWithout p book goal []
IsAnswerOf p book goal (answer.Stopped undecided) = (undecided ≢ []) × IsAnswerWithout p book goal undecided

-- an answer for each goal of the plan, in order
pub record AreAnswersOf (p : Plan) (book : List (ℕ × Outcome)) (answers : List GoalAnswer) : Type 0 where
  pub as_many : length answers ≡ p.goals
  pub each : (goal : ℕ) (a : GoalAnswer) → slice_get answers goal ≡ Some a → IsAnswerOf p book goal a
