-- What is written is read as the same answers: the law of the writer and the reader of a library.
use Rattle.std.specs.Prelude.{◌≡◌, ℕ, ◌+◌, ◌<◌, ◌≤◌, List, [], ◌∷◌, ◌++◌, All, AllPairs, length}
use Rattle.std.specs.Prelude.{IsTrue, Ok}
use Rattle.std.specs.List.{sum_by}
use Rattle.isel_spec.specs.File.{File, Goal}
use Rattle.multiset_rank.specs.Multisets.{never_falls}
use Rattle.pattern_core.specs.declared.pattern.Pattern.{Pattern}
use Rattle.pattern_core.specs.declared.pattern.GoalAnswer.{GoalAnswer}
use Rattle.pattern_core.specs.declared.pattern.GoalAnswer.TheVariants as answer
use Rattle.pattern_core.specs.Pattern.{Pairwise, IsWellFormed}
use Rattle.pattern_core.specs.Walk.{IsCanonical}
use Rattle.pattern_text.specs.declared.claimed.State.{State}
use Rattle.pattern_text.specs.declared.claimed.State.TheVariants as state
use Rattle.pattern_text.specs.declared.claimed.Claimed.{Claimed}
use Rattle.pattern_text.specs.Text.{rule_text, library_text}
use Rattle.pattern_text.specs.Reading.{size_of}
use Rattle.pattern_text.specs.Outcome.{IsOutcome}

-- ---- what an answer says

abbrev pub state_of : GoalAnswer → State
state_of (answer.Complete size rules) = state.Complete size
state_of (answer.Partial size rules undecided) = state.Partial size
state_of answer.None = state.None
state_of (answer.Stopped undecided) = state.Stopped

abbrev pub rules_of : GoalAnswer → List Pattern
rules_of (answer.Complete size rules) = rules
rules_of (answer.Partial size rules undecided) = rules
rules_of answer.None = []
rules_of (answer.Stopped undecided) = []

abbrev pub undecided_of : GoalAnswer → List (List ℕ)
undecided_of (answer.Complete size rules) = []
undecided_of (answer.Partial size rules undecided) = undecided
undecided_of answer.None = []
undecided_of (answer.Stopped undecided) = undecided

-- ---- answers for the goals of a file

-- a rule of a goal: a canonical pattern that is well-formed for it, of the answer's size
pub record IsRuleFor (f : File) (g : Goal) (size : ℕ) (p : Pattern) : Type 0 where
  pub well_formed : IsWellFormed f g p
  pub canonical : IsCanonical p
  pub of_size : length p.nodes ≡ size

-- an undecided multiset: at most six numbers of operations, which never fall
pub record IsUndecided (f : File) (multi : List ℕ) : Type 0 where
  pub few : length multi ≤ 6
  pub rising : IsTrue (never_falls multi)
  pub in_file : All (λ op. op < length f.ops) multi

pub record IsAnswerFor (f : File) (g : Goal) (a : GoalAnswer) : Type 0 where
  pub size : size_of (state_of a) ≤ 6
  pub rules : All (IsRuleFor f g (size_of (state_of a))) (rules_of a)
  pub distinct : AllPairs (λ p q. ¬ (p ≡ q)) (rules_of a)
  pub undecided : All (IsUndecided f) (undecided_of a)

-- one for each goal, in the file's order
abbrev pub AreAnswersFor : File → List Goal → List GoalAnswer → Type 0
AreAnswersFor f [] [] = Unit {0}
AreAnswersFor f (g ∷ gs) (a ∷ rest) = IsAnswerFor f g a × AreAnswersFor f gs rest
AreAnswersFor f [] (a ∷ rest) = ⊥
AreAnswersFor f (g ∷ gs) [] = ⊥

-- how many rules there are in all
abbrev pub rule_total : List GoalAnswer → ℕ
rule_total answers = sum_by (λ a. length (rules_of a)) answers

-- answers that a library can hold
pub record AreAnswers (f : File) (answers : List GoalAnswer) : Type 0 where
  pub each : AreAnswersFor f f.goals answers
  pub few : rule_total answers ≤ 65536

-- ---- claims that say the same

-- the line of a rule stands in the bytes, and its list, after the line's first byte, at this place
abbrev pub IsPlaceOf : File → List ℕ → Pattern → ℕ → Type 0
IsPlaceOf f bytes p place =
    (before : List ℕ) × (after : List ℕ) × (bytes ≡ before ++ (rule_text f p ++ after)) × (place ≡ length before + 1)

-- what is claimed of the goal at a place is what the answer says, and each rule has its place in the bytes
pub record Says (f : File) (bytes : List ℕ) (place : ℕ) (a : GoalAnswer) (c : Claimed) : Type 0 where
  pub goal : c.goal ≡ place
  pub state : c.state ≡ state_of a
  pub rules : c.rules ≡ rules_of a
  pub undecided : c.undecided ≡ undecided_of a
  pub places : Pairwise (IsPlaceOf f bytes) (rules_of a) c.places

-- the claims are on the goals from a place on, in order
abbrev pub SayTheSame : File → List ℕ → ℕ → List GoalAnswer → List Claimed → Type 0
SayTheSame f bytes place [] [] = Unit {0}
SayTheSame f bytes place (a ∷ rest) (c ∷ claims) =
    Says f bytes place a c × SayTheSame f bytes (place + 1) rest claims
SayTheSame f bytes place [] (c ∷ claims) = ⊥
SayTheSame f bytes place (a ∷ rest) [] = ⊥

-- the bytes are a library that claims what the answers say
abbrev pub IsReadBack : File → List GoalAnswer → List ℕ → Type 0
IsReadBack f answers bytes =
    (claims : List Claimed) × IsOutcome f bytes (Ok claims) × SayTheSame f bytes 0 answers claims

-- what is written is read as the same answers
abbrev pub WrittenIsRead : File → List GoalAnswer → Type 0
WrittenIsRead f answers = AreAnswers f answers → IsReadBack f answers (library_text f answers)
