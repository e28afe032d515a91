-- What the trees of a text say of a file's goals, or the first fault of the walk over them. Which fault is the first is
-- this project's own.
use Rattle.std.specs.Prelude.{ℕ, List, [], ◌∷◌, ◌++◌, length, map, Result, Ok, Err, IsTrue, ◌==◌, if◌then◌else◌}
use Rattle.std.specs.List.{list_any, sum_by}
use Rattle.sexp_read.specs.Tree.{Tree, from_of}
use Rattle.isel_spec.specs.File.{File}
use Rattle.pattern_core.specs.declared.pattern.Pattern.{Pattern}
use Rattle.pattern_text.specs.declared.fault.LibFault.{LibFault}
use Rattle.pattern_text.specs.declared.fault.LibKind.TheVariants as fault
use Rattle.pattern_text.specs.declared.claimed.State.{State}
use Rattle.pattern_text.specs.declared.claimed.State.TheVariants as state
use Rattle.pattern_text.specs.declared.claimed.Claimed.{Claimed}
use Rattle.pattern_text.specs.Steps.{Span, span_of, fault_at, and_then, or_fault, IsThat, AndThen, Where}
use Rattle.pattern_text.specs.Items.{ClaimForm, claim_in, is_head}
use Rattle.pattern_text.specs.Rules.{goal_read, AreRules, opens_read}

abbrev pub size_of : State → ℕ
size_of (state.Complete size) = size
size_of (state.Partial size) = size
size_of state.None = 0
size_of state.Stopped = 0

-- how many rules there are
abbrev pub rule_count : List Claimed → ℕ
rule_count claims = sum_by (λ (c : Claimed). length c.rules) claims

-- a place that no claim is on yet
abbrev pub new_goal : List Claimed → Span → ℕ → Result ℕ LibFault
new_goal claims span place =
    if list_any (λ (c : Claimed). c.goal == place) claims then Err (fault_at fault.Twice span) else Ok place

-- the form of an item, and the place of its goal, on which none of the claims before is
abbrev pub claim_read : File → List Claimed → Tree → Result (ClaimForm × ℕ) LibFault
claim_read f claims tree =
    and_then (or_fault fault.Shape (span_of tree) (claim_in tree))
    (λ form. and_then (and_then (goal_read f form.name) (new_goal claims (span_of tree))) (λ place. Ok (form, place)))

abbrev pub claimed : ClaimForm → ℕ → List Pattern → List (List ℕ) → Claimed
claimed form place rules undecided = record {
  goal = place;
  state = form.state;
  rules = rules;
  undecided = undecided;
  places = map from_of form.rules;
}

-- what is claimed of a goal, by the form of its item
abbrev pub IsClaimOf : File → List Claimed → ClaimForm → ℕ → Result Claimed LibFault → Type 0
IsClaimOf f claims form place =
    AndThen (AreRules f place (size_of form.state) (rule_count claims) [] form.rules)
    (λ rules. IsThat (and_then (opens_read f form.opens) (λ undecided. Ok (claimed form place rules undecided))))

abbrev pub IsClaim : File → List Claimed → Tree → Result Claimed LibFault → Type 0
IsClaim f claims tree = AndThen (IsThat (claim_read f claims tree)) (λ found. IsClaimOf f claims found.0 found.1)

abbrev pub AreClaims : File → List Claimed → List Tree → Result (List Claimed) LibFault → Type 0
AreClaims f claims [] = IsThat (Ok claims)
AreClaims f claims (tree ∷ trees) =
    AndThen (IsClaim f claims tree) (λ claim. AreClaims f (claims ++ claim ∷ []) trees)

-- what the trees of a text of so many bytes claim
abbrev pub IsLibrary : File → ℕ → List Tree → Result (List Claimed) LibFault → Type 0
IsLibrary f end [] = IsThat (Err (fault_at fault.Shape (end, end)))
IsLibrary f end (head ∷ items) =
    Where (IsTrue (is_head head)) (fault_at fault.Shape (span_of head)) (AreClaims f [] items)
