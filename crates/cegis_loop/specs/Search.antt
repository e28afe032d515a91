-- The state of the search for a claim's rules, between its steps. Candidates and counterexamples in turn: A.
-- Solar-Lezama, L. Tancau, R. Bodik, S. Seshia, V. Saraswat, Combinatorial sketching for finite programs, ASPLOS 2006.
use Rattle.std.specs.Prelude.{◌≡◌, ◌≢◌, ◌⊎◌, ◌+◌, ℕ, List, [], Some, All, AllPairs, Contains, length, slice_get}
use Rattle.std.specs.Prelude.{Bool, true, false}
use Rattle.isel_spec.specs.declared.spec.Spec.{Spec}
use Rattle.pattern_core.specs.Claim.{Claim, IsClaim, IsPatternOf, IsExample, Agrees}
use Rattle.pattern_core.specs.declared.pattern.Example.{Example}
use Rattle.pattern_core.specs.declared.pattern.Pattern.{Pattern}
use Rattle.pattern_core.specs.Order.{pattern_cmp, IsRising}
use Rattle.pattern_core.specs.Renaming.{IsRenaming}
use Rattle.pattern_core.specs.Rule.{IsPlainRule}
use Rattle.pattern_core.specs.Walk.{IsCanonical}
use Rattle.claim_outcome.specs.declared.outcome.End.{End}
use Rattle.claim_outcome.specs.declared.outcome.End.TheVariants.{Decided, Spent, Skipped, NoMemory}
use Rattle.claim_outcome.specs.declared.outcome.Outcome.{Outcome}
use Rattle.claim_outcome.specs.declared.record.Asked.{Asked}
use Rattle.claim_outcome.specs.declared.record.Question.{Question}
use Rattle.claim_outcome.specs.Outcome.{IsRuleOf, IsRight}
use Rattle.claim_outcome.specs.Record.{AreRefuted, IsOpen}
use Rattle.cegis_loop.specs.Finder.{IsFinder}
use Rattle.cegis_loop.specs.Trial.{AreCasesOf}
use Rattle.cegis_loop.specs.declared.answer.Tried.{Tried}
use Rattle.cegis_loop.specs.declared.search.Search.{Search}
use Rattle.cegis_loop.specs.declared.settling.Step.{Step}
use Rattle.cegis_loop.specs.declared.settling.Step.TheVariants.{More, Done}

-- the one canonical renaming of a pattern is listed
pub record IsListed (listed : List Pattern) (p : Pattern) : Type 0 where
  pub canonical : Pattern
  pub stands : Contains listed canonical
  pub is_canonical : IsCanonical canonical
  pub renaming : IsRenaming p canonical
  pub only : (r : Pattern) → IsRenaming p r → IsCanonical r → r ≡ canonical

-- each candidate is refuted by an example, or is a rule, and then it is blocked and its canonical renaming is found
pub record IsProgress (c : Claim) (xs : List Example) (blocks ps listed : List Pattern) : Type 0 where
  pub candidates : All (IsPatternOf c) ps
  pub differ : AllPairs (λ p q. p ≢ q) ps
  pub examples : All (IsExample c) xs
  pub refuted : (numbers : List ℕ) × AreRefuted c (record { examples = xs; candidates = ps; calls = [] }) numbers
      × ((k : ℕ) (p : Pattern) → slice_get ps k ≡ Some p → Contains numbers k ⊎ Contains blocks p)
  pub blocked : All (Contains ps) blocks
  pub blocked_rules : All (IsPlainRule c.file c.goal) blocks
  pub blocked_found : All (IsListed listed) blocks
  pub found : (q : Pattern) → Contains listed q → (p : Pattern) × Contains ps p × IsRenaming p q
  pub rules : All (IsRuleOf c) listed
  pub rising : IsRising pattern_cmp listed

-- the state of the search for the rules of the goal in a place of the file with these operations
pub record IsSearching (s : Spec) (place : ℕ) (ops : List ℕ) (t : Search) : Type 0 where
  pub finder : IsFinder s place ops t.finder
  pub tests : (xs : List Example) × AreCasesOf s place xs t.tests
  pub progress : (c : Claim) → IsClaim s place ops c
      → IsProgress c t.finder.encoded.examples t.finder.encoded.blocked t.candidates t.found

-- a new candidate of the search
abbrev pub IsCandidate : Spec → ℕ → List ℕ → Search → Pattern → Type 0
IsCandidate s place ops t p = (c : Claim) → IsClaim s place ops c → IsOpen c t.finder.encoded.examples t.candidates p

-- an example of the claim at which the pattern differs from the goal
abbrev pub IsCounterexample : Claim → Pattern → Example → Type 0
IsCounterexample c p x = IsExample c x × ¬ Agrees c p x.inputs

abbrev pub is_skipped : End → Bool
is_skipped (Skipped size) = true
is_skipped Decided = false
is_skipped (Spent r) = false
is_skipped NoMemory = false

-- a right outcome for every claim of the goal in a place of the file with these operations; it isn't passed over
pub record IsSettled (s : Spec) (place : ℕ) (ops : List ℕ) (budget : ℕ) (o : Outcome) : Type 0 where
  pub right : (c : Claim) → IsClaim s place ops c → IsRight c budget o
  pub ended : is_skipped o.end ≡ false

-- a call of the solver with what was asked
abbrev pub asked_of : Question → Tried → Asked
asked_of question t = record { question = question; blasted = t.blasted; log = t.log }

-- the search goes on with a candidate more than so many, or the claim is settled
abbrev pub IsStep : Spec → ℕ → List ℕ → ℕ → ℕ → Step → Type 0
IsStep s place ops budget count (More t) = IsSearching s place ops t × (length t.candidates ≡ count + 1)
IsStep s place ops budget count (Done o) = IsSettled s place ops budget o
