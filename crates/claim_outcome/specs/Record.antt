-- When the record of an undecided claim is right: its units are candidates and learnt clauses that each said something
-- new. Candidates and counterexamples in turn: A. Solar-Lezama, L. Tancau, R. Bodik, S. Seshia, V. Saraswat,
-- Combinatorial sketching for finite programs, ASPLOS 2006, with locations as in Gulwani, Jha, Tiwari, Venkatesan,
-- PLDI 2011.
use Rattle.std.specs.Prelude.{◌≡◌, ◌≢◌, ℕ, ◌+◌, ◌<◌, ◌⊎◌, ◌↔◌, List, [], ◌∷◌, ◌++◌, map, length, slice_get, Some}
use Rattle.std.specs.Prelude.{All, AllPairs, Contains, IsTrue, Bool}
use Rattle.bv_terms.specs.declared.value.Value.{Value}
use Rattle.cnf_core.specs.Clause.{is_model, HasNoModel}
use Rattle.cnf_core.specs.Resolution.{IsAccepted, AreNewClauses}
use Rattle.pattern_core.specs.declared.pattern.Example.{Example}
use Rattle.pattern_core.specs.declared.pattern.Pattern.{Pattern}
use Rattle.pattern_core.specs.Claim.{Claim, IsPatternOf, Agrees, IsExample}
use Rattle.pattern_core.specs.Renaming.{IsRenaming}
use Rattle.pattern_core.specs.Rule.{IsRule}
use Rattle.pattern_core.specs.Walk.{IsCanonical}
use Rattle.claim_outcome.specs.declared.record.Asked.{Asked}
use Rattle.claim_outcome.specs.declared.record.Question.{Question}
use Rattle.claim_outcome.specs.declared.record.Question.TheVariants.{Find, Confirm}
use Rattle.claim_outcome.specs.declared.record.Record.{Record}

-- the clauses of a call have a model
abbrev pub HasModel : Asked → Type 0
HasModel a = (v : ℕ → Bool) × IsTrue (is_model v a.blasted.cnf.clauses)

-- the pattern agrees with the goal at all examples
abbrev pub AgreesAtAll : Claim → List Example → Pattern → Type 0
AgreesAtAll c xs p = All (λ (x : Example). Agrees c p x.inputs) xs

-- a pattern of the claim that agrees at these examples and is none of these candidates
pub record IsOpen (c : Claim) (xs : List Example) (candidates : List Pattern) (p : Pattern) : Type 0 where
  pub pattern : IsPatternOf c p
  pub agrees : AgreesAtAll c xs p
  pub new : ¬ Contains candidates p

-- the candidate under a number differs from the goal at an example, and all later ones agree there
pub record IsRefutedAt (c : Claim) (candidates : List Pattern) (number : ℕ) (x : Example) : Type 0 where
  pub candidate : Pattern
  pub stands : slice_get candidates number ≡ Some candidate
  pub differs : ¬ Agrees c candidate x.inputs
  pub later : (k : ℕ) (p : Pattern) → number < k → slice_get candidates k ≡ Some p → Agrees c p x.inputs

-- each example refutes one candidate, by rising numbers: `refuted` lists these; the others agree at all examples
pub record AreRefuted (c : Claim) (r : Record) (refuted : List ℕ) : Type 0 where
  pub rising : AllPairs (λ j k. j < k) refuted
  pub as_many : length refuted ≡ length r.examples
  pub each : (j number : ℕ) (x : Example) → slice_get refuted j ≡ Some number → slice_get r.examples j ≡ Some x
      → IsRefutedAt c r.candidates number x
  pub others : (k : ℕ) (p : Pattern) → slice_get r.candidates k ≡ Some p → ¬ Contains refuted k
      → AgreesAtAll c r.examples p

-- a canonical renaming of the pattern is found
abbrev pub IsFound : List Pattern → Pattern → Type 0
IsFound found p = (q : Pattern) × Contains found q × IsCanonical q × IsRenaming p q

-- a confirmation is of one of these candidates, and the later calls are as is asked of them, with the candidates after
-- it; a search is the last call
abbrev pub IsNext : List Pattern → List Asked → (List Pattern → Type 0) → Question → Type 0
IsNext candidates calls rest (Confirm p) =
    (before after : List Pattern) × (candidates ≡ before ++ p ∷ after) × rest after
IsNext candidates calls rest (Find examples count) = calls ≡ []

-- confirmations of candidates in their order, and then at most one search
abbrev pub AreInOrder : List Pattern → List Asked → Type 0
AreInOrder candidates [] = Unit {0}
AreInOrder candidates (a ∷ calls) = IsNext candidates calls (λ after. AreInOrder after calls) a.question

-- what the clauses of a call say
abbrev pub IsAskedRight : Claim → Record → Asked → Question → Type 0
IsAskedRight c r a (Confirm p) = HasModel a ↔ ¬ IsRule c.file c.goal p
IsAskedRight c r a (Find examples count) =
    (examples ≡ length r.examples) × (count ≡ length r.candidates)
    × (HasModel a → (p : Pattern) × IsOpen c r.examples r.candidates p)
    × ((p : Pattern) → IsOpen c r.examples r.candidates p → IsCanonical p → HasModel a)

-- a record of a claim, with the patterns that are listed as found
pub record IsRecord (c : Claim) (listed : List Pattern) (r : Record) : Type 0 where
  pub candidates : All (IsPatternOf c) r.candidates
  pub differ : AllPairs (λ p q. p ≢ q) r.candidates
  pub examples : All (IsExample c) r.examples
  -- each candidate but the last is refuted or found, and what is found was a candidate
  pub refuted : (numbers : List ℕ) × AreRefuted c r numbers × ((k : ℕ) (p : Pattern) → k + 1 < length r.candidates
      → slice_get r.candidates k ≡ Some p → Contains numbers k ⊎ IsFound listed p)
  pub found : (q : Pattern) → Contains listed q → (p : Pattern) × Contains r.candidates p × IsRenaming p q
  -- the calls are in the order of the candidates, their clauses are right, and each chain says something new
  pub order : AreInOrder r.candidates r.calls
  pub right : All (λ (a : Asked). IsAskedRight c r a a.question) r.calls
  pub new : All (λ (a : Asked). AreNewClauses a.blasted.cnf.clauses a.log.chains) r.calls
  -- every call but the last ended with a refutation
  pub accepted : (k : ℕ) (a : Asked) → k + 1 < length r.calls → slice_get r.calls k ≡ Some a
      → IsAccepted a.blasted.cnf.clauses a.log.chains
