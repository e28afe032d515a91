-- The formulas by which the next candidate is found, and what a solver's answer to them says. Synthesis by examples and
-- blocked solutions: Gulwani, Jha, Tiwari, Venkatesan, PLDI 2011.
use Rattle.std.specs.Prelude.{◌≡◌, ◌↔◌, ℕ, List, All, length}
use Rattle.bv_terms.specs.declared.op.TermId.{TermId}
use Rattle.bv_terms.specs.declared.value.Value.{Value}
use Rattle.bv_terms.specs.Table.{Table, term_at}
use Rattle.bv_terms.specs.WellSorted.{InputsFit}
use Rattle.bit_blast.specs.Clauses.{IsTrueAt}
use Rattle.bv_query.specs.declared.decision.Decision.{Decision}
use Rattle.bv_query.specs.declared.decision.Decision.TheVariants as answer
use Rattle.bv_query.specs.Session.{formulas_in, IsRightSession}
use Rattle.cnf_core.specs.Resolution.{AreNewClauses}
use Rattle.isel_spec.specs.declared.spec.Spec.{Spec}
use Rattle.loc_encode.specs.declared.encoded.Encoded.{Encoded}
use Rattle.loc_encode.specs.Encoded.{IsSought}
use Rattle.loc_encode.specs.Given.{IsRightFor}
use Rattle.loc_encode.specs.Parts as part
use Rattle.loc_encode.specs.Standing.{Fits}
use Rattle.pattern_core.specs.Claim.{Claim, IsClaim}
use Rattle.pattern_core.specs.declared.pattern.Pattern.{Pattern}
use Rattle.pattern_core.specs.Walk.{IsCanonical}
use Rattle.cegis_loop.specs.declared.answer.Tried.{Tried}
use Rattle.cegis_loop.specs.declared.finder.Finder.{Finder}
use Rattle.cegis_loop.specs.declared.finder.Found.{Found}
use Rattle.cegis_loop.specs.declared.finder.Found.TheVariants.{Candidate, Nothing, Spent}
use Rattle.cegis_loop.specs.Answer.{HasModel}

-- what was asserted is, taken together, the formula of the goal in a place of the file with these operations, over one
-- table of terms
pub record IsFinder (s : Spec) (place : ℕ) (ops : List ℕ) (n : Finder) : Type 0 where
  pub goal_is : n.encoded.goal ≡ place
  pub ops_are : n.encoded.multi ≡ ops
  pub pointer : n.terms.pointer ≡ s.pointer
  pub right : IsRightFor s n.encoded n.terms
  pub session : IsRightSession n.session n.terms
  pub over : (c : Claim) → IsClaim s place ops c
      → All (λ (at : TermId). part.IsTruthOver c n.terms at) n.session.blast.formulas
  -- values of the inputs' sorts give each slot one of its sort
  pub fits : (c : Claim) → IsClaim s place ops c → (env : List Value)
      → All (InputsFit env) (formulas_in n.terms n.session) → Fits c env
  pub truth : (env : List Value)
      → All (IsTrueAt env) (formulas_in n.terms n.session) ↔ part.IsTrueAt n.terms n.encoded.formula env

-- a call on which so many units were spent: its clauses have a model only if there is a pattern that is sought, and
-- have one if there is a canonical one; there is a chain for each unit, which says something new
pub record IsFindCall (c : Claim) (e : Encoded) (units : ℕ) (t : Tried) : Type 0 where
  pub sound : HasModel t → (p : Pattern) × IsSought c e p
  pub complete : (p : Pattern) → IsSought c e p → IsCanonical p → HasModel t
  pub new : AreNewClauses t.blasted.cnf.clauses t.log.chains
  pub count : length t.log.chains ≡ units

-- what a solver's answer says of the formula, where there were so many units
abbrev pub IsDecidedFor : Spec → Table → Encoded → ℕ → Decision → Type 0
IsDecidedFor s table e units (answer.Yes env) =
    InputsFit env.values (term_at table e.formula) × part.IsTrueAt table e.formula env.values
IsDecidedFor s table e units (answer.No refutation) =
    (c : Claim) → IsClaim s e.goal e.multi c → (p : Pattern) → IsSought c e p → IsCanonical p → ⊥
IsDecidedFor s table e units (answer.Spent blasted log) =
    (c : Claim) → IsClaim s e.goal e.multi c → IsFindCall c e units (record { blasted = blasted; log = log })

-- a pattern that is sought; or there is no canonical one; or so many units were spent on a call
abbrev pub IsFoundFor : Claim → Encoded → ℕ → Found → Type 0
IsFoundFor c e units (Candidate p) = IsSought c e p
IsFoundFor c e units Nothing = (p : Pattern) → IsSought c e p → IsCanonical p → ⊥
IsFoundFor c e units (Spent t) = IsFindCall c e units t
