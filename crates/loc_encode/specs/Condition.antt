-- Terms that are made one over the other, each true where the one before is and one condition more holds.
use Rattle.std.specs.Prelude.{◌≡◌, ◌<◌, ◌↔◌, List, Bool, IsSome, length}
use Rattle.bv_terms.specs.declared.op.Op.{Op}
use Rattle.bv_terms.specs.declared.op.TermId.{TermId}
use Rattle.bv_terms.specs.declared.value.Value.{Value}
use Rattle.bv_terms.specs.declared.value.Value.TheVariants as val
use Rattle.bv_terms.specs.Table.{Table, operands, terms_of, term_at}
use Rattle.bv_terms.specs.Term.{Apply, value}
use Rattle.bv_terms.specs.WellSorted.{sort_of}
use Rattle.pattern_core.specs.Claim.{Claim}
use Rattle.loc_encode.specs.Parts.{IsTruthOver, IsTrueAt}

-- a node of the new table is the operation over these nodes of the old one, and well-sorted
pub record IsMade (old : Table) (o : Op) (args : List TermId) (new : Table) (at : TermId) : Type 0 where
  pub there : at.0 < length new.nodes
  pub term : term_at new at ≡ Apply o (operands (terms_of old) args)
  pub sorted : IsSome (sort_of new.pointer (term_at new at))

-- a truth value over slots of the claim, which is one at whatever values
pub record IsTruth (c : Claim) (table : Table) (at : TermId) : Type 0 where
  pub over : IsTruthOver c table at
  pub always : (env : List Value) → (b : Bool) × (value env (term_at table at) ≡ val.Bool b)

-- a truth value over slots of the claim that is true where the condition holds
pub record IsTest (c : Claim) (table : Table) (at : TermId) (M : List Value → Type 0) : Type 0 where
  pub over : IsTruthOver c table at
  pub holds : (env : List Value) → IsTrueAt table at env ↔ M env

-- a truth value that is true where the older one is and the condition holds
pub record IsBoth (c : Claim) (old : Table) (a : TermId) (new : Table) (b : TermId) (M : List Value → Type 0)
    : Type 0 where
  pub truth : IsTruth c old a → IsTruth c new b
  pub holds : (env : List Value) → IsTrueAt new b env ↔ (IsTrueAt old a env × M env)
