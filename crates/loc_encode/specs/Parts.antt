-- What the parts of the formula say of the patterns for which values stand.
use Rattle.std.specs.Prelude.{◌≡◌, ℕ, ◌<◌, ◌↔◌, List, Some, true, length}
use Rattle.bv_terms.specs.declared.op.Op.TheVariants as op
use Rattle.bv_terms.specs.declared.op.TermId.{TermId}
use Rattle.bv_terms.specs.declared.value.Sort.{Sort}
use Rattle.bv_terms.specs.declared.value.Sort.TheVariants as sort
use Rattle.bv_terms.specs.declared.value.Value.{Value}
use Rattle.bv_terms.specs.declared.value.Value.TheVariants as val
use Rattle.bv_terms.specs.Term.{Term, Apply, End, value}
use Rattle.bv_terms.specs.Table.{Table, term_at}
use Rattle.bv_terms.specs.WellSorted.{sort_of}
use Rattle.bv_terms.specs.Subterm.{IsSubterm}
use Rattle.pattern_core.specs.Claim.{Claim, IsPatternOf, Agrees}
use Rattle.pattern_core.specs.Walk.{IsCanonical}
use Rattle.pattern_core.specs.declared.pattern.Pattern.{Pattern}
use Rattle.loc_encode.specs.declared.slots.Slot.{Slot}
use Rattle.loc_encode.specs.Slots.{slot_number, IsSlot}
use Rattle.loc_encode.specs.Standing.{Fits, StandsFor}

-- each input of the term is a slot of the claim
abbrev pub IsOver : Claim → Term → Type 0
IsOver c t = (k : ℕ) (s : Sort) → IsSubterm (Apply (op.Input k s) End) t → (x : Slot) × IsSlot c x s
    × (k ≡ slot_number x)

-- a node of the table whose term is a truth value over slots of the claim
pub record IsTruthOver (c : Claim) (table : Table) (at : TermId) : Type 0 where
  pub there : at.0 < length table.nodes
  pub truth : sort_of table.pointer (term_at table at) ≡ Some sort.Bool
  pub over : IsOver c (term_at table at)

-- the node's term is true at these values
abbrev pub IsTrueAt : Table → TermId → List Value → Type 0
IsTrueAt table at env = value env (term_at table at) ≡ val.Bool true

-- the shape: true only of values that stand for a pattern of the claim, and true of those that stand for a
-- canonical one
pub record IsShape (c : Claim) (table : Table) (at : TermId) : Type 0 where
  pub over : IsTruthOver c table at
  pub all : (x : Slot) (s : Sort) → IsSlot c x s → IsSubterm (Apply (op.Input (slot_number x) s) End) (term_at table at)
  pub sound : (env : List Value) → Fits c env → IsTrueAt table at env
      → (p : Pattern) × IsPatternOf c p × StandsFor c env p
  pub complete : (env : List Value) (p : Pattern) → IsPatternOf c p → IsCanonical p → StandsFor c env p
      → IsTrueAt table at env

-- the agreement at inputs of the goal: true of values that stand for a pattern exactly where the pattern agrees
pub record IsAgreement (c : Claim) (inputs : List Value) (table : Table) (at : TermId) : Type 0 where
  pub over : IsTruthOver c table at
  pub agrees : (env : List Value) (p : Pattern) → IsPatternOf c p → StandsFor c env p
      → IsTrueAt table at env ↔ Agrees c p inputs

-- the difference from a pattern: true of values that stand for a pattern exactly where that is another one
pub record IsDifference (c : Claim) (blocked : Pattern) (table : Table) (at : TermId) : Type 0 where
  pub over : IsTruthOver c table at
  pub differs : (env : List Value) (p : Pattern) → IsPatternOf c p → StandsFor c env p
      → IsTrueAt table at env ↔ ¬ (p ≡ blocked)
