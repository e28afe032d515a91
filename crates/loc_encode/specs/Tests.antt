-- Nodes whose terms are tests of the choices that values make.
use Rattle.std.specs.Prelude.{◌≡◌, ℕ, ◌<◌, List, Bool, false, Option, Some, length, slice_get}
use Rattle.bv_terms.specs.declared.op.TermId.{TermId}
use Rattle.bv_terms.specs.declared.value.Sort.TheVariants as sort
use Rattle.bv_terms.specs.declared.value.Value.{Value}
use Rattle.bv_terms.specs.declared.value.Value.TheVariants as val
use Rattle.bv_terms.specs.Term.{Term, value}
use Rattle.bv_terms.specs.WellSorted.{sort_of}
use Rattle.bv_terms.specs.Table.{Table, term_at}
use Rattle.pattern_core.specs.Claim.{Claim}
use Rattle.loc_encode.specs.declared.slots.Slot.{Slot}
use Rattle.loc_encode.specs.Slots.{slot_number}
use Rattle.loc_encode.specs.Standing.{Fits}
use Rattle.loc_encode.specs.Parts.{IsOver}

-- a truth value that is there and true
abbrev pub is_true : Option Value → Bool
is_true (Some (val.Bool b)) = b
is_true _ = false

-- whether the values make the choice of a slot
abbrev pub chosen : List Value → Slot → Bool
chosen env x = is_true (slice_get env (slot_number x))

-- a truth value over slots of the claim, where a pointer has p bits
pub record IsTruthTerm (c : Claim) (p : ℕ) (t : Term) : Type 0 where
  pub truth : sort_of p t ≡ Some sort.Bool
  pub over : IsOver c t

-- a test of choices
abbrev pub Test : Type 0
Test = (Slot → Bool) → Bool

-- the term is true of the choices of which the test is
pub record IsTestTerm (c : Claim) (p : ℕ) (t : Term) (f : Test) : Type 0 where
  pub truth : IsTruthTerm c p t
  pub value : (env : List Value) → Fits c env → value env t ≡ val.Bool (f (chosen env))

-- and so is the term of the node
pub record IsTest (c : Claim) (table : Table) (at : TermId) (f : Test) : Type 0 where
  pub there : at.0 < length table.nodes
  pub term : IsTestTerm c table.pointer (term_at table at) f
