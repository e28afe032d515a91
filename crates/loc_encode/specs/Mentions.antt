-- Inputs that are mentioned in a formula and change nothing of its value.
use Rattle.std.specs.Prelude.{◌≡◌, ℕ, ◌<◌, Bool, ◌&&◌, Option, Some, None, option_map, nat_eq, nat_lt, length}
use Rattle.std.specs.Prelude.{if◌then◌else◌}
use Rattle.std.specs.List.{list_any}
use Rattle.bv_terms.specs.declared.op.TermId.{TermId}
use Rattle.bv_terms.specs.declared.value.Sort.{Sort}
use Rattle.bv_terms.specs.declared.value.Sort.TheVariants as sort
use Rattle.bv_terms.specs.Sorts.{IsSized}
use Rattle.bv_terms.specs.Term.{Term}
use Rattle.bv_terms.specs.Subterm.{IsSubterm}
use Rattle.bv_terms.specs.Table.{Table, term_at, Extends}
use Rattle.pattern_core.specs.Claim.{Claim}
use Rattle.loc_encode.specs.declared.slots.Slot.{Slot}
use Rattle.loc_encode.specs.declared.slots.Slot.TheVariants as slot
use Rattle.loc_encode.specs.Slots.{slot_number, IsSlot}
use Rattle.loc_encode.specs.Tests.{Test, IsTest}
use Rattle.loc_encode.specs.Truths.{input}
use Rattle.loc_encode.specs.Numbers.{slot_at}
use Rattle.loc_encode.specs.Layout.{kinds, size, attr_width, may_name}

-- the operation may stand at the line
abbrev pub may_stand : Claim → ℕ → ℕ → Bool
may_stand c line op = nat_lt line (size c) && list_any (nat_eq op) (kinds c)

abbrev pub truth_if : Bool → Option Sort
truth_if b = if b then Some sort.Bool else None

abbrev pub bits_if : Bool → Option ℕ → Option Sort
bits_if b width = if b then option_map (λ w. sort.Bits w) width else None

-- the sort of the slot, where it is one of the claim
abbrev pub slot_sort : Claim → Slot → Option Sort
slot_sort c (slot.Kind line op) = truth_if (may_stand c line op)
slot_sort c (slot.Attr line op place) = bits_if (may_stand c line op) (attr_width c op place)
slot_sort c (slot.Arg line place source) = truth_if (nat_lt line (size c) && may_name c line place source)
slot_sort c (slot.Result place source) = truth_if (may_name c (size c) place source)

-- the claim's attributes have widths that bit-vectors have
abbrev pub HasSizedSlots : Claim → Type 0
HasSizedSlots c = (x : Slot) (s : Sort) → IsSlot c x s → IsSized s

-- the slot's input stands in the node's term
abbrev pub Mentions : Table → TermId → Slot → Sort → Type 0
Mentions table at x s = IsSubterm (input (slot_number x) s) (term_at table at)

-- so does that of the slot of the number, where it is one of the claim
abbrev pub MentionsNumber : Claim → Table → TermId → ℕ → Type 0
MentionsNumber c table at n = (s : Sort) → slot_sort c (slot_at n) ≡ Some s → Mentions table at (slot_at n) s

-- the new node makes the tests that the old one makes, and what stands in the old one's term stands in its term
pub record Keeps (c : Claim) (old : Table) (at : TermId) (new : Table) (id : TermId) : Type 0 where
  pub extends : Extends old new
  pub test : (f : Test) → IsTest c old at f → IsTest c new id f
  pub kept : (t : Term) → IsSubterm t (term_at old at) → IsSubterm t (term_at new id)

-- and the slots of the numbers below this one are mentioned
pub record MentionsBelow (c : Claim) (old : Table) (at : TermId) (new : Table) (id : TermId) (number : ℕ) : Type 0 where
  pub keeps : Keeps c old at new id
  pub there : id.0 < length new.nodes
  pub said : (n : ℕ) → n < number → MentionsNumber c new id n
