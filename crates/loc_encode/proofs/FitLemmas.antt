-- Terms in place of the inputs of an operation's results: their sorts, and that no memory comes of them.
use Rattle.std.proofs.Common.{◌≡◌, ℕ, zero, suc, ◌+◌, ◌≤◌, true, false, List, [], ◌∷◌, ◌++◌, Option, Some, None}
use Rattle.std.proofs.Common.{refl, sym, ap, ◌∙◌, subst, slice_get, unwrap_or, map, Contains, inl, inr}
use Rattle.std.proofs.Common.{⊎_elim}
use Rattle.std.specs.List.{AllByRecursion, list_all}
use Rattle.std.specs.Option.{option_map_or}
use Rattle.std.proofs.lemmas.Bool.{false≢true}
use Rattle.std.proofs.lemmas.List.{map-append}
use Rattle.std.proofs.lemmas.Option.{none-some}
use Rattle.bv_terms.specs.declared.op.Op.{Op}
use Rattle.bv_terms.specs.declared.op.Op.TheVariants as op
use Rattle.bv_terms.specs.declared.value.Sort.{Sort}
use Rattle.bv_terms.specs.declared.value.Sort.TheVariants as sort
use Rattle.bv_terms.specs.Term.{Term, Operands, Apply, End, Then}
use Rattle.bv_terms.specs.Sorts.{same_sort, IsSized}
use Rattle.bv_terms.specs.WellSorted.{sort_of}
use Rattle.bv_terms.specs.Replaced.{op_replaced, replaced, all_replaced, ReplacementFits, ReplacementsFit}
use Rattle.bv_terms.specs.Replaced.{AllReplacementsFit}
use Rattle.bv_terms.specs.Subterm.{IsSubterm, IsSubtermAmong}
use Rattle.bv_terms.proofs.NoMemory.{memory_from, IsMemoryInput, AreOverMemory}
use Rattle.bv_terms.proofs.SignatureLemmas.{same_sort-true}
use Rattle.isel_spec.specs.File.{Operation, is_in_scope, stays_in, all_stay_in, is_sized, is_between}
use Rattle.list_lemmas.proofs.Bools.{and_parts, le-from_test}
use Rattle.list_lemmas.proofs.Lookups.{all-at}
use Rattle.list_lemmas.proofs.Members.{In, Contains-from_In, In-slice_get, In-append_cases}
use Rattle.pattern_core.specs.Claim.{Claim}
use Rattle.loc_encode.specs.declared.slots.Slot.{Slot}
use Rattle.loc_encode.specs.declared.slots.Slot.TheVariants as slot
use Rattle.loc_encode.specs.declared.taking.Taker.TheVariants as taker
use Rattle.loc_encode.specs.Slots.{IsSlot, slot_number}
use Rattle.loc_encode.specs.Parts.{IsOver}
use Rattle.loc_encode.specs.Lines.{Sourced, IsProper, IsPlain, arg_terms, attr_terms, op_inputs}
use Rattle.loc_encode.proofs.BuildingLemmas.{sort-input}
use Rattle.loc_encode.proofs.TakingLemmas.{taken_term-sorted}

-- ---- inputs in scope

-- the k-th of terms that have these sorts
sorted-at : (p : ℕ) (ts : List Term) (ss : List Sort) → map (sort_of p) ts ≡ map (λ (s : Sort). Some s) ss → (k : ℕ)
    (s : Sort) → slice_get ss k ≡ Some s → (t : Term) × (slice_get ts k ≡ Some t) × (sort_of p t ≡ Some s)
sorted-at p [] [] e k s at = absurd (none-some s at)
sorted-at p [] (r ∷ ss) e k s at = absurd (cc)
sorted-at p (t ∷ ts) [] e k s at = absurd (none-some s at)
sorted-at p (t ∷ ts) (r ∷ ss) e zero s at =
    let first : sort_of p t ≡ Some r = cc in
    (t, refl, first ∙ at)
sorted-at p (t ∷ ts) (r ∷ ss) e (suc k) s at =
    let rest : map (sort_of p) ts ≡ map (λ (s : Sort). Some s) ss = cc in
    sorted-at p ts ss rest k s at

scope-at : (s : Sort) (o : Option Sort) → option_map_or (same_sort s) o false ≡ true → o ≡ Some s
scope-at s None h = absurd (false≢true h)
scope-at s (Some t) h = ap Some (sym (same_sort-true s t h))

replacement-fits : (p : ℕ) (ts : List Term) (ss : List Sort) → map (sort_of p) ts ≡ map (λ (s : Sort). Some s) ss
    → (o : Op) → is_in_scope ss o ≡ true → ReplacementFits p ts o
replacement-fits p ts ss e (op.Input k s) h = sorted-at p ts ss e k s (scope-at s (slice_get ss k) h)
replacement-fits p ts ss e o h = tt

mutual
  unfolding stays_in ReplacementsFit

  pub ReplacementsFit-from_scope : (p : ℕ) (ts : List Term) (ss : List Sort)
      → map (sort_of p) ts ≡ map (λ (s : Sort). Some s) ss → (t : Term) → stays_in ss t ≡ true → ReplacementsFit p ts t
  ReplacementsFit-from_scope p ts ss e (Apply o us) h =
      let parts = and_parts (is_in_scope ss o) (all_stay_in ss us) h in
      (replacement-fits p ts ss e o parts.0, AllReplacementsFit-from_scope p ts ss e us parts.1)

  AllReplacementsFit-from_scope : (p : ℕ) (ts : List Term) (ss : List Sort)
      → map (sort_of p) ts ≡ map (λ (s : Sort). Some s) ss → (us : Operands) → all_stay_in ss us ≡ true
      → AllReplacementsFit p ts us
  AllReplacementsFit-from_scope p ts ss e End h = tt
  AllReplacementsFit-from_scope p ts ss e (Then u us) h =
      let parts = and_parts (stays_in ss u) (all_stay_in ss us) h in
      (ReplacementsFit-from_scope p ts ss e u parts.0, AllReplacementsFit-from_scope p ts ss e us parts.1)

-- ---- no memory

memory-input : (ss : List Sort) (o : Op) → is_in_scope ss o ≡ true → IsMemoryInput o → In ss sort.Mem
memory-input ss o h (k, is) =
    In-slice_get ss k sort.Mem
    (scope-at sort.Mem (slice_get ss k) (sym (ap (is_in_scope ss) is) ∙ h))

mutual
  unfolding stays_in

  pub no_memory : (p : ℕ) (ss : List Sort) → ¬ (In ss sort.Mem) → (t : Term) → stays_in ss t ≡ true
      → sort_of p t ≡ Some sort.Mem → ⊥
  no_memory p ss none (Apply o us) h e =
      let parts = and_parts (is_in_scope ss o) (all_stay_in ss us) h in
      ⊎_elim (λ input. none (memory-input ss o parts.0 input))
      (λ over. no_memory_first p ss none us parts.1 over) (memory_from p o us e)

  no_memory_first : (p : ℕ) (ss : List Sort) → ¬ (In ss sort.Mem) → (us : Operands) → all_stay_in ss us ≡ true
      → AreOverMemory p us → ⊥
  no_memory_first p ss none End h over = over
  no_memory_first p ss none (Then u us) h over =
      let parts = and_parts (stays_in ss u) (all_stay_in ss us) h in
      no_memory p ss none u parts.0 over

-- the scope of an operation without memories
widths-plain : (ws : List ℕ) → In (map (λ w. sort.Bits w) ws) sort.Mem → ⊥
widths-plain [] h = h
widths-plain (w ∷ ws) (inl e) = cc
widths-plain (w ∷ ws) (inr h) = widths-plain ws h

pub scope-plain : (args : List Sort) (ws : List ℕ) → ¬ Contains args sort.Mem
    → ¬ (In (args ++ map (λ w. sort.Bits w) ws) sort.Mem)
scope-plain args ws none h =
    ⊎_elim (λ a. none (Contains-from_In args sort.Mem a)) (λ b. widths-plain ws b)
    (In-append_cases args (map (λ w. sort.Bits w) ws) sort.Mem h)

-- ---- sorts within the limits

sized-one : (s : Sort) → is_sized s ≡ true → IsSized s
sized-one sort.Bool h = tt
sized-one (sort.Bits w) h =
    let parts = and_parts _ _ h in (le-from_test 1 w parts.0, le-from_test w 64 parts.1)
sized-one sort.Mem h = tt

pub all-plain : (ss : List Sort) → list_all is_sized ss ≡ true → ¬ (In ss sort.Mem) → AllByRecursion IsPlain ss
all-plain [] h none = tt
all-plain (s ∷ ss) h none =
    let parts = and_parts (is_sized s) (list_all is_sized ss) h in (
      record { plain = λ e. none (inl e); sized = sized-one s parts.0 },
      all-plain ss parts.1 (λ i. none (inr i)),
    )

pub all-wide : (ws : List ℕ) → list_all (is_between 1 64) ws ≡ true
    → AllByRecursion (λ w. (1 ≤ w) × (w ≤ 64)) ws
all-wide [] h = tt
all-wide (w ∷ ws) h =
    let parts = and_parts (is_between 1 64 w) (list_all (is_between 1 64) ws) h in
    let both = and_parts _ _ parts.0 in
    ((le-from_test 1 w both.0, le-from_test w 64 both.1), all-wide ws parts.1)

-- ---- the terms of an operation's arguments and attributes

args-sorted : (p line : ℕ) (sources : List Sourced) → AllByRecursion (IsProper p) sources → (place : ℕ)
    (ss : List Sort) → AllByRecursion IsPlain ss
    → map (sort_of p) (arg_terms line sources place ss) ≡ map (λ (s : Sort). Some s) ss
args-sorted p line sources are place [] plain = refl
args-sorted p line sources are place (s ∷ ss) plain =
    λ i. taken_term-sorted p (taker.Arg line place) s sources are plain.0 i
    ∷ args-sorted p line sources are (place + 1) ss plain.1 i

attrs-sorted : (p line op place : ℕ) (ws : List ℕ) → AllByRecursion (λ w. (1 ≤ w) × (w ≤ 64)) ws
    → map (sort_of p) (attr_terms line op place ws) ≡ map (λ (s : Sort). Some s) (map (λ w. sort.Bits w) ws)
attrs-sorted p line op place [] wide = refl
attrs-sorted p line op place (w ∷ ws) wide =
    λ i. sort-input p (slot_number (slot.Attr line op place)) (sort.Bits w) wide.0 i
    ∷ attrs-sorted p line op (place + 1) ws wide.1 i

pub inputs-sorted : (p line op : ℕ) (sources : List Sourced) (o : Operation) → AllByRecursion (IsProper p) sources
    → AllByRecursion IsPlain o.args → AllByRecursion (λ w. (1 ≤ w) × (w ≤ 64)) o.attrs
    → map (sort_of p) (op_inputs line sources op o)
    ≡ map (λ (s : Sort). Some s) (o.args ++ map (λ w. sort.Bits w) o.attrs)
inputs-sorted p line op sources o are plain wide =
    map-append (sort_of p) (arg_terms line sources 0 o.args) (attr_terms line op 0 o.attrs)
    ∙ (λ i. args-sorted p line sources are 0 o.args plain i ++ attrs-sorted p line op 0 o.attrs wide i)
    ∙ sym (map-append (λ (s : Sort). Some s) o.args (map (λ w. sort.Bits w) o.attrs))

-- ---- the inputs of a term whose own were replaced

abbrev AreOver : Claim → Operands → Type 0
AreOver c us = (k : ℕ) (s : Sort) → IsSubtermAmong (Apply (op.Input k s) End) us
    → (x : Slot) × IsSlot c x s × (k ≡ slot_number x)

op-over : (c : Claim) (p : ℕ) (ts : List Term) → AllByRecursion (IsOver c) ts → (o : Op) → ReplacementFits p ts o
    → (us : Operands) → AreOver c us → IsOver c (op_replaced ts o us)
unfolding IsSubterm
op-over c p ts overs (op.Input j r) fit us h =
    subst (IsOver c) (sym (ap (λ t. unwrap_or t (Apply (op.Input j r) us)) fit.1))
    (all-at (IsOver c) ts j fit.0 overs fit.1)
op-over c p ts overs o fit us h = λ k s below. ⊎_elim (λ e. absurd (cc)) (λ among. h k s among) below

mutual
  unfolding replaced ReplacementsFit IsSubterm

  pub over-replaced : (c : Claim) (p : ℕ) (ts : List Term) → AllByRecursion (IsOver c) ts → (t : Term)
      → ReplacementsFit p ts t → IsOver c (replaced ts t)
  over-replaced c p ts overs (Apply o us) fit =
      op-over c p ts overs o fit.0 (all_replaced ts us) (over-all_replaced c p ts overs us fit.1)

  over-all_replaced : (c : Claim) (p : ℕ) (ts : List Term) → AllByRecursion (IsOver c) ts → (us : Operands)
      → AllReplacementsFit p ts us → AreOver c (all_replaced ts us)
  over-all_replaced c p ts overs End fit k s below = absurd below
  over-all_replaced c p ts overs (Then u us) fit k s below =
      ⊎_elim (λ here. over-replaced c p ts overs u fit.0 k s here)
      (λ later. over-all_replaced c p ts overs us fit.1 k s later) below
