-- Which sorts slots have.
use Rattle.std.proofs.Common.{◌≡◌, ◌∙◌, ◌<◌, ◌≤◌, ℕ, List, Some, sym, ap, subst, length, slice_get, Contains, arith}
use Rattle.std.proofs.lemmas.Option.{same_Some}
use Rattle.bv_terms.specs.declared.op.Op.TheVariants as op
use Rattle.bv_terms.specs.declared.op.TermId.{TermId}
use Rattle.bv_terms.specs.declared.value.Sort.{Sort}
use Rattle.bv_terms.specs.declared.value.Sort.TheVariants as sort
use Rattle.bv_terms.specs.declared.value.Value.{Value}
use Rattle.bv_terms.specs.Subterm.{IsSubterm}
use Rattle.bv_terms.specs.Table.{Table, IsTable, term_at}
use Rattle.bv_terms.specs.Term.{Apply, End}
use Rattle.isel_spec.specs.declared.spec.Spec.{Spec}
use Rattle.isel_spec.specs.File.{File, Operation}
use Rattle.isel_spec.specs.Spec.{file}
use Rattle.isel_spec.proofs.SpecLemmas.{few_ops}
use Rattle.pattern_core.specs.Claim.{Claim, IsClaim, IsPatternOf}
use Rattle.pattern_core.specs.declared.pattern.Pattern.{Pattern}
use Rattle.list_lemmas.proofs.Lookups.{All-slice_get, Contains-slice_get}
use Rattle.loc_encode.specs.declared.slots.Slot.{Slot}
use Rattle.loc_encode.specs.declared.slots.Slot.TheVariants as slot
use Rattle.loc_encode.specs.Given.{IsGiven, IsPatternFor}
use Rattle.loc_encode.specs.Numbers.{slot_at}
use Rattle.loc_encode.specs.Parts.{IsTruthOver}
use Rattle.loc_encode.specs.SlotValues.{slot_value}
use Rattle.loc_encode.specs.Slots.{IsSlot}
use Rattle.loc_encode.specs.Standing.{StandsFor}
use Rattle.loc_encode.proofs.AssignLemmas.{stands-by-values, tabulate}
use Rattle.loc_encode.proofs.ClaimLemmas.{IsLimitedClaim, IsLimitedClaim-from_spec, IsSmall-slot}
use Rattle.loc_encode.proofs.DifferenceLemmas.{limits-by_pattern}
use Rattle.loc_encode.proofs.NumberLemmas.{same-slot, slot-number_small}

-- a slot is no memory
pub slot-plain : (c : Claim) (x : Slot) → IsSlot c x sort.Mem → ⊥
slot-plain c (slot.Kind line op) is = let e : sort.Mem ≡ sort.Bool = is.2 in absurd (cc)
slot-plain c (slot.Attr line op place) is = let e : sort.Mem ≡ sort.Bits is.1.1 = is.1.4 in absurd (cc)
slot-plain c (slot.Arg line place source) is = let e : sort.Mem ≡ sort.Bool = is.2 in absurd (cc)
slot-plain c (slot.Result place source) is = let e : sort.Mem ≡ sort.Bool = is.1 in absurd (cc)

-- and has one sort
slot-sort : (c : Claim) (x : Slot) (s t : Sort) → IsSlot c x s → IsSlot c x t → s ≡ t
slot-sort c (slot.Kind line op) s t a b = a.2 ∙ sym b.2
slot-sort c (slot.Attr line op place) s t a b =
    let o : Operation = a.1.0 in
    let q : Operation = b.1.0 in
    let ops : o ≡ q = same_Some o q (sym a.1.2.1 ∙ b.1.2.1) in
    let widths : a.1.1 ≡ b.1.1 =
    same_Some a.1.1 b.1.1 (sym a.1.3 ∙ ap (λ (x : Operation). slice_get x.attrs place) ops ∙ b.1.3) in
    a.1.4 ∙ ap (λ w. sort.Bits w) widths ∙ sym b.1.4
slot-sort c (slot.Arg line place source) s t a b = a.2 ∙ sym b.2
slot-sort c (slot.Result place source) s t a b = a.1 ∙ sym b.1

-- the operations of a claim are among at most 64
pub ops-below : (s : Spec) (place : ℕ) (ops : List ℕ) (c : Claim) → IsGiven s place ops → IsClaim s place ops c
    → (op : ℕ) → Contains c.ops op → op < 64
ops-below s place ops c given is op among =
    let at = Contains-slice_get ops op (subst (λ (xs : List ℕ). Contains xs op) is.of_ops among) in
    let within = All-slice_get (λ (o : ℕ). o < length s.ops) ops at.0 op given.there at.1 in
    omega (arith, within, few_ops s)

pub no-memory : (c : Claim) (table : Table) (at : TermId) → IsTruthOver c table at → (k : ℕ)
    → IsSubterm (Apply (op.Input k sort.Mem) End) (term_at table at) → ⊥
no-memory c table at is k below = let found = is.over k sort.Mem below in slot-plain c found.0 found.1

pub one-sort : (c : Claim) → IsLimitedClaim c → ((op : ℕ) → Contains c.ops op → op < 64)
    → (table : Table) (a b : TermId)
    → IsTruthOver c table a → IsTruthOver c table b → (k : ℕ) (s t : Sort)
    → IsSubterm (Apply (op.Input k s) End) (term_at table a) → IsSubterm (Apply (op.Input k t) End) (term_at table b)
    → s ≡ t
one-sort c limits there table a b over_a over_b k s t in_a in_b =
    let x = over_a.over k s in_a in
    let y = over_b.over k t in_b in
    let same : x.0 ≡ y.0 =
    same-slot x.0 y.0 (IsSmall-slot c limits there x.0 s x.1) (IsSmall-slot c limits there y.0 t y.1)
    (sym x.2 ∙ y.2) in
    slot-sort c y.0 s t (subst (λ (z : Slot). IsSlot c z s) same x.1) y.1

pub one-sort-given : (s : Spec) (place : ℕ) (ops : List ℕ) (c : Claim) → IsTable s.terms → length ops ≤ 6
    → IsGiven s place ops → IsClaim s place ops c → (table : Table) (a b : TermId)
    → IsTruthOver c table a → IsTruthOver c table b → (k : ℕ) (r t : Sort)
    → IsSubterm (Apply (op.Input k r) End) (term_at table a) → IsSubterm (Apply (op.Input k t) End) (term_at table b)
    → r ≡ t
one-sort-given s place ops c terms few given is =
    one-sort c (IsLimitedClaim-from_spec s place ops c terms few is) (ops-below s place ops c given is)

pub input-small : (s : Spec) (place : ℕ) (ops : List ℕ) (c : Claim) → IsTable s.terms → length ops ≤ 6
    → IsGiven s place ops → IsClaim s place ops c → (table : Table) (at : TermId) → IsTruthOver c table at
    → (k : ℕ) (r : Sort) → IsSubterm (Apply (op.Input k r) End) (term_at table at) → k < 1746
input-small s place ops c terms few given is table at over k r below =
    let x = over.over k r below in
    let limits = IsLimitedClaim-from_spec s place ops c terms few is in
    subst (λ n. n < 1746) (sym x.2)
    (slot-number_small x.0 (IsSmall-slot c limits (ops-below s place ops c given is) x.0 r x.1))

-- values that stand for a pattern
pub values-of : (s : Spec) (place : ℕ) (ops : List ℕ) (c : Claim) (p : Pattern) → IsTable s.terms → IsGiven s place ops
    → IsClaim s place ops c → IsPatternOf c p → (env : List Value) × StandsFor c env p
values-of s place ops c p table given is pattern =
    let limits = limits-by_pattern s place ops c p table is pattern in
    let found = tabulate (λ k. slot_value c.file p (slot_at k)) 1746 in
    (found.0, stands-by-values c limits (ops-below s place ops c given is) found.0 p pattern found.2)

-- the values of all slots that a pattern gives
pub assigned : (s : Spec) (place : ℕ) (ops : List ℕ) (p : Pattern) (items env : List Value) → IsTable s.terms
    → IsGiven s place ops → IsPatternFor s place ops p
    → ((k : ℕ) → k < 1746 → slice_get items k ≡ Some (slot_value (file s) p (slot_at k))) → env ≡ items
    → (c : Claim) → IsClaim s place ops c → StandsFor c env p
assigned s place ops p items env table given pattern values same c is =
    stands-by-values c (limits-by_pattern s place ops c p table is (pattern c is)) (ops-below s place ops c given is)
    env p
    (pattern c is)
    (λ k l. ap (λ (xs : List Value). slice_get xs k) same ∙ values k l
    ∙ ap (λ (f : File). Some (slot_value f p (slot_at k))) (sym is.of_file))
