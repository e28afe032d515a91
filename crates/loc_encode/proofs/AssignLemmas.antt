-- The values of all slots that a pattern gives stand for it.
use Rattle.std.proofs.Common.{◌≡◌, ◌∙◌, ◌<◌, ◌≤◌, ◌^◌, ℕ, List, Option, Some, None, Bool, true, false, refl, sym, ap}
use Rattle.std.proofs.Common.{subst, cond}
use Rattle.std.proofs.Common.{◌+◌, length, get_or, slice_get, arith, Contains, ⊎_elim, ◌⊎◌, inl, inr, [], ◌∷◌, ◌++◌}
use Rattle.std.proofs.Common.{zero, suc}
use Rattle.std.specs.Prelude.{nat_eq, unwrap_or}
use Rattle.std.proofs.lemmas.Bool.{cases_lt, eqb-true, eq-eqb}
use Rattle.std.proofs.lemmas.List.{length-append, length-map}
use Rattle.std.proofs.lemmas.Option.{slice_get_past, slice_get-get_or, same_Some, slice_get_within}
use Rattle.std.proofs.lemmas.Option.{get_or_from_slice_get, unwrap_or-slice_get}
use Rattle.std.proofs.lemmas.Nat.{pow_pos}
use Rattle.bv_terms.specs.declared.op.TermId.{TermId}
use Rattle.bv_terms.specs.declared.value.Sort.{Sort}
use Rattle.bv_terms.specs.declared.value.Sort.TheVariants as sort
use Rattle.bv_terms.specs.declared.value.Value.{Value}
use Rattle.bv_terms.specs.declared.value.Value.TheVariants as val
use Rattle.bv_terms.specs.Sorts.{HasSort}
use Rattle.bv_terms.specs.Table.{Table, term_at}
use Rattle.bv_terms.specs.WellSorted.{InputsFit}
use Rattle.isel_spec.specs.declared.definitions.OpDef.{OpDef}
use Rattle.isel_spec.specs.declared.spec.Spec.{Spec}
use Rattle.isel_spec.specs.File.{File, Operation, operation}
use Rattle.isel_spec.specs.Spec.{file}
use Rattle.pattern_core.specs.Claim.{Claim, IsPatternOf}
use Rattle.pattern_core.specs.declared.pattern.Node.{Node}
use Rattle.pattern_core.specs.declared.pattern.Pattern.{Pattern}
use Rattle.pattern_core.specs.Pattern.{Pairwise, IsFitting}
use Rattle.pattern_core.proofs.FitLemmas.{Pairwise-at}
use Rattle.list_lemmas.proofs.Lookups.{slice_get-append_left, slice_get-at_end}
use Rattle.loc_encode.specs.declared.slots.Slot.{Slot}
use Rattle.loc_encode.specs.declared.slots.Slot.TheVariants as slot
use Rattle.loc_encode.specs.Slots.{slot_number, IsSlot, IsOperationOf}
use Rattle.loc_encode.specs.Numbers.{IsSmall, slot_at}
use Rattle.loc_encode.specs.Parts.{IsTruthOver}
use Rattle.loc_encode.specs.Standing.{Fits, StandsFor, is_chosen}
use Rattle.loc_encode.specs.SlotValues.{attr_number, attr_value, width_value, slot_value}
use Rattle.loc_encode.proofs.ClaimLemmas.{IsLimitedClaim, IsSmall-slot}
use Rattle.loc_encode.proofs.NumberLemmas.{slot_at-number, slot-number_small}
use Rattle.loc_encode.proofs.PatternLemmas.{size-of}
use Rattle.loc_encode.proofs.DifferenceLemmas.{operation-of}
use Rattle.loc_encode.proofs.TermFacts.{inputs-fit}

-- an attribute's number is below 2 to its width
number-below : (c : Claim) (p : Pattern) → IsPatternOf c p → (line op place w : ℕ) (o : Operation)
    → slice_get c.file.ops op ≡ Some o → slice_get o.attrs place ≡ Some w
    → attr_number (slice_get p.nodes line) op place < 2 ^ w
number-below c p is line op place w o find width = by (slice_get p.nodes line) refl
  where
    none : 0 < 2 ^ w
    none = pow_pos w

    own : (n : Node) → slice_get p.nodes line ≡ Some n → n.op ≡ op → unwrap_or (slice_get n.attrs place) 0 < 2 ^ w
    own n at same =
        let fit : IsFitting c.file c.goal p.nodes line n = is.well_formed.nodes line n at in
        let same_op : fit.operation ≡ o = same_Some fit.operation o
        (sym fit.in_file ∙ ap (slice_get c.file.ops) same ∙ find)
        in
        let attrs : Pairwise (λ v a. a < 2 ^ v) o.attrs n.attrs =
        subst (λ (q : Operation). Pairwise (λ v a. a < 2 ^ v) q.attrs n.attrs) same_op fit.attrs in
        let here : get_or n.attrs place 0 < 2 ^ get_or o.attrs place 0 =
        Pairwise-at (λ v a. a < 2 ^ v) o.attrs n.attrs place 0 0 (slice_get_within o.attrs place w width) attrs in
        let wide : get_or o.attrs place 0 ≡ w = get_or_from_slice_get o.attrs place w 0 width in
        subst (λ a. a < 2 ^ w) (sym (unwrap_or-slice_get n.attrs place 0))
        (subst (λ v. get_or n.attrs place 0 < 2 ^ v) wide here)

    of : (n : Node) → slice_get p.nodes line ≡ Some n → (b : Bool) → nat_eq n.op op ≡ b
        → cond b (unwrap_or (slice_get n.attrs place) 0) 0 < 2 ^ w
    of n at true e = own n at (eqb-true n.op op e)
    of n at false e = none

    by : (m : Option Node) → slice_get p.nodes line ≡ m → attr_number m op place < 2 ^ w
    by None e = none
    by (Some n) e = of n e (nat_eq n.op op) refl

-- the value of a slot is of its sort
value-sorted : (c : Claim) (p : Pattern) → IsPatternOf c p → (x : Slot) (s : Sort) → IsSlot c x s
    → HasSort s (slot_value c.file p x)
value-sorted c p is (slot.Kind line op) s at =
    subst (λ (t : Sort). HasSort t (slot_value c.file p (slot.Kind line op))) (sym at.2) tt
value-sorted c p is (slot.Attr line op place) s at =
    let o : Operation = at.1.0 in
    let w : ℕ = at.1.1 in
    let find : slice_get c.file.ops op ≡ Some o = at.1.2.1 in
    let n = attr_number (slice_get p.nodes line) op place in
    let value : attr_value (slice_get c.file.ops op) (slice_get p.nodes line) op place ≡ val.Bits w n =
    ap (λ (q : Option Operation). attr_value q (slice_get p.nodes line) op place) find
    ∙ ap (λ v. width_value v n) at.1.3 in
    let sorted : HasSort (sort.Bits w) (val.Bits w n) = (refl, number-below c p is line op place w o find at.1.3) in
    subst (λ (t : Sort). HasSort t (slot_value c.file p (slot.Attr line op place))) (sym at.1.4)
    (subst (HasSort (sort.Bits w)) (sym value) sorted)
value-sorted c p is (slot.Arg line place source) s at =
    subst (λ (t : Sort). HasSort t (slot_value c.file p (slot.Arg line place source))) (sym at.2) tt
value-sorted c p is (slot.Result place source) s at =
    subst (λ (t : Sort). HasSort t (slot_value c.file p (slot.Result place source))) (sym at.1) tt

-- values that are those of all slots stand for the pattern
pub stands-by-values : (c : Claim) → IsLimitedClaim c → ((op : ℕ) → Contains c.ops op → op < 64) → (env : List Value)
    (p : Pattern) → IsPatternOf c p
    → ((k : ℕ) → k < 1746 → slice_get env k ≡ Some (slot_value c.file p (slot_at k))) → StandsFor c env p
stands-by-values c limits there env p is values = record {
  fits = λ x s at. (slot_value c.file p x, at-slot x s at, value-sorted c p is x s at);
  size = size-of c p is;
  choices = choices;
  attrs = attrs;
}
  where
    at-slot : (x : Slot) (s : Sort) → IsSlot c x s → slice_get env (slot_number x) ≡ Some (slot_value c.file p x)
    at-slot x s at =
        let small : IsSmall x = IsSmall-slot c limits there x s at in
        values (slot_number x) (slot-number_small x small)
        ∙ ap (λ (y : Slot). Some (slot_value c.file p y)) (slot_at-number x small)

    choices : (x : Slot) → IsSlot c x sort.Bool
        → slice_get env (slot_number x) ≡ Some (val.Bool (is_chosen p x))
    choices (slot.Kind line op) at = at-slot (slot.Kind line op) sort.Bool at
    choices (slot.Attr line op place) at = let e : sort.Bool ≡ sort.Bits at.1.1 = at.1.4 in absurd (cc)
    choices (slot.Arg line place source) at = at-slot (slot.Arg line place source) sort.Bool at
    choices (slot.Result place source) at = at-slot (slot.Result place source) sort.Bool at

    attrs : (k place w a : ℕ) (n : Node) (o : Operation) → slice_get p.nodes k ≡ Some n → IsOperationOf c n.op o
        → slice_get o.attrs place ≡ Some w → slice_get n.attrs place ≡ Some a
        → slice_get env (slot_number (slot.Attr k n.op place)) ≡ Some (val.Bits w a)
    attrs k place w a n o at find width number =
        let line : k < length c.ops = omega (arith, slice_get_within p.nodes k n at, size-of c p is) in
        at-slot (slot.Attr k n.op place) (sort.Bits w) (line, (o, w, find, width, refl))
        ∙ ap (λ (q : Option Operation). Some (attr_value q (slice_get p.nodes k) n.op place)) find.1
        ∙ ap (λ (m : Option Node). Some (attr_value (Some o) m n.op place)) at
        ∙ ap (λ v. Some (width_value v (attr_number (Some n) n.op place))) width
        ∙ ap (λ b. Some (val.Bits w (cond b (unwrap_or (slice_get n.attrs place) 0) 0))) (eq-eqb n.op n.op refl)
        ∙ ap (λ v. Some (val.Bits w (unwrap_or v 0))) number

-- where each slot has a value of its sort, the inputs of a term over slots fit
pub fits-term : (c : Claim) (env : List Value) (table : Table) (at : TermId) → IsTruthOver c table at → Fits c env
    → InputsFit env (term_at table at)
fits-term c env table at is fits =
    inputs-fit env table.pointer (term_at table at) sort.Bool is.truth (λ k s below.
    let x = is.over k s below in
    let found = fits x.0 s x.1 in
    (found.0, ap (slice_get env) x.2 ∙ found.1, found.2))

-- a list of so many elements, each by its place
pub tabulate : {A : Type 0} (f : ℕ → A) (n : ℕ)
    → (xs : List A) × (length xs ≡ n) × ((k : ℕ) → k < n → slice_get xs k ≡ Some (f k))
tabulate f zero = ([], refl, λ k l. absurd (omega (arith, l)))
tabulate f (suc n) =
    let before = tabulate f n in (
      before.0 ++ f n ∷ [],
      omega (arith, length-append before.0 (f n ∷ []), before.1),
      λ k l.
          ⊎_elim (λ less.
          slice_get-append_left before.0 (f n ∷ []) k (omega (arith, less, before.1)) ∙ before.2 k less)
          (λ last. slice_get-at_end before.0 (f n) [] k (omega (arith, last, before.1)) ∙ ap (λ m. Some (f m))
          (sym last))
          (split k n l),
    )
  where
    split : (j m : ℕ) → j < suc m → (j < m) ⊎ (j ≡ m)
    split j m l = elim (cases_lt j m) [ inl less ↦ inl less | inr more ↦ inr (omega (arith, l, more)) ]

split-more : (j m : ℕ) → j < m + 1 → (j < m) ⊎ (j ≡ m)
split-more j m l = elim (cases_lt j m) [ inl less ↦ inl less | inr more ↦ inr (omega (arith, l, more)) ]

-- the value of one slot more
pub values-more : (f : File) (p : Pattern) (xs ys : List Value) (n : ℕ) (v : Value) → ys ≡ xs ++ v ∷ []
    → v ≡ slot_value f p (slot_at n)
    → (length xs ≡ n) × ((k : ℕ) → k < n → slice_get xs k ≡ Some (slot_value f p (slot_at k)))
    → (length ys ≡ n + 1) × ((k : ℕ) → k < n + 1 → slice_get ys k ≡ Some (slot_value f p (slot_at k)))
values-more f p xs ys n v e is before = (
  let long = length-append xs (v ∷ []) in
      let count = ap length e in
      let was = before.0 in
      omega (arith, long, count, was),
  λ k l.
      ap (λ zs. slice_get zs k) e
      ∙ ⊎_elim (λ less.
      let was = before.0 in
      slice_get-append_left xs (v ∷ []) k (omega (arith, less, was)) ∙ before.1 k less)
      (λ last.
      let was = before.0 in
      slice_get-at_end xs v [] k (omega (arith, last, was))
      ∙ ap (λ w. Some w) (is ∙ ap (λ m. slot_value f p (slot_at m)) (sym last)))
      (split-more k n l),
)

-- ---- an attribute's value, by the file

pub attr-none : (s : Spec) (m : Option Node) (k op place : ℕ) → k ≡ op → length s.ops ≤ k
    → val.Bool false ≡ attr_value (slice_get (file s).ops op) m op place
attr-none s m k op place same past =
    let count : length (file s).ops ≡ length s.ops = length-map s.ops (operation s.terms) in
    ap (λ (o : Option Operation). attr_value o m op place)
    (sym (slice_get_past (file s).ops op (omega (arith, same, past, count))))

pub attr-past : (s : Spec) (m : Option Node) (k op j place : ℕ) (name : List ℕ) (d : OpDef) (widths : List ℕ) → k ≡ op
    → slice_get s.ops k ≡ Some (name, d) → widths ≡ d.attrs → j ≡ place → length widths ≤ j
    → val.Bool false ≡ attr_value (slice_get (file s).ops op) m op place
attr-past s m k op j place name d widths same e are here past =
    ap (λ v. width_value v (attr_number m op place))
    (sym (slice_get_past d.attrs place (omega (arith, here, past, ap length are))))
    ∙ ap (λ (o : Option Operation). attr_value o m op place) (sym (operation-of s k op name d same e))

pub attr-there : (s : Spec) (m : Option Node) (k op j place number : ℕ) (name : List ℕ) (d : OpDef) (widths : List ℕ)
    → k ≡ op → slice_get s.ops k ≡ Some (name, d) → widths ≡ d.attrs → j ≡ place → j < length widths
    → number ≡ attr_number m op place
    → val.Bits (get_or widths j 0) number ≡ attr_value (slice_get (file s).ops op) m op place
attr-there s m k op j place number name d widths same e are here within is =
    let at : slice_get d.attrs place ≡ Some (get_or widths j 0) =
    ap (λ (xs : List ℕ). slice_get xs place) (sym are) ∙ ap (slice_get widths) (sym here)
    ∙ slice_get-get_or widths j 0 within in
    ap (λ n. val.Bits (get_or widths j 0) n) is ∙ ap (λ v. width_value v (attr_number m op place)) (sym at)
    ∙ ap (λ (o : Option Operation). attr_value o m op place) (sym (operation-of s k op name d same e))
