-- Kept results stay right: the number of values of given sorts tells them, and a place tells operation and number.
use Rattle.std.proofs.Common.{◌≡◌, ℕ, zero, suc, ◌+◌, ◌-◌, ◌*◌, ◌^◌, ◌/◌}
use Rattle.std.proofs.Common.{◌%◌, ◌<◌, ◌≤◌, ◌⊎◌, inl, inr, Bool, true, false, List}
use Rattle.std.proofs.Common.{[], ◌∷◌, ◌++◌, length, map, drop, get_or, Option}
use Rattle.std.proofs.Common.{Some, None, refl, sym, ap, ◌∙◌, subst, arith}
use Rattle.std.proofs.Common.{slice_get, slice_set}
use Rattle.std.proofs.lemmas.Nat.{mod-mul-add, div-mul-add}
use Rattle.std.proofs.lemmas.List.{drop_all}
use Rattle.std.proofs.lemmas.Option.{same_Some}
use Rattle.bv_terms.specs.declared.value.Sort.{Sort}
use Rattle.bv_terms.specs.declared.value.Sort.TheVariants as sort
use Rattle.bv_terms.specs.declared.value.Value.{Value}
use Rattle.bv_terms.specs.declared.value.Value.TheVariants as val
use Rattle.bv_terms.specs.Term.{value}
use Rattle.bv_terms.specs.Table.{term_at}
use Rattle.bv_terms.specs.declared.op.TermId.{TermId}
use Rattle.bv_terms.specs.Sorts.{HaveSorts}
use Rattle.isel_spec.specs.declared.definitions.OpDef.{OpDef}
use Rattle.isel_spec.specs.declared.spec.Spec.{Spec}
use Rattle.isel_spec.specs.File.{scope}
use Rattle.pattern_core.specs.declared.known.TheConstants.{MOST_NUMBERS}
use Rattle.pattern_core.specs.Known.{width_of_value, number_of_value, number_of, IsPlaceOf, results_at, AreKnown}

-- ---- a number tells the values of given sorts

upper : (x a b n m : ℕ) → n < x → m < x → a * x + n ≡ b * x + m → a ≡ b
upper x a b n m l k e = sym (div-mul-add a x n l) ∙ ap (λ s. s / x) e ∙ div-mul-add b x m k

lower : (x a b n m : ℕ) → n < x → m < x → a * x + n ≡ b * x + m → n ≡ m
lower x a b n m l k e = sym (mod-mul-add a x n l) ∙ ap (λ s. s % x) e ∙ mod-mul-add b x m k

bit_below : (b : Bool) → number_of_value (val.Bool b) < 2
bit_below true = omega arith
bit_below false = omega arith

same_bit : (b c : Bool) → number_of_value (val.Bool b) ≡ number_of_value (val.Bool c) → b ≡ c
same_bit true true e = refl
same_bit false false e = refl
same_bit true false e = absurd (omega (arith, e))
same_bit false true e = absurd (omega (arith, e))

number_of-tells : (ss : List Sort) (us vs : List Value) → HaveSorts ss us → HaveSorts ss vs
    → number_of us ≡ number_of vs → us ≡ vs
number_of-tells [] [] [] h k e = refl
number_of-tells [] (u ∷ us) vs h k e = absurd h
number_of-tells [] [] (v ∷ vs) h k e = absurd k
number_of-tells (s ∷ ss) [] vs h k e = absurd h
number_of-tells (s ∷ ss) (u ∷ us) [] h k e = absurd k
number_of-tells (sort.Bool ∷ ss) (val.Bool b ∷ us) (val.Bool c ∷ vs) h k e =
    let rest = number_of-tells ss us vs h.1 k.1
    (upper 2 (number_of us) (number_of vs) (number_of_value (val.Bool b)) (number_of_value (val.Bool c)) (bit_below b)
    (bit_below c) e) in
    let first = same_bit b c
    (lower 2 (number_of us) (number_of vs) (number_of_value (val.Bool b)) (number_of_value (val.Bool c)) (bit_below b)
    (bit_below c) e) in
    ap (λ x. val.Bool x ∷ us) first ∙ ap (λ xs. val.Bool c ∷ xs) rest
number_of-tells (sort.Bits w ∷ ss) (val.Bits x n ∷ us) (val.Bits y m ∷ vs) h k e =
    let one : val.Bits x n ≡ val.Bits w n = ap (λ z. val.Bits z n) h.0.0 in
    let two : val.Bits y m ≡ val.Bits w m = ap (λ z. val.Bits z m) k.0.0 in
    let both : number_of us * 2 ^ w + n ≡ number_of vs * 2 ^ w + m =
    ap (λ z. number_of us * 2 ^ z + n) (sym h.0.0) ∙ e ∙ ap (λ z. number_of vs * 2 ^ z + m) k.0.0 in
    let rest = number_of-tells ss us vs h.1 k.1
    (upper (2 ^ w) (number_of us) (number_of vs) n m h.0.1 k.0.1 both) in
    let first = lower (2 ^ w) (number_of us) (number_of vs) n m h.0.1 k.0.1 both in
    ap (λ z. z ∷ us) (one ∙ ap (λ z. val.Bits w z) first ∙ sym two) ∙ ap (λ xs. val.Bits y m ∷ xs) rest
number_of-tells (sort.Bool ∷ ss) (val.Bits x n ∷ us) vs h k e = absurd h.0
number_of-tells (sort.Bool ∷ ss) us (val.Bits x n ∷ vs) h k e = absurd k.0
number_of-tells (sort.Bits w ∷ ss) (val.Bool b ∷ us) vs h k e = absurd h.0
number_of-tells (sort.Bits w ∷ ss) us (val.Bool b ∷ vs) h k e = absurd k.0
number_of-tells (sort.Mem ∷ ss) (u ∷ us) vs h k e = absurd h.0

-- the number of values from a place on
number_suc : (vs : List Value) (i : ℕ) (d : Value) → i < length vs
    → number_of (drop i vs) ≡ number_of (drop (suc i) vs) * 2 ^ width_of_value (get_or vs i d)
    + number_of_value (get_or vs i d)
number_suc [] i d l = absurd (omega (arith, l))
number_suc (v ∷ vs) zero d l = refl
number_suc (v ∷ vs) (suc i) d l = number_suc vs i d (omega (arith, l))

pub number_more : (vs : List Value) (i : ℕ) (d : Value) (above number : ℕ) → 0 < i → i ≤ length vs
    → above ≡ number_of (drop i vs)
    → number ≡ above * 2 ^ width_of_value (get_or vs (i - 1) d) + number_of_value (get_or vs (i - 1) d)
    → number ≡ number_of (drop (i - 1) vs)
number_more vs i d above number l k h e =
    let n : suc (i - 1) ≡ i = omega (arith, l) in
    let step = number_suc vs (i - 1) d (omega (arith, l, k)) in
    let same : number_of (drop (suc (i - 1)) vs) ≡ number_of (drop i vs) = ap (λ j. number_of (drop j vs)) n in
    let w = width_of_value (get_or vs (i - 1) d) in
    let x = number_of_value (get_or vs (i - 1) d) in
    e ∙ ap (λ a. a * 2 ^ w + x) (h ∙ sym same) ∙ sym step

pub number_start : (vs : List Value) (i : ℕ) → i ≡ length vs → 0 ≡ number_of (drop i vs)
number_start vs i e = ap number_of (sym (drop_all i vs (omega (arith, e))))

pub places : 0 < MOST_NUMBERS
places = omega arith

-- ---- results of an operation

pub results_of : (s : Spec) (k : ℕ) (name : List ℕ) (d : OpDef) (results : List TermId) (vs values : List Value)
    → slice_get s.ops k ≡ Some (name, d) → results ≡ d.results
    → values ≡ map (λ (at : TermId). value vs (term_at s.terms at)) results
    → (other : List ℕ) (c : OpDef) → slice_get s.ops k ≡ Some (other, c) → values ≡ results_at s.terms c vs
results_of s k name d results vs values e same is other c there =
    let pair : (name, d) ≡ (other, c) = same_Some (name, d) (other, c) (sym e ∙ there) in
    let one : results ≡ c.results = same ∙ ap (λ (x : List ℕ × OpDef). x.1.results) pair in
    is ∙ ap (λ (xs : List TermId). map (λ (at : TermId). value vs (term_at s.terms at)) xs) one

-- ---- what is kept

-- no place has anything in it
abbrev pub AreEmpty : List (Option (List Value)) → Type 0
AreEmpty [] = Unit {0}
AreEmpty (x ∷ xs) = (x ≡ None) × AreEmpty xs

pub AreEmpty-more : (xs more : List (Option (List Value))) → AreEmpty xs → more ≡ xs ++ None ∷ [] → AreEmpty more
AreEmpty-more xs more h e = subst AreEmpty (sym e) (grow xs h)
  where
    grow : (xs : List (Option (List Value))) → AreEmpty xs → AreEmpty (xs ++ None ∷ [])
    grow [] h = (refl, tt)
    grow (x ∷ xs) h = (h.0, grow xs h.1)

nothing_in : (known : List (Option (List Value))) (place : ℕ) (r : List Value) → AreEmpty known
    → slice_get known place ≡ Some (Some r) → ⊥
nothing_in [] place r h at = absurd (cc)
nothing_in (x ∷ xs) zero r h at =
    let none : Some x ≡ Some (Some r) = at in
    let same : x ≡ Some r = same_Some x (Some r) none in
    let no : None ≡ Some r = sym h.0 ∙ same in
    absurd (cc)
nothing_in (x ∷ xs) (suc place) r h at = nothing_in xs place r h.1 at

pub AreKnown-none : (s : Spec) (known : List (Option (List Value))) → AreEmpty known → AreKnown s known
AreKnown-none s known h = λ k place name d vs results there sorted is at.
    absurd (nothing_in known place results h at)

-- a place of a list in which one place was written
written_at : {A : Type 0} (xs : List A) (i j : ℕ) (y z : A) → slice_get (slice_set xs i y) j ≡ Some z
    → ((j ≡ i) × (z ≡ y)) ⊎ (slice_get xs j ≡ Some z)
written_at [] i j y z e = inr e
written_at (x ∷ xs) zero zero y z e = inl (refl, sym (same_Some y z e))
written_at (x ∷ xs) zero (suc j) y z e = inr e
written_at (x ∷ xs) (suc i) zero y z e = inr e
written_at (x ∷ xs) (suc i) (suc j) y z e = elim (written_at xs i j y z e) [
  | inl both ↦ inl (ap suc both.0, both.1)
  | inr other ↦ inr other
]

pub AreKnown-more : (s : Spec) (old new : List (Option (List Value))) (k place : ℕ) (vs results : List Value)
    → AreKnown s old → IsPlaceOf k vs place
    → ((name : List ℕ) (d : OpDef) → slice_get s.ops k ≡ Some (name, d) → HaveSorts (scope d) vs)
    → ((name : List ℕ) (d : OpDef) → slice_get s.ops k ≡ Some (name, d) → results ≡ results_at s.terms d vs)
    → (new ≡ old) ⊎ (new ≡ slice_set old place (Some results)) → AreKnown s new
AreKnown-more s old new k place vs results h is sorted right (inl same) =
    subst (AreKnown s) (sym same) h
AreKnown-more s old new k place vs results h is sorted right (inr set) =
    λ k2 place2 name d us found there fit is2 at.
    elim (written_at old place place2 (Some results) (Some found)
    (subst (λ xs. slice_get xs place2 ≡ Some (Some found)) set at)) [
      | inl both ↦ (let places : k2 * MOST_NUMBERS + number_of us ≡ k * MOST_NUMBERS + number_of vs =
          sym is2.0 ∙ both.0 ∙ is.0 in
          let same_operation : k2 ≡ k =
          upper MOST_NUMBERS k2 k (number_of us) (number_of vs) is2.1 is.1 places in
          let same_number : number_of us ≡ number_of vs =
          lower MOST_NUMBERS k2 k (number_of us) (number_of vs) is2.1 is.1 places in
          let here : slice_get s.ops k ≡ Some (name, d) =
          subst (λ j. slice_get s.ops j ≡ Some (name, d)) same_operation there in
          let same_values : us ≡ vs =
          number_of-tells (scope d) us vs fit (sorted name d here) same_number in
          same_Some found results both.1
          ∙ right name d here ∙ ap (results_at s.terms d) (sym same_values))
      | inr other ↦ h k2 place2 name d us found there fit is2 other
    ]
