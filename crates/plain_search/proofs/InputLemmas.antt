-- The numbered inputs of some sorts are all the values of these sorts, and the number of inputs leads back to them.
use Rattle.std.proofs.Common.{◌≡◌, ℕ, ◌+◌, ◌*◌, ◌/◌, ◌%◌, ◌^◌, ◌<◌, true, false, List, [], ◌∷◌}
use Rattle.std.proofs.Common.{inl, inr, refl, sym, ap, subst, ◌∙◌, arith, sum_by}
use Rattle.std.proofs.lemmas.Nat.{pow_pos, pow-add, mod_below, mul-add-lt, div-mul-add, mod-mul-add}
use Rattle.std.proofs.lemmas.List.Sums.{sum_by-cons}
use Rattle.bv_terms.specs.declared.value.Sort.{Sort}
use Rattle.bv_terms.specs.declared.value.Sort.TheVariants as sort
use Rattle.bv_terms.specs.declared.value.Value.{Value}
use Rattle.bv_terms.specs.declared.value.Value.TheVariants as val
use Rattle.bv_terms.specs.Sorts.{HasSort, HaveSorts, width_of}
use Rattle.plain_search.specs.Inputs.{value_numbered, inputs_numbered}
use Rattle.list_lemmas.proofs.Members.{In}

HasSort-numbered : (s : Sort) (n : ℕ) → (s ≡ sort.Mem → ⊥) → HasSort s (value_numbered s (n % 2 ^ width_of s))
HasSort-numbered sort.Bool n h = tt
HasSort-numbered (sort.Bits w) n h = (refl, mod_below n (2 ^ w) (pow_pos w))
HasSort-numbered sort.Mem n h = absurd (h refl)

-- none of the sorts is a memory
pub HaveSorts-numbered : (ss : List Sort) (n : ℕ) → (In ss sort.Mem → ⊥) → HaveSorts ss (inputs_numbered ss n)
HaveSorts-numbered [] n h = tt
HaveSorts-numbered (s ∷ ss) n h =
    (HasSort-numbered s n (λ e. h (inl e)), HaveSorts-numbered ss (n / 2 ^ width_of s) (λ i. h (inr i)))

-- ---- the number of inputs

-- the number of a value among those of its sort
abbrev pub value_number : Value → ℕ
value_number (val.Bool true) = 1
value_number (val.Bool false) = 0
value_number (val.Bits w n) = n

-- the number of inputs of these sorts
abbrev pub inputs_number : List Sort → List Value → ℕ
inputs_number (s ∷ ss) (v ∷ vs) = inputs_number ss vs * 2 ^ width_of s + value_number v
inputs_number _ _ = 0

value_number_lt : (s : Sort) (v : Value) → HasSort s v → value_number v < 2 ^ width_of s
value_number_lt sort.Bool (val.Bool true) h = omega arith
value_number_lt sort.Bool (val.Bool false) h = omega arith
value_number_lt sort.Bool (val.Bits w n) h = absurd h
value_number_lt (sort.Bits w) (val.Bits v n) h = h.1
value_number_lt (sort.Bits w) (val.Bool b) h = absurd h
value_number_lt sort.Mem v h = absurd h

value_numbered-value_number : (s : Sort) (v : Value) → HasSort s v → value_numbered s (value_number v) ≡ v
value_numbered-value_number sort.Bool (val.Bool true) h = refl
value_numbered-value_number sort.Bool (val.Bool false) h = refl
value_numbered-value_number sort.Bool (val.Bits w n) h = absurd h
value_numbered-value_number (sort.Bits w) (val.Bits v n) h = ap (λ u. val.Bits u n) (sym h.0)
value_numbered-value_number (sort.Bits w) (val.Bool b) h = absurd h
value_numbered-value_number sort.Mem v h = absurd h

pub inputs_number_lt : (ss : List Sort) (vs : List Value) → HaveSorts ss vs
    → inputs_number ss vs < 2 ^ sum_by width_of ss
inputs_number_lt [] [] h = omega arith
inputs_number_lt [] (v ∷ vs) h = absurd h
inputs_number_lt (s ∷ ss) [] h = absurd h
inputs_number_lt (s ∷ ss) (v ∷ vs) h =
    let w : ℕ = 2 ^ width_of s in
    let rest = inputs_number ss vs in
    let size : 2 ^ sum_by width_of (s ∷ ss) ≡ w * 2 ^ sum_by width_of ss =
    ap (λ k. 2 ^ k) (sum_by-cons width_of s ss) ∙ pow-add 2 (width_of s) (sum_by width_of ss) in
    subst (λ m. rest * w + value_number v < m) (sym size)
    (mul-add-lt rest w (value_number v) (2 ^ sum_by width_of ss) (inputs_number_lt ss vs h.1) (value_number_lt s v h.0))

-- the number of inputs leads back to them
pub inputs_numbered-number : (ss : List Sort) (vs : List Value) → HaveSorts ss vs
    → inputs_numbered ss (inputs_number ss vs) ≡ vs
inputs_numbered-number [] [] h = refl
inputs_numbered-number [] (v ∷ vs) h = absurd h
inputs_numbered-number (s ∷ ss) [] h = absurd h
inputs_numbered-number (s ∷ ss) (v ∷ vs) h =
    let w : ℕ = 2 ^ width_of s in
    let d : ℕ = value_number v in
    let rest : ℕ = inputs_number ss vs in
    let below : d < w = value_number_lt s v h.0 in
    let first : value_numbered s ((rest * w + d) % w) ≡ v =
    ap (value_numbered s) (mod-mul-add rest w d below) ∙ value_numbered-value_number s v h.0 in
    let others : inputs_numbered ss ((rest * w + d) / w) ≡ vs =
    ap (inputs_numbered ss) (div-mul-add rest w d below) ∙ inputs_numbered-number ss vs h.1 in
    λ i. first i ∷ others i

-- one of the numbered inputs
abbrev IsNumbered : List Sort → List Value → Type 0
IsNumbered ss vs = (n : ℕ) × (n < 2 ^ sum_by width_of ss) × (inputs_numbered ss n ≡ vs)

pub IsNumbered-from_sorts : (ss : List Sort) (vs : List Value) → HaveSorts ss vs → IsNumbered ss vs
IsNumbered-from_sorts ss vs h = (inputs_number ss vs, inputs_number_lt ss vs h, inputs_numbered-number ss vs h)
