-- Lists of slots of a claim.
use Rattle.std.proofs.Common.{◌≡◌, ℕ, ◌<◌, ◌≤◌, List, [], ◌∷◌, map, refl, inl, inr, subst, arith}
use Rattle.std.proofs.Common.{All, length}
use Rattle.std.proofs.Common.{get_or, Contains}
use Rattle.std.specs.List.{AllByRecursion, range_with_len}
use Rattle.std.proofs.lemmas.List.Elements.{All-from_recursion}
use Rattle.bv_terms.specs.declared.value.Sort.TheVariants as sort
use Rattle.pattern_core.specs.Claim.{Claim}
use Rattle.pattern_core.specs.Walk.{IsBefore}
use Rattle.pattern_core.specs.declared.pattern.Src.{Src}
use Rattle.pattern_core.specs.declared.pattern.Src.TheVariants.{Input, Out}
use Rattle.list_lemmas.proofs.Members.{In, In_of_map, In_of_range, In-get_or, Contains-from_In}
use Rattle.loc_encode.specs.declared.slots.Slot.{Slot}
use Rattle.loc_encode.specs.declared.slots.Slot.TheVariants as slot
use Rattle.loc_encode.specs.Slots.{IsSlot}
use Rattle.loc_encode.specs.Layout.{kinds, size, slot_at, choices}
use Rattle.loc_encode.specs.Shape.{kind_slots}
use Rattle.loc_encode.proofs.LayoutLemmas.{kind-slot, named-slot, choice-named, named-before}

pub All-from_In : {X : Type 0} (P : X → Type 0) (xs : List X) → ((x : X) → In xs x → P x) → All P xs
All-from_In {X} P xs h = All-from_recursion P xs (each xs h)
  where
    each : (xs : List X) → ((x : X) → In xs x → P x) → AllByRecursion P xs
    each [] h = tt
    each (x ∷ xs) h = (h x (inl refl), each xs (λ y i. h y (inr i)))

pub choice-slot : (c : Claim) (row place : ℕ) (s : Src) → row ≤ size c → In (choices c row place) s
    → IsSlot c (slot_at c row place s) sort.Bool
choice-slot c row place s l i = named-slot c row place s l (choice-named c row place s i)

pub row-slots : (c : Claim) (row place : ℕ) (xs : List Slot) → row ≤ size c
    → xs ≡ map (slot_at c row place) (choices c row place) → All (λ x. IsSlot c x sort.Bool) xs
row-slots c row place xs l is = All-from_In (λ x. IsSlot c x sort.Bool) xs (λ x i.
    let w = In_of_map (slot_at c row place) (choices c row place) x (subst (λ ys. In ys x) is i) in
    subst (λ y. IsSlot c y sort.Bool) w.2 (choice-slot c row place w.0 l w.1))

pub line-slots : (c : Claim) (line : ℕ) (xs : List Slot) → line < size c → xs ≡ map (slot.Kind line) (kinds c)
    → All (λ x. IsSlot c x sort.Bool) xs
line-slots c line xs l is = All-from_In (λ x. IsSlot c x sort.Bool) xs (λ x i.
    let w = In_of_map (slot.Kind line) (kinds c) x (subst (λ ys. In ys x) is i) in
    subst (λ y. IsSlot c y sort.Bool) w.2 (kind-slot c line w.0 l w.1))

pub kind-slots : (c : Claim) (op : ℕ) (xs : List Slot) → In (kinds c) op → xs ≡ kind_slots c op
    → All (λ x. IsSlot c x sort.Bool) xs
kind-slots c op xs k is = All-from_In (λ x. IsSlot c x sort.Bool) xs (λ x i.
    let w = In_of_map (λ line. slot.Kind line op) (range_with_len 0 (size c)) x (subst (λ ys. In ys x) is i) in
    let l = In_of_range 0 (size c) w.0 w.1 in
    subst (λ y. IsSlot c y sort.Bool) w.2 (kind-slot c w.0 op (omega (arith, l.1)) k))

-- a choice names no node from the row on
pub choice-before : (c : Claim) (row place k : ℕ) (s : Src) → row ≤ k → In (choices c row place) s → IsBefore k s
choice-before c row place k (Input i) l h = tt
choice-before c row place k (Out node result) l h =
    let before = named-before c row place node result (choice-named c row place (Out node result) h) in
    omega (arith, before, l)

-- the element in a place of a list of numbers
pub element : (xs : List ℕ) (k d : ℕ) → k < length xs → In xs (get_or xs k d)
element xs k d l = In-get_or xs k d l

-- so in a list that is equal
pub contains-at : {A : Type 0} (xs ys : List A) (k : ℕ) (d : A) → k < length xs → xs ≡ ys → Contains ys (get_or xs k d)
contains-at xs ys k d l same = Contains-from_In ys (get_or xs k d)
    (subst (λ zs. In zs (get_or xs k d)) same (In-get_or xs k d l))
