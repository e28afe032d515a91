-- Choices that have the shape are those of a pattern of the claim, which is read off them.
use Rattle.std.proofs.Common.{◌≡◌, ℕ, zero, suc, ◌+◌, ◌-◌, ◌^◌, ◌<◌, ◌≤◌, inl, inr, ⊎_elim, Bool, true, false, not}
use Rattle.std.proofs.Common.{◌&&◌, ◌||◌, cond, List, [], ◌∷◌, length, map, slice_get, Option, Some, None, option_map}
use Rattle.std.proofs.Common.{option_and_then, refl, sym, ap, ◌∙◌, subst, arith, Contains}
use Rattle.std.specs.Prelude.{nat_eq, nat_lt, count_by}
use Rattle.std.specs.List.{list_any, range_with_len}
use Rattle.std.proofs.lemmas.Bool.{false≢true, and_parts, cases_lt}
use Rattle.std.proofs.lemmas.List.FromFn.{length-map-range_with_len}
use Rattle.std.proofs.lemmas.Option.{same_Some, slice_get_within}
use Rattle.bv_terms.specs.declared.value.Sort.{Sort}
use Rattle.bv_terms.specs.declared.value.Sort.TheVariants as sort
use Rattle.bv_terms.specs.declared.value.Value.{Value}
use Rattle.bv_terms.specs.declared.value.Value.TheVariants as val
use Rattle.bv_terms.specs.Sorts.{HasSort}
use Rattle.bv_terms.specs.WellSorted.{sort_of}
use Rattle.isel_spec.specs.File.{Operation}
use Rattle.pattern_core.specs.Claim.{Claim, IsPatternOf}
use Rattle.pattern_core.specs.Order.{multiset}
use Rattle.pattern_core.specs.Pattern.{source_sort, operation_sort, same_source, args_of, IsUsed, Pairwise, IsFitting}
use Rattle.pattern_core.specs.declared.pattern.Node.{Node}
use Rattle.pattern_core.specs.declared.pattern.Pattern.{Pattern}
use Rattle.pattern_core.specs.declared.pattern.Src.{Src}
use Rattle.pattern_core.specs.declared.pattern.Src.TheVariants.{Input, Out}
use Rattle.list_lemmas.proofs.Bools.{true-or-false, same_test}
use Rattle.list_lemmas.proofs.Lookups.{Contains-from_slice_get, some_at}
use Rattle.list_lemmas.proofs.Members.{In, list_all_in, In-from_Contains, Contains-from_In}
use Rattle.loc_encode.specs.declared.slots.Slot.{Slot}
use Rattle.loc_encode.specs.declared.slots.Slot.TheVariants as slot
use Rattle.loc_encode.specs.Slots.{slot_number, IsSlot, IsSourceAt, IsOperationOf}
use Rattle.loc_encode.specs.Standing.{Fits, is_source, is_op, arg_at, is_chosen, StandsFor}
use Rattle.loc_encode.specs.Tests.{is_true, chosen}
use Rattle.loc_encode.specs.Layout.{kinds, size, arg_sort, wanted_sort, may_name, slot_at, choices}
use Rattle.loc_encode.specs.Layout.{row_slots}
use Rattle.loc_encode.specs.Shape.{are_chosen, have_kinds, kind_slots, are_used_up, has_sort, have_sort, has_source}
use Rattle.loc_encode.specs.Shape.{has_argument, is_filled, is_row_filled, are_filled, names_source, names_node}
use Rattle.loc_encode.specs.Shape.{row_names, is_used, are_used, are_followed, has_shape}
use Rattle.loc_encode.specs.Reading.{kind_at, source_in, number_in, sorts_in, widths_in, attr_in}
use Rattle.loc_encode.specs.Reading.{node_at, pattern_of}
use Rattle.loc_encode.proofs.TallyLemmas.{IsOnly, none-passes, none-counted, count-map, same_number, equal_test}
use Rattle.loc_encode.proofs.TallyLemmas.{first_true-only, NeverFalls, NeverFalls-put, same-counts, any-in}
use Rattle.loc_encode.proofs.LayoutLemmas.{found-any, there-kind, kind-there, at-line, at-end, choice-named}
use Rattle.loc_encode.proofs.LayoutLemmas.{named-before}
use Rattle.loc_encode.proofs.LayoutLemmas.{IsSmallBefore, named-choice, arg-named, result-named}
use Rattle.loc_encode.proofs.ReadLemmas.{all_below-at, any_below-found, IsBounded, IsRead, HasKinds, row_source}
use Rattle.loc_encode.proofs.ReadLemmas.{names-found, has_sort-found, count-multiset, same_source-true}
use Rattle.loc_encode.proofs.ReadLemmas.{same_source-itself}
use Rattle.loc_encode.proofs.CompleteLemmas.{lines-of}

-- ---- lists by the places of others

range-later : (a n : ℕ) → range_with_len (a + 1) n ≡ map suc (range_with_len a n)
range-later a zero = refl
range-later a (suc n) =
    let first : a + 1 ≡ suc a = omega arith in
    let rest = range-later (a + 1) n in
    λ i. first i ∷ rest i

map-suc : {B : Type 0} (f : ℕ → B) (ks : List ℕ) → map f (map suc ks) ≡ map (λ k. f (suc k)) ks
map-suc f [] = refl
map-suc f (k ∷ ks) = ap (λ xs. f (suc k) ∷ xs) (map-suc f ks)

later : {B : Type 0} (f : ℕ → B) (n : ℕ) → map f (range_with_len 1 n) ≡ map (λ k. f (suc k)) (range_with_len 0 n)
later f n = ap (map f) (range-later 0 n) ∙ map-suc f (range_with_len 0 n)

-- as many as another list has
pub made-at : {A B : Type 0} (f : ℕ → B) (xs : List A) (k : ℕ)
    → slice_get (map f (range_with_len 0 (length xs))) k ≡ option_map (λ x. f k) (slice_get xs k)
made-at f [] k = refl
made-at f (x ∷ xs) zero = refl
made-at f (x ∷ xs) (suc k) = ap (λ ys. slice_get ys k) (later f (length xs)) ∙ made-at (λ k. f (suc k)) xs k

pub made-pairs : {A B : Type 0} (R : A → B → Type 0) (f : ℕ → B) (xs : List A)
    → ((k : ℕ) (x : A) → slice_get xs k ≡ Some x → R x (f k)) → Pairwise R xs (map f (range_with_len 0 (length xs)))
made-pairs R f [] h = tt
made-pairs R f (x ∷ xs) h = (
  h zero x refl,
  subst (Pairwise R xs) (sym (later f (length xs)))
      (made-pairs R (λ k. f (suc k)) xs (λ k y e. h (suc k) y e)),
)

pub made-maps : {A B C : Type 0} (F : B → C) (G : A → C) (f : ℕ → B) (xs : List A)
    → ((k : ℕ) (x : A) → slice_get xs k ≡ Some x → F (f k) ≡ G x)
    → map F (map f (range_with_len 0 (length xs))) ≡ map G xs
made-maps F G f [] h = refl
made-maps F G f (x ∷ xs) h =
    let first = h zero x refl in
    let rest = ap (map F) (later f (length xs)) ∙ made-maps F G (λ k. f (suc k)) xs (λ k y e. h (suc k) y e) in
    λ i. first i ∷ rest i

-- ---- what the shape says

pub record IsShaped (c : Claim) (g : Slot → Bool) : Type 0 where
  pub kind : (line : ℕ) → line < size c → IsOnly (λ op. g (slot.Kind line op)) (kinds c) (kind_at c g line)
  pub counts : (op : ℕ) → In (kinds c) op → count_by g (kind_slots c op) ≡ count_by (nat_eq op) c.ops
  pub arg : (line place : ℕ) → line < size c → place < 4
      → has_source c g line place (arg_sort c (kind_at c g line) place) ≡ true
  pub result : (place : ℕ) → place < 4 → has_source c g (size c) place (wanted_sort c place) ≡ true
  pub used : (node : ℕ) → node < size c → is_used c g node ≡ true

implied : (a b : Bool) → (not a || b) ≡ true → a ≡ true → b ≡ true
implied true b h e = h
implied false b h e = absurd (false≢true e)

pub shaped-from : (c : Claim) (g : Slot → Bool) → has_shape c g ≡ true → IsShaped c g
shaped-from c g e =
    let four = and_parts (have_kinds c g && are_used_up c g && are_filled c g && are_used c g) (are_followed c g) e in
    let three = and_parts (have_kinds c g && are_used_up c g && are_filled c g) (are_used c g) four.0 in
    let two = and_parts (have_kinds c g && are_used_up c g) (are_filled c g) three.0 in
    let one = and_parts (have_kinds c g) (are_used_up c g) two.0 in
    let kind = λ (line : ℕ) (l : line < size c).
    first_true-only (λ op. g (slot.Kind line op)) (kinds c) 0
    (sym (count-map g (slot.Kind line) (kinds c)) ∙ same_number (count_by g (map (slot.Kind line) (kinds c))) 1
    (all_below-at (λ line. are_chosen g (map (slot.Kind line) (kinds c)) 1) (size c) line one.0 l)) in
    let filled = λ (row place : ℕ) (l : row < size c + 1) (p : place < 4).
    all_below-at (is_filled c g row) 4 place (all_below-at (is_row_filled c g) (size c + 1) row two.1 l) p in
    record {
      kind = kind;
      counts = λ op i. same_number (count_by g (kind_slots c op)) (count_by (nat_eq op) c.ops)
          (list_all_in (λ op. are_chosen g (kind_slots c op) (count_by (nat_eq op) c.ops)) (kinds c) op one.1 i);
      arg = λ line place l p.
          let here = sym (at-line c line (has_argument c g line place)
          (has_source c g line place (wanted_sort c place)) l) ∙ filled line place (omega (arith, l)) p in
          let k = kind line l in
          implied (g (slot.Kind line (kind_at c g line)))
          (has_source c g line place (arg_sort c (kind_at c g line) place))
          (list_all_in (λ op. not (g (slot.Kind line op)) || has_source c g line place (arg_sort c op place)) (kinds c)
          (kind_at c g line) here k.there) k.passes;
      result = λ place p.
          sym (at-end c (size c) (has_argument c g (size c) place) (has_source c g (size c) place (wanted_sort c place))
          (omega arith)) ∙ filled (size c) place (omega arith) p;
      used = λ node l. all_below-at (is_used c g) (size c) node three.1 l;
    }

-- where a sort is wanted, the source is the only one that is chosen
pub source-only : (c : Claim) (g : Slot → Bool) (row place : ℕ) (t : Sort) → has_source c g row place (Some t) ≡ true
    → IsOnly (λ s. g (slot_at c row place s)) (choices c row place) (source_in c g row place)
source-only c g row place t e =
    let parts = and_parts (are_chosen g (row_slots c row place) 1) (have_sort c g row place t) e in
    first_true-only (λ s. g (slot_at c row place s)) (choices c row place) (Input 0)
    (sym (count-map g (slot_at c row place) (choices c row place))
    ∙ same_number (count_by g (row_slots c row place)) 1 parts.0)

-- and it has the sort
pub source-sorted : (c : Claim) (g : Slot → Bool) (row place : ℕ) (t : Sort) → has_source c g row place (Some t) ≡ true
    → has_sort c g t (source_in c g row place) ≡ true
source-sorted c g row place t e =
    let parts = and_parts (are_chosen g (row_slots c row place) 1) (have_sort c g row place t) e in
    let only = source-only c g row place t e in
    implied (g (slot_at c row place (source_in c g row place))) (has_sort c g t (source_in c g row place))
    (list_all_in (λ s. not (g (slot_at c row place s)) || has_sort c g t s) (choices c row place)
    (source_in c g row place) parts.1 only.there) only.passes

-- the choices in the place of a row are those of the source that is read there
pub source-read : (c : Claim) (g : Slot → Bool) (row place : ℕ) (wanted : Option Sort) (s : Src)
    → has_source c g row place wanted ≡ true → In (choices c row place) s
    → g (slot_at c row place s) ≡ is_source (option_map (λ t. source_in c g row place) wanted) s
source-read c g row place None s e i =
    none-passes (λ s. g (slot_at c row place s)) (choices c row place)
    (sym (count-map g (slot_at c row place) (choices c row place))
    ∙ same_number (count_by g (row_slots c row place)) 0 e) s i
source-read c g row place (Some t) s e i =
    let only = source-only c g row place t e in
    same_test (g (slot_at c row place s)) (same_source (source_in c g row place) s)
    (λ yes. ap (same_source (source_in c g row place)) (only.only s i yes)
    ∙ same_itself (source_in c g row place))
    (λ same. ap (λ r. g (slot_at c row place r)) (sym (same_true (source_in c g row place) s same)) ∙ only.passes)
  where
    same_itself : (s : Src) → same_source s s ≡ true
    same_itself s = same_source-itself s

    same_true : (r s : Src) → same_source r s ≡ true → r ≡ s
    same_true r s e = same_source-true r s e

-- ---- the pattern that is read

pub node-read : (c : Claim) (env : List Value) (line : ℕ) → line < size c
    → slice_get (pattern_of c env).nodes line ≡ Some (node_at c env line)
unfolding pattern_of
node-read c env line l =
    let there = some_at c.ops line l in
    made-at (node_at c env) c.ops line ∙ ap (option_map (λ x. node_at c env line)) there.1

pub node-found : (c : Claim) (env : List Value) (line : ℕ) (n : Node) → slice_get (pattern_of c env).nodes line ≡ Some n
    → (line < size c) × (node_at c env line ≡ n)
unfolding pattern_of
node-found c env line n e =
    let l : line < size c = omega (
      arith,
      slice_get_within (pattern_of c env).nodes line n e,
      length-map-range_with_len (node_at c env) 0 (size c),
    ) in
    (l, same_Some (node_at c env line) n (sym (node-read c env line l) ∙ e))

pub size-read : (c : Claim) (env : List Value) → length (pattern_of c env).nodes ≡ size c
unfolding pattern_of
size-read c env = length-map-range_with_len (node_at c env) 0 (size c)

pub result-read : (c : Claim) (env : List Value) (place : ℕ)
    → slice_get (pattern_of c env).results place
    ≡ option_map (λ t. source_in c (chosen env) (size c) place) (slice_get c.goal.results place)
unfolding pattern_of
result-read c env place = made-at (source_in c (chosen env) (size c)) c.goal.results place

-- an argument stands where the operation has a sort for it
pub arg-read : (c : Claim) (env : List Value) (line place : ℕ) → line < size c
    → arg_at (slice_get (pattern_of c env).nodes line) place
    ≡ option_map (λ t. source_in c (chosen env) line place) (arg_sort c (kind_at c (chosen env) line) place)
arg-read c env line place l =
    ap (λ o. arg_at o place) (node-read c env line l)
    ∙ made-at (source_in c (chosen env) line) (sorts_in (slice_get c.file.ops (kind_at c (chosen env) line))) place
    ∙ by (slice_get c.file.ops (kind_at c (chosen env) line))
  where
    by : (o : Option Operation) → option_map (λ (t : Sort). source_in c (chosen env) line place)
        (slice_get (sorts_in o) place)
        ≡ option_map (λ (t : Sort). source_in c (chosen env) line place)
        (option_and_then (λ (o : Operation). slice_get o.args place) o)
    by None = refl
    by (Some o) = refl

-- a source of a slot is within the limits
source-small : (c : Claim) → IsBounded c → (line : ℕ) (t : Sort) (s : Src) → IsSourceAt c line t s
    → IsSmallBefore line s
source-small c within line t (Input k) h =
    let there = slice_get_within c.goal.args k t h in let four = within.args in omega (arith, there, four)
source-small c within line t (Out node result) h =
    let op = h.1.0 in
    let o = h.1.1 in
    let there = slice_get_within o.results result h.1.3.0 h.1.3.1 in
    let three = within.op_results op o h.1.2.1 in
    (h.0, omega (arith, there, three))

pub pattern-read : (c : Claim) (env : List Value) → IsBounded c → IsShaped c (chosen env)
    → IsRead c (chosen env) (pattern_of c env)
pattern-read c env within shaped = record { whole = size-read c env; same = same }
  where
    same : (x : Slot) → IsSlot c x sort.Bool → chosen env x ≡ is_chosen (pattern_of c env) x
    same (slot.Kind line op) h =
        let only = shaped.kind line h.0 in
        same_test (chosen env (slot.Kind line op)) (nat_eq (kind_at c (chosen env) line) op)
        (λ yes. ap (nat_eq (kind_at c (chosen env) line)) (only.only op (there-kind c op h.1) yes)
        ∙ equal_test (kind_at c (chosen env) line))
        (λ yes. ap (λ k. chosen env (slot.Kind line k)) (sym (same_number (kind_at c (chosen env) line) op yes))
        ∙ only.passes)
        ∙ ap (λ o. is_op o op) (sym (node-read c env line h.0))
    same (slot.Attr line op place) h = let wrong = h.1.4 in absurd (cc)
    same (slot.Arg line place s) h =
        let named = arg-named c line place s sort.Bool h in
        let four : place < 4 = let there = slice_get_within h.1.1.args place h.1.2 h.1.4 in
        let few = within.op_args h.1.0 h.1.1 h.1.3.1 in omega (arith, there, few) in
        let choice = named-choice c line place s (source-small c within line h.1.2 s h.1.5) named.1 in
        ap (chosen env) (sym (at-line c line (slot.Arg line place s) (slot.Result place s) named.0))
        ∙ source-read c (chosen env) line place (arg_sort c (kind_at c (chosen env) line) place) s
        (shaped.arg line place named.0 four) choice
        ∙ ap (λ o. is_source o s) (sym (arg-read c env line place named.0))
    same (slot.Result place s) h =
        let named = result-named c place s sort.Bool h in
        let four : place < 4 = let there = slice_get_within c.goal.results place h.0.0 h.0.2 in
        let few = within.results in omega (arith, there, few) in
        let choice = named-choice c (size c) place s (source-small c within (size c) h.0.1 s h.0.4) named in
        let wanted : wanted_sort c place ≡ Some h.0.1 =
        ap (option_and_then (sort_of c.file.pointer)) h.0.2 ∙ h.0.3 in
        ap (chosen env) (sym (at-end c (size c) (slot.Arg (size c) place s) (slot.Result place s) (omega arith)))
        ∙ source-read c (chosen env) (size c) place (wanted_sort c place) s (shaped.result place four) choice
        ∙ ap (λ o. is_source (option_map (λ t. source_in c (chosen env) (size c) place) o) s) wanted
        ∙ ap (λ o. is_source o s)
        (sym (result-read c env place ∙ ap (option_map (λ t. source_in c (chosen env) (size c) place)) h.0.2))

kinds-read : (c : Claim) (env : List Value) → IsShaped c (chosen env) → HasKinds c (pattern_of c env)
kinds-read c env shaped = λ line l. (node_at c env line, node-read c env line l, (shaped.kind line l).there)

-- ---- it is one of the claim

-- the operation at a line
op-there : (c : Claim) → IsBounded c → (op : ℕ) → In (kinds c) op → (o : Operation) × (slice_get c.file.ops op ≡ Some o)
op-there c within op i = within.there op (In-from_Contains c.ops op (kind-there c op i))

attr-value : (c : Claim) (env : List Value) → Fits c env → (line op place w : ℕ) (o : Operation) → line < size c
    → In (kinds c) op → slice_get c.file.ops op ≡ Some o → slice_get o.attrs place ≡ Some w
    → (slice_get env (slot_number (slot.Attr line op place)) ≡ Some (val.Bits w (attr_in env line op place)))
    × (attr_in env line op place < 2 ^ w)
attr-value c env fits line op place w o l i e f =
    let v = fits (slot.Attr line op place) (sort.Bits w) (l, (o, w, (kind-there c op i, e), f, refl)) in
    by v.0 v.1 v.2
  where
    by : (v : Value) → slice_get env (slot_number (slot.Attr line op place)) ≡ Some v → HasSort (sort.Bits w) v
        → (slice_get env (slot_number (slot.Attr line op place)) ≡ Some (val.Bits w (attr_in env line op place)))
        × (attr_in env line op place < 2 ^ w)
    by (val.Bool b) e h = absurd h
    by (val.Bits u n) e h =
        let number : attr_in env line op place ≡ n = ap number_in e in
        (e ∙ (λ i. Some (val.Bits (h.0 i) (sym number i))), subst (λ m. m < 2 ^ w) (sym number) h.1)

sorted-source : (c : Claim) (env : List Value) → IsBounded c → IsShaped c (chosen env) → (row place : ℕ) (t : Sort)
    → row ≤ size c → has_source c (chosen env) row place (Some t) ≡ true
    → source_sort c.file c.goal (pattern_of c env).nodes row (source_in c (chosen env) row place) ≡ Some t
sorted-source c env within shaped row place t l e =
    let g = chosen env in
    let only = source-only c (chosen env) row place t e in
    has_sort-found c (chosen env) (pattern_of c env) (pattern-read c env within shaped) (kinds-read c env shaped) row
    (source_in c (chosen env) row place) t l
    (λ node result is. named-before c row place node result
    (ap (may_name c row place) (sym is) ∙ choice-named c row place (source_in c (chosen env) row place) only.there))
    (source-sorted c (chosen env) row place t e)

node-fits : (c : Claim) (env : List Value) → IsBounded c → Fits c env → IsShaped c (chosen env) → (line : ℕ)
    → line < size c → IsFitting c.file c.goal (pattern_of c env).nodes line (node_at c env line)
node-fits c env within fits shaped line l =
    let op = kind_at c (chosen env) line in
    let k = shaped.kind line l in
    let o = op-there c within (kind_at c (chosen env) line) k.there in
    let sorts : sorts_in (slice_get c.file.ops (kind_at c (chosen env) line)) ≡ o.0.args = ap sorts_in o.1 in
    let widths : widths_in (slice_get c.file.ops (kind_at c (chosen env) line)) ≡ o.0.attrs = ap widths_in o.1 in
    record {
      operation = o.0;
      in_file = o.1;
      attrs = subst (λ (ws : List ℕ). Pairwise (λ w a. a < 2 ^ w) o.0.attrs
          (map (attr_in env line (kind_at c (chosen env) line)) (range_with_len 0 (length ws)))) (sym widths)
          (made-pairs (λ w a. a < 2 ^ w) (attr_in env line (kind_at c (chosen env) line)) o.0.attrs (λ place w f.
          (attr-value c env fits line (kind_at c (chosen env) line) place w o.0 l k.there o.1 f).1));
      args = ap (λ (ss : List Sort). map (source_sort c.file c.goal (pattern_of c env).nodes line)
          (map (source_in c (chosen env) line) (range_with_len 0 (length ss)))) sorts
          ∙ made-maps (source_sort c.file c.goal (pattern_of c env).nodes line) (λ (s : Sort). Some s)
          (source_in c (chosen env) line) o.0.args (λ place t f.
          let four : place < 4 = let there = slice_get_within o.0.args place t f in
          let few = within.op_args (kind_at c (chosen env) line) o.0 o.1 in omega (arith, there, few) in
          let wanted : arg_sort c (kind_at c (chosen env) line) place ≡ Some t =
          ap (option_and_then (λ (o : Operation). slice_get o.args place)) o.1 ∙ f in
          sorted-source c env within shaped line place t (omega (arith, l))
          (ap (has_source c (chosen env) line place) (sym wanted) ∙ shaped.arg line place l four));
    }

results-fit : (c : Claim) (env : List Value) → IsBounded c → IsShaped c (chosen env)
    → map (source_sort c.file c.goal (pattern_of c env).nodes (length (pattern_of c env).nodes))
    (pattern_of c env).results
    ≡ map (sort_of c.file.pointer) c.goal.results
unfolding pattern_of
results-fit c env within shaped =
    made-maps (source_sort c.file c.goal (pattern_of c env).nodes (length (pattern_of c env).nodes))
    (sort_of c.file.pointer) (source_in c (chosen env) (size c)) c.goal.results (λ place t f.
    let four : place < 4 = let there = slice_get_within c.goal.results place t f in
    let few = within.results in omega (arith, there, few) in
    let s = within.sorted place t f in
    let wanted : wanted_sort c place ≡ Some s.0 = ap (option_and_then (sort_of c.file.pointer)) f ∙ s.1 in
    ap (λ n. source_sort c.file c.goal (pattern_of c env).nodes n (source_in c (chosen env) (size c) place))
    (size-read c env)
    ∙ sorted-source c env within shaped (size c) place s.0 (omega arith)
    (ap (has_source c (chosen env) (size c) place) (sym wanted) ∙ shaped.result place four)
    ∙ sym s.1)

used-read : (c : Claim) (env : List Value) → IsBounded c → IsShaped c (chosen env) → (k : ℕ) → k < size c
    → IsUsed (pattern_of c env) k
used-read c env within shaped k l =
    let is = pattern-read c env within shaped in
    let after = any_below-found (λ j. row_names c (chosen env) k (k + 1 + j)) (size c - k) (shaped.used k l) in
    let row-le : k + 1 + after.0 ≤ size c = omega (arith, after.1) in
    let place = any_below-found (names_node c (chosen env) k (k + 1 + after.0)) 4 after.2 in
    let result = any_below-found (λ r. names_source c (chosen env) (k + 1 + after.0) place.0 (Out k r)) 3 place.2 in
    let named = names-found c (chosen env) (pattern_of c env) is (k + 1 + after.0) place.0 (Out k result.0) row-le
    result.2 in
    by (k + 1 + after.0) place.0 result.0 named
  where
    in-args : (o : Option Node) (place : ℕ) (s : Src) → arg_at o place ≡ Some s → Contains (args_of o) s
    in-args None place s e = absurd (cc)
    in-args (Some n) place s e = Contains-from_slice_get n.args place s e

    by : (row place r : ℕ) → row_source c (pattern_of c env) row place ≡ Some (Out k r) → IsUsed (pattern_of c env) k
    by row place r e =
        elim (cases_lt row (size c)) [
          | inl before ↦ (
            r,
            inr (
              row,
              in-args (slice_get (pattern_of c env).nodes row) place (Out k r)
                  (sym (at-line c row (arg_at (slice_get (pattern_of c env).nodes row) place)
                  (slice_get (pattern_of c env).results place) before) ∙ e),
            ),
          )
          | inr past ↦ (
            r,
            inl (Contains-from_slice_get (pattern_of c env).results place (Out k r)
                (sym (at-end c row (arg_at (slice_get (pattern_of c env).nodes row) place)
                (slice_get (pattern_of c env).results place) past) ∙ e)),
          )
        ]

no-memory : (c : Claim) (p : Pattern) → IsBounded c → (k : ℕ) (s : Src)
    → source_sort c.file c.goal p.nodes k s ≡ Some sort.Mem → ⊥
no-memory c p within k (Input i) e = within.plain_args i e
no-memory c p within k (Out node result) e = by (nat_lt node k) e
  where
    out : (o : Option Node) → operation_sort c.file (option_and_then (λ (n : Node). slice_get c.file.ops n.op) o) result
        ≡ Some sort.Mem → ⊥
    out None e = cc
    out (Some n) e = within.plain_outs n.op result e

    by : (b : Bool) → cond b (operation_sort c.file (option_and_then (λ (n : Node). slice_get c.file.ops n.op)
        (slice_get p.nodes node)) result) None ≡ Some sort.Mem → ⊥
    by true e = out (slice_get p.nodes node) e
    by false e = cc

multiset-rises : (ns : List Node) → NeverFalls (multiset ns)
multiset-rises [] = tt
multiset-rises (n ∷ ns) = NeverFalls-put n.op (multiset ns) (multiset-rises ns)

-- nodes of none but these operations
other-none : (c : Claim) (p : Pattern) → length p.nodes ≡ size c → HasKinds c p → (op : ℕ) → (In c.ops op → ⊥)
    → count_by (λ (n : Node). nat_eq n.op op) p.nodes ≡ 0
other-none c p whole kinds-are op out = none-counted (λ (n : Node). nat_eq n.op op) p.nodes (λ n i.
    ⊎_elim (λ yes.
    let at = In-place p.nodes n i in
    let k = kinds-are at.0 (omega (arith, slice_get_within p.nodes at.0 n at.1, whole)) in
    let same : k.0 ≡ n = same_Some k.0 n (sym k.1 ∙ at.1) in
    let there : In (kinds c) op =
    subst (In (kinds c)) (ap (λ (m : Node). m.op) same ∙ same_number n.op op yes) k.2 in
    absurd (out (In-from_Contains c.ops op (kind-there c op there)))) (λ no. no) (true-or-false (nat_eq n.op op)))
  where
    In-place : (ns : List Node) (n : Node) → In ns n → (k : ℕ) × (slice_get ns k ≡ Some n)
    In-place [] n i = absurd i
    In-place (m ∷ ns) n (inl e) = (zero, ap Some e)
    In-place (m ∷ ns) n (inr i) = let w = In-place ns n i in (suc w.0, w.1)

ops-read : (c : Claim) (env : List Value) → IsBounded c → IsShaped c (chosen env)
    → multiset (pattern_of c env).nodes ≡ c.ops
ops-read c env within shaped =
    let is = pattern-read c env within shaped in
    let kinds-are = kinds-read c env shaped in
    same-counts (multiset (pattern_of c env).nodes) c.ops (multiset-rises (pattern_of c env).nodes) within.rising (λ op.
    ⊎_elim (λ yes.
    let i = there-kind c op (Contains-from_In c.ops op (any-in op c.ops yes)) in
    sym (lines-of c (chosen env) (pattern_of c env) is kinds-are op i) ∙ shaped.counts op i)
    (λ no.
    let out = λ (i : In c.ops op). absurd-in op c.ops no i in
    count-multiset op (pattern_of c env).nodes
    ∙ other-none c (pattern_of c env) (size-read c env) kinds-are op out
    ∙ sym (none-counted (nat_eq op) c.ops (λ x i. ⊎_elim
    (λ yes. absurd (out (subst (In c.ops) (sym (same_number op x yes)) i))) (λ n. n) (true-or-false (nat_eq op x)))))
    (true-or-false (list_any (nat_eq op) c.ops)))
  where
    absurd-in : (op : ℕ) (xs : List ℕ) → list_any (nat_eq op) xs ≡ false → In xs op → ⊥
    absurd-in op xs none i = false≢true (sym none ∙ found-any (nat_eq op) xs op i (equal_test op))

pub sound-pattern : (c : Claim) (env : List Value) → IsBounded c → Fits c env → IsShaped c (chosen env)
    → IsPatternOf c (pattern_of c env)
sound-pattern c env within fits shaped = record {
  well_formed = record {
    size = let few = within.few in omega (arith, size-read c env, few);
    nodes = λ k n e.
        let found = node-found c env k n e in
        subst (IsFitting c.file c.goal (pattern_of c env).nodes k) found.1
        (node-fits c env within fits shaped k found.0);
    results = results-fit c env within shaped;
    used = λ k l. used-read c env within shaped k (omega (arith, size-read c env, l));
    linear = λ s e. absurd (no-memory c (pattern_of c env) within (length (pattern_of c env).nodes) s e);
  };
  ops = ops-read c env within shaped;
}

truth-is : (v : Value) → HasSort sort.Bool v → v ≡ val.Bool (is_true (Some v))
truth-is (val.Bool b) h = refl
truth-is (val.Bits w n) h = absurd h

pub sound-stands : (c : Claim) (env : List Value) → IsBounded c → Fits c env → IsShaped c (chosen env)
    → StandsFor c env (pattern_of c env)
sound-stands c env within fits shaped = record {
  fits = fits;
  size = size-read c env;
  choices = λ x h.
      let v = fits x sort.Bool h in
      v.1 ∙ ap Some (truth-is v.0 v.2 ∙ ap (λ o. val.Bool (is_true o)) (sym v.1))
      ∙ ap (λ b. Some (val.Bool b)) ((pattern-read c env within shaped).same x h);
  attrs = λ k place w a n o e op width attr.
      let found = node-found c env k n e in
      subst (λ (m : Node). IsOperationOf c m.op o → slice_get m.attrs place ≡ Some a
      → slice_get env (slot_number (slot.Attr k m.op place)) ≡ Some (val.Bits w a)) found.1
      (λ there at. read-attr k place w a o found.0 there width at) op attr;
}
  where
    read-attr : (k place w a : ℕ) (o : Operation) → k < size c → IsOperationOf c (kind_at c (chosen env) k) o
        → slice_get o.attrs place ≡ Some w → slice_get (node_at c env k).attrs place ≡ Some a
        → slice_get env (slot_number (slot.Attr k (kind_at c (chosen env) k) place)) ≡ Some (val.Bits w a)
    read-attr k place w a o l op width attr =
        let value = attr-value c env fits k (kind_at c (chosen env) k) place w o l
        (there-kind c (kind_at c (chosen env) k) op.0) op.1 width in
        let widths : widths_in (slice_get c.file.ops (kind_at c (chosen env) k)) ≡ o.attrs = ap widths_in op.1 in
        let same : attr_in env k (kind_at c (chosen env) k) place ≡ a =
        same_Some (attr_in env k (kind_at c (chosen env) k) place) a
        (sym (made-at (attr_in env k (kind_at c (chosen env) k))
        (widths_in (slice_get c.file.ops (kind_at c (chosen env) k))) place
        ∙ ap (λ (ws : List ℕ). option_map (λ (x : ℕ). attr_in env k (kind_at c (chosen env) k) place)
        (slice_get ws place)) widths
        ∙ ap (option_map (λ (x : ℕ). attr_in env k (kind_at c (chosen env) k) place)) width) ∙ attr) in
        value.0 ∙ ap (λ m. Some (val.Bits w m)) same

-- ---- values that stand for a pattern make its choices

pub stands-read : (c : Claim) (env : List Value) (p : Pattern) → StandsFor c env p → IsRead c (chosen env) p
stands-read c env p stands = record { whole = stands.size; same = λ x h. ap is_true (stands.choices x h) }
