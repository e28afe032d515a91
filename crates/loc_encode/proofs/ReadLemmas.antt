-- Choices that are those of a pattern, and what the tests say of it then.
use Rattle.std.proofs.Common.{◌≡◌, ℕ, zero, suc, ◌+◌, ◌<◌, ◌≤◌, inl, inr, Bool, true, false}
use Rattle.std.proofs.Common.{◌&&◌}
use Rattle.std.proofs.Common.{◌||◌, cond, List, [], ◌∷◌, length, map, slice_get, Option, Some, None, option_and_then}
use Rattle.std.proofs.Common.{refl}
use Rattle.std.proofs.Common.{sym, ap, ◌∙◌, subst, arith}
use Rattle.std.specs.Prelude.{nat_eq, nat_lt, count_by}
use Rattle.std.specs.List.{range_with_len}
use Rattle.std.proofs.lemmas.Bool.{false≢true, and_parts, cases_lt}
use Rattle.std.proofs.lemmas.Bool.Decides.{nat_tests}
use Rattle.bv_terms.specs.declared.value.Sort.{Sort}
use Rattle.bv_terms.specs.declared.value.Sort.TheVariants as sort
use Rattle.bv_terms.specs.Term.{Term}
use Rattle.bv_terms.specs.WellSorted.{sort_of}
use Rattle.isel_spec.specs.File.{Operation}
use Rattle.pattern_core.specs.Claim.{Claim}
use Rattle.pattern_core.specs.Order.{put, multiset}
use Rattle.pattern_core.specs.Pattern.{source_sort, operation_sort, same_source}
use Rattle.pattern_core.specs.declared.pattern.Node.{Node}
use Rattle.pattern_core.specs.declared.pattern.Pattern.{Pattern}
use Rattle.pattern_core.specs.declared.pattern.Src.{Src}
use Rattle.pattern_core.specs.declared.pattern.Src.TheVariants.{Input, Out}
use Rattle.list_lemmas.proofs.Bools.{and-both, lt-true}
use Rattle.list_lemmas.proofs.Members.{In}
use Rattle.loc_encode.specs.declared.slots.Slot.{Slot}
use Rattle.loc_encode.specs.declared.slots.Slot.TheVariants as slot
use Rattle.loc_encode.specs.Slots.{IsSlot}
use Rattle.loc_encode.specs.Standing.{is_source, is_op, arg_at, is_chosen}
use Rattle.loc_encode.specs.Layout.{kinds, size, out_sort, is_sort, may_name, slot_at}
use Rattle.loc_encode.specs.Layout.{all_below, any_below}
use Rattle.loc_encode.specs.Shape.{has_sort, names_source}
use Rattle.loc_encode.proofs.TallyLemmas.{NeverFalls, same_number, equal_test, count-cons, count-put}
use Rattle.loc_encode.proofs.TallyLemmas.{bit, counted-there}
use Rattle.loc_encode.proofs.LayoutLemmas.{any-found, found-any, kind-slot, is_sort-true, is_sort-same, named-slot}

-- ---- tests of all numbers below one

pub all_below-at : (p : ℕ → Bool) (n k : ℕ) → all_below p n ≡ true → k < n → p k ≡ true
all_below-at p zero k e l = absurd (omega (arith, l))
all_below-at p (suc n) k e l =
    let parts = and_parts (all_below p n) (p n) e in
    elim (cases_lt k n) [
      | inl before ↦ all_below-at p n k parts.0 before
      | inr past ↦ (let last : n ≡ k = omega (arith, l, past) in subst (λ m. p m ≡ true) last parts.1)
    ]

pub all_below-from : (p : ℕ → Bool) (n : ℕ) → ((k : ℕ) → k < n → p k ≡ true) → all_below p n ≡ true
all_below-from p zero h = refl
all_below-from p (suc n) h =
    and-both (all_below p n) (p n) (all_below-from p n (λ k l. h k (omega (arith, l)))) (h n (omega arith))

pub any_below-found : (p : ℕ → Bool) (n : ℕ) → any_below p n ≡ true → (k : ℕ) × (k < n) × (p k ≡ true)
any_below-found p zero e = absurd (false≢true e)
any_below-found p (suc n) e = by (any_below p n) refl e (any_below-found p n)
  where
    by : (b : Bool) → any_below p n ≡ b → (b || p n) ≡ true
        → (any_below p n ≡ true → (k : ℕ) × (k < n) × (p k ≡ true)) → (k : ℕ) × (k < suc n) × (p k ≡ true)
    by true is e next = let found = next is in (found.0, omega (arith, found.1), found.2)
    by false is e next = (n, omega arith, e)

pub any_below-from : (p : ℕ → Bool) (n k : ℕ) → k < n → p k ≡ true → any_below p n ≡ true
any_below-from p zero k l e = absurd (omega (arith, l))
any_below-from p (suc n) k l e =
    elim (cases_lt k n) [
      | inl before ↦ ap (λ b. b || p n) (any_below-from p n k before e)
      | inr past ↦ (let last : k ≡ n = omega (arith, l, past) in
          or-right (any_below p n) (p n) (ap p (sym last) ∙ e))
    ]
  where
    or-right : (a b : Bool) → b ≡ true → (a || b) ≡ true
    or-right true b h = refl
    or-right false b h = h

-- ---- within the limits of a file

-- a claim within the limits of a file, and without memory
pub record IsBounded (c : Claim) : Type 0 where
  pub args : length c.goal.args ≤ 4
  pub results : length c.goal.results ≤ 3
  pub sorted : (place : ℕ) (t : Term) → slice_get c.goal.results place ≡ Some t
      → (s : Sort) × (sort_of c.file.pointer t ≡ Some s)
  pub op_args : (op : ℕ) (o : Operation) → slice_get c.file.ops op ≡ Some o → length o.args ≤ 4
  pub op_results : (op : ℕ) (o : Operation) → slice_get c.file.ops op ≡ Some o → length o.results ≤ 3
  pub few : length c.ops ≤ 6
  pub there : (op : ℕ) → In c.ops op → (o : Operation) × (slice_get c.file.ops op ≡ Some o)
  pub rising : NeverFalls c.ops
  pub plain_args : (k : ℕ) → slice_get c.goal.args k ≡ Some sort.Mem → ⊥
  pub plain_outs : (op result : ℕ) → out_sort c op result ≡ Some sort.Mem → ⊥

-- ---- the choices of a pattern

-- the choices are those that the pattern makes
pub record IsRead (c : Claim) (g : Slot → Bool) (p : Pattern) : Type 0 where
  pub whole : length p.nodes ≡ size c
  pub same : (x : Slot) → IsSlot c x sort.Bool → g x ≡ is_chosen p x

-- each node is of an operation of the claim
abbrev pub HasKinds : Claim → Pattern → Type 0
HasKinds c p = (line : ℕ) → line < size c → (n : Node) × (slice_get p.nodes line ≡ Some n) × In (kinds c) n.op

-- the source in the place of a row
abbrev pub row_source : Claim → Pattern → ℕ → ℕ → Option Src
row_source c p row place =
    cond (nat_lt row (size c)) (arg_at (slice_get p.nodes row) place) (slice_get p.results place)

pub chosen-at : (c : Claim) (p : Pattern) (row place : ℕ) (s : Src)
    → is_chosen p (slot_at c row place s) ≡ is_source (row_source c p row place) s
chosen-at c p row place s = by (nat_lt row (size c))
  where
    by : (b : Bool) → is_chosen p (cond b (slot.Arg row place s) (slot.Result place s))
        ≡ is_source (cond b (arg_at (slice_get p.nodes row) place) (slice_get p.results place)) s
    by true = refl
    by false = refl

pub read-source : (c : Claim) (g : Slot → Bool) (p : Pattern) → IsRead c g p → (row place : ℕ) (s : Src)
    → row ≤ size c → may_name c row place s ≡ true
    → g (slot_at c row place s) ≡ is_source (row_source c p row place) s
read-source c g p is row place s l e =
    is.same (slot_at c row place s) (named-slot c row place s l e) ∙ chosen-at c p row place s

pub read-kind : (c : Claim) (g : Slot → Bool) (p : Pattern) → IsRead c g p → (line op : ℕ) (n : Node) → line < size c
    → In (kinds c) op → slice_get p.nodes line ≡ Some n → g (slot.Kind line op) ≡ nat_eq n.op op
read-kind c g p is line op n l i e =
    is.same (slot.Kind line op) (kind-slot c line op l i) ∙ ap (λ o. is_op o op) e

pub same_source-true : (r s : Src) → same_source r s ≡ true → r ≡ s
same_source-true (Input i) (Input k) e = ap Input (same_number i k e)
same_source-true (Input i) (Out n q) e = absurd (false≢true e)
same_source-true (Out m q) (Input k) e = absurd (false≢true e)
same_source-true (Out m q) (Out n r) e =
    let parts = and_parts (nat_eq m n) (nat_eq q r) e in
    let first = same_number m n parts.0 in
    let second = same_number q r parts.1 in
    λ i. Out (first i) (second i)

pub same_source-itself : (s : Src) → same_source s s ≡ true
same_source-itself (Input i) = equal_test i
same_source-itself (Out m q) = and-both (nat_eq m m) (nat_eq q q) (equal_test m) (equal_test q)

pub is_source-true : (o : Option Src) (s : Src) → is_source o s ≡ true → o ≡ Some s
is_source-true None s e = absurd (false≢true e)
is_source-true (Some r) s e = ap Some (same_source-true r s e)

-- ---- what is named

pub names-from : (c : Claim) (g : Slot → Bool) (p : Pattern) → IsRead c g p → (row place : ℕ) (s : Src) → row ≤ size c
    → may_name c row place s ≡ true → row_source c p row place ≡ Some s → names_source c g row place s ≡ true
names-from c g p is row place s l may e =
    and-both (may_name c row place s) (g (slot_at c row place s)) may
    (read-source c g p is row place s l may ∙ ap (λ o. is_source o s) e ∙ same_source-itself s)

pub names-found : (c : Claim) (g : Slot → Bool) (p : Pattern) → IsRead c g p → (row place : ℕ) (s : Src) → row ≤ size c
    → names_source c g row place s ≡ true → row_source c p row place ≡ Some s
names-found c g p is row place s l e =
    let parts = and_parts (may_name c row place s) (g (slot_at c row place s)) e in
    is_source-true (row_source c p row place) s (sym (read-source c g p is row place s l parts.0) ∙ parts.1)

-- ---- sorts of sources

pub has_sort-from : (c : Claim) (g : Slot → Bool) (p : Pattern) → IsRead c g p → HasKinds c p → (row : ℕ) (s : Src)
    (t : Sort) → row ≤ size c → source_sort c.file c.goal p.nodes row s ≡ Some t → has_sort c g t s ≡ true
has_sort-from c g p is kinds-are row (Input k) t l e = is_sort-same (slice_get c.goal.args k) t e
has_sort-from c g p is kinds-are row (Out node result) t l e = by (nat_lt node row) refl e
  where
    lt-is : (x y : ℕ) → nat_lt x y ≡ true → x < y
    lt-is x y h = grind (arith, nat_tests)

    by : (b : Bool) → nat_lt node row ≡ b
        → cond b (operation_sort c.file (option_and_then (λ (n : Node). slice_get c.file.ops n.op)
        (slice_get p.nodes node)) result) None ≡ Some t → has_sort c g t (Out node result) ≡ true
    by true before e =
        let l' : node < size c = omega (arith, lt-is node row before, l) in
        let n = kinds-are node l' in
        let out : out_sort c n.0.op result ≡ Some t =
        sym (ap (λ o. operation_sort c.file (option_and_then (λ (n : Node). slice_get c.file.ops n.op) o) result) n.1)
        ∙ e in
        found-any (λ op. is_sort (out_sort c op result) t && g (slot.Kind node op)) (kinds c) n.0.op n.2
        (and-both (is_sort (out_sort c n.0.op result) t) (g (slot.Kind node n.0.op))
        (is_sort-same (out_sort c n.0.op result) t out)
        (read-kind c g p is node n.0.op n.0 l' n.2 n.1 ∙ equal_test n.0.op))
    by false before e = absurd (cc)

pub has_sort-found : (c : Claim) (g : Slot → Bool) (p : Pattern) → IsRead c g p → HasKinds c p → (row : ℕ) (s : Src)
    (t : Sort) → row ≤ size c → ((node result : ℕ) → s ≡ Out node result → node < row) → has_sort c g t s ≡ true
    → source_sort c.file c.goal p.nodes row s ≡ Some t
has_sort-found c g p is kinds-are row (Input k) t l before e = is_sort-true (slice_get c.goal.args k) t e
has_sort-found c g p is kinds-are row (Out node result) t l before e =
    let b = before node result refl in
    let l' : node < size c = omega (arith, b, l) in
    let some = any-found (λ op. is_sort (out_sort c op result) t && g (slot.Kind node op)) (kinds c) e in
    let parts = and_parts (is_sort (out_sort c some.0 result) t) (g (slot.Kind node some.0)) some.2 in
    let n = kinds-are node l' in
    let same : n.0.op ≡ some.0 = same_number n.0.op some.0
    (sym (read-kind c g p is node some.0 n.0 l' some.1 n.1) ∙ parts.1) in
    let out = is_sort-true (out_sort c some.0 result) t parts.0 in
    ap (λ b. cond b (operation_sort c.file (option_and_then
    (λ (n : Node). slice_get c.file.ops n.op) (slice_get p.nodes node)) result) None) (lt-true node row b)
    ∙ ap (λ o. operation_sort c.file (option_and_then (λ (n : Node). slice_get c.file.ops n.op) o) result) n.1
    ∙ ap (λ op. out_sort c op result) same ∙ out

-- ---- operations with their counts

pub In-put : (x : ℕ) (ys : List ℕ) → In (put x ys) x
In-put x ys = counted-there x (put x ys)
    (omega (arith, count-put (nat_eq x) x ys, ap bit (equal_test x)))

flip : (x y : ℕ) → nat_eq x y ≡ nat_eq y x
flip x y = grind (arith, nat_tests)

-- how often an operation stands in the multiset of the nodes
pub count-multiset : (op : ℕ) (ns : List Node) → count_by (nat_eq op) (multiset ns) ≡ count_by (λ n. nat_eq n.op op) ns
count-multiset op [] = refl
count-multiset op (n ∷ ns) =
    count-put (nat_eq op) n.op (multiset ns)
    ∙ (λ i. cond (flip op n.op i) 1 0 + count-multiset op ns i)
    ∙ sym (count-cons (λ n. nat_eq n.op op) n ns)

-- a count over the places of a list is one over its elements
range-later : (a n : ℕ) → range_with_len (a + 1) n ≡ map suc (range_with_len a n)
range-later a zero = refl
range-later a (suc n) =
    let first : a + 1 ≡ suc a = omega arith in
    let rest = range-later (a + 1) n in
    λ i. first i ∷ rest i

count-suc : (p : ℕ → Bool) (xs : List ℕ) → count_by p (map suc xs) ≡ count_by (λ k. p (suc k)) xs
count-suc p [] = refl
count-suc p (x ∷ xs) = count-cons p (suc x) (map suc xs) ∙ ap (λ n. cond (p (suc x)) 1 0 + n) (count-suc p xs)
    ∙ sym (count-cons (λ k. p (suc k)) x xs)

pub count-places : {A : Type 0} (q : Option A → Bool) (xs : List A)
    → count_by (λ k. q (slice_get xs k)) (range_with_len 0 (length xs)) ≡ count_by (λ x. q (Some x)) xs
count-places q [] = refl
count-places q (x ∷ xs) =
    count-cons (λ k. q (slice_get (x ∷ xs) k)) 0 (range_with_len 1 (length xs))
    ∙ ap (λ ks. cond (q (Some x)) 1 0 + count_by (λ k. q (slice_get (x ∷ xs) k)) ks) (range-later 0 (length xs))
    ∙ ap (λ n. cond (q (Some x)) 1 0 + n)
    (count-suc (λ k. q (slice_get (x ∷ xs) k)) (range_with_len 0 (length xs)) ∙ count-places q xs)
    ∙ sym (count-cons (λ y. q (Some y)) x xs)
