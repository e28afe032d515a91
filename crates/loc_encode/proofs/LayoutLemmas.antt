-- Which slots a claim has, by the tests that the code makes.
use Rattle.std.proofs.Common.{◌≡◌, ℕ, ◌+◌, ◌-◌, ◌*◌, ◌/◌, ◌%◌, ◌<◌, ◌≤◌, inl, inr, ⊎_elim, Bool, true}
use Rattle.std.proofs.Common.{false, ◌||◌, cond, List, [], ◌∷◌, map, slice_get, Option}
use Rattle.std.proofs.Common.{Some, None}
use Rattle.std.proofs.Common.{option_and_then, refl, sym, ap, ◌∙◌, subst, arith, Contains}
use Rattle.std.specs.Prelude.{nat_eq, nat_lt}
use Rattle.std.specs.List.{list_any, range_with_len}
use Rattle.std.proofs.lemmas.Bool.{false≢true, and_parts, cases_lt}
use Rattle.std.proofs.lemmas.Bool.Decides.{nat_tests}
use Rattle.bv_terms.specs.declared.value.Sort.{Sort}
use Rattle.bv_terms.specs.declared.value.Sort.TheVariants as sort
use Rattle.bv_terms.specs.Sorts.{same_sort}
use Rattle.bv_terms.specs.Term.{Term}
use Rattle.bv_terms.specs.WellSorted.{sort_of}
use Rattle.bv_terms.proofs.SignatureLemmas.{same_sort-true}
use Rattle.isel_spec.specs.File.{Operation}
use Rattle.pattern_core.specs.Claim.{Claim}
use Rattle.pattern_core.specs.Pattern.{operation_sort}
use Rattle.pattern_core.specs.declared.pattern.Src.{Src}
use Rattle.pattern_core.specs.declared.pattern.Src.TheVariants.{Input, Out}
use Rattle.list_lemmas.proofs.Bools.{and-both, lt-true}
use Rattle.list_lemmas.proofs.Members.{In, In_of_filter, In-filter, In-map, In-range}
use Rattle.list_lemmas.proofs.Members.{In-from_Contains, Contains-from_In}
use Rattle.list_lemmas.proofs.Options.{bind_some}
use Rattle.list_lemmas.proofs.Orders.{IsOrdered-filter, IsOrdered-map, IsOrdered-range}
use Rattle.loc_encode.specs.declared.slots.Slot.TheVariants as slot
use Rattle.loc_encode.specs.Numbers.{source_at}
use Rattle.loc_encode.specs.Slots.{source_number, IsSlot, IsSourceAt}
use Rattle.loc_encode.specs.Layout.{different, kinds, size, arg_sort, out_sort, wanted_sort, is_sort, is_result_sort}
use Rattle.loc_encode.specs.Layout.{may_have, may_have_wanted, may_name, slot_at, choices}
use Rattle.loc_encode.proofs.TallyLemmas.{AreDistinct, any-in, equal_test}

-- ---- members that pass a test

pub any-found : {X : Type 0} (p : X → Bool) (xs : List X) → list_any p xs ≡ true → (x : X) × In xs x × (p x ≡ true)
any-found p [] e = absurd (false≢true e)
any-found {X} p (y ∷ ys) e = by (p y) refl e (any-found p ys)
  where
    by : (b : Bool) → p y ≡ b → (b || list_any p ys) ≡ true
        → (list_any p ys ≡ true → (x : X) × In ys x × (p x ≡ true)) → (x : X) × In (y ∷ ys) x × (p x ≡ true)
    by true is e next = (y, inl refl, is)
    by false is e next = let rest = next e in (rest.0, inr rest.1, rest.2)

pub found-any : {X : Type 0} (p : X → Bool) (xs : List X) (x : X) → In xs x → p x ≡ true → list_any p xs ≡ true
found-any p [] x i e = absurd i
found-any {X} p (y ∷ ys) x i e = by (p y) refl (λ later. found-any p ys x later e)
  where
    by : (b : Bool) → p y ≡ b → (In ys x → list_any p ys ≡ true) → (b || list_any p ys) ≡ true
    by true is next = refl
    by false is next = ⊎_elim (λ here. absurd (false≢true (sym is ∙ ap p here ∙ e))) next i

-- ---- kinds

pub In_of_different : (xs : List ℕ) (z : ℕ) → In (different xs) z → In xs z
In_of_different [] z i = absurd i
In_of_different (x ∷ xs) z i = by (list_any (nat_eq x) xs) (In_of_different xs z) i
  where
    by : (b : Bool) → (In (different xs) z → In xs z) → In (cond b (different xs) (x ∷ different xs)) z
        → In (x ∷ xs) z
    by true rest i = inr (rest i)
    by false rest (inl e) = inl e
    by false rest (inr i) = inr (rest i)

pub In-different : (xs : List ℕ) (z : ℕ) → In xs z → In (different xs) z
In-different [] z i = absurd i
In-different (x ∷ xs) z i = by (list_any (nat_eq x) xs) refl (In-different xs z) i
  where
    by : (b : Bool) → list_any (nat_eq x) xs ≡ b → (In xs z → In (different xs) z) → In (x ∷ xs) z
        → In (cond b (different xs) (x ∷ different xs)) z
    by true e rest (inl is) = rest (subst (In xs) is (any-in x xs e))
    by true e rest (inr i) = rest i
    by false e rest (inl is) = inl is
    by false e rest (inr i) = inr (rest i)

pub different-distinct : (xs : List ℕ) → AreDistinct (different xs)
different-distinct [] = tt
different-distinct (x ∷ xs) = by (list_any (nat_eq x) xs) refl (different-distinct xs)
  where
    by : (b : Bool) → list_any (nat_eq x) xs ≡ b → AreDistinct (different xs)
        → AreDistinct (cond b (different xs) (x ∷ different xs))
    by true e rest = rest
    by false e rest = (
      λ z i same. absurd (false≢true (sym e
          ∙ found-any (nat_eq x) xs z (In_of_different xs z i) (ap (nat_eq x) (sym same) ∙ equal_test x))),
      rest,
    )

pub kind-there : (c : Claim) (op : ℕ) → In (kinds c) op → Contains c.ops op
kind-there c op i = Contains-from_In c.ops op (In_of_different c.ops op i)

pub there-kind : (c : Claim) (op : ℕ) → Contains c.ops op → In (kinds c) op
there-kind c op h = In-different c.ops op (In-from_Contains c.ops op h)

pub kind-slot : (c : Claim) (line op : ℕ) → line < size c → In (kinds c) op → IsSlot c (slot.Kind line op) sort.Bool
kind-slot c line op l i = (l, kind-there c op i, refl)

-- ---- sorts

pub is_sort-true : (o : Option Sort) (s : Sort) → is_sort o s ≡ true → o ≡ Some s
is_sort-true None s e = absurd (false≢true e)
is_sort-true (Some t) s e = ap Some (same_sort-true t s e)

same_sort-itself : (s : Sort) → same_sort s s ≡ true
same_sort-itself sort.Bool = refl
same_sort-itself (sort.Bits w) = equal_test w
same_sort-itself sort.Mem = refl

pub is_sort-same : (o : Option Sort) (s : Sort) → o ≡ Some s → is_sort o s ≡ true
is_sort-same o s e = ap (λ x. is_sort x s) e ∙ same_sort-itself s

-- an operation's result and its sort
pub out_sort-term : (c : Claim) (op result : ℕ) (s : Sort) → out_sort c op result ≡ Some s
    → (o : Operation) × (slice_get c.file.ops op ≡ Some o)
    × ((t : Term) × (slice_get o.results result ≡ Some t) × (sort_of c.file.pointer t ≡ Some s))
out_sort-term c op result s e = by (slice_get c.file.ops op) refl e
  where
    by : (x : Option Operation) → slice_get c.file.ops op ≡ x → operation_sort c.file x result ≡ Some s
        → (o : Operation) × (slice_get c.file.ops op ≡ Some o)
        × ((t : Term) × (slice_get o.results result ≡ Some t) × (sort_of c.file.pointer t ≡ Some s))
    by None is e = absurd (cc)
    by (Some o) is e = (o, is, bind_some (slice_get o.results result) (sort_of c.file.pointer) s e)

pub term-out_sort : (c : Claim) (op result : ℕ) (s : Sort) (o : Operation) (t : Term) → slice_get c.file.ops op ≡ Some o
    → slice_get o.results result ≡ Some t → sort_of c.file.pointer t ≡ Some s → out_sort c op result ≡ Some s
term-out_sort c op result s o t e f g =
    ap (λ x. operation_sort c.file x result) e ∙ ap (option_and_then (sort_of c.file.pointer)) f ∙ g

-- ---- sources

pub may_have-source : (c : Claim) (line : ℕ) (s : Src) (t : Sort) → may_have c line s t ≡ true → IsSourceAt c line t s
may_have-source c line (Input k) t e = is_sort-true (slice_get c.goal.args k) t e
may_have-source c line (Out node result) t e =
    let parts = and_parts (nat_lt node line) (is_result_sort c result t) e in
    let found = any-found (λ op. is_sort (out_sort c op result) t) (kinds c) parts.1 in
    let out = out_sort-term c found.0 result t (is_sort-true (out_sort c found.0 result) t found.2) in
    (lt-is node line parts.0, (found.0, out.0, (kind-there c found.0 found.1, out.1), out.2))
  where
    lt-is : (x y : ℕ) → nat_lt x y ≡ true → x < y
    lt-is x y h = grind (arith, nat_tests)

pub source-may_have : (c : Claim) (line : ℕ) (s : Src) (t : Sort) → IsSourceAt c line t s → may_have c line s t ≡ true
source-may_have c line (Input k) t h = is_sort-same (slice_get c.goal.args k) t h
source-may_have c line (Out node result) t h =
    let op = h.1.0 in
    let out = term-out_sort c op result t h.1.1 h.1.3.0 h.1.2.1 h.1.3.1 h.1.3.2 in
    and-both (nat_lt node line) (is_result_sort c result t) (lt-true node line h.0)
    (found-any (λ op. is_sort (out_sort c op result) t) (kinds c) op (there-kind c op h.1.2.0)
    (is_sort-same (out_sort c op result) t out))

-- a sort that is wanted
wanted-some : (c : Claim) (line : ℕ) (s : Src) (o : Option Sort) → may_have_wanted c line s o ≡ true
    → (t : Sort) × (o ≡ Some t) × (may_have c line s t ≡ true)
wanted-some c line s None e = absurd (false≢true e)
wanted-some c line s (Some t) e = (t, refl, e)

pub at-line : {X : Type 0} (c : Claim) (row : ℕ) (x y : X) → row < size c → cond (nat_lt row (size c)) x y ≡ x
at-line c row x y l = ap (λ b. cond b x y) (lt-true row (size c) l)

pub at-end : {X : Type 0} (c : Claim) (row : ℕ) (x y : X) → size c ≤ row → cond (nat_lt row (size c)) x y ≡ y
at-end c row x y l = ap (λ b. cond b x y) (lt-not row (size c) l)
  where
    lt-not : (m n : ℕ) → n ≤ m → nat_lt m n ≡ false
    lt-not m n h = grind (arith, nat_tests)

arg-at : (c : Claim) (op place : ℕ) (t : Sort) → arg_sort c op place ≡ Some t
    → (o : Operation) × (slice_get c.file.ops op ≡ Some o) × (slice_get o.args place ≡ Some t)
arg-at c op place t e = bind_some (slice_get c.file.ops op) (λ (o : Operation). slice_get o.args place) t e

-- where the test is true, the slot is one of the claim
pub named-slot : (c : Claim) (row place : ℕ) (s : Src) → row ≤ size c → may_name c row place s ≡ true
    → IsSlot c (slot_at c row place s) sort.Bool
named-slot c row place s l e =
    elim (cases_lt row (size c)) [
      | inl before ↦ (let some = any-found (λ op. may_have_wanted c row s (arg_sort c op place)) (kinds c)
          (sym (at-line c row (list_any (λ op. may_have_wanted c row s (arg_sort c op place)) (kinds c))
          (may_have_wanted c row s (wanted_sort c place)) before) ∙ e) in
          let wanted = wanted-some c row s (arg_sort c some.0 place) some.2 in
          let arg = arg-at c some.0 place wanted.0 wanted.1 in
          let is : IsSlot c (slot.Arg row place s) sort.Bool = (
            before,
            (
              some.0,
              arg.0,
              wanted.0,
              (kind-there c some.0 some.1, arg.1),
              arg.2,
              may_have-source c row s wanted.0 wanted.2,
            ),
            refl,
          ) in
          subst (λ x. IsSlot c x sort.Bool)
          (sym (at-line c row (slot.Arg row place s) (slot.Result place s) before)) is)
      | inr past ↦ (let last : row ≡ size c = omega (arith, l, past) in
          let here = sym (at-end c row (list_any (λ op. may_have_wanted c row s (arg_sort c op place)) (kinds c))
          (may_have_wanted c row s (wanted_sort c place)) past) ∙ e in
          let wanted = wanted-some c row s (wanted_sort c place) here in
          let term = bind_some (slice_get c.goal.results place) (sort_of c.file.pointer) wanted.0 wanted.1 in
          let source = may_have-source c (size c) s wanted.0
          (subst (λ n. may_have c n s wanted.0 ≡ true) last wanted.2) in
          let is : IsSlot c (slot.Result place s) sort.Bool =
          ((term.0, wanted.0, term.1, term.2, source), refl) in
          subst (λ x. IsSlot c x sort.Bool)
          (sym (at-end c row (slot.Arg row place s) (slot.Result place s) past)) is)
    ]

pub arg-named : (c : Claim) (line place : ℕ) (s : Src) (r : Sort) → IsSlot c (slot.Arg line place s) r
    → (line < size c) × (may_name c line place s ≡ true)
arg-named c line place s r h =
    let op = h.1.0 in
    let wanted : arg_sort c op place ≡ Some h.1.2 =
    ap (option_and_then (λ (o : Operation). slice_get o.args place)) h.1.3.1 ∙ h.1.4 in
    let may = ap (may_have_wanted c line s) wanted ∙ source-may_have c line s h.1.2 h.1.5 in (
      h.0,
      at-line c line (list_any (λ op. may_have_wanted c line s (arg_sort c op place)) (kinds c))
          (may_have_wanted c line s (wanted_sort c place)) h.0
          ∙ found-any (λ op. may_have_wanted c line s (arg_sort c op place)) (kinds c) op (there-kind c op h.1.3.0) may,
    )

pub result-named : (c : Claim) (place : ℕ) (s : Src) (r : Sort) → IsSlot c (slot.Result place s) r
    → may_name c (size c) place s ≡ true
result-named c place s r h =
    let wanted : wanted_sort c place ≡ Some h.0.1 =
    ap (option_and_then (sort_of c.file.pointer)) h.0.2 ∙ h.0.3 in
    at-end c (size c) (list_any (λ op. may_have_wanted c (size c) s (arg_sort c op place)) (kinds c))
    (may_have_wanted c (size c) s (wanted_sort c place)) (omega arith)
    ∙ ap (may_have_wanted c (size c) s) wanted ∙ source-may_have c (size c) s h.0.1 h.0.4

-- a source that may be named stands before the row
pub named-before : (c : Claim) (row place node result : ℕ) → may_name c row place (Out node result) ≡ true → node < row
named-before c row place node result e = by (nat_lt row (size c)) e
  where
    out-before : (t : Option Sort) → may_have_wanted c row (Out node result) t ≡ true → node < row
    out-before t e =
        let some = wanted-some c row (Out node result) t e in
        (may_have-source c row (Out node result) some.0 some.2).0

    by : (b : Bool) → cond b (list_any (λ op. may_have_wanted c row (Out node result) (arg_sort c op place)) (kinds c))
        (may_have_wanted c row (Out node result) (wanted_sort c place)) ≡ true → node < row
    by true e =
        let some = any-found (λ op. may_have_wanted c row (Out node result) (arg_sort c op place)) (kinds c) e in
        out-before (arg_sort c some.0 place) some.2
    by false e = out-before (wanted_sort c place) e

-- ---- choices

pub choice-named : (c : Claim) (row place : ℕ) (s : Src) → In (choices c row place) s → may_name c row place s ≡ true
choice-named c row place s i = (In_of_filter (may_name c row place) (map source_at (range_with_len 0 (4 + 3 * row))) s
    i).1

number-of_at : (n : ℕ) → source_number (source_at n) ≡ n
number-of_at n = by (nat_lt n 4) refl
  where
    four : (n : ℕ) → nat_lt n 4 ≡ false → 4 ≤ n
    four n h = grind (arith, nat_tests)

    by : (b : Bool) → nat_lt n 4 ≡ b → source_number (cond b (Input n) (Out ((n - 4) / 3) ((n - 4) % 3))) ≡ n
    by true is = refl
    by false is = let l : 4 ≤ n = four n is in omega arith

pub choices-distinct : (c : Claim) (row place : ℕ) → AreDistinct (choices c row place)
choices-distinct c row place =
    IsOrdered-filter (λ (x y : Src). x ≡ y → ⊥) (may_name c row place) (map source_at (range_with_len 0 (4 + 3 * row)))
    (IsOrdered-map (λ (x y : ℕ). x < y) (λ (x y : Src). x ≡ y → ⊥) source_at
    (λ a b l same. omega (arith, l, sym (number-of_at a) ∙ ap source_number same ∙ number-of_at b))
    (range_with_len 0 (4 + 3 * row)) (IsOrdered-range 0 (4 + 3 * row)))

-- a source within the limits, by its number
abbrev pub IsSmallBefore : ℕ → Src → Type 0
IsSmallBefore row (Input k) = k < 4
IsSmallBefore row (Out node result) = (node < row) × (result < 3)

at-of_number : (row : ℕ) (s : Src) → IsSmallBefore row s → source_at (source_number s) ≡ s
at-of_number row (Input k) l = ap (λ b. cond b (Input k) (Out ((k - 4) / 3) ((k - 4) % 3))) (lt-true k 4 l)
at-of_number row (Out node result) l =
    let n : ℕ = 4 + 3 * node + result in
    let past : nat_lt (4 + 3 * node + result) 4 ≡ false = four-past (3 * node) result in
    let first : (4 + 3 * node + result - 4) / 3 ≡ node = omega (arith, l.1) in
    let second : (4 + 3 * node + result - 4) % 3 ≡ result = omega (arith, l.1) in
    ap (λ b. cond b (Input (4 + 3 * node + result))
    (Out ((4 + 3 * node + result - 4) / 3) ((4 + 3 * node + result - 4) % 3))) past
    ∙ (λ i. Out (first i) (second i))
  where
    four-past : (m r : ℕ) → nat_lt (4 + m + r) 4 ≡ false
    four-past m r = grind (arith, nat_tests)

number-small : (row : ℕ) (s : Src) → IsSmallBefore row s → source_number s < 4 + 3 * row
number-small row (Input k) l = omega (arith, l)
number-small row (Out node result) l = omega (arith, l.0, l.1)

pub named-choice : (c : Claim) (row place : ℕ) (s : Src) → IsSmallBefore row s → may_name c row place s ≡ true
    → In (choices c row place) s
named-choice c row place s small e =
    In-filter (may_name c row place) (map source_at (range_with_len 0 (4 + 3 * row))) s
    (subst (In (map source_at (range_with_len 0 (4 + 3 * row)))) (at-of_number row s small)
    (In-map source_at (range_with_len 0 (4 + 3 * row)) (source_number s)
    (In-range 0 (4 + 3 * row) (source_number s) (omega arith) (omega (arith, number-small row s small))))) e
