-- The choices of a canonical pattern of the claim have the shape.
use Rattle.std.proofs.Common.{◌≡◌, ℕ, zero, suc, ◌+◌, ◌-◌, ◌<◌, ◌≤◌, inl, inr, ⊎_elim, Bool, true, false, not}
use Rattle.std.proofs.Common.{◌&&◌}
use Rattle.std.proofs.Common.{◌||◌, cond, List, [], ◌∷◌, length, map, slice_get, Option, Some, None, option_and_then}
use Rattle.std.proofs.Common.{refl}
use Rattle.std.proofs.Common.{sym, ap, ◌∙◌, subst, arith}
use Rattle.std.specs.Prelude.{nat_eq, nat_lt, nat_le, count_by}
use Rattle.std.specs.List.{list_any, range_with_len}
use Rattle.std.proofs.lemmas.Bool.{cases_lt}
use Rattle.std.proofs.lemmas.Bool.Decides.{nat_tests}
use Rattle.std.proofs.lemmas.Option.{same_Some, slice_get_within}
use Rattle.bv_terms.specs.declared.value.Sort.{Sort}
use Rattle.bv_terms.specs.WellSorted.{sort_of}
use Rattle.isel_spec.specs.File.{Operation}
use Rattle.pattern_core.specs.Claim.{Claim, IsPatternOf}
use Rattle.pattern_core.specs.Order.{put, multiset}
use Rattle.pattern_core.specs.Pattern.{source_sort, operation_sort, args_of, IsUsed}
use Rattle.pattern_core.specs.Walk.{IsCanonical}
use Rattle.pattern_core.specs.declared.pattern.Node.{Node}
use Rattle.pattern_core.specs.declared.pattern.Pattern.{Pattern}
use Rattle.pattern_core.specs.declared.pattern.Src.{Src}
use Rattle.pattern_core.specs.declared.pattern.Src.TheVariants.{Input, Out}
use Rattle.list_lemmas.proofs.Bools.{and-both, or-right}
use Rattle.list_lemmas.proofs.Lookups.{Contains-slice_get, some_at}
use Rattle.list_lemmas.proofs.Members.{In, In_of_range, list_all_from_in}
use Rattle.loc_encode.specs.declared.slots.Slot.{Slot}
use Rattle.loc_encode.specs.declared.slots.Slot.TheVariants as slot
use Rattle.loc_encode.specs.Standing.{is_source, is_op, arg_at}
use Rattle.loc_encode.specs.Layout.{kinds, size, arg_sort, out_sort, wanted_sort, is_sort, is_result_sort, may_have}
use Rattle.loc_encode.specs.Layout.{may_have_wanted, may_name, slot_at, choices, row_slots, any_below}
use Rattle.loc_encode.specs.Shape.{are_chosen, have_kinds, kind_slots, are_used_up, has_sort, have_sort, has_source}
use Rattle.loc_encode.specs.Shape.{has_argument, is_filled, is_row_filled, are_filled, names_source, names_node}
use Rattle.loc_encode.specs.Shape.{row_names, is_used, are_used, names_from, goes_on, some_goes_on}
use Rattle.loc_encode.specs.Shape.{is_followed, are_followed, has_shape}
use Rattle.loc_encode.proofs.TallyLemmas.{IsOnly, none-counted, counted-once, count-map, count-same, same_number}
use Rattle.loc_encode.proofs.TallyLemmas.{equal_test}
use Rattle.loc_encode.proofs.LayoutLemmas.{found-any, different-distinct, there-kind, is_sort-same}
use Rattle.loc_encode.proofs.LayoutLemmas.{out_sort-term, at-line, at-end, choice-named, choices-distinct}
use Rattle.loc_encode.proofs.LayoutLemmas.{IsSmallBefore}
use Rattle.loc_encode.proofs.LayoutLemmas.{named-choice}
use Rattle.loc_encode.proofs.ReadLemmas.{all_below-from, any_below-from, IsBounded, IsRead, HasKinds, row_source}
use Rattle.loc_encode.proofs.ReadLemmas.{read-source, read-kind, same_source-true, same_source-itself, names-from}
use Rattle.loc_encode.proofs.ReadLemmas.{has_sort-from, In-put, count-multiset, count-places}
use Rattle.loc_encode.proofs.FollowLemmas.{GoesOn, canonical-follows}
use Rattle.list_lemmas.proofs.Members.{Contains-from_In}

-- ---- equal maps, place by place

pub map-at : {A B C : Type 0} (F : A → C) (G : B → C) (xs : List A) (ys : List B) (i : ℕ) (x : A) → map F xs ≡ map G ys
    → slice_get xs i ≡ Some x → (y : B) × (slice_get ys i ≡ Some y) × (F x ≡ G y)
map-at F G [] ys i x e h = absurd (cc)
map-at F G (z ∷ xs) [] i x e h = absurd (cc)
map-at F G (z ∷ xs) (y ∷ ys) zero x e h =
    let same : z ≡ x = same_Some z x h in
    let heads : F z ≡ G y = cc in
    (y, refl, ap F (sym same) ∙ heads)
map-at F G (z ∷ xs) (y ∷ ys) (suc i) x e h = let tails : map F xs ≡ map G ys = cc in map-at F G xs ys i x tails h

pub map-none : {A B C : Type 0} (F : A → C) (G : B → C) (xs : List A) (ys : List B) (i : ℕ) → map F xs ≡ map G ys
    → slice_get ys i ≡ None → slice_get xs i ≡ None
map-none F G [] ys i e h = refl
map-none F G (z ∷ xs) [] i e h = absurd (cc)
map-none F G (z ∷ xs) (y ∷ ys) zero e h = absurd (cc)
map-none F G (z ∷ xs) (y ∷ ys) (suc i) e h = let tails : map F xs ≡ map G ys = cc in map-none F G xs ys i tails h

-- ---- what a pattern of the claim names

pub source-facts : (c : Claim) (p : Pattern) → IsBounded c → HasKinds c p → (row : ℕ) (s : Src) (t : Sort)
    → row ≤ size c → source_sort c.file c.goal p.nodes row s ≡ Some t
    → (may_have c row s t ≡ true) × IsSmallBefore row s
source-facts c p within kinds-are row (Input k) t l e = (
  is_sort-same (slice_get c.goal.args k) t e,
  (let there = slice_get_within c.goal.args k t e in let few = within.args in omega (arith, there, few)),
)
source-facts c p within kinds-are row (Out node result) t l e = by (nat_lt node row) refl e
  where
    lt-is : (x y : ℕ) → nat_lt x y ≡ true → x < y
    lt-is x y h = grind (arith, nat_tests)

    by : (b : Bool) → nat_lt node row ≡ b
        → cond b (operation_sort c.file (option_and_then (λ (n : Node). slice_get c.file.ops n.op)
        (slice_get p.nodes node)) result) None ≡ Some t
        → (may_have c row (Out node result) t ≡ true) × IsSmallBefore row (Out node result)
    by true before e =
        let b = lt-is node row before in
        let n = kinds-are node (omega (arith, b, l)) in
        let out : out_sort c n.0.op result ≡ Some t =
        sym (ap (λ o. operation_sort c.file (option_and_then (λ (n : Node). slice_get c.file.ops n.op) o) result) n.1)
        ∙ e in
        let term = out_sort-term c n.0.op result t out in
        let small = slice_get_within term.0.results result term.2.0 term.2.1 in
        let three = within.op_results n.0.op term.0 term.1 in (
          and-both (nat_lt node row) (is_result_sort c result t) before
              (found-any (λ op. is_sort (out_sort c op result) t) (kinds c) n.0.op n.2
              (is_sort-same (out_sort c n.0.op result) t out)),
          (b, omega (arith, small, three)),
        )
    by false before e = absurd (cc)

-- the source in the place of the row is as it is wanted
abbrev pub IsAsWanted : Claim → Pattern → ℕ → ℕ → Option Sort → Type 0
IsAsWanted c p row place None = row_source c p row place ≡ None
IsAsWanted c p row place (Some t) =
    (s : Src) × (row_source c p row place ≡ Some s) × (source_sort c.file c.goal p.nodes row s ≡ Some t)

-- what a pattern of the claim is, as the tests say it
pub record IsArranged (c : Claim) (p : Pattern) : Type 0 where
  pub kinds_are : HasKinds c p
  pub named : (row place : ℕ) (s : Src) → row ≤ size c → row_source c p row place ≡ Some s
      → (place < 4) × (may_name c row place s ≡ true) × IsSmallBefore row s
  pub args : (line place : ℕ) (n : Node) → line < size c → slice_get p.nodes line ≡ Some n
      → IsAsWanted c p line place (arg_sort c n.op place)
  pub results : (place : ℕ) → IsAsWanted c p (size c) place (wanted_sort c place)

in-multiset : (ns : List Node) (k : ℕ) (n : Node) → slice_get ns k ≡ Some n → In (multiset ns) n.op
in-multiset [] k n e = absurd (cc)
in-multiset (m ∷ ns) zero n e = subst (λ (x : Node). In (put m.op (multiset ns)) x.op) (same_Some m n e)
    (In-put m.op (multiset ns))
in-multiset (m ∷ ns) (suc k) n e = put-keeps m.op (multiset ns) n.op (in-multiset ns k n e)
  where
    put-keeps : (x : ℕ) (ys : List ℕ) (z : ℕ) → In ys z → In (put x ys) z
    put-keeps x [] z i = absurd i
    put-keeps x (y ∷ ys) z i = by (nat_le x y) (put-keeps x ys z) i
      where
        by : (b : Bool) → (In ys z → In (put x ys) z) → In (y ∷ ys) z → In (cond b (x ∷ y ∷ ys) (y ∷ put x ys)) z
        by true rest i = inr i
        by false rest (inl e) = inl e
        by false rest (inr i) = inr (rest i)

pub pattern-kinds : (c : Claim) (p : Pattern) → length p.nodes ≡ size c → multiset p.nodes ≡ c.ops → HasKinds c p
pattern-kinds c p whole ops = λ line l.
    let n = some_at p.nodes line (omega (arith, whole, l)) in (
      n.0,
      n.1,
      there-kind c n.0.op (Contains-from_In c.ops n.0.op
          (subst (λ xs. In xs n.0.op) ops (in-multiset p.nodes line n.0 n.1))),
    )

row-at : (c : Claim) (p : Pattern) (line place : ℕ) (n : Node) → line < size c → slice_get p.nodes line ≡ Some n
    → row_source c p line place ≡ slice_get n.args place
row-at c p line place n l e =
    at-line c line (arg_at (slice_get p.nodes line) place) (slice_get p.results place) l ∙ ap (λ o. arg_at o place) e

row-end : (c : Claim) (p : Pattern) (place : ℕ) → row_source c p (size c) place ≡ slice_get p.results place
row-end c p place =
    at-end c (size c) (arg_at (slice_get p.nodes (size c)) place) (slice_get p.results place) (omega arith)

by-option : {A : Type 0} (P : Option A → Type 0) → (o : Option A) → (o ≡ None → P None)
    → ((x : A) → o ≡ Some x → P (Some x)) → P o
by-option P None none some = none refl
by-option P (Some x) none some = some x refl

pub pattern-arranged : (c : Claim) (p : Pattern) → IsBounded c → IsPatternOf c p → length p.nodes ≡ size c
    → IsArranged c p
pattern-arranged c p within is whole = record {
  kinds_are = kinds-are;
  named = named;
  args = args;
  results = results;
}
  where
    kinds-are : HasKinds c p
    kinds-are = pattern-kinds c p whole is.ops

    wanted-name : (row place : ℕ) (s : Src) (t : Sort) (op : ℕ) → row < size c → In (kinds c) op
        → arg_sort c op place ≡ Some t → may_have c row s t ≡ true → may_name c row place s ≡ true
    wanted-name row place s t op l i e may =
        at-line c row (list_any (λ op. may_have_wanted c row s (arg_sort c op place)) (kinds c))
        (may_have_wanted c row s (wanted_sort c place)) l
        ∙ found-any (λ op. may_have_wanted c row s (arg_sort c op place)) (kinds c) op i
        (ap (may_have_wanted c row s) e ∙ may)

    named-line : (row place : ℕ) (s : Src) → row < size c → row_source c p row place ≡ Some s
        → (place < 4) × (may_name c row place s ≡ true) × IsSmallBefore row s
    named-line row place s l e =
        let n = kinds-are row l in
        let fit = is.well_formed.nodes row n.0 n.1 in
        let here = sym (row-at c p row place n.0 l n.1) ∙ e in
        let arg = map-at (source_sort c.file c.goal p.nodes row) (λ (s : Sort). Some s) n.0.args fit.operation.args
        place
        s fit.args here in
        let facts = source-facts c p within kinds-are row s arg.0 (omega (arith, l)) arg.2 in
        let there = slice_get_within fit.operation.args place arg.0 arg.1 in
        let four = within.op_args n.0.op fit.operation fit.in_file in
        let sort-is : arg_sort c n.0.op place ≡ Some arg.0 =
        ap (option_and_then (λ (o : Operation). slice_get o.args place)) fit.in_file ∙ arg.1 in
        (omega (arith, there, four), wanted-name row place s arg.0 n.0.op l n.2 sort-is facts.0, facts.1)

    named-end : (place : ℕ) (s : Src) → row_source c p (size c) place ≡ Some s
        → (place < 4) × (may_name c (size c) place s ≡ true) × IsSmallBefore (size c) s
    named-end place s e =
        let here = sym (row-end c p place) ∙ e in
        let got = map-at (source_sort c.file c.goal p.nodes (length p.nodes)) (sort_of c.file.pointer) p.results
        c.goal.results place s is.well_formed.results here in
        let sort-of = within.sorted place got.0 got.1 in
        let sorted : source_sort c.file c.goal p.nodes (size c) s ≡ Some sort-of.0 =
        ap (λ n. source_sort c.file c.goal p.nodes n s) (sym whole) ∙ got.2 ∙ sort-of.1 in
        let facts = source-facts c p within kinds-are (size c) s sort-of.0 (omega arith) sorted in
        let there = slice_get_within c.goal.results place got.0 got.1 in
        let three = within.results in
        let wanted : wanted_sort c place ≡ Some sort-of.0 =
        ap (option_and_then (sort_of c.file.pointer)) got.1 ∙ sort-of.1 in (
          omega (arith, there, three),
          at-end c (size c) (list_any (λ op. may_have_wanted c (size c) s (arg_sort c op place)) (kinds c))
              (may_have_wanted c (size c) s (wanted_sort c place)) (omega arith)
              ∙ ap (may_have_wanted c (size c) s) wanted ∙ facts.0,
          facts.1,
        )

    named : (row place : ℕ) (s : Src) → row ≤ size c → row_source c p row place ≡ Some s
        → (place < 4) × (may_name c row place s ≡ true) × IsSmallBefore row s
    named row place s l e =
        elim (cases_lt row (size c)) [
          | inl before ↦ named-line row place s before e
          | inr past ↦ (let last : size c ≡ row = omega (arith, l, past) in
              subst (λ r. row_source c p r place ≡ Some s
              → (place < 4) × (may_name c r place s ≡ true) × IsSmallBefore r s) last (named-end place s) e)
        ]

    args : (line place : ℕ) (n : Node) → line < size c → slice_get p.nodes line ≡ Some n
        → IsAsWanted c p line place (arg_sort c n.op place)
    args line place n l e =
        let fit = is.well_formed.nodes line n e in
        let row = row-at c p line place n l e in
        subst (IsAsWanted c p line place)
        (sym (ap (option_and_then (λ (o : Operation). slice_get o.args place)) fit.in_file))
        (by-option (IsAsWanted c p line place) (slice_get fit.operation.args place)
        (λ none. row ∙ map-none (source_sort c.file c.goal p.nodes line) (λ (s : Sort). Some s) n.args
        fit.operation.args
        place fit.args none)
        (λ t some.
        let got = map-at (λ (s : Sort). Some s) (source_sort c.file c.goal p.nodes line) fit.operation.args n.args
        place t
        (sym fit.args) some in
        (got.0, row ∙ got.1, sym got.2)))

    results : (place : ℕ) → IsAsWanted c p (size c) place (wanted_sort c place)
    results place =
        by-option (λ o. IsAsWanted c p (size c) place (option_and_then (sort_of c.file.pointer) o))
        (slice_get c.goal.results place)
        (λ none. row-end c p place ∙ map-none (source_sort c.file c.goal p.nodes (length p.nodes))
        (sort_of c.file.pointer) p.results c.goal.results place is.well_formed.results none)
        (λ t some.
        let got = map-at (sort_of c.file.pointer) (source_sort c.file c.goal p.nodes (length p.nodes)) c.goal.results
        p.results place t (sym is.well_formed.results) some in
        let sort-of = within.sorted place t some in
        subst (IsAsWanted c p (size c) place) (sym sort-of.1) (
          got.0,
          row-end c p place ∙ got.1,
          ap (λ n. source_sort c.file c.goal p.nodes n got.0) (sym whole) ∙ sym got.2 ∙ sort-of.1,
        ))

-- ---- kinds

pub complete-kinds : (c : Claim) (g : Slot → Bool) (p : Pattern) → IsRead c g p → IsArranged c p
    → have_kinds c g ≡ true
complete-kinds c g p is at = all_below-from (λ line. are_chosen g (map (slot.Kind line) (kinds c)) 1) (size c)
    (λ line l.
    let n = at.kinds_are line l in
    let read = λ (op : ℕ) (i : In (kinds c) op). read-kind c g p is line op n.0 l i n.1 in
    let only : IsOnly (λ op. g (slot.Kind line op)) (kinds c) n.0.op = record {
      there = n.2;
      passes = read n.0.op n.2 ∙ equal_test n.0.op;
      only = λ op i yes. sym (same_number n.0.op op (sym (read op i) ∙ yes));
    } in
    ap (λ k. nat_eq k 1) (count-map g (slot.Kind line) (kinds c)
    ∙ counted-once (λ op. g (slot.Kind line op)) (kinds c) n.0.op (different-distinct c.ops) only))

-- how many lines are of an operation
pub lines-of : (c : Claim) (g : Slot → Bool) (p : Pattern) → IsRead c g p → HasKinds c p → (op : ℕ) → In (kinds c) op
    → count_by g (kind_slots c op) ≡ count_by (nat_eq op) (multiset p.nodes)
lines-of c g p is kinds-are op i =
    count-map g (λ line. slot.Kind line op) (range_with_len 0 (size c))
    ∙ count-same (λ line. g (slot.Kind line op)) (λ line. is_op (slice_get p.nodes line) op) (range_with_len 0 (size c))
    (λ line j.
    let l : line < size c = let w = In_of_range 0 (size c) line j in omega (arith, w.1) in
    let n = kinds-are line l in
    read-kind c g p is line op n.0 l i n.1 ∙ ap (λ o. is_op o op) (sym n.1))
    ∙ ap (λ n. count_by (λ line. is_op (slice_get p.nodes line) op) (range_with_len 0 n)) (sym is.whole)
    ∙ count-places (λ o. is_op o op) p.nodes
    ∙ sym (count-multiset op p.nodes)

pub complete-used_up : (c : Claim) (g : Slot → Bool) (p : Pattern) → IsRead c g p → IsArranged c p
    → multiset p.nodes ≡ c.ops → are_used_up c g ≡ true
complete-used_up c g p is at ops =
    list_all_from_in (λ op. are_chosen g (kind_slots c op) (count_by (nat_eq op) c.ops)) (kinds c) (λ op i.
    let same : count_by g (kind_slots c op) ≡ count_by (nat_eq op) c.ops =
    lines-of c g p is at.kinds_are op i ∙ ap (count_by (nat_eq op)) ops in
    ap (λ n. nat_eq n (count_by (nat_eq op) c.ops)) same ∙ equal_test (count_by (nat_eq op) c.ops))

-- ---- sources

complete-source : (c : Claim) (g : Slot → Bool) (p : Pattern) → IsRead c g p → IsArranged c p → (row place : ℕ)
    (wanted : Option Sort) → row ≤ size c → IsAsWanted c p row place wanted → has_source c g row place wanted ≡ true
complete-source c g p is at row place None l none =
    ap (λ n. nat_eq n 0) (count-map g (slot_at c row place) (choices c row place)
    ∙ none-counted (λ s. g (slot_at c row place s)) (choices c row place) (λ s i.
    read-source c g p is row place s l (choice-named c row place s i) ∙ ap (λ o. is_source o s) none))
complete-source c g p is at row place (Some t) l some =
    let s = some.0 in
    let facts = at.named row place s l some.1 in
    let read = λ (r : Src) (i : In (choices c row place) r).
    read-source c g p is row place r l (choice-named c row place r i) ∙ ap (λ o. is_source o r) some.1 in
    let there = named-choice c row place s facts.2 facts.1 in
    let only : IsOnly (λ r. g (slot_at c row place r)) (choices c row place) s = record {
      there = there;
      passes = read s there ∙ same_source-itself s;
      only = λ r i yes. sym (same_source-true s r (sym (read r i) ∙ yes));
    } in
    and-both (are_chosen g (row_slots c row place) 1) (have_sort c g row place t)
    (ap (λ n. nat_eq n 1) (count-map g (slot_at c row place) (choices c row place)
    ∙ counted-once (λ r. g (slot_at c row place r)) (choices c row place) s (choices-distinct c row place) only))
    (list_all_from_in (λ r. not (g (slot_at c row place r)) || has_sort c g t r) (choices c row place) (λ r i.
    implied (g (slot_at c row place r)) (has_sort c g t r) (λ yes.
    has_sort-from c g p is at.kinds_are row r t l
    (ap (λ x. source_sort c.file c.goal p.nodes row x) (only.only r i yes) ∙ some.2))))
  where
    implied : (a b : Bool) → (a ≡ true → b ≡ true) → (not a || b) ≡ true
    implied true b h = h refl
    implied false b h = refl

complete-argument : (c : Claim) (g : Slot → Bool) (p : Pattern) → IsRead c g p → IsArranged c p → (line place : ℕ)
    → line < size c → has_argument c g line place ≡ true
complete-argument c g p is at line place l =
    let n = at.kinds_are line l in
    list_all_from_in (λ op. not (g (slot.Kind line op)) || has_source c g line place (arg_sort c op place)) (kinds c)
    (λ op i. implied (g (slot.Kind line op)) (has_source c g line place (arg_sort c op place)) (λ yes.
    let same : n.0.op ≡ op = same_number n.0.op op (sym (read-kind c g p is line op n.0 l i n.1) ∙ yes) in
    subst (λ k. has_source c g line place (arg_sort c k place) ≡ true) same
    (complete-source c g p is at line place (arg_sort c n.0.op place) (omega (arith, l))
    (at.args line place n.0 l n.1))))
  where
    implied : (a b : Bool) → (a ≡ true → b ≡ true) → (not a || b) ≡ true
    implied true b h = h refl
    implied false b h = refl

pub complete-filled : (c : Claim) (g : Slot → Bool) (p : Pattern) → IsRead c g p → IsArranged c p
    → are_filled c g ≡ true
complete-filled c g p is at =
    all_below-from (is_row_filled c g) (size c + 1) (λ row l. all_below-from (is_filled c g row) 4 (λ place four.
    elim (cases_lt row (size c)) [
      | inl before ↦ at-line c row (has_argument c g row place) (has_source c g row place (wanted_sort c place)) before
          ∙ complete-argument c g p is at row place before
      | inr past ↦ (let last : size c ≡ row = omega (arith, l, past) in
          at-end c row (has_argument c g row place) (has_source c g row place (wanted_sort c place)) past
          ∙ subst (λ r. has_source c g r place (wanted_sort c place) ≡ true) last
          (complete-source c g p is at (size c) place (wanted_sort c place) (omega arith) (at.results place)))
    ]))

-- ---- uses

named-node : (c : Claim) (g : Slot → Bool) (p : Pattern) → IsRead c g p → IsArranged c p → (row place node r : ℕ)
    → row ≤ size c → row_source c p row place ≡ Some (Out node r) → names_node c g node row place ≡ true
named-node c g p is at row place node r l e =
    let facts = at.named row place (Out node r) l e in
    any_below-from (λ q. names_source c g row place (Out node q)) 3 r facts.2.1
    (names-from c g p is row place (Out node r) l facts.1 e)

named-row : (c : Claim) (g : Slot → Bool) (p : Pattern) → IsRead c g p → IsArranged c p → (row place node r : ℕ)
    → row ≤ size c → row_source c p row place ≡ Some (Out node r) → row_names c g node row ≡ true
named-row c g p is at row place node r l e =
    any_below-from (names_node c g node row) 4 place (at.named row place (Out node r) l e).0
    (named-node c g p is at row place node r l e)

used-row : (c : Claim) (g : Slot → Bool) (p : Pattern) → IsRead c g p → IsArranged c p → (row place node r : ℕ)
    → row ≤ size c → row_source c p row place ≡ Some (Out node r) → is_used c g node ≡ true
used-row c g p is at row place node r l e =
    let before : node < row = (at.named row place (Out node r) l e).2.0 in
    let there : node + 1 + (row - (node + 1)) ≡ row = omega (arith, before) in
    any_below-from (λ k. row_names c g node (node + 1 + k)) (size c - node) (row - (node + 1))
    (omega (arith, before, l))
    (subst (λ x. row_names c g node x ≡ true) (sym there) (named-row c g p is at row place node r l e))

-- the arguments of a node that is there
args-row : (c : Claim) (p : Pattern) → IsArranged c p → length p.nodes ≡ size c → (j place : ℕ) (s : Src)
    → slice_get (args_of (slice_get p.nodes j)) place ≡ Some s → (j < size c) × (row_source c p j place ≡ Some s)
args-row c p at whole j place s e = by (slice_get p.nodes j) refl e
  where
    by : (o : Option Node) → slice_get p.nodes j ≡ o → slice_get (args_of o) place ≡ Some s
        → (j < size c) × (row_source c p j place ≡ Some s)
    by None is e = absurd (cc)
    by (Some n) is e =
        let l : j < size c = let w = slice_get_within p.nodes j n is in omega (arith, w, whole) in
        (l, row-at c p j place n l is ∙ e)

pub complete-used : (c : Claim) (g : Slot → Bool) (p : Pattern) → IsRead c g p → IsArranged c p
    → ((k : ℕ) → k < length p.nodes → IsUsed p k) → are_used c g ≡ true
complete-used c g p is at used = all_below-from (is_used c g) (size c) (λ node l.
    let use-of = used node (omega (arith, is.whole, l)) in
    ⊎_elim (λ in-results.
    let place = Contains-slice_get p.results (Out node use-of.0) in-results in
    used-row c g p is at (size c) place.0 node use-of.0 (omega arith) (row-end c p place.0 ∙ place.1))
    (λ in-args.
    let place = Contains-slice_get (args_of (slice_get p.nodes in-args.0)) (Out node use-of.0) in-args.1 in
    let row = args-row c p at is.whole in-args.0 place.0 (Out node use-of.0) place.1 in
    used-row c g p is at in-args.0 place.0 node use-of.0 (omega (arith, row.0)) row.1)
    use-of.1)

-- ---- order

later-named : (c : Claim) (g : Slot → Bool) (p : Pattern) → IsRead c g p → IsArranged c p
    → (from row place node r : ℕ) → row ≤ size c → from ≤ node → row_source c p row place ≡ Some (Out node r)
    → names_from c g from row place ≡ true
later-named c g p is at from row place node r l later e =
    let before : node < row = (at.named row place (Out node r) l e).2.0 in
    let there : from + (node - from) ≡ node = omega (arith, later) in
    any_below-from (λ k. names_node c g (from + k) row place) (row - from) (node - from) (omega (arith, before, later))
    (subst (λ x. names_node c g x row place ≡ true) (sym there) (named-node c g p is at row place node r l e))

row-goes_on : (c : Claim) (g : Slot → Bool) (p : Pattern) → IsRead c g p → IsArranged c p → (row node : ℕ)
    (list : List Src) → row ≤ size c → ((place : ℕ) (s : Src) → slice_get list place ≡ Some s
    → row_source c p row place ≡ Some s) → GoesOn list node → some_goes_on c g node ≡ true
row-goes_on c g p is at row node list l row-is on =
    let first = row-is on.first (Out node on.result) on.here in
    let second = row-is on.second (Out on.later on.other) on.there in
    let facts = at.named row on.second (Out on.later on.other) l second in
    let before : on.later < row = facts.2.0 in
    let from = on.from in
    let there : node + 2 + (row - (node + 2)) ≡ row = omega (arith, before, from) in
    let names = any_below-from (names_node c g node row) on.second on.first on.order
    (named-node c g p is at row on.first node on.result l first) in
    let goes : goes_on c g node row ≡ true =
    any_below-from (λ place. any_below (names_node c g node row) place && names_from c g (node + 1) row place) 4
    on.second facts.0
    (and-both (any_below (names_node c g node row) on.second) (names_from c g (node + 1) row on.second) names
    (later-named c g p is at (node + 1) row on.second on.later on.other l from second)) in
    any_below-from (λ k. goes_on c g node (node + 2 + k)) (size c - (node + 1)) (row - (node + 2))
    (omega (arith, before, from, l)) (subst (λ x. goes_on c g node x ≡ true) (sym there) goes)

pub complete-followed : (c : Claim) (g : Slot → Bool) (p : Pattern) → IsRead c g p → IsArranged c p → IsCanonical p
    → are_followed c g ≡ true
complete-followed c g p is at canonical = all_below-from (is_followed c g) (size c - 1) (λ node l.
    let goes-on : some_goes_on c g node ≡ true → is_followed c g node ≡ true =
    λ e. or-right (row_names c g node (node + 1)) (some_goes_on c g node) e in
    ⊎_elim (λ linked. ⊎_elim
    (λ named.
    let row = args-row c p at is.whole (node + 1) named.place (Out node named.result) named.here in
    ap (λ b. b || some_goes_on c g node)
    (named-row c g p is at (node + 1) named.place node named.result (omega (arith, row.0)) row.1))
    (λ on.
    let args = λ (place : ℕ) (s : Src). args-row c p at is.whole on.0 place s in
    let l' = (args on.1.first (Out node on.1.result) on.1.here).0 in
    goes-on (row-goes_on c g p is at on.0 node (args_of (slice_get p.nodes on.0)) (omega (arith, l'))
    (λ place s e. (args place s e).1) on.1))
    linked)
    (λ on. goes-on (row-goes_on c g p is at (size c) node p.results (omega arith)
    (λ place s e. row-end c p place ∙ e) on))
    (canonical-follows p canonical node (omega (arith, is.whole, l))))

-- ---- all

pub complete-shape : (c : Claim) (g : Slot → Bool) (p : Pattern) → IsBounded c → IsRead c g p → IsPatternOf c p
    → IsCanonical p → has_shape c g ≡ true
complete-shape c g p within is pattern canonical =
    let at = pattern-arranged c p within pattern is.whole in
    and-both (have_kinds c g && are_used_up c g && are_filled c g && are_used c g) (are_followed c g)
    (and-both (have_kinds c g && are_used_up c g && are_filled c g) (are_used c g)
    (and-both (have_kinds c g && are_used_up c g) (are_filled c g)
    (and-both (have_kinds c g) (are_used_up c g) (complete-kinds c g p is at)
    (complete-used_up c g p is at pattern.ops))
    (complete-filled c g p is at))
    (complete-used c g p is at pattern.well_formed.used))
    (complete-followed c g p is at canonical)
