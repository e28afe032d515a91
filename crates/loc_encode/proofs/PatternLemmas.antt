-- The slots that a pattern of a claim names, and that values stand for at most one pattern.
use Rattle.std.proofs.Common.{◌≡◌, ◌∙◌, ◌<◌, ◌≤◌, ◌^◌, ℕ, zero, suc, List, [], ◌∷◌, Option, Some, None, Bool, true}
use Rattle.std.proofs.Common.{false}
use Rattle.std.proofs.Common.{refl, sym, ap, subst, cond, length, map, slice_get, arith, inl, inr, Contains}
use Rattle.std.specs.Prelude.{nat_lt, nat_le, option_and_then, ◌==◌}
use Rattle.std.proofs.lemmas.Bool.{eqb-true, eq-eqb}
use Rattle.std.proofs.lemmas.List.{length-map}
use Rattle.std.proofs.lemmas.Option.{none-some, same_Some, slice_get_within}
use Rattle.bv_terms.specs.declared.value.Sort.{Sort}
use Rattle.bv_terms.specs.declared.value.Value.{Value}
use Rattle.bv_terms.specs.declared.value.Value.TheVariants as val
use Rattle.bv_terms.specs.Term.{Term}
use Rattle.bv_terms.specs.WellSorted.{sort_of}
use Rattle.isel_spec.specs.File.{File, Operation, Goal}
use Rattle.pattern_core.specs.Claim.{Claim, IsPatternOf}
use Rattle.pattern_core.specs.declared.pattern.Node.{Node}
use Rattle.pattern_core.specs.declared.pattern.Pattern.{Pattern}
use Rattle.pattern_core.specs.declared.pattern.Src.{Src}
use Rattle.pattern_core.specs.declared.pattern.Src.TheVariants.{Input, Out}
use Rattle.pattern_core.specs.Order.{put, multiset}
use Rattle.pattern_core.specs.Pattern.{operation_sort, source_sort, same_source, IsFitting}
use Rattle.pattern_core.proofs.FitLemmas.{Pairwise-length}
use Rattle.pattern_core.proofs.SourceLemmas.{earlier_node}
use Rattle.list_lemmas.proofs.Bools.{and_parts, and-both}
use Rattle.list_lemmas.proofs.Lists.{Each}
use Rattle.list_lemmas.proofs.Lookups.{some_at}
use Rattle.list_lemmas.proofs.Members.{In, Contains-from_In}
use Rattle.list_lemmas.proofs.Options.{bind_some, cond-some, the_some}
use Rattle.loc_encode.specs.declared.slots.Slot.TheVariants as slot
use Rattle.loc_encode.specs.Slots.{slot_number, IsSourceAt, IsOperationOf}
use Rattle.loc_encode.specs.Standing.{StandsFor, is_source, is_op, arg_at}
use Rattle.loc_encode.specs.Matching.{Matches, MatchesNode, AreNodeSlots, AreResultSlots, IsSized}
use Rattle.loc_encode.proofs.ClaimLemmas.{IsLimitedClaim}

-- ---- lists

-- places of lists that two functions take to one list
pub places : {A B C : Type 0} (F : A → C) (G : B → C) (xs : List A) (ys : List B) → map F xs ≡ map G ys
    → (k : ℕ) (x : A)
    → slice_get xs k ≡ Some x → (y : B) × (slice_get ys k ≡ Some y) × (F x ≡ G y)
places F G [] ys e k x at = absurd (none-some x at)
places F G (x ∷ xs) [] e k y at = absurd (cc)
places F G (x ∷ xs) (y ∷ ys) e zero z at =
    let first : F x ≡ G y = cc in (y, refl, ap F (sym (same_Some x z at)) ∙ first)
places F G (x ∷ xs) (y ∷ ys) e (suc k) z at = let later : map F xs ≡ map G ys = cc in places F G xs ys later k z at

pub lengths : {A B C : Type 0} (F : A → C) (G : B → C) (xs : List A) (ys : List B) → map F xs ≡ map G ys
    → length xs ≡ length ys
lengths F G xs ys e = sym (length-map xs F) ∙ ap length e ∙ length-map ys G

-- lists of one length that are the same at each place
pub same-places : {A : Type 0} (xs ys : List A) → length xs ≡ length ys
    → ((k : ℕ) (x y : A) → slice_get xs k ≡ Some x → slice_get ys k ≡ Some y → x ≡ y) → xs ≡ ys
same-places [] [] l same = refl
same-places [] (y ∷ ys) l same = absurd (omega (arith, l))
same-places (x ∷ xs) [] l same = absurd (omega (arith, l))
same-places (x ∷ xs) (y ∷ ys) l same =
    let first : x ≡ y = same zero x y refl refl in
    let rest : xs ≡ ys = same-places xs ys (omega (arith, l)) (λ k u v a b. same (suc k) u v a b) in
    λ i. first i ∷ rest i

-- ---- the operations of a multiset

put-itself : (x : ℕ) (xs : List ℕ) → In (put x xs) x
put-itself x [] = inl refl
put-itself x (y ∷ ys) =
    elim (nat_le x y) as (λ b. In (cond b (x ∷ y ∷ ys) (y ∷ put x ys)) x) [
      | true ↦ inl refl
      | false ↦ inr (put-itself x ys)
    ]

put-others : (x : ℕ) (xs : List ℕ) (z : ℕ) → In xs z → In (put x xs) z
put-others x [] z h = absurd h
put-others x (y ∷ ys) z h =
    elim (nat_le x y) as (λ b. In (cond b (x ∷ y ∷ ys) (y ∷ put x ys)) z) [
      | true ↦ inr h
      | false ↦ elim h [ inl e ↦ inl e | inr l ↦ inr (put-others x ys z l) ]
    ]

in-multiset : (ns : List Node) (k : ℕ) (n : Node) → slice_get ns k ≡ Some n → In (multiset ns) n.op
in-multiset [] k n e = absurd (none-some n e)
in-multiset (m ∷ ns) zero n e =
    subst (λ (x : Node). In (put m.op (multiset ns)) x.op) (same_Some m n e) (put-itself m.op (multiset ns))
in-multiset (m ∷ ns) (suc k) n e = put-others m.op (multiset ns) n.op (in-multiset ns k n e)

length-put : (x : ℕ) (xs : List ℕ) → length (put x xs) ≡ suc (length xs)
length-put x [] = refl
length-put x (y ∷ ys) =
    elim (nat_le x y) as (λ b. length (cond b (x ∷ y ∷ ys) (y ∷ put x ys)) ≡ suc (suc (length ys))) [
      | true ↦ refl
      | false ↦ ap suc (length-put x ys)
    ]

pub length-multiset : (ns : List Node) → length (multiset ns) ≡ length ns
length-multiset [] = refl
length-multiset (n ∷ ns) = length-put n.op (multiset ns) ∙ ap suc (length-multiset ns)

pub size-of : (c : Claim) (p : Pattern) → IsPatternOf c p → length p.nodes ≡ length c.ops
size-of c p is = sym (length-multiset p.nodes) ∙ ap length is.ops

-- ---- what a pattern names

pub operation-at : (c : Claim) (p : Pattern) → IsPatternOf c p → (k : ℕ) (n : Node) → slice_get p.nodes k ≡ Some n
    → Contains c.ops n.op
operation-at c p is k n e =
    subst (λ (xs : List ℕ). Contains xs n.op) is.ops
    (Contains-from_In (multiset p.nodes) n.op (in-multiset p.nodes k n e))

-- a source that has a sort is one that may be named
pub source-at : (c : Claim) (p : Pattern) → IsPatternOf c p → (k : ℕ) (t : Sort) (s : Src)
    → source_sort c.file c.goal p.nodes k s ≡ Some t → IsSourceAt c k t s
source-at c p is k t (Input i) e = e
source-at c p is k t (Out node r) e = by (slice_get p.nodes node) refl own
  where
    own : operation_sort c.file (option_and_then (λ (n : Node). slice_get c.file.ops n.op) (slice_get p.nodes node)) r
        ≡ Some t
    own = cond-some (nat_lt node k) _ t e

    of : (n : Node) → slice_get p.nodes node ≡ Some n → (found : Option Operation) → slice_get c.file.ops n.op ≡ found
        → operation_sort c.file found r ≡ Some t → IsSourceAt c k t (Out node r)
    of n at None there h = absurd (none-some t h)
    of n at (Some o) there h =
        let parts = bind_some (slice_get o.results r) (sort_of c.file.pointer) t h in (
          earlier_node c.file c.goal p.nodes k node r t e,
          (n.op, o, (operation-at c p is node n at, there), parts),
        )

    by : (found : Option Node) → slice_get p.nodes node ≡ found
        → operation_sort c.file (option_and_then (λ (n : Node). slice_get c.file.ops n.op) found) r ≡ Some t
        → IsSourceAt c k t (Out node r)
    by None at h = absurd (none-some t h)
    by (Some n) at h = of n at (slice_get c.file.ops n.op) refl h

-- the sort of an argument's source
pub arg-sorted : (f : File) (g : Goal) (nodes : List Node) (k : ℕ) (n : Node) (fit : IsFitting f g nodes k n)
    (place : ℕ)
    (s : Src) → slice_get n.args place ≡ Some s
    → (t : Sort) × (slice_get fit.operation.args place ≡ Some t) × (source_sort f g nodes k s ≡ Some t)
arg-sorted f g nodes k n fit place s at =
    places (source_sort f g nodes k) (λ t. Some t) n.args fit.operation.args fit.args place s at

pub node-slots : (c : Claim) (p : Pattern) → IsPatternOf c p → (k : ℕ) (n : Node) → slice_get p.nodes k ≡ Some n
    → AreNodeSlots c k n
node-slots c p is k n e =
    let line : k < length c.ops = omega (arith, slice_get_within p.nodes k n e, size-of c p is) in
    let fit = is.well_formed.nodes k n e in
    let there : IsOperationOf c n.op fit.operation = (operation-at c p is k n e, fit.in_file) in
    record {
      kind = (line, there.0, refl);
      attrs = λ o h place w at. (line, (o, w, (there.0, h), at, refl));
      args = λ place s at.
          let sorted = arg-sorted c.file c.goal p.nodes k n fit place s at in
          (line, (n.op, fit.operation, sorted.0, there, sorted.1, source-at c p is k sorted.0 s sorted.2), refl);
    }

pub result-slots : (c : Claim) → IsLimitedClaim c → (p : Pattern) → IsPatternOf c p → AreResultSlots c p.results
result-slots c limits p is k s at =
    let found = places (source_sort c.file c.goal p.nodes (length p.nodes)) (sort_of c.file.pointer) p.results
    c.goal.results is.well_formed.results k s at in
    let sorted = the_some (sort_of c.file.pointer found.0) (each-at _ c.goal.results k found.0 limits.sorted found.1)
    in (
      (
        found.0,
        sorted.0,
        found.1,
        sorted.1,
        subst (λ n. IsSourceAt c n sorted.0 s) (size-of c p is)
            (source-at c p is (length p.nodes) sorted.0 s (found.2 ∙ sorted.1)),
      ),
      refl,
    )
  where
    each-at : (P : Term → Type 0) (ts : List Term) (i : ℕ) (t : Term) → Each P ts → slice_get ts i ≡ Some t → P t
    each-at P [] i t all h = absurd (none-some t h)
    each-at P (u ∷ ts) zero t all h = subst P (same_Some u t h) all.0
    each-at P (u ∷ ts) (suc i) t all h = each-at P ts i t all.1 h

pub node-sized : (c : Claim) → IsLimitedClaim c → (p : Pattern) → IsPatternOf c p → (k : ℕ) (n : Node)
    → slice_get p.nodes k ≡ Some n → IsSized c.file n
node-sized c limits p is k n e =
    let fit = is.well_formed.nodes k n e in
    let o : Operation = fit.operation in
    let small = limits.small n.op o fit.in_file in
    let attrs = Pairwise-length (λ w a. a < 2 ^ w) o.attrs n.attrs fit.attrs in
    let args = lengths (source_sort c.file c.goal p.nodes k) (λ (t : Sort). Some t) n.args o.args fit.args in
    let few_args = small.args in
    let few_attrs = small.attrs in
    record {
      op = slice_get_within c.file.ops n.op o fit.in_file;
      args = omega (arith, args, few_args);
      attrs = omega (arith, attrs, few_attrs);
      widths = λ q h. ap (λ (x : Operation). length x.attrs) (same_Some q o (sym h ∙ fit.in_file)) ∙ attrs;
    }

pub results-few : (c : Claim) → IsLimitedClaim c → (p : Pattern) → IsPatternOf c p → length p.results ≤ 3
results-few c limits p is =
    let same = lengths (source_sort c.file c.goal p.nodes (length p.nodes)) (sort_of c.file.pointer) p.results
    c.goal.results is.well_formed.results in
    let few = limits.results in
    omega (arith, same, few)

-- ---- values that stand for a pattern make its choices

pub source-same : (s : Src) → same_source s s ≡ true
source-same (Input k) = eq-eqb k k refl
source-same (Out m q) = and-both (m == m) (q == q) (eq-eqb m m refl) (eq-eqb q q refl)

pub source-true : (s t : Src) → same_source s t ≡ true → s ≡ t
source-true (Input j) (Input k) e = ap (λ n. Input n) (eqb-true j k e)
source-true (Input j) (Out m q) e = absurd (cc)
source-true (Out m q) (Input k) e = absurd (cc)
source-true (Out m q) (Out n r) e =
    let both = and_parts (m == n) (q == r) e in
    ap (λ k. Out k q) (eqb-true m n both.0) ∙ ap (λ k. Out n k) (eqb-true q r both.1)

pub stands-matches : (c : Claim) → IsLimitedClaim c → (env : List Value) (q : Pattern) → IsPatternOf c q
    → StandsFor c env q → Matches c.file q env
stands-matches c limits env q is stands = record {
  nodes = λ k m e.
      let slots = node-slots c q is k m e in
      record {
        kind =
            stands.choices (slot.Kind k m.op) slots.kind
            ∙ ap (λ n. Some (val.Bool (is_op n m.op))) e ∙ ap (λ b. Some (val.Bool b)) (eq-eqb m.op m.op refl);
        attrs = λ o h place w a there number.
            stands.attrs k place w a m o e (operation-at c q is k m e, h) there number;
        args = λ place s at.
            stands.choices (slot.Arg k place s) (slots.args place s at)
            ∙ ap (λ n. Some (val.Bool (is_source (arg_at n place) s))) e
            ∙ ap (λ r. Some (val.Bool (is_source r s))) at ∙ ap (λ b. Some (val.Bool b)) (source-same s);
      };
  results = λ k s at.
      stands.choices (slot.Result k s) (result-slots c limits q is k s at)
      ∙ ap (λ r. Some (val.Bool (is_source r s))) at ∙ ap (λ b. Some (val.Bool b)) (source-same s);
}

-- ---- and no other pattern's

set-true : (o : Option Value) (b : Bool) → o ≡ Some (val.Bool b) → o ≡ Some (val.Bool true) → b ≡ true
set-true o b e h = cc

named : (r : Option Src) (s : Src) → is_source r s ≡ true → r ≡ Some s
named None s e = absurd (cc)
named (Some r) s e = ap (λ x. Some x) (source-true r s e)

-- two nodes at one line
same-node : (c : Claim) → (env : List Value) (p q : Pattern) → IsPatternOf c p → StandsFor c env p → IsPatternOf c q
    → Matches c.file q env → (k : ℕ) (n m : Node) → slice_get p.nodes k ≡ Some n → slice_get q.nodes k ≡ Some m → n ≡ m
same-node c env p q pis stands qis matches k n m at to = λ i. record { op = ops i; attrs = attrs i; args = args i }
  where
    slots : AreNodeSlots c k m
    slots = node-slots c q qis k m to

    match : MatchesNode c.file k m env
    match = matches.nodes k m to

    ops : n.op ≡ m.op
    ops =
        eqb-true n.op m.op (set-true _ (is_op (Some n) m.op)
        (stands.choices (slot.Kind k m.op) slots.kind ∙ ap (λ x. Some (val.Bool (is_op x m.op))) at) match.kind)

    pfit : IsFitting c.file c.goal p.nodes k n
    pfit = pis.well_formed.nodes k n at

    qfit : IsFitting c.file c.goal q.nodes k m
    qfit = qis.well_formed.nodes k m to

    same : pfit.operation ≡ qfit.operation
    same =
        same_Some pfit.operation qfit.operation
        (sym pfit.in_file ∙ ap (slice_get c.file.ops) ops ∙ qfit.in_file)

    long : length n.attrs ≡ length m.attrs
    long =
        sym (Pairwise-length (λ w a. a < 2 ^ w) pfit.operation.attrs n.attrs pfit.attrs)
        ∙ ap (λ (o : Operation). length o.attrs) same
        ∙ Pairwise-length (λ w a. a < 2 ^ w) qfit.operation.attrs m.attrs qfit.attrs

    attrs : n.attrs ≡ m.attrs
    attrs = same-places n.attrs m.attrs long attr
      where
        attr : (j x y : ℕ) → slice_get n.attrs j ≡ Some x → slice_get m.attrs j ≡ Some y → x ≡ y
        attr j x y a b =
            let count = Pairwise-length (λ w a. a < 2 ^ w) pfit.operation.attrs n.attrs pfit.attrs in
            let width = some_at pfit.operation.attrs j
            (omega (arith, count, slice_get_within n.attrs j x a)) in
            let first = stands.attrs k j width.0 x n pfit.operation at
            (operation-at c p pis k n at, pfit.in_file) width.1 a in
            let second = match.attrs pfit.operation (ap (slice_get c.file.ops) (sym ops) ∙ pfit.in_file) j width.0 y
            width.1 b in
            let numbers : slice_get env (slot_number (slot.Attr k n.op j)) ≡ Some (val.Bits width.0 y) =
            ap (λ x. slice_get env (slot_number (slot.Attr k x j))) ops ∙ second in
            cc

    args : n.args ≡ m.args
    args = same-places n.args m.args count arg
      where
        count : length n.args ≡ length m.args
        count =
            lengths (source_sort c.file c.goal p.nodes k) (λ (t : Sort). Some t) n.args pfit.operation.args pfit.args
            ∙ ap (λ (o : Operation). length o.args) same
            ∙ sym (lengths (source_sort c.file c.goal q.nodes k) (λ (t : Sort). Some t) m.args qfit.operation.args
            qfit.args)

        arg : (j : ℕ) (x y : Src) → slice_get n.args j ≡ Some x → slice_get m.args j ≡ Some y → x ≡ y
        arg j x y a b =
            let chosen = set-true _ (is_source (slice_get n.args j) y)
            (stands.choices (slot.Arg k j y) (slots.args j y b)
            ∙ ap (λ v. Some (val.Bool (is_source (arg_at v j) y))) at) (match.args j y b) in
            same_Some x y (sym a ∙ named (slice_get n.args j) y chosen)

-- values that stand for a pattern and make another's choices: both are one
pub matches-only : (c : Claim) → IsLimitedClaim c → (env : List Value) (p q : Pattern) → IsPatternOf c p
    → StandsFor c env p → IsPatternOf c q → Matches c.file q env → p ≡ q
matches-only c limits env p q pis stands qis matches = λ i. record { nodes = nodes i; results = results i }
  where
    nodes : p.nodes ≡ q.nodes
    nodes =
        same-places p.nodes q.nodes (size-of c p pis ∙ sym (size-of c q qis))
        (same-node c env p q pis stands qis matches)

    results : p.results ≡ q.results
    results = same-places p.results q.results count result
      where
        count : length p.results ≡ length q.results
        count =
            lengths (source_sort c.file c.goal p.nodes (length p.nodes)) (sort_of c.file.pointer) p.results
            c.goal.results pis.well_formed.results
            ∙ sym (lengths (source_sort c.file c.goal q.nodes (length q.nodes)) (sort_of c.file.pointer) q.results
            c.goal.results qis.well_formed.results)

        result : (j : ℕ) (x y : Src) → slice_get p.results j ≡ Some x → slice_get q.results j ≡ Some y → x ≡ y
        result j x y a b =
            let chosen = set-true _ (is_source (slice_get p.results j) y)
            (stands.choices (slot.Result j y) (result-slots c limits q qis j y b)) (matches.results j y b) in
            same_Some x y (sym a ∙ named (slice_get p.results j) y chosen)

-- values stand for at most one pattern of a claim
pub stands-only : (c : Claim) → IsLimitedClaim c → (env : List Value) (p q : Pattern) → IsPatternOf c p
    → IsPatternOf c q
    → StandsFor c env p → StandsFor c env q → p ≡ q
stands-only c limits env p q pis qis first second =
    matches-only c limits env p q pis first qis (stands-matches c limits env q qis second)
