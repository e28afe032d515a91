-- What the formula says that the results of a pattern and a goal differ: its sort, its values, and its inputs.
use Rattle.std.proofs.Common.{◌≡◌, ◌∙◌, ℕ, zero, suc, ◌+◌, ◌<◌, ◌==◌, ◌&&◌, ◌||◌, ◌⊎◌, ⊎_elim, inl, inr, Bool}
use Rattle.std.proofs.Common.{true, false}
use Rattle.std.proofs.Common.{not, List, [], ◌∷◌, length, map, Some, slice_get, unwrap_or, All, refl, sym, ap}
use Rattle.std.proofs.Common.{subst, arith}
use Rattle.std.specs.Prelude.{◌↔◌, Result, Ok, Err, IfOk}
use Rattle.std.specs.Bool.{beq}
use Rattle.std.specs.List.{AllByRecursion}
use Rattle.std.proofs.lemmas.Bool.{and_parts, eqb-true, eq-eqb, false≢true}
use Rattle.std.proofs.lemmas.List.{length-map}
use Rattle.std.proofs.lemmas.List.Elements.{All-from_recursion, recursion_from_All}
use Rattle.std.proofs.lemmas.Option.{same_Some}
use Rattle.std.proofs.Math.Bool.{or_assoc}
use Rattle.bv_terms.specs.declared.op.Op.TheVariants as op
use Rattle.bv_terms.specs.declared.op.TermId.{TermId}
use Rattle.bv_terms.specs.declared.value.Sort.{Sort}
use Rattle.bv_terms.specs.declared.value.Sort.TheVariants as sort
use Rattle.bv_terms.specs.declared.value.Value.{Value}
use Rattle.bv_terms.specs.declared.value.Value.TheVariants as val
use Rattle.bv_terms.specs.Sorts.{HasSort, HaveSorts}
use Rattle.bv_terms.specs.Term.{Term, Apply, End, Then, same_value, op_value, value}
use Rattle.bv_terms.specs.WellSorted.{sort_of, InputsFit}
use Rattle.bv_terms.specs.Subterm.{IsSubterm}
use Rattle.bv_terms.specs.Table.{Table, term_at, Extends, IsTable}
use Rattle.bv_terms.proofs.GraftLemmas.{Extends-terms, Extends-further}
use Rattle.bv_terms.proofs.MakeLemmas.{node-sorted}
use Rattle.bv_terms.proofs.TermLemmas.{IsSorted-of}
use Rattle.bit_blast.specs.Clauses.{IsTrueAt}
use Rattle.bv_query.specs.Inputs.{input_of}
use Rattle.isel_spec.specs.File.{File, Goal}
use Rattle.list_lemmas.proofs.Lists.{heads, tails}
use Rattle.list_lemmas.proofs.Lookups.{only_one}
use Rattle.list_lemmas.proofs.Members.{In, In-from_Contains, Contains-from_In, In-slice_get}
use Rattle.pattern_core.specs.declared.pattern.Pattern.{Pattern}
use Rattle.pattern_core.specs.Rule.{pattern_results, goal_results, TakesNoMemory}
use Rattle.pattern_core.specs.Symbolic.{AreIn, HasInput, AreTermsOver}
use Rattle.cegis_loop.specs.Miter.{inputs_from, equal, both, unequal, either, never, or_differ, and_inputs, IsMiterOf}

-- ---- sorts

pub input-sort : (table : Table) → IsTable table → (at : TermId) → at.0 < length table.nodes → (k : ℕ) (s : Sort)
    → term_at table at ≡ Apply (op.Input k s) End → sort_of table.pointer (term_at table at) ≡ Some s
input-sort table is at within k s same =
    let some = node-sorted table is at.0 within in
    let e : sort_of table.pointer (Apply (op.Input k s) End) ≡ Some some.0 =
    ap (sort_of table.pointer) (sym same) ∙ some.1 in
    let r : s ≡ some.0 = (IsSorted-of table.pointer (op.Input k s) End some.0 e).result in
    some.1 ∙ ap Some (sym r)

sorts-from : (table : Table) → IsTable table → (nodes : List TermId)
    → AllByRecursion (λ (a : TermId). a.0 < length table.nodes) nodes → (k : ℕ) (ss : List Sort)
    → map (term_at table) nodes ≡ inputs_from k ss
    → map (sort_of table.pointer) (map (term_at table) nodes) ≡ map (λ (s : Sort). Some s) ss
sorts-from table is [] within k [] e = refl
sorts-from table is [] within k (s ∷ ss) e = absurd (cc)
sorts-from table is (n ∷ nodes) within k [] e = absurd (cc)
sorts-from table is (n ∷ nodes) within k (s ∷ ss) e =
    let here : term_at table n ≡ Apply (op.Input k s) End =
    heads (term_at table n) (Apply (op.Input k s) End) (map (term_at table) nodes) (inputs_from (k + 1) ss) e in
    let others : map (term_at table) nodes ≡ inputs_from (k + 1) ss =
    tails (term_at table n) (Apply (op.Input k s) End) (map (term_at table) nodes) (inputs_from (k + 1) ss) e in
    let first = input-sort table is n within.0 k s here in
    let rest = sorts-from table is nodes within.1 (k + 1) ss others in
    λ i. first i ∷ rest i

-- the inputs are of their sorts
pub input-sorts : (table : Table) → IsTable table → (nodes : List TermId) → AreIn table nodes → (ss : List Sort)
    → map (term_at table) nodes ≡ inputs_from 0 ss
    → map (sort_of table.pointer) (map (term_at table) nodes) ≡ map (λ (s : Sort). Some s) ss
input-sorts table is nodes within ss e =
    sorts-from table is nodes (recursion_from_All (λ (a : TermId). a.0 < length table.nodes) nodes within) 0 ss e

-- and in each later table
pub later-sorts : (table new : Table) → IsTable table → Extends table new → (nodes : List TermId) → AreIn table nodes
    → (ss : List Sort) → map (term_at table) nodes ≡ inputs_from 0 ss
    → map (sort_of new.pointer) (map (term_at new) nodes) ≡ map (λ (s : Sort). Some s) ss
later-sorts table new is grows nodes within ss e =
    let pointer = grows.pointer in
    let terms = Extends-terms table new grows nodes within in
    (λ i. map (sort_of (pointer i)) (terms i)) ∙ input-sorts table is nodes within ss e

-- a term that is a truth value, if it has a sort
abbrev IsTruth : Term → Type 0
IsTruth t = (p : ℕ) (s : Sort) → sort_of p t ≡ Some s → sort.Bool ≡ s

truth-differ : (t : Term) (ls rs : List Term) → IsTruth t → IsTruth (or_differ t ls rs)
truth-differ t [] rs h = h
truth-differ t (l ∷ ls) [] h = h
truth-differ t (l ∷ ls) (r ∷ rs) h =
    truth-differ (either t (unequal l r)) ls rs
    (λ p s e. (IsSorted-of p op.Or (Then t (Then (unequal l r) End)) s e).result)

truth-inputs : (t : Term) (is : List Term) → IsTruth t → IsTruth (and_inputs t is)
truth-inputs t [] h = h
truth-inputs t (i ∷ is) h =
    truth-inputs (both t (equal i i)) is
    (λ p s e. (IsSorted-of p op.And (Then t (Then (equal i i) End)) s e).result)

truth-never : IsTruth never
truth-never = λ p s e. (IsSorted-of p (op.Bool false) End s e).result

-- ---- values

beq-itself : (b : Bool) → beq b b ≡ true
beq-itself true = refl
beq-itself false = refl

pub same_value-itself : (v : Value) → same_value v v ≡ true
same_value-itself (val.Bool b) = beq-itself b
same_value-itself (val.Bits w n) =
    ap (λ t. t && n == n) (eq-eqb w w refl) ∙ eq-eqb n n refl

pub same_value-true : (u v : Value) → same_value u v ≡ true → u ≡ v
same_value-true (val.Bool true) (val.Bool true) h = refl
same_value-true (val.Bool true) (val.Bool false) h = cc
same_value-true (val.Bool false) (val.Bool true) h = cc
same_value-true (val.Bool false) (val.Bool false) h = refl
same_value-true (val.Bool b) (val.Bits w n) h = cc
same_value-true (val.Bits w n) (val.Bool b) h = cc
same_value-true (val.Bits v m) (val.Bits w n) h =
    let parts = and_parts (v == w) (m == n) h in
    λ i. val.Bits (eqb-true v w parts.0 i) (eqb-true m n parts.1 i)

or-false : (b : Bool) → (b || false) ≡ b
or-false true = refl
or-false false = refl

and-true : (b : Bool) → (b && true) ≡ b
and-true true = refl
and-true false = refl

equal-itself : (env : List Value) (t x : Term) (b : Bool) → value env t ≡ val.Bool b
    → value env (both t (equal x x)) ≡ val.Bool b
unfolding value
equal-itself env t x b h =
    ap (λ u. op_value env op.And (u ∷ val.Bool (same_value (value env x) (value env x)) ∷ [])) h
    ∙ ap (λ c. val.Bool (b && c)) (same_value-itself (value env x)) ∙ ap val.Bool (and-true b)

-- an input that is equal to itself changes nothing
value-inputs : (env : List Value) (t : Term) (is : List Term) (b : Bool) → value env t ≡ val.Bool b
    → value env (and_inputs t is) ≡ val.Bool b
value-inputs env t [] b h = h
value-inputs env t (i ∷ is) b h = value-inputs env (both t (equal i i)) is b (equal-itself env t i b h)

-- values in one place of the lists differ
differ_values : List Value → List Value → Bool
differ_values (x ∷ xs) (y ∷ ys) = not (same_value x y) || differ_values xs ys
differ_values _ _ = false

or-unequal : (env : List Value) (t l r : Term) (b : Bool) → value env t ≡ val.Bool b
    → value env (either t (unequal l r)) ≡ val.Bool (b || not (same_value (value env l) (value env r)))
unfolding value
or-unequal env t l r b h =
    ap (λ u. op_value env op.Or (u ∷ val.Bool (not (same_value (value env l) (value env r))) ∷ [])) h

value-differ : (env : List Value) (t : Term) (ls rs : List Term) (b : Bool) → value env t ≡ val.Bool b
    → value env (or_differ t ls rs) ≡ val.Bool (b || differ_values (map (value env) ls) (map (value env) rs))
unfolding differ_values
value-differ env t [] rs b h = h ∙ ap val.Bool (sym (or-false b))
value-differ env t (l ∷ ls) [] b h = h ∙ ap val.Bool (sym (or-false b))
value-differ env t (l ∷ ls) (r ∷ rs) b h =
    let d : Bool = not (same_value (value env l) (value env r)) in
    value-differ env (either t (unequal l r)) ls rs (b || d) (or-unequal env t l r b h)
    ∙ ap val.Bool (or_assoc b d (differ_values (map (value env) ls) (map (value env) rs)))

value-never : (env : List Value) → value env never ≡ val.Bool false
unfolding value
value-never env = refl

differ-itself : (xs : List Value) → differ_values xs xs ≡ false
unfolding differ_values
differ-itself [] = refl
differ-itself (x ∷ xs) = ap (λ t. not t || differ_values xs xs) (same_value-itself x) ∙ differ-itself xs

same-unless : (xs ys : List Value) → length xs ≡ length ys → differ_values xs ys ≡ false → xs ≡ ys
unfolding differ_values
same-unless [] [] long h = refl
same-unless [] (y ∷ ys) long h = absurd (omega (arith, long))
same-unless (x ∷ xs) [] long h = absurd (omega (arith, long))
same-unless (x ∷ xs) (y ∷ ys) long h =
    let here = same_value-true x y (first (same_value x y) (differ_values xs ys) h) in
    let rest = same-unless xs ys (omega (arith, long)) (second (same_value x y) (differ_values xs ys) h) in
    λ i. here i ∷ rest i
  where
    first : (a b : Bool) → (not a || b) ≡ false → a ≡ true
    first true b h = refl
    first false b h = cc

    second : (a b : Bool) → (not a || b) ≡ false → b ≡ false
    second true b h = h
    second false b h = cc

-- the formula is true exactly where the lists' values differ
pub true-where_differ : (env : List Value) (inputs ls rs : List Term) → length ls ≡ length rs
    → IsTrueAt env (and_inputs (or_differ never ls rs) inputs)
    ↔ ¬ (map (value env) ls ≡ map (value env) rs)
true-where_differ env inputs ls rs long =
    let xs : List Value = map (value env) ls in
    let ys : List Value = map (value env) rs in
    let whole : value env (and_inputs (or_differ never ls rs) inputs) ≡ val.Bool (differ_values xs ys) =
    value-inputs env (or_differ never ls rs) inputs (differ_values xs ys)
    (value-differ env never ls rs false (value-never env)) in
    let same_length : length xs ≡ length ys = length-map ls (value env) ∙ long ∙ sym (length-map rs (value env)) in (
      λ yes same. (let no : differ_values xs ys ≡ false =
          subst (λ (zs : List Value). differ_values xs zs ≡ false) same (differ-itself xs) in
          let bad : val.Bool false ≡ val.Bool true = ap val.Bool (sym no) ∙ sym whole ∙ yes in cc),
      λ differ. whole ∙ ap val.Bool (by (differ_values xs ys) (λ h. differ (same-unless xs ys same_length h))),
    )
  where
    by : (b : Bool) → (b ≡ false → ⊥) → b ≡ true
    by true h = refl
    by false h = absurd (h refl)

-- ---- inputs

abbrev input : ℕ → Sort → Term
input number s = Apply (op.Input number s) End

abbrev is_input : Term → Bool
is_input (Apply (op.Input k s) us) = true
is_input _ = false

below-both : (number : ℕ) (s : Sort) (t x : Term) → IsSubterm (input number s) (both t (equal x x))
    → IsSubterm (input number s) t ⊎ IsSubterm (input number s) x
unfolding IsSubterm
below-both number s t x (inl same) = absurd (false≢true (sym (ap is_input same)))
below-both number s t x (inr (inl below)) = inl below
below-both number s t x (inr (inr (inl (inl same)))) = absurd (false≢true (sym (ap is_input same)))
below-both number s t x (inr (inr (inl (inr (inl below))))) = inr below
below-both number s t x (inr (inr (inl (inr (inr (inl below)))))) = inr below
below-both number s t x (inr (inr (inl (inr (inr (inr none)))))) = absurd none
below-both number s t x (inr (inr (inr none))) = absurd none

below-either : (number : ℕ) (s : Sort) (t l r : Term) → IsSubterm (input number s) (either t (unequal l r))
    → IsSubterm (input number s) t ⊎ (IsSubterm (input number s) l ⊎ IsSubterm (input number s) r)
unfolding IsSubterm
below-either number s t l r (inl same) = absurd (false≢true (sym (ap is_input same)))
below-either number s t l r (inr (inl below)) = inl below
below-either number s t l r (inr (inr (inl (inl same)))) = absurd (false≢true (sym (ap is_input same)))
below-either number s t l r (inr (inr (inl (inr (inl (inl same)))))) = absurd (false≢true (sym (ap is_input same)))
below-either number s t l r (inr (inr (inl (inr (inl (inr (inl below))))))) = inr (inl below)
below-either number s t l r (inr (inr (inl (inr (inl (inr (inr (inl below)))))))) = inr (inr below)
below-either number s t l r (inr (inr (inl (inr (inl (inr (inr (inr none)))))))) = absurd none
below-either number s t l r (inr (inr (inl (inr (inr none))))) = absurd none
below-either number s t l r (inr (inr (inr none))) = absurd none

-- an input stands in one of the terms
abbrev Among : List Term → ℕ → Sort → Type 0
Among ts number s = (t : Term) × In ts t × IsSubterm (input number s) t

later : (t : Term) (ts : List Term) (number : ℕ) (s : Sort) → Among ts number s → Among (t ∷ ts) number s
later t ts number s a = (a.0, inr a.1, a.2)

below-inputs : (number : ℕ) (s : Sort) (t : Term) (is : List Term) → IsSubterm (input number s) (and_inputs t is)
    → IsSubterm (input number s) t ⊎ Among is number s
below-inputs number s t [] h = inl h
below-inputs number s t (i ∷ is) h =
    ⊎_elim
    (λ here. ⊎_elim (λ first. inl first) (λ second. inr (i, inl refl, second)) (below-both number s t i here))
    (λ there. inr (later i is number s there)) (below-inputs number s (both t (equal i i)) is h)

below-differ : (number : ℕ) (s : Sort) (t : Term) (ls rs : List Term)
    → IsSubterm (input number s) (or_differ t ls rs)
    → IsSubterm (input number s) t ⊎ (Among ls number s ⊎ Among rs number s)
below-differ number s t [] rs h = inl h
below-differ number s t (l ∷ ls) [] h = inl h
below-differ number s t (l ∷ ls) (r ∷ rs) h =
    ⊎_elim
    (λ here. ⊎_elim (λ first. inl first)
    (λ others. ⊎_elim (λ left. inr (inl (l, inl refl, left))) (λ right. inr (inr (r, inl refl, right))) others)
    (below-either number s t l r here))
    (λ there. ⊎_elim (λ left. inr (inl (later l ls number s left))) (λ right. inr (inr (later r rs number s right)))
    there) (below-differ number s (either t (unequal l r)) ls rs h)

below-never : (number : ℕ) (s : Sort) → IsSubterm (input number s) never → ⊥
unfolding IsSubterm
below-never number s (inl same) = false≢true (sym (ap is_input same))
below-never number s (inr none) = none

-- what stands in the formula stands in it over inputs
under-both : (u t x : Term) → IsSubterm u t → IsSubterm u (both t (equal x x))
unfolding IsSubterm
under-both u t x h = inr (inl h)

under-equal : (u t x : Term) → IsSubterm u x → IsSubterm u (both t (equal x x))
unfolding IsSubterm
under-equal u t x h = inr (inr (inl (inr (inl h))))

under-inputs : (u t : Term) (is : List Term) → IsSubterm u t → IsSubterm u (and_inputs t is)
under-inputs u t [] h = h
under-inputs u t (i ∷ is) h = under-inputs u (both t (equal i i)) is (under-both u t i h)

under-input : (u t x : Term) (is : List Term) → In is x → IsSubterm u x → IsSubterm u (and_inputs t is)
under-input u t x [] at h = absurd at
under-input u t x (i ∷ is) (inl same) h =
    under-inputs u (both t (equal i i)) is (under-equal u t i (subst (IsSubterm u) (sym same) h))
under-input u t x (i ∷ is) (inr at) h = under-input u (both t (equal i i)) x is at h

-- the inputs that stand in inputs
alone : (number : ℕ) (s : Sort) (k : ℕ) (r : Sort) → IsSubterm (input number s) (input k r)
    → (number ≡ k) × (s ≡ r)
unfolding IsSubterm
alone number s k r (inl same) =
    let pair = same_Some (number, s) (k, r) (ap input_of same) in
    (ap (λ (x : ℕ × Sort). x.0) pair, ap (λ (x : ℕ × Sort). x.1) pair)
alone number s k r (inr none) = absurd none

numbered-at : (ss : List Sort) (k number : ℕ) (s : Sort) → Among (inputs_from k ss) number s
    → (j : ℕ) × (number ≡ k + j) × (slice_get ss j ≡ Some s)
numbered-at [] k number s a = absurd a.1
numbered-at (r ∷ ss) k number s (t, inl same, below) =
    let is = alone number s k r (subst (IsSubterm (input number s)) (sym same) below) in
    (0, omega (arith, is.0), ap Some (sym is.1))
numbered-at (r ∷ ss) k number s (t, inr at, below) =
    let rest = numbered-at ss (k + 1) number s (t, at, below) in
    (suc rest.0, omega (arith, rest.1), rest.2)

at-numbered : (ss : List Sort) (k j : ℕ) (s : Sort) → slice_get ss j ≡ Some s → In (inputs_from k ss) (input (k + j) s)
at-numbered [] k j s e = absurd (cc)
at-numbered (r ∷ ss) k zero s e =
    let n : k ≡ k + zero = omega arith in
    inl (λ i. input (n i) (same_Some r s e i))
at-numbered (r ∷ ss) k (suc j) s e =
    let n : k + 1 + j ≡ k + suc j = omega arith in
    inr (subst (λ m. In (inputs_from (k + 1) ss) (input m s)) n (at-numbered ss (k + 1) j s e))

stands : (ss : List Sort) (j : ℕ) (s : Sort) → slice_get ss j ≡ Some s → In (inputs_from 0 ss) (input j s)
stands ss j s e =
    let n : 0 + j ≡ j = omega arith in
    subst (λ m. In (inputs_from 0 ss) (input m s)) n (at-numbered ss 0 j s e)

IsSubterm-self : (u : Term) (k : ℕ) (s : Sort) → u ≡ input k s → IsSubterm u (input k s)
unfolding IsSubterm
IsSubterm-self u k s e = inl e

-- ---- values of inputs

fit-both : (env : List Value) (t x : Term) → InputsFit env t → InputsFit env x → InputsFit env (both t (equal x x))
unfolding InputsFit
fit-both env t x h k = (tt, (h, ((tt, (k, (k, tt))), tt)))

fit-either : (env : List Value) (t l r : Term) → InputsFit env t → InputsFit env l → InputsFit env r
    → InputsFit env (either t (unequal l r))
unfolding InputsFit
fit-either env t l r h i k = (tt, (h, ((tt, ((tt, (i, (k, tt))), tt)), tt)))

fit-never : (env : List Value) → InputsFit env never
unfolding InputsFit
fit-never env = (tt, tt)

fit-inputs : (env : List Value) (t : Term) (is : List Term) → InputsFit env t → AllByRecursion (InputsFit env) is
    → InputsFit env (and_inputs t is)
fit-inputs env t [] h all = h
fit-inputs env t (i ∷ is) h all = fit-inputs env (both t (equal i i)) is (fit-both env t i h all.0) all.1

fit-differ : (env : List Value) (t : Term) (ls rs : List Term) → InputsFit env t → AllByRecursion (InputsFit env) ls
    → AllByRecursion (InputsFit env) rs → InputsFit env (or_differ t ls rs)
fit-differ env t [] rs h left right = h
fit-differ env t (l ∷ ls) [] h left right = h
fit-differ env t (l ∷ ls) (r ∷ rs) h left right =
    fit-differ env (either t (unequal l r)) ls rs (fit-either env t l r h left.0 right.0) left.1 right.1

-- the values stand in an environment from a place on
abbrev StandFrom : ℕ → List Value → List Value → Type 0
StandFrom k vs env = (j : ℕ) (v : Value) → slice_get vs j ≡ Some v → slice_get env (k + j) ≡ Some v

stand-first : (k : ℕ) (v : Value) (vs env : List Value) → StandFrom k (v ∷ vs) env → slice_get env k ≡ Some v
stand-first k v vs env h =
    let n : k + zero ≡ k = omega arith in
    subst (λ m. slice_get env m ≡ Some v) n (h zero v refl)

stand-rest : (k : ℕ) (v : Value) (vs env : List Value) → StandFrom k (v ∷ vs) env → StandFrom (k + 1) vs env
stand-rest k v vs env h = λ j u e.
    let n : k + suc j ≡ k + 1 + j = omega arith in
    subst (λ m. slice_get env m ≡ Some u) n (h (suc j) u e)

stand-all : (env : List Value) → StandFrom 0 env env
stand-all env = λ j v e.
    let n : j ≡ 0 + j = omega arith in
    subst (λ m. slice_get env m ≡ Some v) n e

fit-input : (env : List Value) (k : ℕ) (s : Sort) (v : Value) → slice_get env k ≡ Some v → HasSort s v
    → InputsFit env (input k s)
unfolding InputsFit
fit-input env k s v e h = ((v, e, h), tt)

fit-numbered : (ss : List Sort) (vs env : List Value) (k : ℕ) → HaveSorts ss vs → StandFrom k vs env
    → AllByRecursion (InputsFit env) (inputs_from k ss)
fit-numbered [] vs env k h stand = tt
fit-numbered (s ∷ ss) [] env k h stand = absurd h
fit-numbered (s ∷ ss) (v ∷ vs) env k h stand = (
  fit-input env k s v (stand-first k v vs env stand) h.0,
  fit-numbered ss vs env (k + 1) h.1 (stand-rest k v vs env stand),
)

value-input : (env : List Value) (k : ℕ) (s : Sort) (v : Value) → slice_get env k ≡ Some v
    → value env (input k s) ≡ v
unfolding value
value-input env k s v e = ap (λ o. unwrap_or o (val.Bool false)) e

values-numbered : (ss : List Sort) (vs env : List Value) (k : ℕ) → HaveSorts ss vs → StandFrom k vs env
    → map (value env) (inputs_from k ss) ≡ vs
values-numbered [] [] env k h stand = refl
values-numbered [] (v ∷ vs) env k h stand = absurd h
values-numbered (s ∷ ss) [] env k h stand = absurd h
values-numbered (s ∷ ss) (v ∷ vs) env k h stand =
    let first = value-input env k s v (stand-first k v vs env stand) in
    let rest = values-numbered ss vs env (k + 1) h.1 (stand-rest k v vs env stand) in
    λ i. first i ∷ rest i

-- ---- the whole

-- the terms of the results of a pattern and a goal, over the goal's inputs
pub record AreSides (f : File) (g : Goal) (p : Pattern) (inputs left right : List Term) : Type 0 where
  pub inputs_are : inputs ≡ inputs_from 0 g.args
  pub left_are : AreTermsOver f.pointer inputs (map (sort_of f.pointer) g.results) (pattern_results f p) left
  pub right_are : AreTermsOver f.pointer inputs (map (sort_of f.pointer) g.results) (goal_results g) right

sides-length : (f : File) (g : Goal) (p : Pattern) (inputs left right : List Term)
    → AreSides f g p inputs left right → length left ≡ length right
sides-length f g p inputs left right h =
    let l = h.left_are in
    let r = h.right_are in
    sym (length-map left (sort_of f.pointer)) ∙ ap length (l.of_sorts ∙ sym r.of_sorts)
    ∙ length-map right (sort_of f.pointer)

sides-inputs : (f : File) (g : Goal) (p : Pattern) (inputs left right : List Term)
    → AreSides f g p inputs left right → (number : ℕ) (s : Sort)
    → IsSubterm (input number s) (and_inputs (or_differ never left right) inputs) → slice_get g.args number ≡ Some s
sides-inputs f g p inputs left right h number s below =
    let l = h.left_are in
    let r = h.right_are in
    given (⊎_elim
    (λ inner. ⊎_elim (λ none. absurd (below-never number s none))
    (λ sides. ⊎_elim
    (λ (a : Among left number s). again (l.of_inputs number s (a.0, Contains-from_In left a.0 a.1, a.2)))
    (λ (a : Among right number s). again (r.of_inputs number s (a.0, Contains-from_In right a.0 a.1, a.2)))
    sides) (below-differ number s never left right inner))
    (λ (a : Among inputs number s). a) (below-inputs number s (or_differ never left right) inputs below))
  where
    again : HasInput inputs number s → Among inputs number s
    again a = (a.0, In-from_Contains inputs a.0 a.1, a.2)

    given : Among inputs number s → slice_get g.args number ≡ Some s
    given a =
        let at = numbered-at g.args 0 number s (subst (λ (is : List Term). Among is number s) h.inputs_are a) in
        let n : at.0 ≡ number = omega (arith, at.1) in
        subst (λ m. slice_get g.args m ≡ Some s) n at.2

pub IsMiterOf-sides : (f : File) (g : Goal) (p : Pattern) (inputs left right : List Term) (t : Term) (r : Sort)
    → AreSides f g p inputs left right → TakesNoMemory g
    → t ≡ and_inputs (or_differ never left right) inputs → sort_of f.pointer t ≡ Some r → IsMiterOf f g p t
IsMiterOf-sides f g p inputs left right t r h plain same sorted =
    let whole : Term = and_inputs (or_differ never left right) inputs in
    let truth : sort.Bool ≡ r =
    truth-inputs (or_differ never left right) inputs (truth-differ never left right truth-never) f.pointer r
    (ap (sort_of f.pointer) (sym same) ∙ sorted) in
    subst (IsMiterOf f g p) (sym same) (record {
      formula = record {
        truth = ap (sort_of f.pointer) (sym same) ∙ sorted ∙ ap Some (sym truth);
        no_memory = λ k below. plain (Contains-from_In g.args sort.Mem
            (In-slice_get g.args k sort.Mem (sides-inputs f g p inputs left right h k sort.Mem below)));
      };
      inputs = λ number s. (
        λ has. sides-inputs f g p inputs left right h number s
            (subst (IsSubterm (input number s)) (sym (only_one whole has.0 has.1)) has.2),
        λ at. (
          whole,
          Contains-from_In (whole ∷ []) whole (inl refl),
          under-input (input number s) (or_differ never left right) (input number s) inputs
              (subst (λ (is : List Term). In is (input number s)) (sym h.inputs_are) (stands g.args number s at))
              (IsSubterm-self (input number s) number s refl),
        ),
      );
      fit = fit;
      value = λ env sorts.
          let values : map (value env) inputs ≡ env =
          ap (map (value env)) h.inputs_are ∙ values-numbered g.args env env 0 sorts (stand-all env) in
          let l = h.left_are in
          let r = h.right_are in
          let left_is : map (value env) left ≡ pattern_results f p env =
          l.of_values env ∙ ap (pattern_results f p) values in
          let right_is : map (value env) right ≡ goal_results g env =
          r.of_values env ∙ ap (goal_results g) values in
          subst (λ (xs : List Value). IsTrueAt env whole ↔ ¬ (xs ≡ goal_results g env)) left_is
          (subst (λ (ys : List Value). IsTrueAt env whole ↔ ¬ (map (value env) left ≡ ys)) right_is
          (true-where_differ env inputs left right (sides-length f g p inputs left right h)));
    })
  where
    fit : (env : List Value) → HaveSorts g.args env
        → InputsFit env (and_inputs (or_differ never left right) inputs)
    fit env sorts =
        let own : AllByRecursion (InputsFit env) inputs =
        subst (AllByRecursion (InputsFit env)) (sym h.inputs_are)
        (fit-numbered g.args env env 0 sorts (stand-all env)) in
        let all : All (InputsFit env) inputs = All-from_recursion (InputsFit env) inputs own in
        let l = h.left_are in
        let r = h.right_are in
        fit-inputs env (or_differ never left right) inputs
        (fit-differ env never left right (fit-never env)
        (recursion_from_All (InputsFit env) left (l.fit env all))
        (recursion_from_All (InputsFit env) right (r.fit env all))) own

-- nodes of tables, each of which extends the one before, for a pattern's and a goal's results and the formula
pub record IsBuilt (f : File) (g : Goal) (p : Pattern) (one two three four five : Table)
    (inputs found wanted : List TermId) (formula id : TermId) : Type 0 where
  pub pointer : one.pointer ≡ f.pointer
  pub second : Extends one two
  pub third : Extends two three
  pub fourth : Extends three four
  pub inputs_in : AreIn one inputs
  pub found_in : AreIn two found
  pub inputs_are : map (term_at one) inputs ≡ inputs_from 0 g.args
  pub left : AreTermsOver one.pointer (map (term_at one) inputs) (map (sort_of one.pointer) g.results)
      (pattern_results f p) (map (term_at two) found)
  pub right : AreTermsOver two.pointer (map (term_at two) inputs) (map (sort_of two.pointer) g.results)
      (goal_results g) (map (term_at three) wanted)
  pub differ : term_at four formula ≡ or_differ never (map (term_at three) found) (map (term_at three) wanted)
  pub whole : term_at five id ≡ and_inputs (term_at four formula) (map (term_at four) inputs)

pub IsMiterOf-built : (f : File) (g : Goal) (p : Pattern) (one two three four five : Table)
    (inputs found wanted : List TermId) (formula id : TermId)
    → IsBuilt f g p one two three four five inputs found wanted formula id → TakesNoMemory g → IsTable five
    → five.pointer ≡ f.pointer → id.0 < length five.nodes → IsMiterOf f g p (term_at five id)
IsMiterOf-built f g p one two three four five inputs found wanted formula id b plain is pointer within =
    let is_two = Extends-terms one two b.second inputs b.inputs_in in
    let grows = Extends-further one three four (Extends-further one two three b.second b.third) b.fourth in
    let is_four = Extends-terms one four grows inputs b.inputs_in in
    let later = Extends-terms two three b.third found b.found_in in
    let i : List Term = map (term_at one) inputs in
    let l : List Term = map (term_at two) found in
    let r : List Term = map (term_at three) wanted in
    let two_is : two.pointer ≡ f.pointer = let e = b.second in e.pointer ∙ b.pointer in
    let sides : AreSides f g p i l r = record {
      inputs_are = b.inputs_are;
      left_are = subst (λ q. AreTermsOver q i (map (sort_of q) g.results) (pattern_results f p) l) b.pointer b.left;
      right_are = subst (λ (ts : List Term). AreTermsOver f.pointer ts (map (sort_of f.pointer) g.results)
          (goal_results g) r) is_two
          (subst (λ q. AreTermsOver q (map (term_at two) inputs) (map (sort_of q) g.results) (goal_results g) r)
          two_is b.right);
    } in
    let inner : term_at four formula ≡ or_differ never l r = b.differ ∙ (λ j. or_differ never (later j) r) in
    let same : term_at five id ≡ and_inputs (or_differ never l r) i =
    b.whole ∙ (λ j. and_inputs (inner j) (is_four j)) in
    let some = node-sorted five is id.0 within in
    IsMiterOf-sides f g p i l r (term_at five id) some.0 sides plain same
    (ap (λ q. sort_of q (term_at five id)) (sym pointer) ∙ some.1)

pub IfOk-and : {T E : Type 0} (r : Result T E) (P Q R : T → Type 0) → ((x : T) → P x → Q x → R x) → IfOk r P
    → IfOk r Q → IfOk r R
IfOk-and (Ok x) P Q R f p q = f x p q
IfOk-and (Err e) P Q R f p q = tt
