-- Terms over other terms: their sorts, and the inputs that stand in them.
use Rattle.std.proofs.Common.{◌≡◌, ℕ, zero, suc, ◌^◌, ◌<◌, Bool, true, false, ◌&&◌, cond, ⊎_elim, List, [], ◌∷◌, ◌++◌}
use Rattle.std.proofs.Common.{map, Option, Some, None, slice_get, unwrap_or, option_map, All, Contains, refl, sym, ap}
use Rattle.std.proofs.Common.{◌∙◌, subst}
use Rattle.std.specs.Prelude.{nat_lt, nat_le}
use Rattle.std.specs.List.{list_all, AllByRecursion}
use Rattle.std.specs.Option.{option_map_or}
use Rattle.std.proofs.lemmas.Bool.{and_parts, false≢true, lt-ltb}
use Rattle.std.proofs.lemmas.List.Elements.{All-from_recursion}
use Rattle.std.proofs.lemmas.Option.{slice_get-map, same_Some}
use Rattle.bv_terms.specs.declared.op.Op.{Op}
use Rattle.bv_terms.specs.declared.op.Op.TheVariants as op
use Rattle.bv_terms.specs.declared.op.MakeFault.TheVariants as fault
use Rattle.bv_terms.specs.declared.value.Sort.{Sort}
use Rattle.bv_terms.specs.declared.value.Sort.TheVariants as sort
use Rattle.bv_terms.specs.declared.value.Value.{Value}
use Rattle.bv_terms.specs.Term.{Term, Operands, Apply, End, Then, value}
use Rattle.bv_terms.specs.Sorts.{same_sort, is_width}
use Rattle.bv_terms.specs.WellSorted.{sort_unless, sort_of, InputsFit}
use Rattle.bv_terms.specs.Subterm.{IsSubterm, IsSubtermAmong}
use Rattle.bv_terms.specs.Replaced.{op_replaced, replaced, all_replaced, ReplacementFits, ReplacementsFit}
use Rattle.bv_terms.specs.Replaced.{AllReplacementsFit}
use Rattle.bv_terms.proofs.MakeLemmas.{sorts_of-end, sort_of-apply}
use Rattle.bv_terms.proofs.SignatureLemmas.{same_sort-true}
use Rattle.bv_terms.proofs.ReplacedLemmas.{sort_of-replaced, InputsFit-replaced}
use Rattle.isel_spec.specs.File.{is_between, is_in_scope, stays_in, all_stay_in}
use Rattle.list_lemmas.proofs.Lookups.{Contains-from_slice_get, Contains-slice_get, All-slice_get, mapped_at}
use Rattle.list_lemmas.proofs.Lookups.{Contains-first, Contains-later}
use Rattle.pattern_core.specs.Pattern.{Pairwise}
use Rattle.pattern_core.specs.Rule.{attr_values}
use Rattle.pattern_core.specs.Symbolic.{attr_terms, HasInput}

-- ---- lists of pairs

pub Pairwise-append : {A B : Type 0} (R : A → B → Type 0) (ws xs : List A) (ys zs : List B) → Pairwise R ws ys
    → Pairwise R xs zs → Pairwise R (ws ++ xs) (ys ++ zs)
Pairwise-append R [] xs [] zs h k = k
Pairwise-append R [] xs (y ∷ ys) zs h k = absurd h
Pairwise-append R (w ∷ ws) xs [] zs h k = absurd h
Pairwise-append R (w ∷ ws) xs (y ∷ ys) zs h k = (h.0, Pairwise-append R ws xs ys zs h.1 k)

pub Pairwise-beside : {A B : Type 0} (R : A → B → Type 0) (xs : List A) (ys : List B) → Pairwise R xs ys → (k : ℕ)
    → (y : B) → slice_get ys k ≡ Some y → (x : A) × R x y
Pairwise-beside R [] [] h k y e = absurd (cc)
Pairwise-beside R [] (z ∷ ys) h k y e = absurd h
Pairwise-beside R (x ∷ xs) [] h k y e = absurd h
Pairwise-beside R (x ∷ xs) (z ∷ ys) h zero y e = (x, subst (R x) (same_Some z y e) h.0)
Pairwise-beside R (x ∷ xs) (z ∷ ys) h (suc k) y e = Pairwise-beside R xs ys h.1 k y e

-- ---- the inputs of a term with terms in place of its inputs

abbrev pub input : ℕ → Sort → Term
input number s = Apply (op.Input number s) End

abbrev is_input : Term → Bool
is_input (Apply (op.Input k s) us) = true
is_input _ = false

op_replaced-inputs : (p : ℕ) (ts : List Term) (o : Op) (us : Operands) (number : ℕ) (s : Sort) → ReplacementFits p ts o
    → (IsSubtermAmong (input number s) us → HasInput ts number s)
    → IsSubterm (input number s) (op_replaced ts o us) → HasInput ts number s
unfolding IsSubterm
op_replaced-inputs p ts (op.Input k r) us number s fit rest h = (
  fit.0,
  Contains-from_slice_get ts k fit.0 fit.1,
  subst (λ o. IsSubterm (input number s) (unwrap_or o (Apply (op.Input k r) us))) fit.1 h,
)
op_replaced-inputs p ts o us number s fit rest h =
    ⊎_elim (λ same. absurd (false≢true (sym (ap is_input same)))) rest h

mutual
  unfolding replaced ReplacementsFit IsSubterm

  pub replaced-inputs : (p : ℕ) (ts : List Term) (t : Term) → ReplacementsFit p ts t → (number : ℕ) (s : Sort)
      → IsSubterm (input number s) (replaced ts t) → HasInput ts number s
  replaced-inputs p ts (Apply o us) fit number s h =
      op_replaced-inputs p ts o (all_replaced ts us) number s fit.0
      (λ among. all_replaced-inputs p ts us fit.1 number s among) h

  all_replaced-inputs : (p : ℕ) (ts : List Term) (us : Operands) → AllReplacementsFit p ts us → (number : ℕ) (s : Sort)
      → IsSubtermAmong (input number s) (all_replaced ts us) → HasInput ts number s
  all_replaced-inputs p ts End fit number s h = absurd h
  all_replaced-inputs p ts (Then u us) fit number s h =
      ⊎_elim (λ here. replaced-inputs p ts u fit.0 number s here)
      (λ later. all_replaced-inputs p ts us fit.1 number s later) h

-- ---- terms of a definition's sorts in place of its inputs

abbrev somes : List Sort → List (Option Sort)
somes ss = map (λ (s : Sort). Some s) ss

pub have_sorts : (p : ℕ) (ss : List Sort) (ts : List Term) → map (sort_of p) ts ≡ map (λ (s : Sort). Some s) ss
    → (k : ℕ) (s : Sort) → slice_get ss k ≡ Some s → (t : Term) × (slice_get ts k ≡ Some t) × (sort_of p t ≡ Some s)
have_sorts p ss ts e k s h =
    mapped_at (sort_of p) ts k (Some s)
    (ap (λ xs. slice_get xs k) e ∙ slice_get-map (λ (s : Sort). Some s) ss k ∙ ap (option_map (λ (s : Sort). Some s)) h)

stays_at : (s : Sort) (o : Option Sort) → option_map_or (same_sort s) o false ≡ true → o ≡ Some s
stays_at s None h = cc
stays_at s (Some t) h = ap Some (sym (same_sort-true s t h))

ReplacementFits-from_sorts : (p : ℕ) (ss : List Sort) (ts : List Term) → map (sort_of p) ts ≡ somes ss → (o : Op)
    → is_in_scope ss o ≡ true → ReplacementFits p ts o
ReplacementFits-from_sorts p ss ts e (op.Input k s) h = have_sorts p ss ts e k s (stays_at s (slice_get ss k) h)
ReplacementFits-from_sorts p ss ts e o h = tt

mutual
  unfolding stays_in ReplacementsFit

  pub ReplacementsFit-from_sorts : (p : ℕ) (ss : List Sort) (ts : List Term)
      → map (sort_of p) ts ≡ map (λ (s : Sort). Some s) ss → (t : Term) → stays_in ss t ≡ true
      → ReplacementsFit p ts t
  ReplacementsFit-from_sorts p ss ts e (Apply o us) h =
      let parts = and_parts (is_in_scope ss o) (all_stay_in ss us) h in
      (ReplacementFits-from_sorts p ss ts e o parts.0, AllReplacementsFit-from_sorts p ss ts e us parts.1)

  AllReplacementsFit-from_sorts : (p : ℕ) (ss : List Sort) (ts : List Term) → map (sort_of p) ts ≡ somes ss
      → (us : Operands) → all_stay_in ss us ≡ true → AllReplacementsFit p ts us
  AllReplacementsFit-from_sorts p ss ts e End h = tt
  AllReplacementsFit-from_sorts p ss ts e (Then u us) h =
      let parts = and_parts (stays_in ss u) (all_stay_in ss us) h in
      (ReplacementsFit-from_sorts p ss ts e u parts.0, AllReplacementsFit-from_sorts p ss ts e us parts.1)

-- ---- terms over others

-- a term of a sort, in which no inputs stand but those of these terms
pub record IsTermOver (p : ℕ) (inputs : List Term) (s : Sort) (t : Term) : Type 0 where
  pub sorted : sort_of p t ≡ Some s
  pub fit : (env : List Value) → All (InputsFit env) inputs → InputsFit env t
  pub below : (number : ℕ) (r : Sort) → IsSubterm (input number r) t → HasInput inputs number r

abbrev pub AreOver : ℕ → List Term → List Sort → List Term → Type 0
AreOver p inputs ss ts = Pairwise (IsTermOver p inputs) ss ts

pub over-sorts : (p : ℕ) (inputs : List Term) (ss : List Sort) (ts : List Term) → AreOver p inputs ss ts
    → map (sort_of p) ts ≡ map (λ (s : Sort). Some s) ss
over-sorts p inputs [] [] h = refl
over-sorts p inputs [] (t ∷ ts) h = absurd h
over-sorts p inputs (s ∷ ss) [] h = absurd h
over-sorts p inputs (s ∷ ss) (t ∷ ts) h =
    let first = h.0 in
    let here : sort_of p t ≡ Some s = first.sorted in
    let rest = over-sorts p inputs ss ts h.1 in
    λ i. here i ∷ rest i

over-fit : (p : ℕ) (inputs : List Term) (ss : List Sort) (ts : List Term) → AreOver p inputs ss ts
    → (env : List Value) → All (InputsFit env) inputs → AllByRecursion (InputsFit env) ts
over-fit p inputs [] [] h env all = tt
over-fit p inputs [] (t ∷ ts) h env all = absurd h
over-fit p inputs (s ∷ ss) [] h env all = absurd h
over-fit p inputs (s ∷ ss) (t ∷ ts) h env all = let first = h.0 in
    (first.fit env all, over-fit p inputs ss ts h.1 env all)

pub over-fits : (p : ℕ) (inputs : List Term) (ss : List Sort) (ts : List Term) → AreOver p inputs ss ts
    → (env : List Value) → All (InputsFit env) inputs → All (InputsFit env) ts
over-fits p inputs ss ts h env all = All-from_recursion (InputsFit env) ts (over-fit p inputs ss ts h env all)

pub over-inputs : (p : ℕ) (inputs : List Term) (ss : List Sort) (ts : List Term) → AreOver p inputs ss ts
    → (number : ℕ) (s : Sort) → HasInput ts number s → HasInput inputs number s
over-inputs p inputs ss ts h number s has =
    let at = Contains-slice_get ts has.0 has.1 in
    let pair = Pairwise-beside (IsTermOver p inputs) ss ts h at.0 has.0 at.1 in
    let over = pair.1 in
    over.below number s has.2

-- a term of an operation or a goal, with terms in place of its inputs
pub replaced-over : (p : ℕ) (inputs : List Term) (ss : List Sort) (us : List Term) → AreOver p inputs ss us → (t : Term)
    → (s : Sort) → stays_in ss t ≡ true → sort_of p t ≡ Some s → IsTermOver p inputs s (replaced us t)
replaced-over p inputs ss us h t s stays e =
    let fits = ReplacementsFit-from_sorts p ss us (over-sorts p inputs ss us h) t stays in
    record {
      sorted = sort_of-replaced p us t s e fits;
      fit = λ env all. InputsFit-replaced p env us (over-fits p inputs ss us h env all) t fits;
      below = λ number r below. over-inputs p inputs ss us h number r (replaced-inputs p us t fits number r below);
    }

-- the inputs' terms are over themselves
given-over : (p : ℕ) (inputs : List Term) (t : Term) (s : Sort) → Contains inputs t → sort_of p t ≡ Some s
    → IsTermOver p inputs s t
given-over p inputs t s c e =
    let at = Contains-slice_get inputs t c in
    record {
      sorted = e;
      fit = λ env all. All-slice_get (InputsFit env) inputs at.0 t all at.1;
      below = λ number r h. (t, c, h);
    }

given-all : (p : ℕ) (inputs : List Term) (ss : List Sort) (ts : List Term) → map (sort_of p) ts ≡ somes ss
    → ((t : Term) → Contains ts t → Contains inputs t) → AreOver p inputs ss ts
given-all p inputs [] [] e c = tt
given-all p inputs [] (t ∷ ts) e c = absurd (cc)
given-all p inputs (s ∷ ss) [] e c = absurd (cc)
given-all p inputs (s ∷ ss) (t ∷ ts) e c =
    let first : sort_of p t ≡ Some s = cc in
    let rest : map (sort_of p) ts ≡ somes ss = cc in (
      given-over p inputs t s (c t (Contains-first t ts)) first,
      given-all p inputs ss ts rest (λ u h. c u (Contains-later t u ts h)),
    )

pub inputs-over : (p : ℕ) (inputs : List Term) (ss : List Sort)
    → map (sort_of p) inputs ≡ map (λ (s : Sort). Some s) ss → AreOver p inputs ss inputs
inputs-over p inputs ss e = given-all p inputs ss inputs e (λ t c. c)

pub input-over : (p : ℕ) (inputs : List Term) (ss : List Sort)
    → map (sort_of p) inputs ≡ map (λ (s : Sort). Some s) ss → (k : ℕ) (s : Sort) → slice_get ss k ≡ Some s
    → (t : Term) × (slice_get inputs k ≡ Some t) × IsTermOver p inputs s t
input-over p inputs ss e k s h =
    let at = have_sorts p ss inputs e k s h in
    (at.0, at.1, given-over p inputs at.0 s (Contains-from_slice_get inputs k at.0 at.1) at.2)

-- ---- attributes

constant-sort : (p w n : ℕ) → is_between 1 64 w ≡ true → n < 2 ^ w
    → sort_of p (Apply (op.Bits w n) End) ≡ Some (sort.Bits w)
constant-sort p w n h l =
    let wide : is_width w ≡ true = h in
    let narrow : nat_le w 64 ≡ true = (and_parts (nat_le 1 w) (nat_le w 64) h).1 in
    let below : nat_lt n (2 ^ w) ≡ true = lt-ltb n (2 ^ w) l in
    sort_of-apply p (op.Bits w n) End [] (sorts_of-end p)
    ∙ (λ i. sort_unless (cond (wide i && below i) (cond (narrow i) None (Some fault.Width)) (Some fault.Index))
    (sort.Bits w))

constant-over : (p : ℕ) (inputs : List Term) (w n : ℕ) → is_between 1 64 w ≡ true → n < 2 ^ w
    → IsTermOver p inputs (sort.Bits w) (Apply (op.Bits w n) End)
unfolding InputsFit IsSubterm
constant-over p inputs w n h l = record {
  sorted = constant-sort p w n h l;
  fit = λ env all. (tt, tt);
  below =
      λ number r below. ⊎_elim (λ same. absurd (false≢true (sym (ap is_input same)))) (λ none. absurd none) below;
}

pub attributes-over : (p : ℕ) (inputs : List Term) (ws ns : List ℕ) → list_all (is_between 1 64) ws ≡ true
    → Pairwise (λ w a. a < 2 ^ w) ws ns → AreOver p inputs (map (λ w. sort.Bits w) ws) (attr_terms ws ns)
attributes-over p inputs [] [] h below = tt
attributes-over p inputs [] (n ∷ ns) h below = absurd below
attributes-over p inputs (w ∷ ws) [] h below = absurd below
attributes-over p inputs (w ∷ ws) (n ∷ ns) h below =
    let parts = and_parts (is_between 1 64 w) (list_all (is_between 1 64) ws) h in
    (constant-over p inputs w n parts.0 below.0, attributes-over p inputs ws ns parts.1 below.1)

pub attributes-values : (env : List Value) (ws ns : List ℕ) → map (value env) (attr_terms ws ns) ≡ attr_values ws ns
unfolding value
attributes-values env [] ns = refl
attributes-values env (w ∷ ws) [] = refl
attributes-values env (w ∷ ws) (n ∷ ns) =
    ap (λ vs. value env (Apply (op.Bits w n) End) ∷ vs) (attributes-values env ws ns)
