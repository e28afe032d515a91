-- What the sources of a line mean, kind by kind.
use Rattle.std.proofs.Common.{◌≡◌, ℕ, ◌+◌, ◌<◌, Bool, true, false, List, [], ◌∷◌, Some, ◌⊎◌, inl, inr}
use Rattle.std.proofs.Common.{refl, sym, ap, ◌∙◌, subst, ⊎_elim, slice_get, length}
use Rattle.std.specs.Prelude.{fold, if◌then◌else◌, nat_eq}
use Rattle.std.proofs.lemmas.Bool.{false≢true, eqb-true, eq-eqb}
use Rattle.bv_terms.specs.declared.value.Sort.{Sort}
use Rattle.bv_terms.specs.declared.value.Sort.TheVariants as sort
use Rattle.bv_terms.specs.declared.value.Value.{Value}
use Rattle.bv_terms.specs.declared.value.Value.TheVariants as val
use Rattle.bv_terms.specs.Sorts.{same_sort}
use Rattle.bv_terms.specs.Term.{value}
use Rattle.bv_terms.proofs.SignatureLemmas.{same_sort-true}
use Rattle.list_lemmas.proofs.Bools.{and_parts, and-both, false_unless}
use Rattle.list_lemmas.proofs.Members.{In}
use Rattle.pattern_core.specs.Claim.{Claim, IsPatternOf}
use Rattle.pattern_core.specs.declared.pattern.Node.{Node}
use Rattle.pattern_core.specs.declared.pattern.Pattern.{Pattern}
use Rattle.pattern_core.specs.declared.pattern.Src.{Src}
use Rattle.pattern_core.specs.declared.pattern.Src.TheVariants.{Out}
use Rattle.pattern_core.specs.Pattern.{same_source}
use Rattle.loc_encode.specs.declared.slots.Slot.TheVariants as slot
use Rattle.loc_encode.specs.Slots.{IsSlot, IsSourceAt, slot_number}
use Rattle.loc_encode.specs.Standing.{StandsFor, is_op}
use Rattle.loc_encode.specs.Parts.{IsOver}
use Rattle.loc_encode.specs.Building.{choice_term}
use Rattle.loc_encode.specs.Lines.{Sourced, OfKind, is_result, with_kind}
use Rattle.loc_encode.specs.Meaning.{value_of, IsMeantKind, IsListed}
use Rattle.loc_encode.proofs.BuildingLemmas.{over-choice}
use Rattle.loc_encode.proofs.ChainLemmas.{by_choice, same_source-true, same_source-same, same_sort-same}

-- ---- which source is a kind's

matched : (line : ℕ) (k : OfKind) (e : Sourced) → e.source ≡ Out line k.result → e.sort ≡ k.sort
    → is_result line k e ≡ true
matched line k e at sorted =
    and-both (same_source e.source (Out line k.result)) (same_sort e.sort k.sort)
    (ap (λ s. same_source s (Out line k.result)) at ∙ same_source-same (Out line k.result))
    (ap (λ s. same_sort s k.sort) sorted ∙ same_sort-same k.sort)

match-source : (line : ℕ) (k : OfKind) (e : Sourced) → is_result line k e ≡ true → e.source ≡ Out line k.result
match-source line k e h =
    let parts = and_parts (same_source e.source (Out line k.result)) (same_sort e.sort k.sort) h in
    same_source-true e.source (Out line k.result) parts.0

match-sort : (line : ℕ) (k : OfKind) (e : Sourced) → is_result line k e ≡ true → e.sort ≡ k.sort
match-sort line k e h =
    let parts = and_parts (same_source e.source (Out line k.result)) (same_sort e.sort k.sort) h in
    same_sort-true e.sort k.sort parts.1

abbrev chosen_kind : ℕ → OfKind → Sourced → Sourced
chosen_kind line k e = record {
  source = e.source;
  sort = e.sort;
  term = choice_term (slot_number (slot.Kind line k.op)) k.term e.term;
}

abbrev alone : ℕ → OfKind → Sourced
alone line k = record { source = Out line k.result; sort = k.sort; term = k.term }

-- what is so of the sources where one was chosen, and where it was not
at_kind : (P : List Sourced → Type 0) (line : ℕ) (k : OfKind) (e : Sourced) (es : List Sourced)
    → (is_result line k e ≡ true → P (chosen_kind line k e ∷ es))
    → (is_result line k e ≡ false → P (e ∷ with_kind line es k)) → P (with_kind line (e ∷ es) k)
at_kind P line k e es when unless = by (is_result line k e) refl
  where
    by : (b : Bool) → is_result line k e ≡ b → P (if b then chosen_kind line k e ∷ es else e ∷ with_kind line es k)
    by true test = when test
    by false test = unless test

-- ---- one source

-- a result of the line, whose term has its value in each pattern that has one of these kinds there
pub record IsMerged (c : Claim) (inputs : List Value) (line : ℕ) (done : List OfKind) (e : Sourced) : Type 0 where
  pub over : IsOver c e.term
  pub before : IsSourceAt c (line + 1) e.sort e.source
  pub result : ℕ
  pub at : e.source ≡ Out line result
  pub gives : (env : List Value) (q : Pattern) (n : Node) (k : OfKind) → IsPatternOf c q → StandsFor c env q
      → slice_get q.nodes line ≡ Some n → In done k → k.op ≡ n.op → e.source ≡ Out line k.result → e.sort ≡ k.sort
      → value env e.term ≡ value_of c inputs q e.source

merged-chosen : (c : Claim) (inputs : List Value) (line : ℕ) (done : List OfKind) (k : OfKind) (e : Sourced)
    → line < length c.ops → IsMeantKind c inputs line k → is_result line k e ≡ true → IsMerged c inputs line done e
    → IsMerged c inputs line (k ∷ done) (chosen_kind line k e)
merged-chosen c inputs line done k e within meant test is =
    let here : IsSlot c (slot.Kind line k.op) sort.Bool = (within, meant.kind, refl) in
    let source : Out line k.result ≡ e.source = sym (match-source line k e test) in
    record {
      over = over-choice c (slot.Kind line k.op) k.term e.term here meant.over is.over;
      before = is.before;
      result = is.result;
      at = is.at;
      gives =
          λ env q n other wf stands at among same from sorted. by_choice env (slot_number (slot.Kind line k.op)) k.term
          e.term (value_of c inputs q e.source) (nat_eq n.op k.op)
          (stands.choices (slot.Kind line k.op) here ∙ ap (λ o. Some (val.Bool (is_op o k.op))) at)
          (λ met. meant.gives env q n wf stands at (eqb-true n.op k.op met) ∙ ap (value_of c inputs q) source)
          (λ unmet. is.gives env q n other wf stands at
          (⊎_elim (λ first. absurd (false≢true (sym unmet
          ∙ eq-eqb n.op k.op (sym same ∙ ap (λ (x : OfKind). x.op) (sym first))))) (λ later. later) among)
          same from sorted);
    }

merged-other : (c : Claim) (inputs : List Value) (line : ℕ) (done : List OfKind) (k : OfKind) (e : Sourced)
    → is_result line k e ≡ false → IsMerged c inputs line done e → IsMerged c inputs line (k ∷ done) e
merged-other c inputs line done k e test is = record {
  over = is.over;
  before = is.before;
  result = is.result;
  at = is.at;
  gives =
      λ env q n other wf stands at among same from sorted. is.gives env q n other wf stands at
      (⊎_elim (λ first. absurd (false≢true (sym test
      ∙ matched line k e (from ∙ ap (λ (x : OfKind). Out line x.result) (sym first))
      (sorted ∙ ap (λ (x : OfKind). x.sort) (sym first))))) (λ later. later) among) same from sorted;
}

same_result : (line a b : ℕ) → Out line a ≡ Out line b → a ≡ b
same_result line a b h = cc

merged-alone : (c : Claim) (inputs : List Value) (line : ℕ) (done : List OfKind) (k : OfKind)
    → IsMeantKind c inputs line k
    → ((other : OfKind) → In done other → other.result ≡ k.result → other.sort ≡ k.sort → ⊥)
    → IsMerged c inputs line (k ∷ done) (alone line k)
merged-alone c inputs line done k meant none = record {
  over = meant.over;
  before = meant.source;
  result = k.result;
  at = refl;
  gives =
      λ env q n other wf stands at among same from sorted. ⊎_elim
      (λ first. meant.gives env q n wf stands at (sym same ∙ ap (λ (x : OfKind). x.op) (sym first)))
      (λ later. absurd (none other later (sym (same_result line k.result other.result from)) (sym sorted))) among;
}

-- ---- all sources of a line

-- no two are of one source and one sort
abbrev pub IsDistinct : List Sourced → Type 0
IsDistinct [] = Unit {0}
IsDistinct (e ∷ es) =
    ((x : Sourced) → In es x → x.source ≡ e.source → x.sort ≡ e.sort → ⊥) × IsDistinct es

pub record AreMerged (c : Claim) (inputs : List Value) (line : ℕ) (done : List OfKind) (es : List Sourced)
    : Type 0 where
  pub each : (e : Sourced) → In es e → IsMerged c inputs line done e
  pub all : (k : OfKind) → In done k → IsListed es (Out line k.result) k.sort
  pub distinct : IsDistinct es

-- another is no result of the kind where one is
other-test : (line : ℕ) (k : OfKind) (e : Sourced) (es : List Sourced) → IsDistinct (e ∷ es)
    → is_result line k e ≡ true → (x : Sourced) → In es x → is_result line k x ≡ false
other-test line k e es distinct test x i =
    false_unless (is_result line k x) (λ met. distinct.0 x i
    (match-source line k x met ∙ sym (match-source line k e test))
    (match-sort line k x met ∙ sym (match-sort line k e test)))

each-with : (c : Claim) (inputs : List Value) (line : ℕ) (done : List OfKind) (k : OfKind) → line < length c.ops
    → IsMeantKind c inputs line k → (es : List Sourced) → ((e : Sourced) → In es e → IsMerged c inputs line done e)
    → IsDistinct es
    → ((other : OfKind) → In done other → other.result ≡ k.result → other.sort ≡ k.sort
    → IsListed es (Out line k.result) k.sort)
    → (x : Sourced) → In (with_kind line es k) x → IsMerged c inputs line (k ∷ done) x
each-with c inputs line done k within meant [] each distinct cover x (inr none) = absurd none
each-with c inputs line done k within meant [] each distinct cover x (inl e) =
    subst (IsMerged c inputs line (k ∷ done)) e
    (merged-alone c inputs line done k meant (λ other i r s. let l = cover other i r s in l.1))
each-with c inputs line done k within meant (e ∷ es) each distinct cover y j =
    at_kind (λ xs. (x : Sourced) → In xs x → IsMerged c inputs line (k ∷ done) x) line k e es
    (λ test x i. ⊎_elim (λ first. subst (IsMerged c inputs line (k ∷ done)) first
    (merged-chosen c inputs line done k e within meant test (each e (inl refl))))
    (λ later. merged-other c inputs line done k x (other-test line k e es distinct test x later)
    (each x (inr later))) i)
    (λ test x i. ⊎_elim (λ first. subst (IsMerged c inputs line (k ∷ done)) first
    (merged-other c inputs line done k e test (each e (inl refl))))
    (λ later. each-with c inputs line done k within meant es (λ y j. each y (inr j)) distinct.1
    (λ other j r s. past test (cover other j r s)) x later) i) y j
  where
    past : is_result line k e ≡ false → IsListed (e ∷ es) (Out line k.result) k.sort
        → IsListed es (Out line k.result) k.sort
    past test (x, inl first, at, sorted) =
        absurd (false≢true (sym test ∙ matched line k e (ap (λ (y : Sourced). y.source) first ∙ at)
        (ap (λ (y : Sourced). y.sort) first ∙ sorted)))
    past test (x, inr later, at, sorted) = (x, later, at, sorted)

-- what was listed is, and so is the kind
listed-still : (line : ℕ) (k : OfKind) (es : List Sourced) (source : Src) (s : Sort) → IsListed es source s
    → IsListed (with_kind line es k) source s
listed-still line k [] source s (x, none, at, sorted) = absurd none
listed-still line k (e ∷ es) source s (x, inl first, at, sorted) =
    at_kind (λ xs. IsListed xs source s) line k e es
    (λ test. (
      chosen_kind line k e,
      inl refl,
      ap (λ (y : Sourced). y.source) first ∙ at,
      ap (λ (y : Sourced). y.sort) first ∙ sorted,
    ))
    (λ test. (x, inl first, at, sorted))
listed-still line k (e ∷ es) source s (x, inr later, at, sorted) =
    at_kind (λ xs. IsListed xs source s) line k e es (λ test. (x, inr later, at, sorted))
    (λ test. let rest = listed-still line k es source s (x, later, at, sorted) in
    (rest.0, inr rest.1, rest.2, rest.3))

listed-itself : (line : ℕ) (k : OfKind) (es : List Sourced)
    → IsListed (with_kind line es k) (Out line k.result) k.sort
listed-itself line k [] = (alone line k, inl refl, refl, refl)
listed-itself line k (e ∷ es) =
    at_kind (λ xs. IsListed xs (Out line k.result) k.sort) line k e es
    (λ test. (chosen_kind line k e, inl refl, match-source line k e test, match-sort line k e test))
    (λ test. let rest = listed-itself line k es in (rest.0, inr rest.1, rest.2, rest.3))

-- nothing is listed twice
where-from : (line : ℕ) (k : OfKind) (es : List Sourced) (x : Sourced) → In (with_kind line es k) x
    → IsListed es x.source x.sort ⊎ ((x.source ≡ Out line k.result) × (x.sort ≡ k.sort))
where-from line k [] x (inr none) = absurd none
where-from line k [] x (inl e) =
    inr (ap (λ (y : Sourced). y.source) (sym e), ap (λ (y : Sourced). y.sort) (sym e))
where-from line k (e ∷ es) y j =
    at_kind (λ xs. (x : Sourced) → In xs x
    → IsListed (e ∷ es) x.source x.sort ⊎ ((x.source ≡ Out line k.result) × (x.sort ≡ k.sort))) line k e es
    (λ test x i. ⊎_elim (λ first. inl (
      e,
      inl refl,
      ap (λ (y : Sourced). y.source) first,
      ap (λ (y : Sourced). y.sort) first,
    )) (λ later. inl (x, inr later, refl, refl)) i)
    (λ test x i. ⊎_elim (λ first. inl (x, inl first, refl, refl))
    (λ later. ⊎_elim (λ old. inl (old.0, inr old.1, old.2, old.3)) (λ new. inr new) (where-from line k es x later))
    i) y j

distinct-with : (line : ℕ) (k : OfKind) (es : List Sourced) → IsDistinct es → IsDistinct (with_kind line es k)
distinct-with line k [] distinct = (λ x i a b. i, tt)
distinct-with line k (e ∷ es) distinct =
    at_kind IsDistinct line k e es (λ test. (λ x i a b. distinct.0 x i a b, distinct.1))
    (λ test. (
      λ x i a b. ⊎_elim (λ old. distinct.0 old.0 old.1 (old.2 ∙ a) (old.3 ∙ b))
          (λ new. false≢true (sym test ∙ matched line k e (sym a ∙ new.0) (sym b ∙ new.1))) (where-from line k es x i),
      distinct-with line k es distinct.1,
    ))

-- one more kind
merge-one : (c : Claim) (inputs : List Value) (line : ℕ) (done : List OfKind) (k : OfKind) → line < length c.ops
    → IsMeantKind c inputs line k → (es : List Sourced) → AreMerged c inputs line done es
    → AreMerged c inputs line (k ∷ done) (with_kind line es k)
merge-one c inputs line done k within meant es are = record {
  each =
      each-with c inputs line done k within meant es are.each are.distinct
      (λ other i r s. subst (λ x. IsListed es (Out line x) k.sort) r
      (subst (λ x. IsListed es (Out line other.result) x) s (are.all other i)));
  all =
      λ other i. ⊎_elim
      (λ first. subst (λ (x : OfKind). IsListed (with_kind line es k) (Out line x.result) x.sort) first
      (listed-itself line k es))
      (λ later. listed-still line k es (Out line other.result) other.sort (are.all other later)) i;
  distinct = distinct-with line k es are.distinct;
}

-- the kinds that were merged, the last first
abbrev pub in_turn : List OfKind → List OfKind → List OfKind
in_turn done [] = done
in_turn done (k ∷ ks) = in_turn (k ∷ done) ks

in_turn-in : (done ks : List OfKind) (k : OfKind) → In done k ⊎ In ks k → In (in_turn done ks) k
in_turn-in done [] k (inl i) = i
in_turn-in done [] k (inr i) = absurd i
in_turn-in done (x ∷ ks) k (inl i) = in_turn-in (x ∷ done) ks k (inl (inr i))
in_turn-in done (x ∷ ks) k (inr (inl e)) = in_turn-in (x ∷ done) ks k (inl (inl e))
in_turn-in done (x ∷ ks) k (inr (inr i)) = in_turn-in (x ∷ done) ks k (inr i)

merge-all : (c : Claim) (inputs : List Value) (line : ℕ) → line < length c.ops → (done ks : List OfKind)
    → ((k : OfKind) → In ks k → IsMeantKind c inputs line k) → (es : List Sourced) → AreMerged c inputs line done es
    → AreMerged c inputs line (in_turn done ks) (fold (with_kind line) es ks)
merge-all c inputs line within done [] meant es are = are
merge-all c inputs line within done (k ∷ ks) meant es are =
    merge-all c inputs line within (k ∷ done) ks (λ x i. meant x (inr i)) (with_kind line es k)
    (merge-one c inputs line done k within (meant k (inl refl)) es are)

-- the sources of these kinds
pub record AreLine (c : Claim) (inputs : List Value) (line : ℕ) (ks : List OfKind) (es : List Sourced) : Type 0 where
  pub done : List OfKind
  pub has : (k : OfKind) → In ks k → In done k
  pub are : AreMerged c inputs line done es

pub line-merged : (c : Claim) (inputs : List Value) (line : ℕ) → line < length c.ops → (ks : List OfKind)
    → ((k : OfKind) → In ks k → IsMeantKind c inputs line k)
    → AreLine c inputs line ks (fold (with_kind line) [] ks)
line-merged c inputs line within ks meant = record {
  done = in_turn [] ks;
  has = λ k i. in_turn-in [] ks k (inr i);
  are =
      merge-all c inputs line within [] ks meant []
      (record { each = λ e i. absurd i; all = λ k i. absurd i; distinct = tt });
}
