-- What a chain of choices means.
use Rattle.std.proofs.Common.{◌≡◌, ℕ, Bool, true, false, List, [], ◌∷◌, Option, Some, None, ◌⊎◌, inl, inr}
use Rattle.std.proofs.Common.{refl, sym, ap, ◌∙◌, subst, ⊎_elim, slice_get, unwrap_or}
use Rattle.std.specs.Prelude.{fold, if◌then◌else◌, ◌==◌}
use Rattle.std.proofs.lemmas.Bool.{false≢true, eqb-true, eq-eqb}
use Rattle.bv_terms.specs.declared.value.Sort.{Sort}
use Rattle.bv_terms.specs.declared.value.Sort.TheVariants as sort
use Rattle.bv_terms.specs.declared.value.Value.{Value}
use Rattle.bv_terms.specs.declared.value.Value.TheVariants as val
use Rattle.bv_terms.specs.Sorts.{same_sort}
use Rattle.bv_terms.specs.Term.{Term, value}
use Rattle.bv_terms.proofs.SignatureLemmas.{same_sort-true}
use Rattle.list_lemmas.proofs.Bools.{and_parts, and-both}
use Rattle.list_lemmas.proofs.Members.{In}
use Rattle.pattern_core.specs.Claim.{Claim, IsPatternOf}
use Rattle.pattern_core.specs.declared.pattern.Pattern.{Pattern}
use Rattle.pattern_core.specs.declared.pattern.Src.{Src}
use Rattle.pattern_core.specs.declared.pattern.Src.TheVariants.{Input, Out}
use Rattle.pattern_core.specs.Pattern.{same_source}
use Rattle.loc_encode.specs.declared.taking.Taker.{Taker}
use Rattle.loc_encode.specs.declared.taking.Taker.TheVariants as taker
use Rattle.loc_encode.specs.Slots.{IsSlot, IsSourceAt, slot_number}
use Rattle.loc_encode.specs.Standing.{StandsFor, is_source, is_chosen}
use Rattle.loc_encode.specs.Parts.{IsOver}
use Rattle.loc_encode.specs.Building.{choice_term, constant_term}
use Rattle.loc_encode.specs.Lines.{Sourced, slot_at, taken, or_source, taken_term, some_value}
use Rattle.loc_encode.specs.Meaning.{value_of, sort_in, chosen_at, IsMeant, HasSlots, IsListed}
use Rattle.loc_encode.proofs.BuildingLemmas.{value-choice, over-choice, over-constant}

-- ---- tests

pub same_source-true : (a b : Src) → same_source a b ≡ true → a ≡ b
same_source-true (Input i) (Input k) h = ap Input (eqb-true i k h)
same_source-true (Input i) (Out n r) h = absurd (false≢true h)
same_source-true (Out m q) (Input k) h = absurd (false≢true h)
same_source-true (Out m q) (Out n r) h =
    let parts = and_parts (m == n) (q == r) h in
    λ i. Out (eqb-true m n parts.0 i) (eqb-true q r parts.1 i)

pub same_source-same : (a : Src) → same_source a a ≡ true
same_source-same (Input i) = eq-eqb i i refl
same_source-same (Out n r) = and-both (n == n) (r == r) (eq-eqb n n refl) (eq-eqb r r refl)

pub same_sort-same : (s : Sort) → same_sort s s ≡ true
same_sort-same sort.Bool = refl
same_sort-same (sort.Bits w) = eq-eqb w w refl
same_sort-same sort.Mem = refl

-- ---- a choice

pub chosen-slot : (q : Pattern) (t : Taker) (source : Src)
    → is_chosen q (slot_at t source) ≡ is_source (chosen_at q t) source
chosen-slot q (taker.Arg line place) source = refl
chosen-slot q (taker.Result place) source = refl

-- the value of a choice, by cases on whether it is made
pub by_choice : (env : List Value) (k : ℕ) (t u : Term) (v : Value) (b : Bool) → slice_get env k ≡ Some (val.Bool b)
    → (b ≡ true → value env t ≡ v) → (b ≡ false → value env u ≡ v) → value env (choice_term k t u) ≡ v
by_choice env k t u v true h f g = value-choice env k t u true h ∙ f refl
by_choice env k t u v false h f g = value-choice env k t u false h ∙ g refl

-- ---- a chain

-- the term has the value of what the pattern chooses, where that is among these sources and of the sort
pub record IsChain (c : Claim) (inputs : List Value) (t : Taker) (s : Sort) (Among : Src → Type 0) (u : Term)
    : Type 0 where
  pub over : IsOver c u
  pub gives : (env : List Value) (q : Pattern) (source : Src) → IsPatternOf c q → StandsFor c env q
      → chosen_at q t ≡ Some source → sort_in c q source ≡ Some s → Among source
      → value env u ≡ value_of c inputs q source

abbrev pub IsChainOr : Claim → List Value → Taker → Sort → (Src → Type 0) → Option Term → Type 0
IsChainOr c inputs t s Among None = (source : Src) → ¬ Among source
IsChainOr c inputs t s Among (Some u) = IsChain c inputs t s Among u

weaker : (c : Claim) (inputs : List Value) (t : Taker) (s : Sort) (Among Less : Src → Type 0)
    → ((source : Src) → Less source → Among source) → (u : Option Term) → IsChainOr c inputs t s Among u
    → IsChainOr c inputs t s Less u
weaker c inputs t s Among Less f None h = λ source less. h source (f source less)
weaker c inputs t s Among Less f (Some u) h = record {
  over = h.over;
  gives = λ env q source is stands at sorted less. h.gives env q source is stands at sorted (f source less);
}

-- with one more source
with_one : (c : Claim) (inputs : List Value) (line : ℕ) (t : Taker) (s : Sort) → HasSlots c line t s
    → (Among : Src → Type 0) (others : Option Term) (e : Sourced) → IsMeant c inputs line e → e.sort ≡ s
    → IsChainOr c inputs t s Among others
    → IsChain c inputs t s (λ source. Among source ⊎ (e.source ≡ source)) (taken t others e)
with_one c inputs line t s slots Among None e meant sorts h = record {
  over = meant.over;
  gives =
      λ env q source is stands at sorted among. ⊎_elim (λ none. absurd (h source none))
      (λ here. meant.gives env q is stands (ap (sort_in c q) here ∙ sorted ∙ ap Some (sym sorts))
      ∙ ap (value_of c inputs q) here) among;
}
with_one c inputs line t s slots Among (Some u) e meant sorts h =
    let slot : IsSlot c (slot_at t e.source) sort.Bool =
    slots e.source (subst (λ r. IsSourceAt c line r e.source) sorts meant.before) in
    record {
      over = over-choice c (slot_at t e.source) e.term u slot meant.over h.over;
      gives =
          λ env q source is stands at sorted among.
          let test : is_chosen q (slot_at t e.source) ≡ same_source source e.source =
          chosen-slot q t e.source ∙ ap (λ o. is_source o e.source) at in
          by_choice env (slot_number (slot_at t e.source)) e.term u (value_of c inputs q source)
          (same_source source e.source)
          (stands.choices (slot_at t e.source) slot ∙ ap (λ b. Some (val.Bool b)) test)
          (λ met. let here : e.source ≡ source = sym (same_source-true source e.source met) in
          meant.gives env q is stands (ap (sort_in c q) here ∙ sorted ∙ ap Some (sym sorts))
          ∙ ap (value_of c inputs q) here)
          (λ unmet. ⊎_elim (λ old. h.gives env q source is stands at sorted old)
          (λ here. absurd (false≢true (sym unmet ∙ ap (same_source source) here ∙ same_source-same source))) among);
    }

-- with a source of any sort
or_one : (c : Claim) (inputs : List Value) (line : ℕ) (t : Taker) (s : Sort) → HasSlots c line t s
    → (Among : Src → Type 0) (others : Option Term) (e : Sourced) → IsMeant c inputs line e
    → IsChainOr c inputs t s Among others
    → IsChainOr c inputs t s (λ source. Among source ⊎ ((e.source ≡ source) × (e.sort ≡ s))) (or_source t s others e)
or_one c inputs line t s slots Among others e meant h = by (same_sort e.sort s) refl
  where
    by : (b : Bool) → same_sort e.sort s ≡ b
        → IsChainOr c inputs t s (λ source. Among source ⊎ ((e.source ≡ source) × (e.sort ≡ s)))
        (if b then Some (taken t others e) else others)
    by true same =
        weaker c inputs t s (λ source. Among source ⊎ (e.source ≡ source))
        (λ source. Among source ⊎ ((e.source ≡ source) × (e.sort ≡ s)))
        (λ source among. ⊎_elim (λ a. inl a) (λ b. inr b.0) among) (Some (taken t others e))
        (with_one c inputs line t s slots Among others e meant (same_sort-true e.sort s same) h)
    by false same =
        weaker c inputs t s Among (λ source. Among source ⊎ ((e.source ≡ source) × (e.sort ≡ s)))
        (λ source among. ⊎_elim (λ a. a)
        (λ b. absurd (false≢true (sym same ∙ ap (same_sort e.sort) (sym b.1) ∙ same_sort-same e.sort))) among)
        others h

pub or_all : (c : Claim) (inputs : List Value) (line : ℕ) (t : Taker) (s : Sort) → HasSlots c line t s
    → (sources : List Sourced) → ((e : Sourced) → In sources e → IsMeant c inputs line e)
    → (Among : Src → Type 0) (others : Option Term) → IsChainOr c inputs t s Among others
    → IsChainOr c inputs t s (λ source. Among source ⊎ IsListed sources source s) (fold (or_source t s) others sources)
or_all c inputs line t s slots [] meant Among others h =
    weaker c inputs t s Among (λ source. Among source ⊎ IsListed [] source s)
    (λ source among. ⊎_elim (λ a. a) (λ none. absurd none.1) among) others h
or_all c inputs line t s slots (e ∷ es) meant Among others h =
    let Next : Src → Type 0 = λ source. Among source ⊎ ((e.source ≡ source) × (e.sort ≡ s)) in
    weaker c inputs t s (λ source. Next source ⊎ IsListed es source s)
    (λ source. Among source ⊎ IsListed (e ∷ es) source s) (λ source among. shift source among)
    (fold (or_source t s) (or_source t s others e) es)
    (or_all c inputs line t s slots es (λ x i. meant x (inr i)) Next (or_source t s others e)
    (or_one c inputs line t s slots Among others e (meant e (inl refl)) h))
  where
    shift : (source : Src) → Among source ⊎ IsListed (e ∷ es) source s
        → (Among source ⊎ ((e.source ≡ source) × (e.sort ≡ s))) ⊎ IsListed es source s
    shift source (inl a) = inl (inl a)
    shift source (inr (x, inl same, at, sorted)) =
        inl (inr (ap (λ (y : Sourced). y.source) same ∙ at, ap (λ (y : Sourced). y.sort) same ∙ sorted))
    shift source (inr (x, inr later, at, sorted)) = inr (x, later, at, sorted)

-- what takes one of these sources
pub taken-meant : (c : Claim) (inputs : List Value) (line : ℕ) (t : Taker) (s : Sort) → HasSlots c line t s
    → (sources : List Sourced) → ((e : Sourced) → In sources e → IsMeant c inputs line e)
    → IsChain c inputs t s (λ source. IsListed sources source s) (taken_term t s sources)
taken-meant c inputs line t s slots sources meant =
    by (fold (or_source t s) None sources)
    (or_all c inputs line t s slots sources meant (λ source. ⊥) None (λ source none. none))
  where
    by : (o : Option Term) → IsChainOr c inputs t s (λ source. ⊥ ⊎ IsListed sources source s) o
        → IsChain c inputs t s (λ source. IsListed sources source s) (unwrap_or o (constant_term (some_value s)))
    by None h = record {
      over = over-constant c (some_value s);
      gives = λ env q source is stands at sorted among. absurd (h source (inr among));
    }
    by (Some u) h = record {
      over = h.over;
      gives = λ env q source is stands at sorted among. h.gives env q source is stands at sorted (inr among);
    }
