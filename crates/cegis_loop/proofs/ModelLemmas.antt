-- A model of clauses that stand for formulas gives values of the inputs that make the formulas true.
use Rattle.std.proofs.Common.{◌≡◌, ◌∙◌, ℕ, ◌+◌, ◌<◌, ◌||◌, ◌⊎◌, ⊎_elim, Bool, false, List, [], ◌∷◌, ◌++◌, length, Some}
use Rattle.std.proofs.Common.{Option, None, slice_get, All, refl, sym, ap, subst, inl, inr, arith}
use Rattle.std.specs.Prelude.{IsTrue}
use Rattle.std.specs.List.{AllByRecursion, list_any}
use Rattle.std.proofs.lemmas.List.Elements.{All-from_recursion, All-contains}
use Rattle.std.proofs.lemmas.Option.{same_Some}
use Rattle.bv_terms.specs.declared.op.Op.{Op}
use Rattle.bv_terms.specs.declared.op.Op.TheVariants as op
use Rattle.bv_terms.specs.declared.value.Sort.{Sort}
use Rattle.bv_terms.specs.declared.value.Sort.TheVariants as sort
use Rattle.bv_terms.specs.declared.value.Value.{Value}
use Rattle.bv_terms.specs.declared.value.Value.TheVariants as val
use Rattle.bv_terms.specs.Sorts.{width_of}
use Rattle.bv_terms.specs.Term.{Term, Operands, Apply, End, Then}
use Rattle.bv_terms.specs.WellSorted.{InputsFit}
use Rattle.bv_terms.specs.Subterm.{IsSubterm, IsSubtermAmong}
use Rattle.cnf_core.specs.Clause.{is_model}
use Rattle.cnf_core.specs.Formula.{Formula}
use Rattle.bit_blast.specs.Bits.{bit_of, Agrees}
use Rattle.bit_blast.specs.Clauses.{IsFormula, AreClausesFor}
use Rattle.bv_query.specs.Inputs.{read_input, input_of, IsInputOf, HaveOneSort, AreInputsOf}
use Rattle.bv_query.specs.Values.{room_for, zeros, with_bits}
use Rattle.bv_query.specs.Decision.{IsWitness}
use Rattle.bv_query.proofs.InputLemmas.{Numbered, InputsFit-each}
use Rattle.bv_query.proofs.ValueLemmas.{Listed, Fits, HasRoom, is_set, bits-sort, bits-bit, bits-length, bits-other}
use Rattle.bv_query.proofs.ValueLemmas.{start-length, start-bit, start-fits, start-gap, start-last}
use Rattle.bv_query.proofs.WitnessLemmas.{once-any}
use Rattle.list_lemmas.proofs.Lookups.{each_from_places, Contains-from_slice_get}
use Rattle.list_lemmas.proofs.Members.{In, In-from_Contains, Contains-from_In, In-append_left, In-append_right}
use Rattle.list_lemmas.proofs.Members.{In-append_cases}

-- ---- the inputs in terms

abbrev input : ℕ → Sort → Term
input number s = Apply (op.Input number s) End

listed_once : Option Numbered → List Numbered
listed_once None = []
listed_once (Some i) = i ∷ []

-- those that stand in a term, with repeats
mutual
  inputs_in : Term → List Numbered
  inputs_in (Apply o us) = listed_once (input_of (Apply o us)) ++ inputs_among us

  inputs_among : Operands → List Numbered
  inputs_among End = []
  inputs_among (Then u us) = inputs_in u ++ inputs_among us

read-back : (o : Op) (number : ℕ) (s : Sort) → read_input o ≡ Some (number, s) → op.Input number s ≡ o
read-back (op.Input k r) number s e =
    sym (ap (λ (i : Numbered). op.Input i.0 i.1) (same_Some (k, r) (number, s) e))
read-back o number s e = absurd (cc)

own-listed : (o : Op) (us : Operands) (number : ℕ) (s : Sort) → In (listed_once (input_of (Apply o us))) (number, s)
    → input number s ≡ Apply o us
unfolding listed_once
own-listed o End number s h = ap (λ q. Apply q End) (read-back o number s (by (read_input o) h))
  where
    by : (r : Option Numbered) → In (listed_once r) (number, s) → r ≡ Some (number, s)
    by None at = absurd at
    by (Some i) (inl same) = ap Some same
    by (Some i) (inr none) = absurd none
own-listed o (Then u us) number s h = absurd h

listed-own : (t : Term) (number : ℕ) (s : Sort) → input number s ≡ t → In (listed_once (input_of t)) (number, s)
unfolding listed_once
listed-own t number s e = subst (λ u. In (listed_once (input_of u)) (number, s)) e (inl refl)

mutual
  unfolding inputs_in IsSubterm

  in-below : (t : Term) (number : ℕ) (s : Sort) → In (inputs_in t) (number, s) → IsSubterm (input number s) t
  in-below (Apply o us) number s h =
      ⊎_elim (λ here. inl (own-listed o us number s here)) (λ later. inr (among-below us number s later))
      (In-append_cases (listed_once (input_of (Apply o us))) (inputs_among us) (number, s) h)

  among-below : (us : Operands) (number : ℕ) (s : Sort) → In (inputs_among us) (number, s)
      → IsSubtermAmong (input number s) us
  among-below End number s h = absurd h
  among-below (Then u us) number s h =
      ⊎_elim (λ here. inl (in-below u number s here)) (λ later. inr (among-below us number s later))
      (In-append_cases (inputs_in u) (inputs_among us) (number, s) h)

mutual
  unfolding inputs_in IsSubterm

  below-in : (t : Term) (number : ℕ) (s : Sort) → IsSubterm (input number s) t → In (inputs_in t) (number, s)
  below-in (Apply o us) number s h =
      ⊎_elim
      (λ here. In-append_left (listed_once (input_of (Apply o us))) (inputs_among us) (number, s)
      (listed-own (Apply o us) number s here))
      (λ later. In-append_right (listed_once (input_of (Apply o us))) (inputs_among us) (number, s)
      (below-among us number s later)) h

  below-among : (us : Operands) (number : ℕ) (s : Sort) → IsSubtermAmong (input number s) us
      → In (inputs_among us) (number, s)
  below-among End number s h = absurd h
  below-among (Then u us) number s h =
      ⊎_elim (λ here. In-append_left (inputs_in u) (inputs_among us) (number, s) (below-in u number s here))
      (λ later. In-append_right (inputs_in u) (inputs_among us) (number, s) (below-among us number s later)) h

all_inputs : List Term → List Numbered
all_inputs [] = []
all_inputs (t ∷ ts) = inputs_in t ++ all_inputs ts

all-below : (ts : List Term) (number : ℕ) (s : Sort) → In (all_inputs ts) (number, s)
    → (t : Term) × In ts t × IsSubterm (input number s) t
unfolding all_inputs
all-below [] number s h = absurd h
all-below (t ∷ ts) number s h =
    ⊎_elim (λ here. (t, inl refl, in-below t number s here))
    (λ later. let rest = all-below ts number s later in (rest.0, inr rest.1, rest.2))
    (In-append_cases (inputs_in t) (all_inputs ts) (number, s) h)

below-all : (ts : List Term) (t : Term) (number : ℕ) (s : Sort) → In ts t → IsSubterm (input number s) t
    → In (all_inputs ts) (number, s)
unfolding all_inputs
below-all [] t number s at h = absurd at
below-all (u ∷ ts) t number s (inl same) h =
    In-append_left (inputs_in u) (all_inputs ts) (number, s)
    (below-in u number s (subst (IsSubterm (input number s)) (sym same) h))
below-all (u ∷ ts) t number s (inr at) h =
    In-append_right (inputs_in u) (all_inputs ts) (number, s) (below-all ts t number s at h)

AreInputsOf-all : (ts : List Term) → AreInputsOf ts (all_inputs ts)
AreInputsOf-all ts = record {
  exact = λ number s. (
    λ c. (let a = all-below ts number s (In-from_Contains (all_inputs ts) (number, s) c) in
        (a.0, Contains-from_In ts a.0 a.1, a.2)),
    λ stands. Contains-from_In (all_inputs ts) (number, s)
        (below-all ts stands.0 number s (In-from_Contains ts stands.0 stands.1) stands.2),
  );
}

-- ---- the values that a model gives

module _ (ts : List Term) (cnf : Formula) (bits : List Listed) (clauses : AreClausesFor ts cnf bits) (p : ℕ)
    (formulas : All (IsFormula p) ts) (one_sort : HaveOneSort ts) (inputs : List Numbered)
    (are : AreInputsOf ts inputs) (v : ℕ → Bool) where
  abbrev env : List Value
  env = with_bits v (zeros inputs) bits

  -- the input of a listed bit
  listed-input : (b : Listed) → In bits b → (r : Sort) × IsInputOf ts b.0 r × (b.1 < width_of r)
  listed-input b at =
      let says = (clauses.listed b.0 b.1).0 (b.2, Contains-from_In bits b at) in
      (says.2.0, (says.0, says.1, says.2.1), says.2.2)

  plain-input : (number : ℕ) (r : Sort) → IsInputOf ts number r → r ≡ sort.Mem → ⊥
  plain-input number r stands mem =
      let formula = All-contains (IsFormula p) ts stands.0 formulas stands.1 in
      formula.no_memory number (subst (λ q. IsSubterm (Apply (op.Input number q) End) stands.0) mem stands.2)

  among : (number : ℕ) (r : Sort) → IsInputOf ts number r → In inputs (number, r)
  among number r stands = In-from_Contains inputs (number, r) ((are.exact number r).1 stands)

  stands-there : (number : ℕ) (r : Sort) → In inputs (number, r) → IsInputOf ts number r
  stands-there number r at = (are.exact number r).0 (Contains-from_In inputs (number, r) at)

  zero-fits : (number : ℕ) (r : Sort) → IsInputOf ts number r → Fits (zeros inputs) number r
  zero-fits number r stands = start-fits inputs
      (λ n q t first second. one_sort n q t (stands-there n q first) (stands-there n t second))
      number r (among number r stands) (plain-input number r stands)

  rooms : AllByRecursion (HasRoom (zeros inputs)) bits
  rooms = each_from_places (HasRoom (zeros inputs)) bits (λ i b e.
      let r = listed-input b (In-from_Contains bits b (Contains-from_slice_get bits i b e)) in
      (r.0, zero-fits b.0 r.0 r.1, r.2))

  value-fits : (number : ℕ) (r : Sort) → IsInputOf ts number r → Fits env number r
  value-fits number r stands = bits-sort v bits (zeros inputs) rooms number r (zero-fits number r stands)

  agrees : Agrees v bits env
  agrees = All-from_recursion (λ (b : Listed). v b.2 ≡ bit_of env b.0 b.1) bits
      (each_from_places (λ (b : Listed). v b.2 ≡ bit_of env b.0 b.1) bits (λ i b e.
      let at = In-from_Contains bits b (Contains-from_slice_get bits i b e) in
      sym (bits-bit v bits (zeros inputs) rooms b.0 b.1
      ∙ ap (λ t. t || list_any (is_set v b.0 b.1) bits) (start-bit inputs b.0 b.1)
      ∙ once-any v bits clauses.once b at)))

  all-fit : All (InputsFit env) ts
  all-fit = All-from_recursion (InputsFit env) ts
      (each_from_places (InputsFit env) ts (λ i t e.
      let at = Contains-from_slice_get ts i t e in
      let formula = All-contains (IsFormula p) ts t formulas at in
      InputsFit-each p env t sort.Bool formula.truth (λ number r below. value-fits number r (t, at, below))))

  witness : IsTrue (is_model v cnf.clauses) → IsWitness ts env
  witness holds = record {
    fits = all-fit;
    truths = (clauses.models env all-fit).1 (v, holds, agrees);
    gaps = gaps;
    last = λ number e.
        let length_is : room_for inputs ≡ number + 1 =
        sym (bits-length v bits (zeros inputs) ∙ start-length inputs) ∙ e in
        let found = start-last inputs number length_is in
        (found.0, stands-there number found.0 found.1);
  }
    where
      gaps : (number : ℕ) → number < length env
          → ((r : Sort) × IsInputOf ts number r) ⊎ (slice_get env number ≡ Some (val.Bool false))
      gaps number less = elim (bits-other v bits (zeros inputs) number) [
        | inl listed ↦ (let r = listed-input listed.0 listed.1 in
            inl (r.0, subst (λ n. IsInputOf ts n r.0) listed.2 r.1))
        | inr stays ↦ elim (start-gap inputs number (omega (
          arith,
          less,
          bits-length v bits (zeros inputs),
          start-length inputs,
        ))) [
          | inl there ↦ inl (there.0, stands-there number there.0 there.1)
          | inr gap ↦ inr (stays ∙ gap)
        ]
      ]

-- values of the inputs that make the formulas true, by a model of their clauses
pub model-witness : (ts : List Term) (cnf : Formula) (bits : List Listed) → AreClausesFor ts cnf bits → (p : ℕ)
    → All (IsFormula p) ts → HaveOneSort ts → (v : ℕ → Bool) → IsTrue (is_model v cnf.clauses)
    → (env : List Value) × IsWitness ts env
model-witness ts cnf bits clauses p formulas one_sort v holds =
    let inputs = all_inputs ts in
    let are = AreInputsOf-all ts in (
      env ts cnf bits clauses p formulas one_sort inputs are v,
      witness ts cnf bits clauses p formulas one_sort inputs are v holds,
    )
