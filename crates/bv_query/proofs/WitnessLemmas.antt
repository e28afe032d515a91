-- The values that a model gives the inputs make the formulas true.
use Rattle.std.proofs.Common.{◌≡◌, ◌∙◌, ℕ, ◌+◌, ◌<◌, ◌≤◌, ◌==◌, ◌&&◌, ◌||◌, ◌⊎◌, Bool, true, false, List, [], ◌∷◌, map}
use Rattle.std.proofs.Common.{length, slice_get, Some, All, Contains, refl, sym, ap, subst, inl, inr, arith}
use Rattle.std.specs.Prelude.{IsTrue}
use Rattle.std.specs.List.{AllByRecursion, list_any}
use Rattle.std.proofs.lemmas.Bool.{eq-eqb}
use Rattle.std.proofs.lemmas.Bool.Decides.{Decides-eqb}
use Rattle.std.proofs.lemmas.List.Elements.{All-from_recursion, All-contains}
use Rattle.std.proofs.lemmas.Option.{same_Some}
use Rattle.bv_terms.specs.declared.op.Op.TheVariants as op
use Rattle.bv_terms.specs.declared.op.TermId.{TermId}
use Rattle.bv_terms.specs.declared.value.Sort.{Sort}
use Rattle.bv_terms.specs.declared.value.Sort.TheVariants as sort
use Rattle.bv_terms.specs.declared.value.Value.{Value}
use Rattle.bv_terms.specs.declared.value.Value.TheVariants as val
use Rattle.bv_terms.specs.Sorts.{width_of}
use Rattle.bv_terms.specs.Term.{Term, Apply, End}
use Rattle.bv_terms.specs.WellSorted.{InputsFit}
use Rattle.bv_terms.specs.Subterm.{IsSubterm}
use Rattle.bv_terms.specs.Table.{Table, term_at, IsTable}
use Rattle.cnf_core.specs.Clause.{assigned, is_model}
use Rattle.cnf_core.specs.Formula.{Formula}
use Rattle.bit_blast.specs.Bits.{bit_of, Agrees, IsListed, IsBitOf}
use Rattle.bit_blast.specs.Clauses.{IsFormula, IsTrueAt, AreClausesFor}
use Rattle.bit_blast.proofs.BlastLemmas.{right-clauses}
use Rattle.bv_query.specs.Inputs.{IsInputOf, HaveOneSort, AreInputsOf}
use Rattle.bv_query.specs.Values.{room_for, zeros, with_bits, values_of}
use Rattle.bv_query.specs.Session.{Asserted, formulas_in, IsRightSession}
use Rattle.bv_query.specs.Decision.{IsWitness, HaveNoWitness}
use Rattle.bv_query.proofs.InputLemmas.{Numbered, InputsFit-each, input-sized, small-width}
use Rattle.bv_query.proofs.ValueLemmas.{Listed, Fits, HasRoom, is_set, bits-sort, bits-bit, bits-length, bits-other}
use Rattle.bv_query.proofs.ValueLemmas.{start-length, start-bit, start-fits, start-gap, start-last}
use Rattle.list_lemmas.proofs.Bools.{same_test, and_parts, and-both, or-cases, or-left, or-right}
use Rattle.list_lemmas.proofs.Lookups.{each_from_places, Contains-from_slice_get, Contains-slice_get}
use Rattle.list_lemmas.proofs.Members.{In, In-from_Contains, Contains-from_In, In_of_map}

-- ---- a bit that is listed once

any-at : {A : Type 0} (test : A → Bool) (xs : List A) (x : A) → In xs x → test x ≡ true → list_any test xs ≡ true
any-at test [] x i h = absurd i
any-at test (y ∷ xs) x (inl same) h = or-left (test y) (list_any test xs) (ap test same ∙ h)
any-at test (y ∷ xs) x (inr later) h = or-right (test y) (list_any test xs) (any-at test xs x later h)

at-any : {A : Type 0} (test : A → Bool) (xs : List A) → list_any test xs ≡ true → (x : A) × In xs x × (test x ≡ true)
at-any test [] h = absurd (let no : false ≡ true = h in cc)
at-any test (y ∷ xs) h = elim (or-cases (test y) (list_any test xs) h) [
  | inl here ↦ (y, inl refl, here)
  | inr later ↦ (let found = at-any test xs later in (found.0, inr found.1, found.2))
]

-- of one input and one bit there is one place
abbrev pub AreOnce : List Listed → Type 0
AreOnce bits = (i j number k x y : ℕ) → slice_get bits i ≡ Some (number, k, x) → slice_get bits j ≡ Some (number, k, y)
    → i ≡ j

pub once-any : (v : ℕ → Bool) (bits : List Listed) → AreOnce bits → (b : Listed) → In bits b
    → list_any (is_set v b.0 b.1) bits ≡ v b.2
once-any v bits once b at = same_test (list_any (is_set v b.0 b.1) bits) (v b.2) to from
  where
    from : v b.2 ≡ true → list_any (is_set v b.0 b.1) bits ≡ true
    from h = any-at (is_set v b.0 b.1) bits b at
        (and-both (b.0 == b.0 && b.1 == b.1) (v b.2)
        (and-both (b.0 == b.0) (b.1 == b.1) (eq-eqb b.0 b.0 refl) (eq-eqb b.1 b.1 refl)) h)

    to : list_any (is_set v b.0 b.1) bits ≡ true → v b.2 ≡ true
    to h =
        let found = at-any (is_set v b.0 b.1) bits h in
        let c = found.0 in
        let parts = and_parts (c.0 == b.0 && c.1 == b.1) (v c.2) found.2 in
        let both = and_parts (c.0 == b.0) (c.1 == b.1) parts.0 in
        let number : c.0 ≡ b.0 = (Decides-eqb c.0 b.0).0 both.0 in
        let bit : c.1 ≡ b.1 = (Decides-eqb c.1 b.1).0 both.1 in
        let here = Contains-slice_get bits b (Contains-from_In bits b at) in
        let there = Contains-slice_get bits c (Contains-from_In bits c found.1) in
        let renamed : slice_get bits there.0 ≡ Some (b.0, b.1, c.2) =
        there.1 ∙ ap (λ m. Some (m, c.1, c.2)) number ∙ ap (λ m. Some (b.0, m, c.2)) bit in
        let place : here.0 ≡ there.0 = once here.0 there.0 b.0 b.1 b.2 c.2 here.1 renamed in
        let same : b ≡ c = same_Some b c (sym here.1 ∙ ap (slice_get bits) place ∙ there.1) in
        ap (λ (d : Listed). v d.2) same ∙ parts.1

-- ---- what is right over a table

pub right-for : (table : Table) (s : Asserted) → IsRightSession s table
    → AreClausesFor (formulas_in table s) s.clauses s.blast.netlist.bits
right-for table s right =
    right-clauses s.blast table right.blast s.clauses s.blast.netlist.bits right.clauses refl

-- where the clauses have no model, there is no witness
pub no-witness : (table : Table) (s : Asserted) → IsRightSession s table
    → ((v : ℕ → Bool) → is_model v s.clauses.clauses ≡ false) → HaveNoWitness (formulas_in table s)
no-witness table s right none env fits truths =
    let m = ((right-for table s right).models env fits).0 truths in
    let bad : true ≡ false = sym m.1 ∙ none m.0 in cc

module _ (table : Table) (is : IsTable table) (s : Asserted) (right : IsRightSession s table) where
  abbrev bits : List Listed
  bits = s.blast.netlist.bits

  abbrev ts : List Term
  ts = formulas_in table s

  -- the input of a listed bit
  listed-input : (b : Listed) → In bits b → (r : Sort) × IsInputOf ts b.0 r × (b.1 < width_of r)
  listed-input b at =
      let says = (right.blast.listed b.0 b.1).0 (b.2, Contains-from_In bits b at) in
      (says.2.0, (says.0, says.1, says.2.1), says.2.2)

  plain-input : (number : ℕ) (r : Sort) → IsInputOf ts number r → r ≡ sort.Mem → ⊥
  plain-input number r stands mem =
      let formula = All-contains (IsFormula table.pointer) ts stands.0 right.formulas stands.1 in
      formula.no_memory number (subst (λ q. IsSubterm (Apply (op.Input number q) End) stands.0) mem stands.2)

  pub listed-small : All (λ (b : Listed). b.1 < 64) bits
  listed-small = All-from_recursion (λ (b : Listed). b.1 < 64) bits (each_from_places (λ (b : Listed). b.1 < 64) bits
      (λ i b e. small b (In-from_Contains bits b (Contains-from_slice_get bits i b e))))
    where
      small : (b : Listed) → In bits b → b.1 < 64
      small b at =
          let r = listed-input b at in
          let f = In_of_map (term_at table) s.blast.formulas r.1.0 (In-from_Contains ts r.1.0 r.1.1) in
          let there = All-contains (λ (at : TermId). at.0 < length table.nodes) s.blast.formulas f.0
          right.blast.formulas (Contains-from_In s.blast.formulas f.0 f.1) in
          let sized = input-sized table is f.0 b.0 r.0 there
          (subst (IsSubterm (Apply (op.Input b.0 r.0) End)) (sym f.2) r.1.2) in
          omega (arith, r.2, small-width r.0 sized)

  module _ (inputs : List Numbered) (are : AreInputsOf ts inputs) (model : List Bool)
      (holds : is_model (assigned model) s.clauses.clauses ≡ true) where
    abbrev v : ℕ → Bool
    v = assigned model

    among : (number : ℕ) (r : Sort) → IsInputOf ts number r → In inputs (number, r)
    among number r stands = In-from_Contains inputs (number, r) ((are.exact number r).1 stands)

    stands-there : (number : ℕ) (r : Sort) → In inputs (number, r) → IsInputOf ts number r
    stands-there number r at = (are.exact number r).0 (Contains-from_In inputs (number, r) at)

    zero-fits : (number : ℕ) (r : Sort) → IsInputOf ts number r → Fits (zeros inputs) number r
    zero-fits number r stands = start-fits inputs
        (λ n q t first second. right.one_sort n q t (stands-there n q first) (stands-there n t second))
        number r (among number r stands) (plain-input number r stands)

    rooms : AllByRecursion (HasRoom (zeros inputs)) bits
    rooms = each_from_places (HasRoom (zeros inputs)) bits (λ i b e.
        let r = listed-input b (In-from_Contains bits b (Contains-from_slice_get bits i b e)) in
        (r.0, zero-fits b.0 r.0 r.1, r.2))

    value-fits : (number : ℕ) (r : Sort) → IsInputOf ts number r → Fits (values_of inputs bits model) number r
    value-fits number r stands = bits-sort v bits (zeros inputs) rooms number r (zero-fits number r stands)

    agrees : Agrees v bits (values_of inputs bits model)
    agrees = All-from_recursion (λ (b : Listed). v b.2 ≡ bit_of (values_of inputs bits model) b.0 b.1) bits
        (each_from_places (λ (b : Listed). v b.2 ≡ bit_of (values_of inputs bits model) b.0 b.1) bits (λ i b e.
        let at = In-from_Contains bits b (Contains-from_slice_get bits i b e) in
        sym (bits-bit v bits (zeros inputs) rooms b.0 b.1
        ∙ ap (λ t. t || list_any (is_set v b.0 b.1) bits) (start-bit inputs b.0 b.1)
        ∙ once-any v bits (right-for table s right).once b at)))

    all-fit : All (InputsFit (values_of inputs bits model)) ts
    all-fit = All-from_recursion (InputsFit (values_of inputs bits model)) ts
        (each_from_places (InputsFit (values_of inputs bits model)) ts (λ i t e.
        let at = Contains-from_slice_get ts i t e in
        let formula = All-contains (IsFormula table.pointer) ts t right.formulas at in
        InputsFit-each table.pointer (values_of inputs bits model) t sort.Bool formula.truth
        (λ number r below. value-fits number r (t, at, below))))

    pub witness : IsWitness ts (values_of inputs bits model)
    witness = record {
      fits = all-fit;
      truths = ((right-for table s right).models (values_of inputs bits model) all-fit).1 (v, holds, agrees);
      gaps = gaps;
      last = λ number e.
          let length_is : room_for inputs ≡ number + 1 =
          sym (bits-length v bits (zeros inputs) ∙ start-length inputs) ∙ e in
          let found = start-last inputs number length_is in
          (found.0, stands-there number found.0 found.1);
    }
      where
        gaps : (number : ℕ) → number < length (values_of inputs bits model)
            → ((r : Sort) × IsInputOf ts number r) ⊎ (slice_get (values_of inputs bits model) number
            ≡ Some (val.Bool false))
        gaps number less = elim (bits-other v bits (zeros inputs) number) [
          | inl listed ↦ (let r = listed-input listed.0 listed.1 in
              inl (r.0, subst (λ n. IsInputOf ts n r.0) listed.2 r.1))
          | inr stays ↦ elim (start-gap inputs number (omega (
            arith,
            less,
            bits-length v bits (zeros inputs),
            start-length inputs,
          ))) [
            | inl there ↦ inl (there.0, stands-there number there.0 there.1)
            | inr gap ↦ inr (stays ∙ gap)
          ]
        ]
