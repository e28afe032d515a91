-- Equality of nodes is equality of operation and arguments.
use Rattle.std.proofs.Common.{◌≡◌, Bool, true, false, List, [], ◌∷◌, eqb, ◌&&◌, ℕ, inl, inr, refl, ap, ◌∙◌}
use Rattle.std.proofs.Common.{rules, tests, Decides}
use Rattle.bv_terms.specs.contracts.op.Op.{the_type, as_values}
use denote.Struct.Field.{Field}
use denote.Struct.Values.{Values}
use denote.Enum.Declared.{Choice, intoss}
use denote.Enum.Compared.{Each, by}
use Rattle.std.specs.Cmp.{IsEquivalence}
use Rattle.bv_terms.specs.declared.op.Op.{Op}
use Rattle.bv_terms.specs.declared.op.TermId.{TermId}
use Rattle.bv_terms.specs.declared.node.Node.{Node}
use Rattle.bv_terms.specs.declared.value.Sort.{Sort}
use Rattle.bv_terms.specs.contracts.value.SortPartialEq.TheImpl as sorts
use Rattle.std.specs.Bool.{beq}
use Rattle.std.specs.Cmp.{booleans_Decides}
use Rattle.bv_terms.specs.contracts.node.NodePartialEq.TheImpl as node
use Rattle.bv_terms.specs.contracts.node.NodeEq.TheImpl.Laws as laws
use Rattle.bv_terms.specs.contracts.op.OpPartialEq.TheImpl as operation
use Rattle.bv_terms.specs.contracts.op.TermIdPartialEq.TheImpl as ids
use Rattle.std.specs.Cmp.Lexicographic.{pointwise}
use Rattle.std.proofs.lemmas.Bool.Decides.{Decides-eqb}
use Rattle.std.proofs.lemmas.Slice.Eq.{slice_eq-Decides}
use Rattle.list_lemmas.proofs.Bools.{and_parts}

abbrev pub node_eq : Node → Node → Bool
node_eq = node.eq-value.it

abbrev pub op_eq : Op → Op → Bool
op_eq = operation.eq-value.it

-- ---- a derived equality of variants

-- the test of each variant's fields leads to equal fields
abbrev AllExact : (Fss : List (List Field)) → Each Bool Fss → Type 0
AllExact [] each = Unit {0}
AllExact (Fs ∷ Fss) each = ((x y : Values Fs) → each.0 x y ≡ true → x ≡ y) × AllExact Fss each.1

by-exact : (Fss : List (List Field)) (each : Each Bool Fss) → AllExact Fss each → (c d : Choice Fss)
    → by false false Fss each c d ≡ true → c ≡ d
by-exact [] each exact c d h = absurd c
by-exact (Fs ∷ Fss) each exact (inl x) (inl y) h = ap inl (exact.0 x y h)
by-exact (Fs ∷ Fss) each exact (inl x) (inr y) h = cc
by-exact (Fs ∷ Fss) each exact (inr x) (inl y) h = cc
by-exact (Fs ∷ Fss) each exact (inr x) (inr y) h = ap inr (by-exact Fss each.1 exact.1 x y h)

sort_eq : Sort → Sort → Bool
sort_eq = sorts.eq-value.it

sort_eq-sound : (a b : Sort) → sort_eq a b ≡ true → a ≡ b
unfolding sort_eq
sort_eq-sound a b h = search (rules, tests)

input : (x y : ℕ × (Sort × Unit {0})) → (eqb x.0 y.0 && sort_eq x.1.0 y.1.0) ≡ true → x ≡ y
input x y h =
    let parts = and_parts (eqb x.0 y.0) (sort_eq x.1.0 y.1.0) h in
    ap (λ (n : ℕ). (n, x.1)) ((Decides-eqb x.0 y.0).0 parts.0)
    ∙ ap (λ (s : Sort). (y.0, (s, tt))) (sort_eq-sound x.1.0 y.1.0 parts.1)

truth : (x y : Bool × Unit {0}) → beq x.0 y.0 ≡ true → x ≡ y
truth x y h = ap (λ (b : Bool). (b, tt)) ((booleans_Decides x.0 y.0).0 h)

one_number : (x y : ℕ × Unit {0}) → eqb x.0 y.0 ≡ true → x ≡ y
one_number x y h = ap (λ (n : ℕ). (n, tt)) ((Decides-eqb x.0 y.0).0 h)

two_numbers : (x y : ℕ × (ℕ × Unit {0})) → (eqb x.0 y.0 && eqb x.1.0 y.1.0) ≡ true → x ≡ y
two_numbers x y h =
    let parts = and_parts (eqb x.0 y.0) (eqb x.1.0 y.1.0) h in
    ap (λ (n : ℕ). (n, x.1)) ((Decides-eqb x.0 y.0).0 parts.0)
    ∙ ap (λ (n : ℕ). (y.0, (n, tt))) ((Decides-eqb x.1.0 y.1.0).0 parts.1)

no_fields : (x y : Unit {0}) → true ≡ true → x ≡ y
no_fields x y h = refl

op_eq-sound : (a b : Op) → op_eq a b ≡ true → a ≡ b
unfolding sort_eq
op_eq-sound a b h =
    the_type.to_one a b (ap (intoss the_type.parts) (by-exact the_type.parts _ (
      input,
      (
        truth,
        (
          two_numbers,
          (
            no_fields,
            (
              no_fields,
              (
                no_fields,
                (
                  no_fields,
                  (
                    no_fields,
                    (
                      no_fields,
                      (
                        no_fields,
                        (
                          no_fields,
                          (
                            no_fields,
                            (
                              no_fields,
                              (
                                no_fields,
                                (
                                  no_fields,
                                  (
                                    no_fields,
                                    (
                                      no_fields,
                                      (
                                        no_fields,
                                        (
                                          no_fields,
                                          (
                                            no_fields,
                                            (
                                              no_fields,
                                              (
                                                no_fields,
                                                (
                                                  no_fields,
                                                  (
                                                    no_fields,
                                                    (
                                                      no_fields,
                                                      (
                                                        no_fields,
                                                        (
                                                          no_fields,
                                                          (
                                                            no_fields,
                                                            (
                                                              two_numbers,
                                                              (
                                                                one_number,
                                                                (
                                                                  one_number,
                                                                  (
                                                                    one_number,
                                                                    (
                                                                      one_number,
                                                                      (
                                                                        one_number,
                                                                        tt,
                                                                      ),
                                                                    ),
                                                                  ),
                                                                ),
                                                              ),
                                                            ),
                                                          ),
                                                        ),
                                                      ),
                                                    ),
                                                  ),
                                                ),
                                              ),
                                            ),
                                          ),
                                        ),
                                      ),
                                    ),
                                  ),
                                ),
                              ),
                            ),
                          ),
                        ),
                      ),
                    ),
                  ),
                ),
              ),
            ),
          ),
        ),
      ),
    )
    (as_values a) (as_values b) h))

node_eq-laws : IsEquivalence node_eq
node_eq-laws = laws.laws-law

id_eq : TermId → TermId → Bool
id_eq = ids.eq-value.it

Decides-id_eq : (a b : TermId) → Decides (id_eq a b) (a ≡ b)
unfolding id_eq
Decides-id_eq a b = (
  λ h. ap (λ n. record { 0 = n }) ((Decides-eqb a.0 b.0).0 h),
  λ e. (Decides-eqb a.0 b.0).1 (ap (λ (i : TermId). i.0) e),
)

pub node_eq-sound : (a b : Node) → node_eq a b ≡ true → a ≡ b
unfolding id_eq
node_eq-sound a b h =
    let parts = and_parts (op_eq a.op b.op) (pointwise id_eq a.args b.args) h in
    ap (λ o. record { op = o; args = a.args }) (op_eq-sound a.op b.op parts.0)
    ∙ ap (λ args. record { op = b.op; args = args })
    ((slice_eq-Decides Decides-id_eq a.args b.args (pointwise id_eq a.args b.args) refl).0 parts.1)

pub node_eq-refl : (a : Node) → node_eq a a ≡ true
node_eq-refl a = node_eq-laws.refl a
