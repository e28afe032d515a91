-- The operands of negations, connectives and equations as parts.
use Rattle.std.proofs.Common.{◌≡◌, ◌∙◌, ℕ, ◌<◌, inl, List, [], ◌∷◌, Bool, true, false, not, Some, refl, sym}
use Rattle.std.proofs.Common.{ap, subst, arith, if◌then◌else◌}
use denote.Enum.Bare.{sameb}
use Rattle.std.specs.Bool.{beq}
use Rattle.std.proofs.lemmas.List.Elements.{All-head, All-tail}
use Rattle.bv_terms.specs.declared.op.Op.{Op}
use Rattle.bv_terms.specs.declared.op.Op.TheVariants as op
use Rattle.bv_terms.specs.declared.op.TermId.{TermId}
use Rattle.bv_terms.specs.declared.signature.IndexRule.TheVariants.{Free}
use Rattle.bv_terms.specs.declared.value.Sort.{Sort}
use Rattle.bv_terms.specs.declared.value.Sort.TheVariants as sort
use Rattle.bv_terms.specs.declared.value.Value.{Value}
use Rattle.bv_terms.specs.declared.value.Value.TheVariants as val
use Rattle.bv_terms.specs.Sorts.{HasSort}
use Rattle.bv_terms.specs.Term.{Term, End, Then, op_value, value}
use Rattle.bv_terms.specs.WellSorted.{sort_of, sorts_of, InputsFit}
use Rattle.bv_terms.specs.Subterm.{IsSubterm}
use Rattle.bv_terms.specs.Table.{Table, term_at, IsTable}
use Rattle.bv_terms.proofs.SignatureLemmas.{IsFitting-of, AllFit, sorts_truth, sorts_truths, sorts_equal}
use Rattle.bv_terms.proofs.TermLemmas.{sorts_of-some, value-sorted}
use Rattle.bv_terms.proofs.SubtermLemmas.{InputsFit-subterm}
use Rattle.bit_blast.specs.declared.parts.Part.{Part}
use Rattle.bit_blast.specs.declared.parts.Join.{Join}
use Rattle.bit_blast.specs.declared.parts.Join.TheVariants as join
use Rattle.bit_blast.specs.contracts.parts.Join.{the_type}
use Rattle.bit_blast.specs.Bits.{IsBitOf}
use Rattle.bit_blast.specs.Parts.{is_true, part_true, both, IsFormulaNode, IsConnective, AreMembers, IsEquation}
use Rattle.bit_blast.proofs.NodeFacts.{IsNode, value-apply, values-one, values-two, first-below, second-below}
use Rattle.bit_blast.proofs.NodeFacts.{bit-of_one, bit-of_two, no_memory-below}

-- a part of a node, or of its opposite
abbrev pub part_of : TermId → Bool → Part
part_of at holds = record { at = at; holds = holds }

-- ---- sorts of operands

one_sort : (p : ℕ) (t : Term) (s : Sort) → sorts_of p (Then t End) ≡ Some (s ∷ []) → sort_of p t ≡ Some s
one_sort p t s h =
    let parts = sorts_of-some p t End (s ∷ []) h in
    let same : parts.0 ≡ s = let e = parts.2 in cc in
    parts.3 ∙ ap Some same

two_sorts : (p : ℕ) (t u : Term) (s r : Sort) → sorts_of p (Then t (Then u End)) ≡ Some (s ∷ r ∷ [])
    → (sort_of p t ≡ Some s) × (sort_of p u ≡ Some r)
two_sorts p t u s r h =
    let parts = sorts_of-some p t (Then u End) (s ∷ r ∷ []) h in
    let first : parts.0 ≡ s = let e = parts.2 in cc in
    let rest : parts.1 ≡ r ∷ [] = let e = parts.2 in cc in
    (parts.3 ∙ ap Some first, one_sort p u r (parts.4 ∙ ap Some rest))

-- ---- truth values

truth : (v : Value) → HasSort sort.Bool v → (b : Bool) × (v ≡ val.Bool b)
truth (val.Bool b) h = (b, refl)
truth (val.Bits w n) h = absurd h

pub truth-of : (p : ℕ) (t : Term) → sort_of p t ≡ Some sort.Bool → (env : List Value) → InputsFit env t
    → (b : Bool) × (value env t ≡ val.Bool b)
truth-of p t sorted env fit = truth (value env t) (value-sorted p env t sort.Bool sorted fit)

turned : (j : Join) (b holds : Bool) → beq (not b) holds ≡ both j (beq b (not holds)) (beq b (not holds))
turned join.All false false = refl
turned join.All false true = refl
turned join.All true false = refl
turned join.All true true = refl
turned join.Any false false = refl
turned join.Any false true = refl
turned join.Any true false = refl
turned join.Any true true = refl

-- ---- a negation

formula-below : (table : Table) (at a : TermId) → IsFormulaNode table at → a.0 < at.0
    → IsSubterm (term_at table a) (term_at table at) → sort_of table.pointer (term_at table a) ≡ Some sort.Bool
    → IsFormulaNode table a
formula-below table at a formula less below sorted = (
  omega (arith, less, formula.0),
  record { truth = sorted; no_memory = no_memory-below (term_at table a) (term_at table at) below formula.1.no_memory },
)

pub not-members : (table : Table) → IsTable table → (j : Join) (at a : TermId) (holds : Bool) → IsFormulaNode table at
    → IsNode table at op.Not (a ∷ [])
    → AreMembers table j (part_of at holds) (part_of a (not holds)) (part_of a (not holds))
not-members table is j at a holds formula node =
    let t = term_at table a in
    let fitting = IsFitting-of table.pointer op.Not node.sorted.sorts node.sorted.fits in
    let sorts = sorts_truth table.pointer Free node.sorted.sorts node.sorted.sorts fitting.fit in
    let sorted = one_sort table.pointer t sort.Bool (node.sorted.of_args ∙ ap Some sorts) in
    let less = All-head (λ (a : TermId). a.0 < at.0) a [] node.earlier in
    let below = subst (IsSubterm t) (sym node.term) (first-below op.Not t End) in
    let here = formula-below table at a formula less below sorted in
    record {
      left_formula = here;
      right_formula = here;
      left_smaller = less;
      right_smaller = less;
      left_below = below;
      right_below = below;
      value = λ env fit.
          let b = truth-of table.pointer t sorted env (InputsFit-subterm env (term_at table at) fit t below) in
          let whole : is_true (value env (term_at table at)) ≡ not b.0 =
          ap (λ t. is_true (value env t)) node.term ∙ ap is_true (value-apply env op.Not (Then t End))
          ∙ ap (λ vs. is_true (op_value env op.Not vs)) (values-one env t)
          ∙ ap (λ u. is_true (op_value env op.Not (u ∷ []))) b.1 in
          ap (λ x. beq x holds) whole ∙ turned j b.0 holds
          ∙ ap (λ x. both j (beq x (not holds)) (beq x (not holds))) (sym (ap is_true b.1));
      bits = λ number k at_bit. inl (bit-of_one op.Not t number k (subst (λ t. IsBitOf t number k) node.term at_bit));
    }

-- ---- a connective

-- whether the joins are the same
abbrev pub same_join : Join → Join → Bool
same_join join.All join.All = true
same_join join.Any join.Any = true
same_join _ _ = false

two-cases : (joined wanted : Join) (is_negated holds p q : Bool) → same_join joined wanted ≡ holds
    → beq (both joined (if is_negated then not p else p) q) holds
    ≡ both wanted (beq p (not (beq holds is_negated))) (beq q holds)
two-cases join.All join.All false false p q e = absurd (cc)
two-cases join.All join.All false true false false e = refl
two-cases join.All join.All false true false true e = refl
two-cases join.All join.All false true true false e = refl
two-cases join.All join.All false true true true e = refl
two-cases join.All join.All true false p q e = absurd (cc)
two-cases join.All join.All true true false false e = refl
two-cases join.All join.All true true false true e = refl
two-cases join.All join.All true true true false e = refl
two-cases join.All join.All true true true true e = refl
two-cases join.All join.Any false false false false e = refl
two-cases join.All join.Any false false false true e = refl
two-cases join.All join.Any false false true false e = refl
two-cases join.All join.Any false false true true e = refl
two-cases join.All join.Any false true p q e = absurd (cc)
two-cases join.All join.Any true false false false e = refl
two-cases join.All join.Any true false false true e = refl
two-cases join.All join.Any true false true false e = refl
two-cases join.All join.Any true false true true e = refl
two-cases join.All join.Any true true p q e = absurd (cc)
two-cases join.Any join.All false false false false e = refl
two-cases join.Any join.All false false false true e = refl
two-cases join.Any join.All false false true false e = refl
two-cases join.Any join.All false false true true e = refl
two-cases join.Any join.All false true p q e = absurd (cc)
two-cases join.Any join.All true false false false e = refl
two-cases join.Any join.All true false false true e = refl
two-cases join.Any join.All true false true false e = refl
two-cases join.Any join.All true false true true e = refl
two-cases join.Any join.All true true p q e = absurd (cc)
two-cases join.Any join.Any false false p q e = absurd (cc)
two-cases join.Any join.Any false true false false e = refl
two-cases join.Any join.Any false true false true e = refl
two-cases join.Any join.Any false true true false e = refl
two-cases join.Any join.Any false true true true e = refl
two-cases join.Any join.Any true false p q e = absurd (cc)
two-cases join.Any join.Any true true false false e = refl
two-cases join.Any join.Any true true false true e = refl
two-cases join.Any join.Any true true true false e = refl
two-cases join.Any join.Any true true true true e = refl

pub connective-members : (table : Table) → IsTable table → (o : Op) (joined wanted : Join) (is_negated : Bool)
    → IsConnective o joined is_negated → (at a b : TermId) (holds : Bool) → same_join joined wanted ≡ holds
    → IsFormulaNode table at → IsNode table at o (a ∷ b ∷ [])
    → AreMembers table wanted (part_of at holds) (part_of a (not (beq holds is_negated))) (part_of b holds)
connective-members table is o joined wanted is_negated con at a b holds fits formula node =
    let t = term_at table a in
    let u = term_at table b in
    let fitting = IsFitting-of table.pointer o node.sorted.sorts node.sorted.fits in
    let fit = subst (λ sig. AllFit table.pointer sig.index node.sorted.sorts sig.slots node.sorted.sorts) con.signature
    fitting.fit in
    let sorts = sorts_truths table.pointer Free node.sorted.sorts node.sorted.sorts fit in
    let sorted = two_sorts table.pointer t u sort.Bool sort.Bool (node.sorted.of_args ∙ ap Some sorts) in
    let less = All-head (λ (a : TermId). a.0 < at.0) a (b ∷ []) node.earlier in
    let smaller = All-head (λ (a : TermId). a.0 < at.0) b []
    (All-tail (λ (a : TermId). a.0 < at.0) a (b ∷ []) node.earlier) in
    let first = subst (IsSubterm t) (sym node.term) (first-below o t (Then u End)) in
    let second = subst (IsSubterm u) (sym node.term) (second-below o t u End) in
    record {
      left_formula = formula-below table at a formula less first sorted.0;
      right_formula = formula-below table at b formula smaller second sorted.1;
      left_smaller = less;
      right_smaller = smaller;
      left_below = first;
      right_below = second;
      value = λ env fit.
          let p = truth-of table.pointer t sorted.0 env (InputsFit-subterm env (term_at table at) fit t first) in
          let q = truth-of table.pointer u sorted.1 env (InputsFit-subterm env (term_at table at) fit u second) in
          let whole : is_true (value env (term_at table at)) ≡ both joined (if is_negated then not p.0 else p.0) q.0 =
          ap (λ t. is_true (value env t)) node.term ∙ ap is_true (value-apply env o (Then t (Then u End)))
          ∙ ap (λ vs. is_true (op_value env o vs)) (values-two env t u)
          ∙ ap (λ x. is_true (op_value env o (x ∷ value env u ∷ []))) p.1
          ∙ ap (λ y. is_true (op_value env o (val.Bool p.0 ∷ y ∷ []))) q.1
          ∙ ap is_true (con.value env p.0 q.0) in
          ap (λ x. beq x holds) whole ∙ two-cases joined wanted is_negated holds p.0 q.0 fits
          ∙ ap (λ x. both wanted (beq x (not (beq holds is_negated))) (beq q.0 holds)) (sym (ap is_true p.1))
          ∙ ap (λ y. both wanted (part_true table env (part_of a (not (beq holds is_negated)))) (beq y holds))
          (sym (ap is_true q.1));
      bits = λ number k at_bit. bit-of_two o t u number k (subst (λ t. IsBitOf t number k) node.term at_bit);
    }

-- ---- an equation

pub true-is : (b : Bool) → beq b true ≡ b
true-is false = refl
true-is true = refl

pub equation-sides : (table : Table) → IsTable table → (at a b : TermId) → IsFormulaNode table at
    → IsNode table at op.Eq (a ∷ b ∷ []) → IsEquation table (part_of at true) a b
equation-sides table is at a b formula node =
    let t = term_at table a in
    let u = term_at table b in
    let fitting = IsFitting-of table.pointer op.Eq node.sorted.sorts node.sorted.fits in
    let sorts = sorts_equal table.pointer Free node.sorted.sorts fitting.fit in
    let sorted = two_sorts table.pointer t u sorts.0 sorts.0 (node.sorted.of_args ∙ ap Some sorts.1) in
    let less = All-head (λ (a : TermId). a.0 < at.0) a (b ∷ []) node.earlier in
    let smaller = All-head (λ (a : TermId). a.0 < at.0) b []
    (All-tail (λ (a : TermId). a.0 < at.0) a (b ∷ []) node.earlier) in
    let first = subst (IsSubterm t) (sym node.term) (first-below op.Eq t (Then u End)) in
    let second = subst (IsSubterm u) (sym node.term) (second-below op.Eq t u End) in
    record {
      left_within = omega (arith, less, formula.0);
      right_within = omega (arith, smaller, formula.0);
      left_memory = no_memory-below t (term_at table at) first formula.1.no_memory;
      right_memory = no_memory-below u (term_at table at) second formula.1.no_memory;
      same_sort = sorted.0 ∙ sym sorted.1;
      left_below = first;
      right_below = second;
      value = λ env fit. true-is (is_true (value env (term_at table at)))
          ∙ ap (λ t. is_true (value env t)) node.term ∙ ap is_true (value-apply env op.Eq (Then t (Then u End)))
          ∙ ap (λ vs. is_true (op_value env op.Eq vs)) (values-two env t u);
      bits = λ number k at_bit. bit-of_two op.Eq t u number k (subst (λ t. IsBitOf t number k) node.term at_bit);
    }

-- ---- as the code finds them

kept : (r holds : Bool) → not (beq r holds) ≡ false → {b : Bool} → r ≡ b → b ≡ holds
kept false false h e = sym e
kept false true h e = absurd (cc)
kept true false h e = absurd (cc)
kept true true h e = sym e

pub joins-fit : (a b : Join) (r holds : Bool) → r ≡ sameb the_type a b → not (beq r holds) ≡ false
    → same_join a b ≡ holds
joins-fit join.All join.All r holds e h = kept r holds h e
joins-fit join.All join.Any r holds e h = kept r holds h e
joins-fit join.Any join.All r holds e h = kept r holds h e
joins-fit join.Any join.Any r holds e h = kept r holds h e
