-- Sessions that are right over tables.
use Rattle.std.proofs.Common.{◌≡◌, ◌∙◌, ◌<◌, ◌↔◌, Bool, true, false, IsTrue, List, [], ◌∷◌, ◌++◌, All, Contains, map}
use Rattle.std.proofs.Common.{length, refl, sym, ap, subst, arith}
use Rattle.std.proofs.lemmas.List.Elements.{All-nil, All-push}
use Rattle.bv_terms.specs.declared.op.TermId.{TermId}
use Rattle.bv_terms.specs.declared.value.Sort.{Sort}
use Rattle.bv_terms.specs.Term.{Term}
use Rattle.bv_terms.specs.Table.{Table, term_at, Extends}
use Rattle.bv_terms.proofs.GraftLemmas.{Extends-terms}
use Rattle.cnf_core.specs.Formula.{Formula}
use Rattle.bit_blast.specs.Clauses.{IsFormula}
use Rattle.bit_blast.specs.Blast.{Blast, IsRight}
use Rattle.bit_blast.proofs.BlastLemmas.{IsRight-extends}
use Rattle.bv_query.specs.Inputs.{HaveOneSort}
use Rattle.bv_query.specs.Session.{Asserted, formulas_in, IsRightSession}
use Rattle.list_lemmas.proofs.Lists.{map-push}

pub right-extends : (s : Asserted) (old new : Table) → Extends old new → IsRightSession s old → IsRightSession s new
right-extends s old new more right =
    let same = Extends-terms old new more s.blast.formulas right.blast.formulas in
    record {
      blast = IsRight-extends s.blast old new more right.blast;
      clauses = right.clauses;
      formulas = subst (λ p. All (IsFormula p) (formulas_in new s)) (sym more.pointer)
          (subst (All (IsFormula old.pointer)) (sym same) right.formulas);
      one_sort = subst HaveOneSort (sym same) right.one_sort;
    }

pub right-none : (blast : Blast) (clauses : Formula) → ((table : Table) → IsRight blast table) → blast.formulas ≡ []
    → clauses ≡ blast.netlist.formula → (table : Table)
    → IsRightSession (record { blast = blast; clauses = clauses }) table
right-none blast clauses right none same table = record {
  blast = right table;
  clauses = same;
  formulas = subst (λ fs. All (IsFormula table.pointer) (map (term_at table) fs)) (sym none)
      (All-nil (IsFormula table.pointer));
  one_sort = subst (λ fs. HaveOneSort (map (term_at table) fs)) (sym none) (λ number r s first second.
      absurd (omega (arith, first.1.1)));
}

pub right-more : (table : Table) (s : Asserted) → IsRightSession s table → (f : TermId)
    → IsFormula table.pointer (term_at table f) → HaveOneSort (map (term_at table) (s.blast.formulas ++ f ∷ []))
    → (blast : Blast) → IsRight blast table → blast.formulas ≡ s.blast.formulas ++ f ∷ [] → (clauses : Formula)
    → clauses ≡ blast.netlist.formula → IsRightSession (record { blast = blast; clauses = clauses }) table
right-more table s right f formula one blast now same clauses solver = record {
  blast = now;
  clauses = solver;
  formulas = subst (λ fs. All (IsFormula table.pointer) (map (term_at table) fs)) (sym same)
      (subst (All (IsFormula table.pointer)) (sym (map-push (term_at table) s.blast.formulas f))
      (All-push (IsFormula table.pointer) (formulas_in table s) (term_at table f) right.formulas formula));
  one_sort = subst (λ fs. HaveOneSort (map (term_at table) fs)) (sym same) one;
}

-- both of two tests
pub both-tests : {P Q : Type 0} (p q : Bool) → p ≡ true → IsTrue p ↔ P → IsTrue q ↔ Q → IsTrue q ↔ (P × Q)
both-tests p q h first second = (λ one. (first.0 h, second.0 one), λ both. second.1 both.1)

pub not-first : {P Q : Type 0} (p : Bool) → p ≡ false → IsTrue p ↔ P → IsTrue false ↔ (P × Q)
not-first p h first = (
  λ one. absurd (let bad : false ≡ true = one in cc),
  λ both. let bad : false ≡ true = sym h ∙ first.1 both.0 in bad,
)
