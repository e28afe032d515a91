-- The formula of a variable and its negation, and the log of their resolvent.
use Rattle.std.proofs.Common.{◌≡◌, Bool, true, false, List, [], ◌∷◌, refl, sym, subst, arith}
use Rattle.std.proofs.lemmas.Bool.{false≢true}
use Rattle.std.proofs.lemmas.Grind.{common_steps}
use Rattle.std.proofs.lemmas.List.Elements.{All-nil, All-cons}
use Rattle.cnf_core.specs.declared.clause.Lit.{Lit}
use Rattle.cnf_core.specs.declared.clause.Clause.{Clause}
use Rattle.cnf_core.specs.declared.log.Chain.{Chain}
use Rattle.cnf_core.specs.Clause.{IsSubset}
use Rattle.cnf_core.specs.Resolution.{clause, IsAccepted, IsNewClause, AreNewClauses}
use Rattle.cnf_core.proofs.Sets.{contains-head}
use Rattle.clause_tests.proofs.tests.formulas.a_refuted_formula_has_no_model.Goals as goal

abbrev literal : Bool → Lit
literal sign = record { variable = 0; positive = sign }

abbrev both : List Clause
both = clause (literal true ∷ []) ∷ clause (literal false ∷ []) ∷ []

abbrev chains : List Chain
chains = (record { first = 0; steps = (literal true, 1) ∷ [] }) ∷ []

accepted : IsAccepted both chains
accepted = (clause (literal true ∷ []) ∷ clause (literal false ∷ []) ∷ clause [] ∷ [], refl, (2, omega arith, refl))

not_subset : (l : Lit) → IsSubset (l ∷ []) [] → ⊥
not_subset l within = false≢true (within l (contains-head l []))

new_clauses : AreNewClauses both chains
new_clauses = ([], refl, new, tt)
  where
    new : IsNewClause both []
    new = record {
      not_tautology = λ l stands. absurd (false≢true stands);
      not_subsumed =
          All-cons (λ d. IsSubset d.lits [] → ⊥) (clause (literal true ∷ [])) (clause (literal false ∷ []) ∷ [])
          (not_subset (literal true))
          (All-cons (λ d. IsSubset d.lits [] → ⊥) (clause (literal false ∷ [])) [] (not_subset (literal false))
          (All-nil (λ d. IsSubset d.lits [] → ⊥)));
    }

pub no_model-requires : goal.no_model-requires
no_model-requires g c =
    let formula : c.push-2.new.self.clauses ≡ both = grind (arith, common_steps) in
    let log : c.from_vec-chains.result ≡ chains = grind (arith, common_steps) in
    subst (λ cs. IsAccepted cs c.from_vec-chains.result) (sym formula) (subst (IsAccepted both) (sym log) accepted)

pub new_clauses_bound-requires : goal.new_clauses_bound-requires
new_clauses_bound-requires g c =
    let formula : c.push-2.new.self.clauses ≡ both = grind (arith, common_steps) in
    let log : c.from_vec-chains.result ≡ chains = grind (arith, common_steps) in
    subst (λ cs. AreNewClauses cs c.from_vec-chains.result) (sym formula)
    (subst (AreNewClauses both) (sym log) new_clauses)
