-- What a session's answer says of the formula that was asserted last.
use Rattle.std.proofs.Common.{◌≡◌, ◌∷◌, ◌++◌, [], List, map, ap, sym, subst, refl, ◌∙◌}
use Rattle.std.specs.Prelude.{Contains}
use Rattle.std.proofs.Common.{arith}
use Rattle.std.proofs.lemmas.List.Elements.{Contains-append_right, All-contains}
use Rattle.std.proofs.lemmas.List.{map-append}
use Rattle.bv_terms.specs.Table.{Table, term_at}
use Rattle.bv_terms.specs.WellSorted.{InputsFit}
use Rattle.bv_terms.specs.declared.op.TermId.{TermId}
use Rattle.bv_terms.specs.declared.value.Env.{Env}
use Rattle.bit_blast.specs.Clauses.{IsTrueAt}
use Rattle.bv_query.specs.Decision.{OnYes, IsWitness}
use Rattle.bv_query.specs.Session.{Asserted, formulas_in}
use Rattle.bv_query.specs.declared.decision.Decision.{Decision}
use Rattle.bv_query.specs.declared.decision.Decision.TheVariants.{Yes}

module _ (table : Table) (old : List TermId) (at : TermId) (s : Asserted) (last : s.blast.formulas ≡ old ++ at ∷ [])
  where
    is-asserted : Contains (formulas_in table s) (term_at table at)
    is-asserted =
        subst (λ terms. Contains terms (term_at table at))
        (sym (ap (map (term_at table)) last ∙ map-append (term_at table) old (at ∷ [])))
        (Contains-append_right (map (term_at table) old) (term_at table at ∷ []) (term_at table at)
        (0, omega arith, refl))

    module _ (d : Decision) (env : Env) (yes : OnYes d (IsWitness (formulas_in table s))) (is : d ≡ Yes env) where
      witness : IsWitness (formulas_in table s) env.values
      witness = subst (λ answer. OnYes answer (IsWitness (formulas_in table s))) is yes

      pub fits-last : InputsFit env.values (term_at table at)
      fits-last = All-contains (InputsFit env.values) (formulas_in table s) (term_at table at) witness.fits is-asserted

      pub true-last : IsTrueAt env.values (term_at table at)
      true-last = All-contains (IsTrueAt env.values) (formulas_in table s) (term_at table at) witness.truths is-asserted
