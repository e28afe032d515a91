use Rattle.std.proofs.Common.{[], ⊎_elim, sym, ◌∙◌}
use Rattle.std.proofs.lemmas.Bool.{false≢true}
use Rattle.std.proofs.lemmas.List.Elements.{Contains-append_right, Contains-append_cases}
use Rattle.cnf_core.specs.Resolution.{clause}
use Rattle.proof_check.proofs.check.is_any_empty.Goals as goal

pub returns-else-has_empty : goal.returns-else-has_empty
returns-else-has_empty c = (
  λ yes. Contains-append_right c.args.clauses.now c.args.derived.now (clause [])
      (c.has_empty-else-has_empty.ensures.0 yes),
  λ at. ⊎_elim (λ first. absurd (false≢true (sym c.if-has_empty.false ∙ c.has_empty.ensures.1 first)))
      c.has_empty-else-has_empty.ensures.1
      (Contains-append_cases c.args.clauses.now c.args.derived.now (clause []) at),
)
