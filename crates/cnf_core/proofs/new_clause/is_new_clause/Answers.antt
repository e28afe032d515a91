use Rattle.std.proofs.Common.{◌≡◌, not, sym, ap, ◌∙◌, subst}
use Rattle.std.proofs.lemmas.Bool.{false≢true}
use Rattle.cnf_core.specs.Clause.{is_tautology, is_subsumed}
use Rattle.cnf_core.proofs.NewClauseLemmas.{new_clause-from, not_tautology-from, not_subsumed-from}
use Rattle.cnf_core.proofs.new_clause.is_new_clause.Goals as goal
use Rattle.list_lemmas.proofs.Bools.{not-not}

pub returns-then-not-is_tautology : goal.returns-then-not-is_tautology
returns-then-not-is_tautology c =
    let earlier = c.args.earlier.now in
    let lits = c.args.clause.now.lits in
    let tautology =
    subst (λ d. c.is_tautology.result ≡ is_tautology d) c.as_slice-lits.ensures c.is_tautology.ensures in
    let subsumed =
    subst (λ d. c.is_subsumed.result ≡ is_subsumed earlier d) c.as_slice-lits.ensures c.is_subsumed.ensures in (
      λ holds. new_clause-from earlier lits (sym tautology ∙ c.if-not-is_tautology.true)
          (sym subsumed ∙ sym (not-not c.is_subsumed.result) ∙ ap not holds),
      λ new_clause. ap not (subsumed ∙ not_subsumed-from earlier lits new_clause),
    )

pub returns-else-not-is_tautology : goal.returns-else-not-is_tautology
returns-else-not-is_tautology c =
    let tautology =
    subst (λ d. c.is_tautology.result ≡ is_tautology d) c.as_slice-lits.ensures c.is_tautology.ensures in (
      λ holds. absurd (false≢true (ap not (sym c.if-not-is_tautology.false) ∙ holds)),
      λ new_clause. ap not (tautology ∙ not_tautology-from c.args.earlier.now c.args.clause.now.lits new_clause),
    )
