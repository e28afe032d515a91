use Rattle.std.proofs.Common.{◌&&◌, ◌++◌, not, sym, ap, ◌∙◌, subst}
use Rattle.cnf_core.specs.declared.clause.Lit.{Lit}
use Rattle.cnf_core.specs.Clause.{same_lit, contains, AreSame}
use Rattle.cnf_core.specs.Resolution.{without}
use Rattle.proof_check.proofs.StepLemmas.{resolved}
use Rattle.proof_check.proofs.check.resolve.Goals as goal

pub returns-clause-resolvent : goal.returns-clause-resolvent
returns-clause-resolvent c = λ d same.
    resolved d c.args.lits.now c.remove.new.self.lits c.add_without.new.so_far.lits c.args.pivot
    (same c.args.pivot ∙ sym c.remove.ensures.stood ∙ c.if-not-remove.false)
    (ap (contains c.args.lits.now) (sym c.opposite-opposite.ensures) ∙ sym c.contains.ensures ∙ c.if-not-contains.false)
    (λ l. c.remove.ensures.lits l ∙ ap (λ b. not (same_lit c.args.pivot l) && b) (sym (same l)))
    (subst (λ (o : Lit). AreSame (c.remove.new.self.lits ++ without o c.args.lits.now) c.add_without.new.so_far.lits)
    c.opposite-opposite.ensures c.in_ok-add_without.ensures.lits)
