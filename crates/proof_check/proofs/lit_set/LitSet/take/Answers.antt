use Rattle.std.proofs.Common.{sym, ◌∙◌, subst}
use Rattle.cnf_core.specs.Clause.{IsOver}
use Rattle.proof_check.specs.LitSet.{Literals}
use Rattle.proof_check.proofs.SetLemmas.{set-marked, marked-over}
use Rattle.proof_check.proofs.lit_set.LitSet.take.Goals as goal

pub returns-clause-lits : goal.returns-clause-lits
returns-clause-lits c = λ l.
    c.in_ok-unmark.ensures.lits l
    ∙ sym
    (set-marked c.self.inside.variables c.self.inside.marks c.self.inside.added.items c.args.self.now
    c.self.invariant c.self.view_is l)

pub returns-clause-over : goal.returns-clause-over
returns-clause-over c =
    subst (λ (s : Literals). IsOver s.variables c.unmark.new.lits) c.self.view_is
    (marked-over c.self.inside.variables c.self.inside.marks c.self.inside.added.items c.unmark.new.lits
    c.self.invariant c.in_ok-unmark.ensures.lits)
