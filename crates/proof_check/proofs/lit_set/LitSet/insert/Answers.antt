use Rattle.std.proofs.Common.{◌||◌, subst, sym, ap, ◌∙◌}
use Rattle.cnf_core.specs.Clause.{same_lit}
use Rattle.proof_check.specs.LitSet.{IsLitSet}
use Rattle.proof_check.proofs.SetLemmas.{set-marked, literals-marked, contains-again, set-added, added-marked}
use Rattle.proof_check.proofs.lit_set.LitSet.insert.Goals as goal

pub returns-then-is_marked-clause-lits : goal.returns-then-is_marked-clause-lits
returns-then-is_marked-clause-lits c = λ l.
    contains-again c.args.self.now.lits c.args.lit l
    (set-marked c.self.inside.variables c.self.inside.marks c.self.inside.added.items c.args.self.now c.self.invariant
    c.self.view_is c.args.lit ∙ sym c.is_marked.ensures ∙ c.if-is_marked.true)

pub returns-clause-lits : goal.returns-clause-lits
returns-clause-lits c = λ l.
    let kept =
    set-added c.self.inside.variables c.self.inside.marks c.set.new.self c.self.inside.added.items c.args.lit
    c.self.invariant c.set.ensures.positive c.set.ensures.negative c.set.ensures.marks in
    let kept_here = subst (IsLitSet c.self.inside.variables c.set.new.self) (sym c.in_ok-push.ensures.items) kept in
    literals-marked c.self.inside.variables c.set.new.self c.push.new.self.items kept_here l
    ∙ added-marked c.self.inside.marks c.set.new.self c.args.lit c.set.ensures.marks l
    ∙ ap (λ b. same_lit c.args.lit l || b)
    (sym
    (set-marked c.self.inside.variables c.self.inside.marks c.self.inside.added.items c.args.self.now
    c.self.invariant c.self.view_is l))
