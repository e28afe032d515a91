use Rattle.std.proofs.Common.{not, ◌&&◌, sym, ap, ◌∙◌}
use Rattle.cnf_core.specs.Clause.{same_lit}
use Rattle.proof_check.proofs.SetLemmas.{set-marked, literals-marked, marked-within, contains-still, set-removed}
use Rattle.proof_check.proofs.SetLemmas.{removed-marked}
use Rattle.std.proofs.Common.{subst, ◌<◌}
use Rattle.proof_check.proofs.lit_set.LitSet.remove.Goals as goal

pub returns-then-not-is_marked-clause-stood : goal.returns-then-not-is_marked-clause-stood
returns-then-not-is_marked-clause-stood c =
    sym (set-marked c.self.inside.variables c.self.inside.marks c.self.inside.added.items c.args.self.now
    c.self.invariant c.self.view_is c.args.lit ∙ sym c.is_marked.ensures ∙ c.if-not-is_marked.true)

pub returns-then-not-is_marked-clause-lits : goal.returns-then-not-is_marked-clause-lits
returns-then-not-is_marked-clause-lits c = λ l.
    contains-still c.args.self.now.lits c.args.lit l (sym (returns-then-not-is_marked-clause-stood c))

pub set-requires-clause-positive : goal.set-requires-clause-positive
set-requires-clause-positive c =
    subst (λ k. c.args.lit.variable < k) (sym c.self.invariant.positive)
    (marked-within c.self.inside.variables c.self.inside.marks c.args.lit c.self.invariant.positive
    c.self.invariant.negative (sym c.is_marked.ensures ∙ c.if-not-is_marked.false))

pub set-requires-clause-negative : goal.set-requires-clause-negative
set-requires-clause-negative c =
    subst (λ k. c.args.lit.variable < k) (sym c.self.invariant.negative)
    (marked-within c.self.inside.variables c.self.inside.marks c.args.lit c.self.invariant.positive
    c.self.invariant.negative (sym c.is_marked.ensures ∙ c.if-not-is_marked.false))

pub returns-clause-stood : goal.returns-clause-stood
returns-clause-stood c =
    sym (set-marked c.self.inside.variables c.self.inside.marks c.self.inside.added.items c.args.self.now
    c.self.invariant c.self.view_is c.args.lit ∙ sym c.is_marked.ensures ∙ c.if-not-is_marked.false)

pub returns-clause-lits : goal.returns-clause-lits
returns-clause-lits c = λ l.
    let kept =
    set-removed c.self.inside.variables c.self.inside.marks c.set.new.self c.self.inside.added.items c.args.lit
    c.self.invariant c.set.ensures.positive c.set.ensures.negative c.set.ensures.marks in
    literals-marked c.self.inside.variables c.set.new.self c.self.inside.added.items kept l
    ∙ removed-marked c.self.inside.marks c.set.new.self c.args.lit c.set.ensures.marks l
    ∙ ap (λ b. not (same_lit c.args.lit l) && b)
    (sym
    (set-marked c.self.inside.variables c.self.inside.marks c.self.inside.added.items c.args.self.now
    c.self.invariant c.self.view_is l))
