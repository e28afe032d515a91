use Rattle.std.proofs.Common.{◌++◌, sym, ◌∙◌, subst}
use Rattle.cnf_core.specs.Resolution.{after_steps}
use Rattle.proof_check.specs.Check.{Gives}
use Rattle.proof_check.proofs.StepLemmas.{derived-at, added-to_none}
use Rattle.proof_check.proofs.check.derive.Goals as goal

pub returns-then-not-branch-clause-derived : goal.returns-then-not-branch-clause-derived
returns-then-not-branch-clause-derived c =
    let cs = c.args.clauses.now ++ c.args.earlier.now in
    let start =
    added-to_none c.args.so_far.now.lits c.in-Some.lits.now c.add_all.new.so_far.lits c.requires.empty
    c.in_ok-add_all.ensures.lits in
    derived-at cs c.args.chain.now c.in-Some.lits.now c.in-Some.ensures
    ∙ subst (λ b. Gives (after_steps cs c.in-Some.lits.now c.args.chain.now.steps) b c.follow.new.so_far.lits)
    c.if-not-branch.true
    (subst (λ steps. Gives (after_steps cs c.in-Some.lits.now steps) c.in_ok-follow.field-0 c.follow.new.so_far.lits)
    c.as_slice.ensures (c.in_ok-follow.ensures.steps c.in-Some.lits.now start))

pub returns-clause-derived : goal.returns-clause-derived
returns-clause-derived c =
    let cs = c.args.clauses.now ++ c.args.earlier.now in
    let start =
    added-to_none c.args.so_far.now.lits c.in-Some.lits.now c.add_all.new.so_far.lits c.requires.empty
    c.in_ok-add_all.ensures.lits in
    let gave =
    subst (λ b. Gives (after_steps cs c.in-Some.lits.now c.args.chain.now.steps) b c.follow.new.so_far.lits)
    c.if-not-branch.false
    (subst (λ steps. Gives (after_steps cs c.in-Some.lits.now steps) c.in_ok-follow.field-0 c.follow.new.so_far.lits)
    c.as_slice.ensures (c.in_ok-follow.ensures.steps c.in-Some.lits.now start)) in (
      gave.0,
      derived-at cs c.args.chain.now c.in-Some.lits.now c.in-Some.ensures ∙ gave.1,
      λ l. gave.2 l
          ∙ sym (c.in_ok-clause.ensures.lits l),
    )
