use Rattle.std.proofs.Common.{◌++◌, get_or, subst}
use Rattle.cnf_core.specs.Resolution.{resolvent}
use Rattle.proof_check.specs.Check.{Gives}
use Rattle.proof_check.proofs.StepLemmas.{no_step, Follows-more, Follows-stops, Follows-all}
use Rattle.proof_check.proofs.check.follow.Goals as goal

pub returns-then-not-branch-clause-steps : goal.returns-then-not-branch-clause-steps
returns-then-not-branch-clause-steps c =
    Follows-stops (c.args.clauses.now ++ c.args.earlier.now) c.args.steps.now c.loop-pivot.pivot-index no_step
    c.in-Some.lits.now c.args.so_far.now c.loop-pivot.so_far c.loop-pivot-test.true
    c.in-Some.ensures
    (λ d same.
    subst
    (λ b. Gives (resolvent d (get_or c.args.steps.now c.loop-pivot.pivot-index no_step).0 c.in-Some.lits.now) b
    c.resolve.new.so_far.lits) c.if-not-branch.true (c.in_ok-resolve.ensures.resolvent d same))
    c.loop-pivot.invariant

pub loop-pivot-preserved : goal.loop-pivot-preserved
loop-pivot-preserved c =
    Follows-more (c.args.clauses.now ++ c.args.earlier.now) c.args.steps.now c.loop-pivot.pivot-index no_step
    c.in-Some.lits.now c.args.so_far.now c.loop-pivot.so_far c.resolve.new.so_far c.loop-pivot-test.true
    c.in-Some.ensures c.resolve.ensures.variables
    (λ d same.
    subst
    (λ b. Gives (resolvent d (get_or c.args.steps.now c.loop-pivot.pivot-index no_step).0 c.in-Some.lits.now) b
    c.resolve.new.so_far.lits) c.if-not-branch.false (c.in_ok-resolve.ensures.resolvent d same))
    c.loop-pivot.invariant

pub returns-clause-steps : goal.returns-clause-steps
returns-clause-steps c =
    Follows-all (c.args.clauses.now ++ c.args.earlier.now) c.args.steps.now c.loop-pivot.pivot-index c.args.so_far.now
    c.loop-pivot.so_far c.loop-pivot-test.false c.loop-pivot.invariant
