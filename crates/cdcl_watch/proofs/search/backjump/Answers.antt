use Rattle.std.proofs.Common.{◌<◌, ◌∙◌, sym, ap, subst, arith, length, le_refl}
use Rattle.std.proofs.lemmas.Result.{on_ok_weaker}
use Rattle.cnf_core.proofs.Over.{over-at}
use Rattle.cdcl_base.specs.Trail.{Trail, IsUnassigned}
use Rattle.cdcl_base.proofs.SearchLemmas.{greatest_level_start}
use Rattle.cdcl_watch.proofs.LookLemmas.{code-within}
use Rattle.cdcl_watch.proofs.SearchSteps.{backjumped-to}
use Rattle.cdcl_watch.proofs.search.backjump.Goals as goal

pub cancel_until-requires : goal.cancel_until-requires
cancel_until-requires c = let a = c.requires.asserting in (a.0, a.1, a.2.kept)

pub attach_learnt-requires-clause-lit : goal.attach_learnt-requires-clause-lit
attach_learnt-requires-clause-lit c =
    let a = c.requires.asserting in
    let sized = c.requires.watching.sized in
    let below = code-within c.args.lit c.args.trail.now.variables
    (over-at c.args.trail.now.variables c.args.learnt.now c.args.lit c.requires.over
    (a.2.forces c.args.keep (le_refl c.args.keep)).stands) in
    omega (arith, below, sized)

pub attach_learnt-requires-clause-last_false : goal.attach_learnt-requires-clause-last_false
attach_learnt-requires-clause-last_false c = λ some.
    let sized = c.requires.watching.sized in
    let below = code-within c.args.last_false c.args.trail.now.variables
    (over-at c.args.trail.now.variables c.args.learnt.now c.args.last_false c.requires.over
    (c.requires.last_false some).stands) in
    omega (arith, below, sized)

pub assign-requires-clause-there : goal.assign-requires-clause-there
assign-requires-clause-there c =
    let a = c.requires.asserting in
    subst (λ n. c.args.lit.variable < n) (sym c.cancel_until.ensures.cancelled.variables)
    (over-at c.args.trail.now.variables c.args.learnt.now c.args.lit c.requires.over
    (a.2.forces c.args.keep (le_refl c.args.keep)).stands)

pub assign-requires-clause-unassigned : goal.assign-requires-clause-unassigned
assign-requires-clause-unassigned c =
    let a = c.requires.asserting in
    subst (λ ls. IsUnassigned ls c.args.lit) (sym c.cancel_until.ensures.cancelled.lits)
    (a.2.unassigned c.cancel_until.ensures.cancelled.place
    (greatest_level_start c.args.trail.now a.0 c.cancel_until.ensures.cancelled.place c.requires.trail a.1
    c.cancel_until.ensures.cancelled.decision))

pub returns-clause-variables : goal.returns-clause-variables
returns-clause-variables c =
    on_ok_weaker c.assign.result
    (λ e. ap (λ (t : Trail). t.variables) e ∙ c.cancel_until.ensures.cancelled.variables) c.assign.ensures.ok

pub returns-clause-clauses : goal.returns-clause-clauses
returns-clause-clauses c = on_ok_weaker c.assign.result (λ e. c.in_ok-push.ensures.ok) c.assign.ensures.ok

pub returns-clause-watching : goal.returns-clause-watching
returns-clause-watching c =
    let a = c.requires.asserting in
    on_ok_weaker c.assign.result
    (λ e. backjumped-to c.args.clauses.now c.push.new.self c.args.pairs.now.items c.attach_learnt.new.pairs.items
    c.args.lists.now c.attach_learnt.new.lists c.args.trail.now c.cancel_until.new.self c.assign.new.self
    c.args.head.now (length c.lits.result.now) c.args.learnt.now c.args.lit c.args.last_false a.0 c.args.keep
    c.len-number.result
    c.requires.trail c.cancel_until.ensures.trail c.requires.watching c.cancel_until.ensures.cancelled c.requires.over
    a.2 c.requires.last_false c.attach_learnt.ensures.length c.in_ok-attach_learnt.ensures.pairs
    c.in_ok-attach_learnt.ensures.lists c.in_ok-push.ensures.ok c.len-number.ensures e
    (ap length c.lits.ensures.lits))
    c.assign.ensures.ok
