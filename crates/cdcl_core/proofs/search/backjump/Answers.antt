use Rattle.std.proofs.Common.{◌∙◌, ◌-◌, ap, subst, sym}
use Rattle.std.proofs.lemmas.Result.{on_ok_weaker}
use Rattle.cdcl_base.specs.Trail.{AreReasons, ArePropagatedBefore}
use Rattle.cdcl_base.proofs.TrailLemmas.{forced}
use Rattle.cdcl_base.proofs.SearchLemmas.{backjumped-reasons, backjumped-before}
use Rattle.cdcl_core.proofs.search.backjump.Goals as goal

pub returns-clause-reasons : goal.returns-clause-reasons
returns-clause-reasons c =
    let a = c.requires.asserting in
    on_ok_weaker c.assign.result
    (λ e. subst (AreReasons c.args.clauses.now)
    (sym (e ∙ ap (λ n. forced c.cancel_until.new.self c.args.lit (n - 1)) c.len.ensures))
    (backjumped-reasons c.args.clauses.now a.0 a.1 c.args.trail.now c.cancel_until.new.self c.args.lit
    c.args.level_start c.args.keep a.2 c.cancel_until.ensures.was_trail c.cancel_until.ensures.trail a.3
    c.cancel_until.ensures.cancelled a.5))
    c.assign.ensures.ok

pub returns-clause-before : goal.returns-clause-before
returns-clause-before c =
    let a = c.requires.asserting in
    on_ok_weaker c.assign.result (λ e. subst (ArePropagatedBefore c.args.clauses.now) (sym e)
    (backjumped-before c.args.clauses.now a.0 a.1 c.args.trail.now c.cancel_until.new.self c.args.lit c.args.level_start
    c.args.keep a.2 c.cancel_until.ensures.trail a.4 c.cancel_until.ensures.cancelled a.5))
    c.assign.ensures.ok
