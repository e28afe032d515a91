use Rattle.std.proofs.Common.{◌∙◌, ap, sym, subst}
use Rattle.cdcl_base.specs.Trail.{Trail, AreReasons, ArePropagated, ArePropagatedBefore}
use Rattle.cdcl_base.proofs.TrailLemmas.{ArePropagatedBefore-extends, ArePropagatedBefore-decided, AreReasons-decided}
use Rattle.cdcl_base.proofs.AnalysisLemmas.{where_none}
use Rattle.cdcl_core.proofs.search.next_conflict.Goals as goal

pub returns-then-is_some-clause-before : goal.returns-then-is_some-clause-before
returns-then-is_some-clause-before c =
    ArePropagatedBefore-extends c.args.clauses.now c.loop-conflict.trail c.propagate.new.trail
    c.loop-conflict.invariant.0 c.loop-conflict.invariant.3 c.in_ok-conflict.ensures.extends

pub returns-in_default-clause-before : goal.returns-in_default-clause-before
returns-in_default-clause-before c =
    ArePropagatedBefore-extends c.args.clauses.now c.loop-conflict.trail c.propagate.new.trail
    c.loop-conflict.invariant.0 c.loop-conflict.invariant.3 c.in_ok-conflict.ensures.extends

pub loop-conflict-preserved : goal.loop-conflict-preserved
loop-conflict-preserved c =
    let before =
    ArePropagatedBefore-extends c.args.clauses.now c.loop-conflict.trail c.propagate.new.trail
    c.loop-conflict.invariant.0 c.loop-conflict.invariant.3 c.in_ok-conflict.ensures.extends in
    let propagated =
    where_none c.in_ok-conflict.conflict (ArePropagated c.propagate.new.trail.lits c.args.clauses.now)
    c.in_ok-conflict.ensures.propagated (sym c.is_some.ensures ∙ c.if-is_some.false) in (
      c.decide.ensures.trail,
      ap (λ (t : Trail). t.variables) c.in_ok-decide.ensures.ok ∙ c.in_ok-conflict.ensures.extends.variables
          ∙ c.loop-conflict.invariant.1,
      subst (AreReasons c.args.clauses.now) (sym c.in_ok-decide.ensures.ok)
          (AreReasons-decided c.args.clauses.now c.propagate.new.trail c.in-Some.lit c.decide.ensures.was_trail
          c.in_ok-conflict.ensures.reasons),
      subst (ArePropagatedBefore c.args.clauses.now) (sym c.in_ok-decide.ensures.ok)
          (ArePropagatedBefore-decided c.args.clauses.now c.propagate.new.trail c.in-Some.lit c.decide.ensures.was_trail
          before propagated),
      c.in_ok-conflict.ensures.blockers,
    )
