use Rattle.std.proofs.Common.{◌≡◌, ◌∙◌, ap, sym, subst, refl, length}
use Rattle.cdcl_base.specs.Trail.{Trail}
use Rattle.cdcl_watch.specs.Watches.{IsWatching}
use Rattle.cdcl_watch.proofs.SearchSteps.{ready-from, where_none, propagated-now}
use Rattle.cdcl_watch.proofs.WatchingLemmas.{watching-decided}
use Rattle.cdcl_watch.proofs.search.Search.next_conflict.Goals as goal

pub loop-conflict-preserved : goal.loop-conflict-preserved
loop-conflict-preserved c =
    let old = c.loop-conflict.self in
    let ready = c.loop-conflict.invariant.ready in
    let propagated = c.in_ok-conflict.ensures in
    let end = where_none c.in_ok-conflict.conflict
    (◌≡◌ c.propagate.new.head (length c.propagate.new.trail.lits)) propagated.end
    (sym c.is_some.ensures ∙ c.if-is_some.false) in
    let variables = ap (λ (t : Trail). t.variables) c.in_ok-decide.ensures.ok ∙ propagated.extends.variables in
    record {
      ready = ready-from old _ ready refl refl c.pick.ensures.same refl variables c.decide.ensures.trail
          (subst (λ t. IsWatching old.clauses c.propagate.new.pairs.items c.propagate.new.lists t c.propagate.new.head)
          (sym c.in_ok-decide.ensures.ok)
          (watching-decided old.clauses c.propagate.new.pairs.items c.propagate.new.lists c.propagate.new.trail
          c.propagate.new.head c.in-Some.lit propagated.trail propagated.watching end));
      variables = variables ∙ c.loop-conflict.invariant.variables;
      clauses = c.loop-conflict.invariant.clauses;
    }

pub returns-in_default-clause-propagated : goal.returns-in_default-clause-propagated
returns-in_default-clause-propagated c =
    let old = c.loop-conflict.self in
    let propagated = c.in_ok-conflict.ensures in
    propagated-now old.clauses c.propagate.new.pairs.items c.propagate.new.lists c.propagate.new.trail
    c.propagate.new.head propagated.watching
    (where_none c.in_ok-conflict.conflict (◌≡◌ c.propagate.new.head (length c.propagate.new.trail.lits)) propagated.end
    (sym c.is_some.ensures ∙ c.if-is_some.false))
