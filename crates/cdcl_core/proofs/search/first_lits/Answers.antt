use Rattle.std.proofs.Common.{◌≢◌, [], ◌++◌, ◌∷◌, ◌+◌, subst, sym, take}
use Rattle.cnf_core.specs.declared.clause.Clause.{Clause}
use Rattle.cnf_core.specs.Resolution.{clause}
use Rattle.cdcl_core.specs.Propagation.{AreBlockers}
use Rattle.cdcl_core.proofs.PropagationLemmas.{blockers-next, has-first}
use Rattle.cdcl_core.proofs.search.first_lits.Goals as goal
use Rattle.list_lemmas.proofs.Lookups.{All-slice_get}

pub bounds-lits-0 : goal.bounds-lits-0
bounds-lits-0 c =
    has-first c.lits.result.now
    (All-slice_get (λ (x : Clause). x.lits ≢ []) c.args.clauses.now c.loop-number.number (clause c.lits.result.now)
    c.requires c.lits.ensures)

pub loop-number-preserved : goal.loop-number-preserved
loop-number-preserved c =
    subst (AreBlockers (take (c.loop-number.number + 1) c.args.clauses.now)) (sym c.in_ok-push.ensures.items)
    (blockers-next c.args.clauses.now c.loop-number.blockers.items c.loop-number.number c.lits.result.now
    c.index-lits-0.result c.loop-number.invariant c.lits.ensures c.index-lits-0.is
    (All-slice_get (λ (x : Clause). x.lits ≢ []) c.args.clauses.now c.loop-number.number (clause c.lits.result.now)
    c.requires c.lits.ensures))
