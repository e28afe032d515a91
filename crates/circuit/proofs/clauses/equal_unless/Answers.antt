use Rattle.std.proofs.lemmas.Result.{on_ok_weaker}
use Rattle.cnf_core.specs.Clause.{lit_true}
use Rattle.circuit.proofs.ClauseLemmas.{adds-then, adds-as, opposite-true, equal-clauses}
use Rattle.circuit.proofs.clauses.equal_unless.Goals as goal

pub returns : goal.returns
returns c =
    on_ok_weaker c.push-2.result
    (λ last. adds-as (adds-then c.in_ok-push.ensures last)
    (λ v.
    rw (opposite-true _ _ c.opposite.ensures v, opposite-true _ _ c.opposite-2.ensures v)
    (equal-clauses (lit_true v c.args.guard) (lit_true v c.args.left) (lit_true v c.args.right))))
    c.push-2.ensures
