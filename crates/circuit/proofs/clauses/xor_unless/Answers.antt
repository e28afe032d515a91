use Rattle.std.proofs.lemmas.Result.{on_ok_weaker}
use Rattle.cnf_core.specs.Clause.{lit_true}
use Rattle.circuit.proofs.ClauseLemmas.{adds-then, adds-as, opposite-true, xor-clauses}
use Rattle.circuit.proofs.clauses.xor_unless.Goals as goal

pub returns : goal.returns
returns c =
    on_ok_weaker c.push-4.result
    (λ last. adds-as
    (adds-then (adds-then (adds-then c.in_ok-push.ensures c.in_ok-push-2.ensures) c.in_ok-push-3.ensures) last)
    (λ v.
    rw (
      opposite-true _ _ c.opposite.ensures v,
      opposite-true _ _ c.opposite-2.ensures v,
      opposite-true _ _ c.opposite-3.ensures v,
      opposite-true _ _ c.opposite-4.ensures v,
      opposite-true _ _ c.opposite-5.ensures v,
      opposite-true _ _ c.opposite-6.ensures v,
    )
    (xor-clauses (lit_true v c.args.guard) (lit_true v c.args.output) (lit_true v c.args.a) (lit_true v c.args.b))))
    c.push-4.ensures
