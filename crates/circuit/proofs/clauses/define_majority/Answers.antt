use Rattle.std.proofs.lemmas.Result.{on_ok_weaker}
use Rattle.cnf_core.specs.Clause.{lit_true}
use Rattle.circuit.proofs.ClauseLemmas.{adds-then, adds-as, opposite-true, majority-clauses}
use Rattle.circuit.proofs.clauses.define_majority.Goals as goal

pub returns : goal.returns
returns c =
    on_ok_weaker c.follows_from_two-2.result
    (λ last. adds-as (adds-then c.in_ok-follows_from_two.ensures last)
    (λ v.
    rw (
      opposite-true _ _ c.opposite.ensures v,
      opposite-true _ _ c.opposite-2.ensures v,
      opposite-true _ _ c.opposite-3.ensures v,
      opposite-true _ _ c.opposite-4.ensures v,
    )
    (majority-clauses (lit_true v c.args.output) (lit_true v c.args.a) (lit_true v c.args.b) (lit_true v c.args.c))))
    c.follows_from_two-2.ensures
