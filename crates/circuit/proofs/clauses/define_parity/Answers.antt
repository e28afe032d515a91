use Rattle.std.proofs.lemmas.Result.{on_ok_weaker}
use Rattle.cnf_core.specs.Clause.{lit_true}
use Rattle.circuit.proofs.ClauseLemmas.{adds-then, adds-as, opposite-true, parity-clauses}
use Rattle.circuit.proofs.clauses.define_parity.Goals as goal

pub returns : goal.returns
returns c =
    on_ok_weaker c.xor_unless-2.result
    (λ last. adds-as (adds-then c.in_ok-xor_unless.ensures last)
    (λ v.
    rw (
      opposite-true _ _ c.opposite.ensures v,
      opposite-true _ _ c.opposite-2.ensures v,
    )
    (parity-clauses (lit_true v c.args.output) (lit_true v c.args.a) (lit_true v c.args.b) (lit_true v c.args.c))))
    c.xor_unless-2.ensures
