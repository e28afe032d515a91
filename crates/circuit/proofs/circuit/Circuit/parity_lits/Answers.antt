use Rattle.cnf_core.specs.Clause.{lit_true}
use Rattle.circuit.specs.Gate.{parity}
use Rattle.circuit.proofs.FunctionLemmas.{signal-inverted, parity-signs}
use Rattle.circuit.proofs.GrowthLemmas.{signal-as}
use Rattle.circuit.proofs.circuit.Circuit.parity_lits.Goals as goal

pub returns-clause-value : goal.returns-clause-value
returns-clause-value c =
    signal-inverted c.parity_sorted.new.self
    (λ v. parity (lit_true v c.positive.result) (lit_true v c.positive-2.result) (lit_true v c.positive-3.result)) _ _
    c.in_ok-signal.signal c.inverted_if.result
    c.inverted_if.ensures.value c.inverted_if.ensures.over
    (λ v. rw (c.positive.ensures, c.positive-2.ensures, c.positive-3.ensures)
    (parity-signs c.args.a.positive c.args.b.positive c.args.c.positive (v c.args.a.variable) (v c.args.b.variable)
    (v c.args.c.variable)))
    (signal-as _ _ c.in_ok-signal.signal (λ v h. c.ordered_three.ensures.parity v) c.in_ok-signal.ensures.value)
