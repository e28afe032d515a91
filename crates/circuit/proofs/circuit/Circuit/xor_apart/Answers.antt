use Rattle.cnf_core.specs.Clause.{lit_true}
use Rattle.circuit.specs.declared.gate.Gate.TheVariants.{Xor}
use Rattle.circuit.specs.Gate.{xor}
use Rattle.circuit.proofs.FunctionLemmas.{signal-of_gate, signal-inverted, two-ordered, xor-symmetric, xor-signs}
use Rattle.circuit.proofs.circuit.Circuit.xor_apart.Goals as goal

pub returns-clause-value : goal.returns-clause-value
returns-clause-value c =
    signal-inverted c.gate.new.self
    (λ v. xor (lit_true v c.positive.result) (lit_true v c.positive-2.result)) _ _
    c.in_ok-signal.signal c.inverted_if.result
    c.inverted_if.ensures.value c.inverted_if.ensures.over
    (λ v. rw (c.positive.ensures, c.positive-2.ensures)
    (xor-signs c.args.a.positive c.args.b.positive (v c.args.a.variable) (v c.args.b.variable)))
    (signal-of_gate c.gate.new.self (Xor c.ordered.result.0 c.ordered.result.1) _ (λ number place e. cc)
    (two-ordered xor xor-symmetric c.positive.result c.positive-2.result c.ordered.result c.ordered.ensures)
    c.in_ok-signal.signal c.in_ok-signal.ensures.variable)
