use Rattle.circuit.specs.Signal.{signal_true}
use Rattle.circuit.proofs.FunctionLemmas.{signal-inverted, parity-value}
use Rattle.circuit.proofs.circuit.Circuit.parity_with.Goals as goal

pub returns-clause-value : goal.returns-clause-value
returns-clause-value c =
    signal-inverted c.xor.new.self _ _ c.args.value c.in_ok-signal.signal c.inverted_if.result
    c.inverted_if.ensures.value c.inverted_if.ensures.over
    (λ v. parity-value c.args.value (signal_true v c.args.a) (signal_true v c.args.b))
    c.in_ok-signal.ensures.value
