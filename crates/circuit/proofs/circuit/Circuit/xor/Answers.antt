use Rattle.std.proofs.Common.{sym, ap, ◌∙◌}
use Rattle.circuit.specs.declared.signal.Signal.{Signal}
use Rattle.circuit.specs.Signal.{signal_true}
use Rattle.circuit.specs.Gate.{xor}
use Rattle.circuit.proofs.GrowthLemmas.{signal-itself}
use Rattle.circuit.proofs.FunctionLemmas.{signal-inverted, xor-value, value-xor}
use Rattle.circuit.proofs.circuit.Circuit.xor.Goals as goal

pub returns-in-Constant-default-clause-value : goal.returns-in-Constant-default-clause-value
returns-in-Constant-default-clause-value c =
    signal-inverted c.args.self.now (λ v. signal_true v c.args.b) _ c.in-Constant-default.value c.args.b
    c.inverted_if.result c.inverted_if.ensures.value c.inverted_if.ensures.over
    (λ v. xor-value c.in-Constant-default.value (signal_true v c.args.b)
    ∙ ap (λ (s : Signal). xor (signal_true v s) (signal_true v c.args.b)) (sym c.in-Constant-default.is-0))
    (signal-itself c.args.b c.requires.b)

pub returns-in_default-Constant-clause-value : goal.returns-in_default-Constant-clause-value
returns-in_default-Constant-clause-value c =
    signal-inverted c.args.self.now (λ v. signal_true v c.args.a) _ c.in_default-Constant.value c.args.a
    c.inverted_if-in_default-Constant.result c.inverted_if-in_default-Constant.ensures.value
    c.inverted_if-in_default-Constant.ensures.over
    (λ v. value-xor c.in_default-Constant.value (signal_true v c.args.a)
    ∙ ap (λ (s : Signal). xor (signal_true v c.args.a) (signal_true v s)) (sym c.in_default-Constant.is-1))
    (signal-itself c.args.a c.requires.a)
