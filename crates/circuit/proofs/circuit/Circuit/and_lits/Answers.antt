use Rattle.std.proofs.Common.{◌&&◌}
use Rattle.std.proofs.lemmas.Result.{IfOk-weaker}
use Rattle.circuit.specs.declared.gate.Gate.TheVariants.{And}
use Rattle.circuit.proofs.FunctionLemmas.{signal-of_gate, two-ordered, and-symmetric}
use Rattle.circuit.proofs.circuit.Circuit.and_lits.Goals as goal

pub returns-in-Apart-clause-value : goal.returns-in-Apart-clause-value
returns-in-Apart-clause-value c =
    IfOk-weaker c.gate.result _ _
    (signal-of_gate c.gate.new.self (And c.ordered.result.0 c.ordered.result.1) _ (λ number place e. cc)
    (two-ordered (λ x y. x && y) and-symmetric c.args.a c.args.b c.ordered.result c.ordered.ensures))
    c.gate.ensures.variable
