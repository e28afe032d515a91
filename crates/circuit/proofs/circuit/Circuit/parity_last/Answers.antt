use Rattle.std.proofs.Common.{refl}
use Rattle.std.proofs.lemmas.Result.{IfOk-weaker}
use Rattle.circuit.specs.declared.gate.Gate.TheVariants.{Parity}
use Rattle.circuit.proofs.FunctionLemmas.{signal-of_gate}
use Rattle.circuit.proofs.circuit.Circuit.parity_last.Goals as goal

pub returns-in-Apart-clause-value : goal.returns-in-Apart-clause-value
returns-in-Apart-clause-value c =
    IfOk-weaker c.gate.result _ _
    (signal-of_gate c.gate.new.self (Parity c.args.a c.args.b c.args.c) _ (λ number place e. cc) (λ v. refl))
    c.gate.ensures.variable
