use Rattle.std.proofs.Common.{refl}
use Rattle.std.proofs.lemmas.Result.{IfOk-weaker}
use Rattle.cnf_core.specs.Clause.{lit_true}
use Rattle.circuit.specs.declared.gate.Gate.TheVariants.{Majority}
use Rattle.circuit.proofs.ClauseLemmas.{opposite-true}
use Rattle.circuit.proofs.FunctionLemmas.{signal-of_gate, signal-opposite, majority-opposite}
use Rattle.circuit.proofs.circuit.Circuit.majority_signed.Goals as goal

pub returns-then-a-clause-value : goal.returns-then-a-clause-value
returns-then-a-clause-value c =
    IfOk-weaker c.gate.result _ _
    (signal-of_gate c.gate.new.self (Majority c.args.a c.args.b c.args.c) _ (λ number place e. cc) (λ v. refl))
    c.gate.ensures.variable

pub returns-clause-value : goal.returns-clause-value
returns-clause-value c =
    signal-opposite c.gate-2.new.self _ _ c.in_ok-opposite.opposite c.opposite-4.result c.opposite-4.ensures.value
    c.opposite-4.ensures.over
    (λ v. majority-opposite (lit_true v c.args.a) (lit_true v c.args.b) (lit_true v c.args.c))
    (signal-of_gate c.gate-2.new.self (Majority c.opposite.result c.opposite-2.result c.opposite-3.result) _
    (λ number place e. cc)
    (λ v. rw (
      opposite-true _ _ c.opposite.ensures v,
      opposite-true _ _ c.opposite-2.ensures v,
      opposite-true _ _ c.opposite-3.ensures v,
    ))
    c.in_ok-opposite.opposite c.in_ok-opposite.ensures.variable)
