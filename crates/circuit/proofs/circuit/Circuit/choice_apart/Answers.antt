use Rattle.std.proofs.Common.{refl}
use Rattle.std.proofs.lemmas.Result.{IfOk-weaker}
use Rattle.cnf_core.specs.Clause.{lit_true}
use Rattle.circuit.specs.declared.gate.Gate.TheVariants.{Choice}
use Rattle.circuit.proofs.ClauseLemmas.{opposite-true}
use Rattle.circuit.proofs.FunctionLemmas.{signal-of_gate, signal-opposite, choice-opposite}
use Rattle.circuit.proofs.circuit.Circuit.choice_apart.Goals as goal

pub returns-then-chosen-clause-value : goal.returns-then-chosen-clause-value
returns-then-chosen-clause-value c =
    IfOk-weaker c.gate.result _ _
    (signal-of_gate c.gate.new.self (Choice c.args.condition c.args.chosen c.args.otherwise) _ (λ number place e. cc)
    (λ v. refl))
    c.gate.ensures.variable

pub returns-clause-value : goal.returns-clause-value
returns-clause-value c =
    signal-opposite c.gate-2.new.self _ _ c.in_ok-opposite.opposite c.opposite-3.result c.opposite-3.ensures.value
    c.opposite-3.ensures.over
    (λ v. choice-opposite (lit_true v c.args.condition) (lit_true v c.args.chosen) (lit_true v c.args.otherwise))
    (signal-of_gate c.gate-2.new.self (Choice c.args.condition c.opposite.result c.opposite-2.result) _
    (λ number place e. cc)
    (λ v. rw (opposite-true _ _ c.opposite.ensures v, opposite-true _ _ c.opposite-2.ensures v))
    c.in_ok-opposite.opposite c.in_ok-opposite.ensures.variable)
