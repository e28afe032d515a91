use Rattle.circuit.proofs.RunLemmas.{some-run, one-run}
use Rattle.circuit.proofs.circuit.Circuit.gates.Goals as goal

pub returns-clause-some_value : goal.returns-clause-some_value
returns-clause-some_value c netlist bit = some-run c.args.self.now.gates netlist.forward bit

pub returns-clause-one_value : goal.returns-clause-one_value
returns-clause-one_value c netlist bit u v first second =
    one-run c.args.self.now.gates netlist.forward bit u v first second
