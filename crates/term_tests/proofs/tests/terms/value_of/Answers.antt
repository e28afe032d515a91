use Rattle.std.proofs.Common.{arith}
use Rattle.term_tests.proofs.tests.terms.value_of.Goals as goal

pub eval-requires-clause-inputs : goal.eval-requires-clause-inputs
eval-requires-clause-inputs c = c.inputs_fit.ensures c.if-not-inputs_fit.false c.args.at (omega arith)
