use Rattle.term_text.specs.Scope.{AreNamesIn}
use Rattle.term_tests.proofs.tests.reading.inputs_in.Given as goal

abbrev pub invariant-loop-name : goal.invariant-loop-name
invariant-loop-name l = AreNamesIn l.terms l.names
