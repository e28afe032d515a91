use Rattle.term_text.specs.Scope.{AreNamesIn}
use Rattle.formula_text.proofs.names_of.Given as goal

abbrev pub invariant-loop-name : goal.invariant-loop-name
invariant-loop-name l = AreNamesIn l.terms l.names
