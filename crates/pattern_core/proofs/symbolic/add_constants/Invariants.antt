use Rattle.pattern_core.proofs.SymbolicTables.{AreConstants}
use Rattle.pattern_core.proofs.symbolic.add_constants.Given as goal

abbrev pub invariant-loop-place : goal.invariant-loop-place
invariant-loop-place l =
    AreConstants l.fn.terms l.terms l.fn.nodes.items l.nodes.items l.widths l.numbers l.place
