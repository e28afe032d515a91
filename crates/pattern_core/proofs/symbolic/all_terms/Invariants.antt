use Rattle.pattern_core.proofs.SymbolicTables.{AreMade}
use Rattle.pattern_core.proofs.symbolic.all_terms.Given as goal

abbrev pub invariant-loop-place : goal.invariant-loop-place
invariant-loop-place l = AreMade l.spec l.goal l.nodes l.fn.terms l.terms l.inputs l.outs.items l.place
