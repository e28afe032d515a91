use Rattle.cegis_loop.proofs.MiterTables.{AreInputNodes}
use Rattle.cegis_loop.proofs.miter.input_nodes.Given as goal

abbrev pub invariant-loop-place : goal.invariant-loop-place
invariant-loop-place l = AreInputNodes l.fn.terms l.terms l.sorts l.place l.nodes.items
