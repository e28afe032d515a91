use Rattle.cegis_loop.proofs.MiterTables.{IsDiffering}
use Rattle.cegis_loop.proofs.miter.differ.Given as goal

abbrev pub invariant-loop-place : goal.invariant-loop-place
invariant-loop-place l = IsDiffering l.fn.terms l.terms l.left l.right l.place l.formula
