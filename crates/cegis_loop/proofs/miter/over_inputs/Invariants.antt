use Rattle.cegis_loop.proofs.MiterTables.{IsOverInputs}
use Rattle.cegis_loop.proofs.miter.over_inputs.Given as goal

abbrev pub invariant-loop-input : goal.invariant-loop-input
invariant-loop-input l = IsOverInputs l.fn.terms l.terms l.fn.formula l.inputs l.input-index l.whole
