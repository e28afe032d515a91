use Rattle.std.proofs.Common.{take}
use Rattle.bv_terms.specs.Table.{term_at}
use Rattle.bit_blast.specs.Words.{wiring}
use Rattle.bit_blast.proofs.AssertLemmas.{AreAsserted}
use Rattle.bit_blast.proofs.assertions.assert_formula.Given as goal

-- the parts so far are asserted
abbrev pub invariant-loop-part : goal.invariant-loop-part
invariant-loop-part l = AreAsserted l.terms (term_at l.terms l.fn.formula) (wiring l.fn.circuit l.fn.nodes)
    (wiring l.circuit l.nodes) (take l.part-index l.part-items)
