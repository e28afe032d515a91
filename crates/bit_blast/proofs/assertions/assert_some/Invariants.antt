use Rattle.std.proofs.Common.{take}
use Rattle.bv_terms.specs.Table.{term_at}
use Rattle.bit_blast.specs.Words.{wiring}
use Rattle.bit_blast.proofs.AssertLemmas.{IsClause}
use Rattle.bit_blast.proofs.assertions.assert_some.Given as goal

-- the signals of the parts so far
abbrev pub invariant-loop-next : goal.invariant-loop-next
invariant-loop-next l = IsClause l.terms (term_at l.terms l.fn.part.at) (wiring l.fn.circuit l.fn.nodes)
    (wiring l.circuit l.nodes) (take l.next-index l.next-items) l.clause.items
