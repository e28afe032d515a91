use Rattle.std.proofs.Common.{take}
use Rattle.bit_blast.specs.Words.{wiring}
use Rattle.bit_blast.proofs.VisitLemmas.{IsVisited}
use Rattle.bit_blast.proofs.nodes.Nodes.visit.Given as goal

-- the nodes so far have words
abbrev pub invariant-loop-next : goal.invariant-loop-next
invariant-loop-next l =
    IsVisited l.terms l.fn.root (wiring l.fn.circuit l.fn.self) (wiring l.circuit l.self)
    (take l.next-index l.next-items)
