use Rattle.std.proofs.Common.{reverse}
use Rattle.bv_terms.specs.declared.op.TermId.{TermId}
use Rattle.bit_blast.proofs.SetLemmas.{most}
use Rattle.bit_blast.proofs.WalkLemmas.{IsVisiting}
use Rattle.bit_blast.proofs.nodes.Nodes.unvisited.Given as goal

-- each node is smaller than those before it
abbrev pub invariant-loop-next : goal.invariant-loop-next
invariant-loop-next l = IsVisiting l.terms l.self l.fn.root l.pending.keys (reverse l.found.items)

abbrev pub decreases-loop-next : goal.decreases-loop-next
decreases-loop-next l = most (λ (at : TermId). at.0) l.pending.keys
