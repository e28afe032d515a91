use Rattle.std.proofs.Common.{take}
use Rattle.bv_terms.proofs.GraftLemmas.{IsGrafting}
use Rattle.bv_terms.proofs.terms.Terms.images.Given as goal

-- the images of the nodes so far
abbrev pub invariant-loop-at : goal.invariant-loop-at
invariant-loop-at l = IsGrafting l.fn.self l.self l.from l.inputs (take l.at-index l.nodes) l.images.items
