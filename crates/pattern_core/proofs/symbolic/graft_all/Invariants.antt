use Rattle.std.proofs.Common.{take}
use Rattle.bv_terms.proofs.GraftLemmas.{IsGrafting}
use Rattle.pattern_core.proofs.symbolic.graft_all.Given as goal

abbrev pub invariant-loop-at : goal.invariant-loop-at
invariant-loop-at l = IsGrafting l.fn.terms l.terms l.from l.inputs (take l.at-index l.results) l.nodes.items
