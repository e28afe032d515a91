use Rattle.std.proofs.Common.{take}
use Rattle.bv_terms.proofs.EvalLemmas.{IsAlong}
use Rattle.bv_terms.proofs.terms.Terms.eval_nodes.Given as goal

-- the nodes so far have their values
abbrev pub invariant-loop-at : goal.invariant-loop-at
invariant-loop-at l = IsAlong l.self l.env.values l.fn.room l.room (take l.at-index l.nodes)
