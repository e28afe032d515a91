use Rattle.std.proofs.Common.{◌≡◌, map, take, Some}
use Rattle.bv_terms.specs.declared.op.TermId.{TermId}
use Rattle.pattern_core.specs.Symbolic.{found}
use Rattle.pattern_core.proofs.symbolic.found_all.Given as goal

abbrev pub invariant-loop-source : goal.invariant-loop-source
invariant-loop-source l =
    map (λ (a : TermId). Some a) l.nodes.items ≡ map (found l.inputs l.outs) (take l.source-index l.sources)
