use Rattle.loc_encode.proofs.KindLemmas.{IsMerging}
use Rattle.loc_encode.proofs.lines.line_sources.Given as goal

abbrev pub invariant-loop-kind : goal.invariant-loop-kind
invariant-loop-kind l = IsMerging l.initial.terms l.terms l.line l.kinds l.kind-index l.found.items
