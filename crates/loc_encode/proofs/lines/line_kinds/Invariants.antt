use Rattle.std.proofs.Common.{map, drop, List}
use Rattle.isel_spec.specs.Spec.{file}
use Rattle.loc_encode.specs.Lines.{Sourced, sourced, line_kinds, of_kind}
use Rattle.loc_encode.specs.Making.{IsKindIn}
use Rattle.loc_encode.proofs.GrowthLemmas.{IsListing}
use Rattle.loc_encode.proofs.lines.line_kinds.Given as goal

abbrev pub invariant-loop-op : goal.invariant-loop-op
invariant-loop-op l =
    let sources : List Sourced = map (sourced l.initial.terms) l.sources in
    IsListing IsKindIn of_kind l.initial.terms l.terms l.kinds.items
    (line_kinds (file l.spec) l.line sources (drop l.op-index l.ops)) (line_kinds (file l.spec) l.line sources l.ops)
