use Rattle.std.proofs.Common.{map, drop, List}
use Rattle.bv_terms.specs.Table.{term_at}
use Rattle.loc_encode.specs.Lines.{Sourced, sourced, arg_terms, IsId}
use Rattle.loc_encode.proofs.GrowthLemmas.{IsListing}
use Rattle.loc_encode.proofs.lines.arg_terms.Given as goal

abbrev pub invariant-loop-place : goal.invariant-loop-place
invariant-loop-place l =
    let sources : List Sourced = map (sourced l.initial.terms) l.sources in
    IsListing IsId term_at l.initial.terms l.terms l.ids.items
    (arg_terms l.line sources l.place (drop l.place l.sorts)) (arg_terms l.line sources 0 l.sorts)
