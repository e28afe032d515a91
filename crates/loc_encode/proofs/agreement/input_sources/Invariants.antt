use Rattle.std.proofs.Common.{drop}
use Rattle.isel_spec.specs.File.{sorts_in}
use Rattle.loc_encode.specs.Lines.{IsIn, sourced, input_sources}
use Rattle.loc_encode.proofs.GrowthLemmas.{IsListing}
use Rattle.loc_encode.proofs.agreement.input_sources.Given as goal

abbrev pub invariant-loop-place : goal.invariant-loop-place
invariant-loop-place l =
    IsListing IsIn sourced l.initial.terms l.terms l.sources.items
    (input_sources l.place (sorts_in (drop l.place l.args)) (drop l.place l.inputs))
    (input_sources 0 (sorts_in l.args) l.inputs)
