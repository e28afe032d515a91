use Rattle.std.proofs.Common.{map, drop, ◌++◌, List}
use Rattle.bv_terms.specs.Term.{Term}
use Rattle.bv_terms.specs.Table.{term_at}
use Rattle.loc_encode.specs.Lines.{result_kinds, of_kind}
use Rattle.loc_encode.specs.Making.{IsKindIn}
use Rattle.loc_encode.proofs.GrowthLemmas.{IsListing}
use Rattle.loc_encode.proofs.lines.add_results.Given as goal

abbrev pub invariant-loop-place : goal.invariant-loop-place
invariant-loop-place l =
    let old = l.initial.terms in
    let inputs : List Term = map (term_at old) l.inputs in
    IsListing IsKindIn of_kind old l.terms l.kinds.items
    (result_kinds old.pointer l.op inputs l.place (map (term_at l.from) (drop l.place l.results)))
    (map (of_kind old) l.initial.kinds.items
    ++ result_kinds old.pointer l.op inputs 0 (map (term_at l.from) l.results))
