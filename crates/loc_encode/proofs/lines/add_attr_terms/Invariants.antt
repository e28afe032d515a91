use Rattle.std.proofs.Common.{map, drop, ◌++◌}
use Rattle.bv_terms.specs.Table.{term_at}
use Rattle.loc_encode.specs.Lines.{attr_terms, IsId}
use Rattle.loc_encode.proofs.GrowthLemmas.{IsListing}
use Rattle.loc_encode.proofs.lines.add_attr_terms.Given as goal

abbrev pub invariant-loop-place : goal.invariant-loop-place
invariant-loop-place l =
    IsListing IsId term_at l.initial.terms l.terms l.ids.items (attr_terms l.line l.op l.place (drop l.place l.widths))
    (map (term_at l.initial.terms) l.initial.ids.items ++ attr_terms l.line l.op 0 l.widths)
