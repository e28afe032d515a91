use Rattle.rule_library.proofs.EntryLemmas.{ArePlacesTo}
use Rattle.rule_library.proofs.index.places_of.Given as goal

abbrev pub invariant-loop-place : goal.invariant-loop-place
invariant-loop-place l = ArePlacesTo l.count l.place l.book l.places.items
