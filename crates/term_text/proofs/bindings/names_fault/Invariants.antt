use Rattle.std.proofs.Common.{◌≡◌, drop, map}
use Rattle.sexp_read.specs.Forest.{tree_at}
use Rattle.term_text.specs.Reading.{names_fault}
use Rattle.term_text.proofs.bindings.names_fault.Given as goal

abbrev pub invariant-loop-item : goal.invariant-loop-item
invariant-loop-item l =
    let tree = tree_at l.bytes l.forest.items in
    names_fault (map tree (drop l.item-index l.bindings)) ≡ names_fault (map tree l.bindings)
