use Rattle.std.proofs.Common.{drop, map}
use Rattle.sexp_read.specs.Forest.{tree_at}
use Rattle.term_text.specs.Reading.{differ}
use Rattle.term_text.proofs.BindingLemmas.{Left, words_of}
use Rattle.term_text.proofs.bindings.names_differ.Given as goal

abbrev pub invariant-loop-item : goal.invariant-loop-item
invariant-loop-item l =
    let tree = tree_at l.bytes l.forest.items in
    Left (map (λ e. e.0) l.seen) (map tree (drop l.item-index l.bindings)) (differ (words_of (map tree l.bindings)))
