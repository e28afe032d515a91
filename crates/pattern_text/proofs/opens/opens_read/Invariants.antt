use Rattle.std.proofs.Common.{drop, map}
use Rattle.sexp_read.specs.Forest.{tree_at}
use Rattle.isel_spec.specs.Spec.{file}
use Rattle.pattern_text.specs.Rules.{open_read}
use Rattle.pattern_text.proofs.EachReadLemmas.{ReadLeft}
use Rattle.pattern_text.proofs.opens.opens_read.Given as goal

abbrev pub invariant-loop-item : goal.invariant-loop-item
invariant-loop-item l =
    let tree = tree_at l.bytes l.forest.items in
    ReadLeft (open_read (file l.spec)) l.opens.items (map tree (drop l.item-index l.items)) (map tree l.items)
