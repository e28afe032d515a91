use Rattle.std.proofs.Common.{◌≡◌, drop, map}
use Rattle.std.specs.List.{list_all}
use Rattle.sexp_read.specs.Forest.{tree_at}
use Rattle.pattern_text.specs.Items.{is_open}
use Rattle.pattern_text.proofs.items.are_opens.Given as goal

abbrev pub invariant-loop-item : goal.invariant-loop-item
invariant-loop-item l =
    let tree = tree_at l.bytes l.forest.items in
    list_all is_open (map tree (drop l.item-index l.items)) ≡ list_all is_open (map tree l.items)
