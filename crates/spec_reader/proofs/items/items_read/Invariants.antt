use Rattle.std.proofs.Common.{◌≡◌, drop, map}
use Rattle.sexp_read.specs.Forest.{tree_at}
use Rattle.isel_spec.specs.Spec.{file}
use Rattle.spec_reader.specs.Walk.{items_read}
use Rattle.spec_reader.proofs.items.items_read.Given as goal

abbrev pub invariant-loop-item : goal.invariant-loop-item
invariant-loop-item l =
    let tree = tree_at l.bytes l.forest.items in
    items_read (file l.so_far) (map tree (drop l.item-index l.items))
    ≡ items_read (file l.fn.spec) (map tree l.items)
