use Rattle.std.proofs.Common.{◌≡◌, take, map}
use Rattle.sexp_read.specs.Forest.{tree_at}
use Rattle.sexp_read.specs.Tree.{from_of}
use Rattle.pattern_text.proofs.claims.places.Given as goal

abbrev pub invariant-loop-item : goal.invariant-loop-item
invariant-loop-item l =
    let tree = tree_at l.bytes l.forest.items in
    l.places.items ≡ map from_of (map tree (take l.item-index l.items))
