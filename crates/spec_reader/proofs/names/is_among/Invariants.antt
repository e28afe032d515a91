use Rattle.std.proofs.Common.{◌≡◌, drop, map}
use Rattle.std.specs.List.{list_any}
use Rattle.std.specs.Str.{bytes_eq}
use Rattle.sexp_read.specs.Forest.{tree_at}
use Rattle.spec_reader.specs.Form.{name_of}
use Rattle.spec_reader.proofs.names.is_among.Given as goal

abbrev pub invariant-loop-item : goal.invariant-loop-item
invariant-loop-item l =
    let tree = tree_at l.bytes l.forest.items in
    list_any (bytes_eq l.name) (map name_of (map tree (drop l.item-index l.earlier)))
    ≡ list_any (bytes_eq l.name) (map name_of (map tree l.earlier))
