use Rattle.std.proofs.Common.{◌≡◌, [], drop, take, map}
use Rattle.sexp_read.specs.Forest.{tree_at}
use Rattle.spec_reader.specs.Form.{name_of}
use Rattle.spec_reader.specs.Walk.{names_fault}
use Rattle.spec_reader.proofs.names.names_fault.Given as goal

abbrev pub invariant-loop-place : goal.invariant-loop-place
invariant-loop-place l =
    let tree = tree_at l.bytes l.forest.items in
    names_fault (map name_of (map tree (take l.place l.names))) (map tree (drop l.place l.names))
    ≡ names_fault [] (map tree l.names)
