use Rattle.std.proofs.Common.{◌≡◌, ◌+◌, drop, map}
use Rattle.sexp_read.specs.Forest.{tree_at}
use Rattle.pattern_text.specs.Form.{attr_count}
use Rattle.pattern_text.proofs.form.attr_count.Given as goal

abbrev pub invariant-loop-place : goal.invariant-loop-place
invariant-loop-place l =
    let tree = tree_at l.bytes l.forest.items in
    l.place + attr_count (map tree (drop l.place l.items)) ≡ attr_count (map tree l.items)
