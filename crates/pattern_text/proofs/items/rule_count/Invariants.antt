use Rattle.std.proofs.Common.{◌≡◌, ◌+◌, drop, map}
use Rattle.std.specs.List.{prefix_len}
use Rattle.sexp_read.specs.Forest.{tree_at}
use Rattle.pattern_text.specs.Items.{is_rule}
use Rattle.pattern_text.proofs.items.rule_count.Given as goal

abbrev pub invariant-loop-place : goal.invariant-loop-place
invariant-loop-place l =
    let tree = tree_at l.bytes l.forest.items in
    l.place + prefix_len is_rule (map tree (drop l.place l.items)) ≡ prefix_len is_rule (map tree l.items)
