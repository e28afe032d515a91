use Rattle.std.proofs.Common.{◌≡◌, drop, map}
use Rattle.std.specs.List.{list_all}
use Rattle.std.specs.Option.{is_some}
use Rattle.sexp_read.specs.Forest.{tree_at}
use Rattle.sexp_read.specs.Tree.{word_of}
use Rattle.pattern_text.proofs.form.are_words.Given as goal

abbrev pub invariant-loop-item : goal.invariant-loop-item
invariant-loop-item l =
    let tree = tree_at l.bytes l.forest.items in
    list_all (λ t. is_some (word_of t)) (map tree (drop l.item-index l.items))
    ≡ list_all (λ t. is_some (word_of t)) (map tree l.items)
