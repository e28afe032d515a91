use Rattle.std.proofs.Common.{◌≡◌, drop, map}
use Rattle.std.specs.Prelude.{is_some}
use Rattle.std.specs.List.{list_all}
use Rattle.sexp_read.specs.Forest.{tree_at}
use Rattle.term_text.specs.Reading.{bound_word}
use Rattle.term_text.proofs.bindings.all_bind.Given as goal

abbrev pub invariant-loop-item : goal.invariant-loop-item
invariant-loop-item l =
    let tree = tree_at l.bytes l.forest.items in
    list_all (λ b. is_some (bound_word b)) (map tree (drop l.item-index l.bindings))
    ≡ list_all (λ b. is_some (bound_word b)) (map tree l.bindings)
