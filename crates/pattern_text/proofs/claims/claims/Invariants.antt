use Rattle.std.proofs.Common.{drop, map}
use Rattle.sexp_read.specs.Forest.{tree_at}
use Rattle.isel_spec.specs.Spec.{file}
use Rattle.pattern_text.proofs.ClaimLemmas.{AreSoFar}
use Rattle.pattern_text.proofs.claims.claims.Given as goal

abbrev pub invariant-loop-item : goal.invariant-loop-item
invariant-loop-item l =
    let tree = tree_at l.bytes l.forest.items in
    AreSoFar (file l.spec) l.claims.items l.before (map tree (drop l.item-index l.items)) (map tree l.items)
