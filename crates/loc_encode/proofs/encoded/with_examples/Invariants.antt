use Rattle.std.proofs.Common.{vec_len}
use Rattle.bv_terms.specs.Table.{Extends}
use Rattle.loc_encode.specs.Given.{IsExtending}
use Rattle.loc_encode.proofs.encoded.with_examples.Given as goal

abbrev pub invariant-loop-example : goal.invariant-loop-example
invariant-loop-example l =
    Extends l.initial.terms l.terms × IsExtending l.spec l.fn.encoded l.fn.examples l.left.items l.all l.terms

abbrev pub decreases-loop-example : goal.decreases-loop-example
decreases-loop-example l = vec_len l.left
