use Rattle.std.proofs.Common.{vec_len}
use Rattle.bv_terms.specs.Table.{Extends}
use Rattle.loc_encode.specs.Given.{IsBlocking}
use Rattle.loc_encode.proofs.encoded.with_blocked.Given as goal

abbrev pub invariant-loop-pattern : goal.invariant-loop-pattern
invariant-loop-pattern l =
    Extends l.initial.terms l.terms × IsBlocking l.spec l.fn.encoded l.fn.patterns l.left.items l.all l.terms

abbrev pub decreases-loop-pattern : goal.decreases-loop-pattern
decreases-loop-pattern l = vec_len l.left
