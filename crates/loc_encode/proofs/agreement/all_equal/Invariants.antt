use Rattle.loc_encode.proofs.FrontLemmas.{IsComparing}
use Rattle.loc_encode.proofs.agreement.all_equal.Given as goal

abbrev pub invariant-loop-place : goal.invariant-loop-place
invariant-loop-place l =
    IsComparing l.fn.terms l.terms l.from l.results l.values l.sources l.place l.so_far
