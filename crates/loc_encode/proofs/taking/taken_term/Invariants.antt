use Rattle.loc_encode.proofs.TakingLemmas.{IsTaking}
use Rattle.loc_encode.proofs.taking.taken_term.Given as goal

abbrev pub invariant-loop-named : goal.invariant-loop-named
invariant-loop-named l = IsTaking l.initial.terms l.terms l.taker l.sort l.sources l.named-index l.found
