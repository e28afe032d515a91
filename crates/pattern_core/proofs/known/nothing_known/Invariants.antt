use Rattle.pattern_core.proofs.KnownLemmas.{AreEmpty}
use Rattle.pattern_core.proofs.known.nothing_known.Given as goal

abbrev pub invariant-loop-place : goal.invariant-loop-place
invariant-loop-place l = AreEmpty l.known.items
