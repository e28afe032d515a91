use Rattle.std.proofs.Common.{drop}
use Rattle.proof_check.proofs.SetLemmas.{Unmarks}
use Rattle.proof_check.proofs.lit_set.unmark.Given as goal

abbrev pub invariant-loop-lit : goal.invariant-loop-lit
invariant-loop-lit l = Unmarks l.initial.marks l.marks (drop l.lit-index l.added) l.lits
