use Rattle.std.proofs.Common.{take}
use Rattle.proof_check.proofs.LogLemmas.{Derives}
use Rattle.proof_check.proofs.check.check_log.Given as goal

abbrev pub invariant-loop-number : goal.invariant-loop-number
invariant-loop-number l = Derives l.cnf.variables l.clauses (take l.number l.chain-items) l.so_far l.derived.items
