use Rattle.std.proofs.Common.{take}
use Rattle.cnf_core.specs.Resolution.{AreNewClauses}
use Rattle.proof_check.proofs.LogLemmas.{Derives}
use Rattle.proof_check.proofs.new_clauses.are_new_clauses.Given as goal

abbrev pub invariant-loop-chain : goal.invariant-loop-chain
invariant-loop-chain l =
    Derives l.cnf.variables l.clauses (take l.chain-index l.chain-items) l.so_far l.derived.items
    × AreNewClauses l.clauses (take l.chain-index l.chain-items)
