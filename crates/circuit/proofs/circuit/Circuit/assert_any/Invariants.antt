use Rattle.std.proofs.Common.{length}
use Rattle.circuit.proofs.AssertLemmas.{AreSoFar}
use Rattle.circuit.proofs.circuit.Circuit.assert_any.Given as goal

abbrev pub invariant-loop-signal : goal.invariant-loop-signal
invariant-loop-signal l = AreSoFar (length l.self.gates) l.signals l.signal-index l.lits.items
