use Rattle.std.proofs.Common.{length}
use Rattle.std.specs.Bool.{beq}
use Rattle.std.proofs.lemmas.Result.{on_ok_weaker}
use Rattle.circuit.specs.Signal.{signal_true}
use Rattle.circuit.proofs.GrowthLemmas.{grows-then, grows-hold, signal-as}
use Rattle.word_circuits.proofs.LoopLemmas.{ok-then}
use Rattle.word_circuits.proofs.BitLemmas.{equal-gate}
use Rattle.word_circuits.proofs.bits.equal_bits.Goals as goal

pub and-requires-clause-b : goal.and-requires-clause-b
and-requires-clause-b c =
    (c.opposite.ensures.over (length c.xor.new.self.gates)).1 c.in_ok-differ.ensures.value.over

pub returns-clause-grows : goal.returns-clause-grows
returns-clause-grows c = on_ok_weaker c.and.result (grows-then c.in_ok-differ.ensures.grows) c.and.ensures.grows

pub returns-clause-value : goal.returns-clause-value
returns-clause-value c =
    ok-then c.and.result c.and.ensures.grows c.and.ensures.value
    (λ growth s is. signal-as _ _ s
    (λ v h. equal-gate (signal_true v c.args.before) (signal_true v c.in_ok-differ.differ)
    (signal_true v c.opposite.result) (beq (signal_true v c.args.a) (signal_true v c.args.b))
    (c.opposite.ensures.value v) (c.in_ok-differ.ensures.value.value v (grows-hold growth v h))) is)
