use Rattle.std.proofs.Common.{◌+◌, drop, length, arith}
use Rattle.circuit.proofs.GrowthLemmas.{grows-itself}
use Rattle.word_circuits.proofs.LoopLemmas.{begun-start, begun-gate, begun-modulo}
use Rattle.word_circuits.proofs.SumLemmas.{added, added-at, carry-of}
use Rattle.word_circuits.proofs.sums.sum.Goals as goal

pub loop-place-init : goal.loop-place-init
loop-place-init c = (
  (
    grows-itself c.requires.netlist,
    begun-start (added c.args.left.now c.args.right.now c.args.carry) c.new-result.result c.new-result.ensures,
  ),
  c.requires.carry,
)

pub loop-place-preserved : goal.loop-place-preserved
loop-place-preserved c = (
  begun-gate c.loop-place.invariant.0 c.in_ok-bit.ensures.grows _ _ c.in_ok-bit.ensures.sum _
      c.in_ok-push.ensures.ok
      (added (drop (c.loop-place.place + 1) c.args.left.now) (drop (c.loop-place.place + 1) c.args.right.now)
      c.in_ok-bit.carry_out)
      (λ v h. added-at v c.args.left.now c.args.right.now c.loop-place.place _ _ c.loop-place.carry
      c.in_ok-bit.carry_out (omega arith) (omega arith) (c.in_ok-bit.ensures.carry.value v h)),
  c.in_ok-bit.ensures.carry.over,
)

pub returns-clause-word : goal.returns-clause-word
returns-clause-word c = begun-modulo c.loop-place.invariant.0.1 (length c.args.left.now) (omega arith)

pub returns-clause-carry : goal.returns-clause-carry
returns-clause-carry c =
    carry-of c.args.left.now c.args.right.now c.loop-place.result c.loop-place.place _ c.loop-place.carry
    c.loop-place.invariant.0.1 c.loop-place.invariant.1 (omega arith) c.requires.width
