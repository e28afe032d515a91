use Rattle.std.proofs.Common.{◌+◌, drop, arith}
use Rattle.circuit.proofs.GrowthLemmas.{grows-itself}
use Rattle.word_circuits.proofs.LoopLemmas.{begun-start, begun-gate}
use Rattle.word_circuits.proofs.BitLemmas.{zipped, zipped-at}
use Rattle.word_circuits.proofs.bits.zip.Goals as goal

pub loop-place-init : goal.loop-place-init
loop-place-init c = (
  grows-itself c.requires.netlist,
  begun-start (zipped c.args.function c.args.left.now c.args.right.now)
      c.new-result.result c.new-result.ensures,
)

pub loop-place-preserved : goal.loop-place-preserved
loop-place-preserved c =
    begun-gate c.loop-place.invariant c.in_ok-joined_bits.ensures.grows _ _ c.in_ok-joined_bits.ensures.value _
    c.in_ok-push.ensures.ok
    (zipped c.args.function (drop (c.loop-place.place + 1) c.args.left.now)
    (drop (c.loop-place.place + 1) c.args.right.now))
    (λ v h. zipped-at v c.args.function c.args.left.now c.args.right.now c.loop-place.place _ _ (omega arith)
    (omega arith))
