use Rattle.std.proofs.Common.{◌+◌, drop, arith}
use Rattle.circuit.proofs.GrowthLemmas.{grows-itself}
use Rattle.word_circuits.proofs.LoopLemmas.{begun-start, begun-gate}
use Rattle.word_circuits.proofs.BitLemmas.{selected, selected-at}
use Rattle.word_circuits.proofs.bits.select.Goals as goal

pub loop-place-init : goal.loop-place-init
loop-place-init c = (
  grows-itself c.requires.netlist,
  begun-start (selected c.args.condition c.args.chosen.now c.args.otherwise.now)
      c.new-result.result c.new-result.ensures,
)

pub loop-place-preserved : goal.loop-place-preserved
loop-place-preserved c =
    begun-gate c.loop-place.invariant c.in_ok-choice.ensures.grows _ _ c.in_ok-choice.ensures.value _
    c.in_ok-push.ensures.ok
    (selected c.args.condition (drop (c.loop-place.place + 1) c.args.chosen.now)
    (drop (c.loop-place.place + 1) c.args.otherwise.now))
    (λ v h. selected-at v c.args.condition c.args.chosen.now c.args.otherwise.now c.loop-place.place _ _ (omega arith)
    (omega arith))
