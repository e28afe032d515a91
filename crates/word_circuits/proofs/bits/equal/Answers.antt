use Rattle.std.proofs.Common.{◌+◌, drop, refl, false, arith}
use Rattle.circuit.specs.declared.signal.Signal.TheVariants.{Constant}
use Rattle.circuit.proofs.GrowthLemmas.{grows-itself}
use Rattle.word_circuits.proofs.LoopLemmas.{carried-gate}
use Rattle.word_circuits.proofs.BitLemmas.{equal-left, equal-at}
use Rattle.word_circuits.proofs.bits.equal.Goals as goal

pub loop-place-init : goal.loop-place-init
loop-place-init c = (grows-itself c.requires.netlist, record { over = tt; value = λ v h. refl })

pub loop-place-preserved : goal.loop-place-preserved
loop-place-preserved c =
    carried-gate c.loop-place.invariant c.in_ok-result.ensures.grows _ _ c.in_ok-result.ensures.value
    (equal-left (drop (c.loop-place.place + 1) c.args.left.now) (drop (c.loop-place.place + 1) c.args.right.now))
    (λ v. equal-at v c.loop-place.result c.args.left.now c.args.right.now c.loop-place.place (Constant false)
    (Constant false) (omega arith) (omega arith))
