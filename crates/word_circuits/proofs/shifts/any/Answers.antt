use Rattle.std.proofs.Common.{◌+◌, drop, refl, false, arith}
use Rattle.circuit.specs.declared.signal.Signal.TheVariants.{Constant}
use Rattle.circuit.proofs.GrowthLemmas.{grows-itself}
use Rattle.word_circuits.proofs.LoopLemmas.{carried-gate}
use Rattle.word_circuits.proofs.ShiftLemmas.{any-left, any-at}
use Rattle.word_circuits.proofs.shifts.any.Goals as goal

pub loop-place-init : goal.loop-place-init
loop-place-init c = (grows-itself c.requires.netlist, record { over = tt; value = λ v h. refl })

pub loop-place-preserved : goal.loop-place-preserved
loop-place-preserved c =
    carried-gate c.loop-place.invariant c.in_ok-result.ensures.grows _ _ c.in_ok-result.ensures.value
    (any-left (drop (c.loop-place.place + 1) c.args.word.now))
    (λ v. any-at v c.loop-place.result c.args.word.now c.loop-place.place (Constant false) (omega arith))
