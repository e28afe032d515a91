use Rattle.std.proofs.Common.{◌<◌, false, arith}
use Rattle.std.proofs.lemmas.Nat.{one_shl}
use Rattle.circuit.specs.declared.signal.Signal.TheVariants.{Constant}
use Rattle.circuit.proofs.GrowthLemmas.{grows-itself, grows-then}
use Rattle.word_circuits.proofs.WordLemmas.{word-grows}
use Rattle.word_circuits.proofs.ShiftLemmas.{moved-start, moved-stage}
use Rattle.word_circuits.proofs.shifts.moved_by_stages.Goals as goal

pub loop-stage-init : goal.loop-stage-init
loop-stage-init c = (
  grows-itself c.requires.netlist,
  moved-start c.args.word.now c.in_ok-result.result c.in_ok-result.ensures c.requires.word,
)

pub loop-stage-preserved : goal.loop-stage-preserved
loop-stage-preserved c =
    let low : c.loop-stage.stage < 64 = omega (arith, (c.requires.below c.loop-stage.stage (omega arith)).0) in (
      grows-then c.loop-stage.invariant.0 c.in_ok-result-2.ensures.grows,
      moved-stage c.args.word.now c.loop-stage.result c.as_slice.result.now c.args.amount.now c.in_ok-result-2.result
          c.loop-stage.stage _ (Constant false) (omega arith) (one_shl c.loop-stage.stage 64 low) c.as_slice.ensures
          (word-grows c.in_ok-result-2.ensures.grows c.loop-stage.invariant.1) c.in_ok-result-2.ensures.word,
    )
