use Rattle.std.proofs.Common.{◌-◌, length, drop, arith}
use Rattle.std.proofs.lemmas.List.{take_all, length-drop}
use Rattle.std.proofs.lemmas.Result.{on_ok_weaker}
use Rattle.circuit.proofs.GrowthLemmas.{grows-then, grows-hold}
use Rattle.word_circuits.proofs.WordLemmas.{word-grows}
use Rattle.word_circuits.proofs.LoopLemmas.{ok-then}
use Rattle.word_circuits.proofs.ShiftLemmas.{filled-far}
use Rattle.word_circuits.proofs.shifts.filled.Goals as goal

pub returns-clause-grows : goal.returns-clause-grows
returns-clause-grows c =
    on_ok_weaker c.filled_if.result
    (λ growth. grows-then c.in_ok-near.ensures.grows (grows-then c.in_ok-gone.ensures.grows growth))
    c.filled_if.ensures.grows

pub returns-clause-word : goal.returns-clause-word
returns-clause-word c =
    ok-then c.filled_if.result c.filled_if.ensures.grows c.filled_if.ensures.word
    (λ growth r is. filled-far c.args.word.now c.in_ok-near.near c.as_slice.result.now c.args.amount.now _ r
    c.stage_count-stages.result c.in_ok-gone.gone c.args.fill (omega arith)
    (c.stage_count-stages.ensures.enough c.requires.narrow)
    c.as_slice.ensures
    (take_all (length c.args.amount.now - c.stage_count-stages.result)
    (drop c.stage_count-stages.result c.args.amount.now)
    (omega (arith, length-drop c.stage_count-stages.result c.args.amount.now)))
    (word-grows growth (word-grows c.in_ok-gone.ensures.grows c.in_ok-near.ensures.word))
    (λ v h. c.in_ok-gone.ensures.value.value v (grows-hold growth v h)) is)
