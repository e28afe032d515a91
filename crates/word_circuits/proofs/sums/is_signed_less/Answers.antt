use Rattle.std.proofs.Common.{◌-◌, length, false, arith}
use Rattle.std.proofs.lemmas.Result.{on_ok_weaker}
use Rattle.circuit.specs.declared.signal.Signal.TheVariants.{Constant}
use Rattle.circuit.proofs.GrowthLemmas.{grows-then, grows-hold, signal-as, all-over-grows}
use Rattle.word_circuits.proofs.WordLemmas.{over-at}
use Rattle.word_circuits.proofs.LoopLemmas.{ok-then}
use Rattle.word_circuits.proofs.SumLemmas.{signed-less}
use Rattle.word_circuits.proofs.sums.is_signed_less.Goals as goal

pub majority-requires-clause-b : goal.majority-requires-clause-b
majority-requires-clause-b c =
    (c.opposite.ensures.over (length c.is_less.new.circuit.gates)).1
    (over-at c.is_less.new.circuit c.args.right.now _ _ (omega arith)
    (all-over-grows c.in_ok-borrow.ensures.grows c.args.right.now c.requires.right))

pub returns-clause-grows : goal.returns-clause-grows
returns-clause-grows c =
    on_ok_weaker c.majority.result (grows-then c.in_ok-borrow.ensures.grows) c.majority.ensures.grows

pub returns-clause-value : goal.returns-clause-value
returns-clause-value c =
    ok-then c.majority.result c.majority.ensures.grows c.majority.ensures.value
    (λ growth s is. signal-as _ _ s
    (λ v h. signed-less v c.args.left.now c.args.right.now (length c.args.left.now - 1) (Constant false)
    (Constant false) c.opposite.result
    c.in_ok-borrow.borrow (omega arith) c.requires.width (c.opposite.ensures.value v)
    (c.in_ok-borrow.ensures.value.value v (grows-hold growth v h))) is)
