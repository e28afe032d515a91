use Rattle.std.proofs.Common.{◌+◌, drop, length, false, arith}
use Rattle.circuit.specs.declared.signal.Signal.TheVariants.{Constant}
use Rattle.circuit.proofs.GrowthLemmas.{grows-itself, all-over-grows}
use Rattle.word_circuits.specs.Word.{word_number}
use Rattle.word_circuits.proofs.WordLemmas.{over-at}
use Rattle.word_circuits.proofs.LoopLemmas.{carried-gate}
use Rattle.word_circuits.proofs.SumLemmas.{less-left, less-start, less-at}
use Rattle.word_circuits.proofs.sums.is_less.Goals as goal

pub loop-place-init : goal.loop-place-init
loop-place-init c = (
  grows-itself c.requires.netlist,
  record {
    over = tt;
    value = λ v h. less-start (word_number v c.args.left.now) (word_number v c.args.right.now);
  },
)

pub majority-requires-clause-a : goal.majority-requires-clause-a
majority-requires-clause-a c =
    (c.opposite.ensures.over (length c.loop-place.circuit.gates)).1
    (over-at c.loop-place.circuit c.args.left.now c.loop-place.place _ (omega arith)
    (all-over-grows c.loop-place.invariant.0 c.args.left.now c.requires.left))

pub loop-place-preserved : goal.loop-place-preserved
loop-place-preserved c =
    carried-gate c.loop-place.invariant c.in_ok-borrow.ensures.grows _ _ c.in_ok-borrow.ensures.value
    (less-left (drop (c.loop-place.place + 1) c.args.left.now) (drop (c.loop-place.place + 1) c.args.right.now))
    (λ v. less-at v c.loop-place.borrow c.opposite.result c.args.left.now c.args.right.now c.loop-place.place
    (Constant false) (Constant false) (omega arith) (omega arith) (c.opposite.ensures.value v))
