use Rattle.std.proofs.Common.{length, ◌+◌, ◌*◌, drop, sym, ap, subst, ◌∙◌, arith}
use Rattle.word_circuits.specs.Word.{bit}
use Rattle.word_circuits.proofs.LoopLemmas.{IsBegun, begun-more, begun-end}
use Rattle.word_circuits.proofs.WordLemmas.{over-at}
use Rattle.word_circuits.proofs.BitLemmas.{complement, complement-at, complement-end}
use Rattle.word_circuits.proofs.bits.inverted.Goals as goal

pub loop-place-preserved : goal.loop-place-preserved
loop-place-preserved c =
    λ n over.
    subst (IsBegun n (c.loop-place.place + 1) (complement (drop (c.loop-place.place + 1) c.args.word.now))
    (complement c.args.word.now)) (sym c.in_ok-push.ensures.ok)
    (begun-more (c.loop-place.invariant n over) c.opposite.result
    ((c.opposite.ensures.over (length n.gates)).1
    (over-at n c.args.word.now c.loop-place.place _ (omega arith) over))
    (complement (drop (c.loop-place.place + 1) c.args.word.now))
    (λ v h. complement-at v c.args.word.now c.loop-place.place _ (omega arith)
    ∙ ap (λ b. bit b + 2 * complement (drop (c.loop-place.place + 1) c.args.word.now) v)
    (sym (c.opposite.ensures.value v))))

pub returns : goal.returns
returns c =
    λ n over. begun-end (c.loop-place.invariant n over) (length c.args.word.now) (omega arith)
    (λ v h. complement-end v c.args.word.now c.loop-place.place (omega arith))
