use Rattle.std.proofs.Common.{◌+◌, ◌/◌, arith, subst, sym}
use Rattle.word_circuits.proofs.LoopLemmas.{IsBegun, begun-more, begun-modulo}
use Rattle.word_circuits.proofs.BitLemmas.{low_bit}
use Rattle.word_circuits.proofs.bits.constant.Goals as goal

pub loop-place-preserved : goal.loop-place-preserved
loop-place-preserved c =
    λ n. subst (IsBegun n (c.loop-place._place + 1) (λ v. c.loop-place.rest / 2) (λ v. c.args.number))
    (sym c.in_ok-push.ensures.ok)
    (begun-more (c.loop-place.invariant n) _ tt (λ v. c.loop-place.rest / 2) (λ v h. low_bit c.loop-place.rest))

pub returns : goal.returns
returns c = λ n. begun-modulo (c.loop-place.invariant n) c.args.width (omega arith)
