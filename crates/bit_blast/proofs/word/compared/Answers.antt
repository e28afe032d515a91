use Rattle.std.proofs.Common.{length, ap, not, ◌∙◌}
use Rattle.bv_terms.specs.Words.{slt}
use Rattle.word_circuits.specs.Word.{word_number}
use Rattle.bit_blast.proofs.OperationLemmas.{at_most, signed_at_most, opposite-signal}
use Rattle.bit_blast.proofs.word.compared.Goals as goal

pub returns-in_ok-more-in-BvUle-clause-value : goal.returns-in_ok-more-in-BvUle-clause-value
returns-in_ok-more-in-BvUle-clause-value c =
    let more = c.in_ok-more-in-BvUle.ensures.value in
    let left = c.args.left.now in
    let right = c.args.right.now in
    opposite-signal _ c.in_ok-more-in-BvUle.more c.opposite.result _ _ more c.opposite.ensures.value
    ((c.opposite.ensures.over _).1 more.over)
    (λ v. at_most c.args.op c.in-BvUle.is (length left) (word_number v left) (word_number v right))

pub returns-in_ok-more-in-BvSle-clause-value : goal.returns-in_ok-more-in-BvSle-clause-value
returns-in_ok-more-in-BvSle-clause-value c =
    let more = c.in_ok-more-in-BvSle.ensures.value in
    let left = c.args.left.now in
    let right = c.args.right.now in
    opposite-signal _ c.in_ok-more-in-BvSle.more c.opposite-in-BvSle.result _ _ more c.opposite-in-BvSle.ensures.value
    ((c.opposite-in-BvSle.ensures.over _).1 more.over)
    (λ v. ap (λ w. not (slt w (word_number v right) (word_number v left))) c.requires.width
    ∙ signed_at_most c.args.op c.in-BvSle.is (length left) (word_number v left) (word_number v right))
