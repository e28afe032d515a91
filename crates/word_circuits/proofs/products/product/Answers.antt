use Rattle.std.proofs.Common.{◌*◌, ◌^◌, ◌%◌, length, ap, sym, ◌∙◌}
use Rattle.std.proofs.lemmas.Result.{IfOk-weaker}
use Rattle.std.proofs.Math.Nat.{mul_comm}
use Rattle.word_circuits.specs.Word.{word_number}
use Rattle.word_circuits.proofs.WordLemmas.{word-as}
use Rattle.word_circuits.proofs.products.product.Goals as goal

pub returns-in-Some-number_of-clause-word : goal.returns-in-Some-number_of-clause-word
returns-in-Some-number_of-clause-word c =
    IfOk-weaker c.product_with-in-Some-number_of.result _ _
    (λ r is. word-as is _
    (λ v h. ap (λ k. k * word_number v c.args.left.now % 2 ^ length c.args.left.now)
    (sym (c.in-Some-number_of.ensures v))
    ∙ ap (λ k. k % 2 ^ length c.args.left.now)
    (mul_comm (word_number v c.args.right.now) (word_number v c.args.left.now))))
    c.product_with-in-Some-number_of.ensures.word
