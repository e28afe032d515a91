-- The word that the condition takes.
use Rattle.std.proofs.lemmas.Result.{IfOk-weaker}
use Rattle.bit_blast.proofs.OperationLemmas.{choice-word}
use Rattle.bit_blast.proofs.word.of_three.Goals as goal

pub returns-clause-word : goal.returns-clause-word
returns-clause-word c = IfOk-weaker c.select.result _ _
    (λ r is. choice-word c.args.op c.in-Ite.is c.select.new.circuit c.args.condition.now c.args.chosen.now
    c.args.otherwise.now _ r is)
    c.select.ensures.word
