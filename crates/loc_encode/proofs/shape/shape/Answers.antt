use Rattle.std.proofs.lemmas.Result.{IfOk-weaker}
use Rattle.loc_encode.proofs.GivenLemmas.{sized-layout, shape-layout}
use Rattle.loc_encode.proofs.shape.shape.Goals as goal

pub mention_slots-requires-clause-sized : goal.mention_slots-requires-clause-sized
mention_slots-requires-clause-sized c = sized-layout _

pub returns-clause-shape : goal.returns-clause-shape
returns-clause-shape c = λ claim is.
    IfOk-weaker c.mention_slots.result _ _ (λ id mentions.
    shape-layout _ c.args.multi.now c.len.ensures.table c.requires.given c.ops-ops.ensures.multi
    c.ops-ops.ensures.numbers
    claim is c.has_shape.new.terms c.mention_slots.new.terms c.in_ok-formula.formula id c.in_ok-formula.ensures.test
    mentions) c.mention_slots.ensures.mentions
