use Rattle.pattern_text.proofs.OpenLemmas.{multi-some, multi-none}
use Rattle.pattern_text.proofs.opens.multi_read.Goals as goal

pub returns-in-Some : goal.returns-in-Some
returns-in-Some c =
    multi-some c.args.ops.now c.in-Some.multi c.args.span c.in-Some.ensures.none c.in-Some.ensures.numbers

pub returns-in-None : goal.returns-in-None
returns-in-None c = multi-none c.args.ops.now c.args.span c.fault_at.result c.in-None.ensures.none c.fault_at.ensures
