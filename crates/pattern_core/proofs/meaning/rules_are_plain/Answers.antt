use Rattle.pattern_core.proofs.ThingLemmas.{plain_rules}
use Rattle.pattern_core.proofs.meaning.rules_are_plain.Goals as goal

pub returns : goal.returns
returns c = λ g p there. plain_rules c.args.spec.now c.args.goal g c.len.ensures.table there p
