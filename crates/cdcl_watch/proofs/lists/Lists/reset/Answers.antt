use Rattle.std.proofs.lemmas.Result.{on_ok_weaker}
use Rattle.cdcl_watch.proofs.ListLemmas.{all-empty}
use Rattle.cdcl_watch.proofs.lists.Lists.reset.Goals as goal

pub returns-clause-empty : goal.returns-clause-empty
returns-clause-empty c = on_ok_weaker c.fill.result (λ h. all-empty c.fill.new.lists.items h) c.fill.ensures.empty
