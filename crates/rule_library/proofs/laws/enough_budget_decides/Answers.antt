use Rattle.rule_library.proofs.PromiseLemmas.{answer-from_promise}
use Rattle.rule_library.proofs.laws.enough_budget_decides.Goals as goal

pub returns : goal.returns
returns c = answer-from_promise
