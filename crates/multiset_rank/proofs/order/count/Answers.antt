use Rattle.std.proofs.Common.{sym, ◌∙◌}
use Rattle.multiset_rank.proofs.CountLemmas.{multichoose_of_choose}
use Rattle.multiset_rank.proofs.TupleLemmas.{multisets_law}
use Rattle.multiset_rank.proofs.PlaceLemmas.{length-multisets}
use Rattle.multiset_rank.proofs.order.count.Goals as goal

pub returns-clause-formula : goal.returns-clause-formula
returns-clause-formula c = c.multichoose.ensures.value ∙ multichoose_of_choose c.args.kinds c.args.size

pub returns-clause-length : goal.returns-clause-length
returns-clause-length c = c.multichoose.ensures.value ∙ sym (length-multisets c.args.kinds c.args.size)

pub returns-clause-law : goal.returns-clause-law
returns-clause-law c = multisets_law c.args.kinds c.args.size
