use Rattle.sexp_read.proofs.TreeAtLemmas.{tree_at-denoted, outermost-trees}
use Rattle.sexp_read.proofs.reader.item_trees.Goals as goal

pub returns-clause-each : goal.returns-clause-each
returns-clause-each c = tree_at-denoted

pub returns-clause-outermost : goal.returns-clause-outermost
returns-clause-outermost c = outermost-trees
