use Rattle.sexp_read.specs.Token.{tokens}
use Rattle.sexp_read.proofs.LexicalLemmas.{tokens-unique}
use Rattle.sexp_read.proofs.FaultLemmas.{trees-unique, reading-unique}
use Rattle.sexp_read.proofs.reader.one_reading.Goals as goal

pub returns-clause-tokens : goal.returns-clause-tokens
returns-clause-tokens c = tokens-unique

pub returns-clause-trees : goal.returns-clause-trees
returns-clause-trees c = λ bytes. trees-unique (tokens bytes)

pub returns-clause-forest : goal.returns-clause-forest
returns-clause-forest c = reading-unique
