use Rattle.sexp_read.proofs.LexicalLemmas.{tokens-are}
use Rattle.sexp_read.proofs.ReaderLemmas.{every-reading, every-fault}
use Rattle.sexp_read.proofs.reader.read.Goals as goal

pub returns-clause-every_reading : goal.returns-clause-every_reading
returns-clause-every_reading c =
    every-reading c.args.bytes.now c.read_all.result c.read_all.ensures.ok c.read_all.ensures.err

pub returns-clause-every_fault : goal.returns-clause-every_fault
returns-clause-every_fault c =
    every-fault c.args.bytes.now c.read_all.result c.read_all.ensures.ok c.read_all.ensures.err

pub returns-clause-tokens : goal.returns-clause-tokens
returns-clause-tokens c = tokens-are c.args.bytes.now
