use Rattle.sexp_read.proofs.FaultLemmas.{reading-faultless, fault-unique}
use Rattle.sexp_read.proofs.reader.one_fault.Goals as goal

pub returns-clause-reading : goal.returns-clause-reading
returns-clause-reading c = reading-faultless

pub returns-clause-fault : goal.returns-clause-fault
returns-clause-fault c = fault-unique
