use Rattle.sexp_read.proofs.BuilderLemmas.{has-nothing}
use Rattle.sexp_read.proofs.builder.Builder.new.Goals as goal

pub returns : goal.returns
returns c = has-nothing _ c.new.ensures.items c.new-2.ensures.items c.new-3.ensures
