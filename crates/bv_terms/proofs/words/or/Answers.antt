use Rattle.std.proofs.Common.{bit_or}
use Rattle.std.proofs.lemmas.Nat.{or_lt}
use Rattle.bv_terms.proofs.WordLemmas.{bits-fits}
use Rattle.bv_terms.proofs.words.or.Goals as goal

pub returns : goal.returns
returns c = λ s t. bits-fits c.args.width (bit_or c.args.s c.args.t) (or_lt c.args.width c.args.s c.args.t s t)
