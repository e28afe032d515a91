use Rattle.std.proofs.Common.{bit_and}
use Rattle.std.specs.Int.Bits.{and_lt}
use Rattle.bv_terms.proofs.WordLemmas.{bits-fits}
use Rattle.bv_terms.proofs.words.and.Goals as goal

pub returns : goal.returns
returns c = λ s t. bits-fits c.args.width (bit_and c.args.s c.args.t) (and_lt c.args.width c.args.s c.args.t s t)
