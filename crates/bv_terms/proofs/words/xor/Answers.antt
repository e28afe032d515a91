use Rattle.std.proofs.Common.{bit_xor}
use Rattle.std.proofs.lemmas.Nat.{xor_lt}
use Rattle.bv_terms.proofs.WordLemmas.{bits-fits}
use Rattle.bv_terms.proofs.words.xor.Goals as goal

pub returns : goal.returns
returns c = λ s t. bits-fits c.args.width (bit_xor c.args.s c.args.t) (xor_lt c.args.width c.args.s c.args.t s t)
