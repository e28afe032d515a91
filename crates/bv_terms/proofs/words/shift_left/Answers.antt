use Rattle.std.proofs.Common.{arith}
use Rattle.bv_terms.proofs.WordLemmas.{shifted_out-left}
use Rattle.bv_terms.proofs.words.shift_left.Goals as goal

pub returns-else-t-lt64 : goal.returns-else-t-lt64
returns-else-t-lt64 c = shifted_out-left 64 c.args.s c.args.t (omega arith)
