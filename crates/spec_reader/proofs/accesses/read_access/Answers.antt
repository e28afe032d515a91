use Rattle.std.proofs.Common.{arith}
use Rattle.spec_reader.proofs.AccessLemmas.{load-others, mark-others}
use Rattle.spec_reader.proofs.accesses.read_access.Goals as goal

pub returns-in_default-clause-load : goal.returns-in_default-clause-load
returns-in_default-clause-load c = λ table. load-others table c.args.bytes c.args.args.now (λ e. omega (arith, e))

pub returns-in_default-clause-mark : goal.returns-in_default-clause-mark
returns-in_default-clause-mark c = λ table. mark-others table c.args.bytes c.args.args.now (λ e. omega (arith, e))

pub returns-in_default-2-clause-load : goal.returns-in_default-2-clause-load
returns-in_default-2-clause-load c = λ table. load-others table c.args.bytes c.args.args.now (λ e. omega (arith, e))

pub returns-in_default-2-clause-mark : goal.returns-in_default-2-clause-mark
returns-in_default-2-clause-mark c = λ table. mark-others table c.args.bytes c.args.args.now (λ e. omega (arith, e))
