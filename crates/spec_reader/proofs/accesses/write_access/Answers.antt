use Rattle.std.proofs.Common.{arith}
use Rattle.spec_reader.proofs.AccessLemmas.{store-three, store-others}
use Rattle.spec_reader.proofs.accesses.write_access.Goals as goal

pub returns-in-len3-clause-store : goal.returns-in-len3-clause-store
returns-in-len3-clause-store c =
    λ table. store-three table c.args.bytes c.args.args.now (record { 0 = 0 }) c.in-len3.len_at_least
    c.in-len3.len_below

pub returns-in_default-clause-store : goal.returns-in_default-clause-store
returns-in_default-clause-store c = λ table. store-others table c.args.bytes c.args.args.now (λ e. omega (arith, e))

pub returns-in_default-2-clause-store : goal.returns-in_default-2-clause-store
returns-in_default-2-clause-store c = λ table. store-others table c.args.bytes c.args.args.now (λ e. omega (arith, e))
