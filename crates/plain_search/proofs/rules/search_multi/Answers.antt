use Rattle.std.proofs.Common.{arith}
use Rattle.pattern_core.proofs.EvalLemmas.{some_goal}
use Rattle.plain_search.proofs.TrialLemmas.{bits_from_trials}
use Rattle.plain_search.proofs.rules.search_multi.Goals as goal

pub rule_sieve-requires-clause-small : goal.rule_sieve-requires-clause-small
rule_sieve-requires-clause-small c = λ g there.
    let bits = bits_from_trials c.args.spec.now g c.args.multi.now c.requires.ops (c.requires.trials g there) in
    record { inputs = omega (arith, bits); no_memory = (c.requires.no_memory g there).args }

pub rules_of-requires-clause-few_bits : goal.rules_of-requires-clause-few_bits
rules_of-requires-clause-few_bits c =
    let g = some_goal c.args.spec.now c.args.goal c.requires.there in
    let bits = bits_from_trials c.args.spec.now g.0 c.args.multi.now c.requires.ops (c.requires.trials g.0 g.1) in
    omega (arith, bits)
