use Rattle.std.proofs.Common.{◌≡◌}
use Rattle.plain_search.specs.Trials.{factorial}
use Rattle.plain_search.proofs.trial_count.factorial.Given as goal

abbrev pub invariant-loop-placed : goal.invariant-loop-placed
invariant-loop-placed l = l.orders ≡ factorial l.placed
