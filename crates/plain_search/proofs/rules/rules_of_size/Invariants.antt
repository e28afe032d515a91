use Rattle.std.proofs.Common.{◌≡◌, Some, slice_get, take}
use Rattle.isel_spec.specs.File.{Goal}
use Rattle.isel_spec.specs.Spec.{file}
use Rattle.multiset_rank.specs.Multisets.{multisets}
use Rattle.plain_search.specs.Rules.{AreRulesAmong, IsSieveFor}
use Rattle.plain_search.proofs.rules.rules_of_size.Given as goal

abbrev pub invariant-loop-number : goal.invariant-loop-number
invariant-loop-number l = record {
  for_goal : IsSieveFor l.spec l.goal l.sieve;
  rules : (g : Goal) → slice_get (file l.spec).goals l.goal ≡ Some g
      → AreRulesAmong (file l.spec) g (take l.number (multisets l.kinds l.size)) l.rules.items;
}
