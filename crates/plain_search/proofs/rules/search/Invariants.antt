use Rattle.std.proofs.Common.{◌≡◌, Some, slice_get}
use Rattle.isel_spec.specs.File.{Goal}
use Rattle.isel_spec.specs.Spec.{file}
use Rattle.plain_search.specs.Rules.{IsSieveFor}
use Rattle.plain_search.proofs.SizeLemmas.{HasNoneBelow}
use Rattle.plain_search.proofs.rules.search.Given as goal

abbrev pub invariant-loop-size : goal.invariant-loop-size
invariant-loop-size l = record {
  for_goal : IsSieveFor l.spec l.goal l.sieve;
  none : (g : Goal) → slice_get (file l.spec).goals l.goal ≡ Some g → HasNoneBelow (file l.spec) g l.size;
}
