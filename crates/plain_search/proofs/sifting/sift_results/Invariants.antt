use Rattle.std.proofs.Common.{◌≡◌, map, take}
use Rattle.isel_spec.specs.Spec.{file}
use Rattle.plain_search.specs.Sieve.{Sifts}
use Rattle.plain_search.proofs.sifting.sift_results.Given as goal

abbrev pub invariant-loop-choice : goal.invariant-loop-choice
invariant-loop-choice g l = record {
  sifts : Sifts g.S.Sieve.takes (file l.spec) l.goal l.fn.sieve
      (λ _. map (λ rs. record { nodes = l.fn.pattern.nodes; results = rs }) (take l.choice-index l.choices)) l.sieve;
  nodes : l.pattern.nodes ≡ l.fn.pattern.nodes;
  for_goal : g.S.Sieve.is_for l.sieve l.spec l.goal;
}
