use Rattle.std.proofs.Common.{◌≡◌, ◌+◌, ◌-◌, ◌*◌, take}
use Rattle.std.specs.List.{flat_map}
use Rattle.isel_spec.specs.Spec.{file}
use Rattle.plain_search.specs.Patterns.{without}
use Rattle.plain_search.specs.Sieve.{Sifts, candidates_with, candidates_over}
use Rattle.plain_search.proofs.sifting.+sifting.Given as goal

abbrev pub decreases-sift_after : goal.decreases-sift_after
decreases-sift_after g l = 4 * l.count

abbrev pub decreases-sift_arguments : goal.decreases-sift_arguments
decreases-sift_arguments g l = 4 * l.count + 2

abbrev pub decreases-sift_node : goal.decreases-sift_node
decreases-sift_node g l = 4 * l.count + 1

abbrev pub decreases-sift_operation : goal.decreases-sift_operation
decreases-sift_operation g l = 4 * l.count + 3

abbrev pub invariant-sift_after-loop-op : goal.invariant-sift_after-loop-op
invariant-sift_after-loop-op g l = record {
  sifts : Sifts g.S.Sieve.takes (file l.spec) l.goal l.fn.sieve
      (λ x. flat_map
      (λ op. candidates_with (file l.spec) x (l.count - 1) l.fn.nodes.items op (without op l.ops))
      (take l.op-index l.op-items)) l.sieve;
  nodes : l.nodes.items ≡ l.fn.nodes.items;
  for_goal : g.S.Sieve.is_for l.sieve l.spec l.goal;
}

abbrev pub invariant-sift_arguments-loop-choice : goal.invariant-sift_arguments-loop-choice
invariant-sift_arguments-loop-choice g l = record {
  sifts : Sifts g.S.Sieve.takes (file l.spec) l.goal l.fn.sieve
      (λ x. candidates_over (file l.spec) x l.count l.fn.nodes.items l.op l.left (take l.choice-index l.choices)
      l.attrs) l.sieve;
  nodes : l.nodes.items ≡ l.fn.nodes.items;
  for_goal : g.S.Sieve.is_for l.sieve l.spec l.goal;
}

abbrev pub invariant-sift_operation-loop-choice : goal.invariant-sift_operation-loop-choice
invariant-sift_operation-loop-choice g l = record {
  sifts : Sifts g.S.Sieve.takes (file l.spec) l.goal l.fn.sieve
      (λ x. flat_map
      (candidates_over (file l.spec) x l.count l.fn.nodes.items l.op l.left.items l.arguments.items)
      (take l.choice-index l.choice-items)) l.sieve;
  nodes : l.nodes.items ≡ l.fn.nodes.items;
  for_goal : g.S.Sieve.is_for l.sieve l.spec l.goal;
}
