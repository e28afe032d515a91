use Rattle.std.proofs.Common.{◌≡◌, ◌≤◌, ◌-◌, [], All, Vec, Global, length}
use Rattle.cdcl_watch.specs.declared.lists.Watcher.{Watcher}
use Rattle.cdcl_watch.proofs.lists.fill.Given as goal

abbrev pub invariant-loop-alloc : goal.invariant-loop-alloc
invariant-loop-alloc l = record {
  few : length l.lists.items ≤ l.count;
  empty : All (λ (v : Vec Watcher Global). v.items ≡ []) l.lists.items;
}

abbrev pub decreases-loop-alloc : goal.decreases-loop-alloc
decreases-loop-alloc l = l.count - length l.lists.items
