use Rattle.std.proofs.Common.{◌≡◌, ◌<◌, ℕ, [], Vec, Global, get_or}
use Rattle.cdcl_watch.specs.declared.lists.Watcher.{Watcher}
use Rattle.cdcl_watch.proofs.lists.empty_all.Given as goal

abbrev pub invariant-loop-list : goal.invariant-loop-list
invariant-loop-list l = (k : ℕ) (d : Vec Watcher Global) → k < l.list-index → (get_or l.lists k d).items ≡ []
