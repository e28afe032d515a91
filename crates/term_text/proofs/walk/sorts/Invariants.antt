use Rattle.std.proofs.Common.{◌≡◌, take}
use Rattle.term_text.specs.Build.{sorts_at}
use Rattle.term_text.proofs.walk.sorts.Given as goal

abbrev pub invariant-loop-node : goal.invariant-loop-node
invariant-loop-node l = l.sorts.items ≡ sorts_at l.terms (take l.node-index l.nodes)
