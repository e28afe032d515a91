use Rattle.std.proofs.Common.{◌≡◌, drop}
use Rattle.bv_terms.specs.Subterm.{keys_with}
use Rattle.bit_blast.proofs.nodes.put_all.Given as goal

-- the nodes that are left, put in too, are all of them put in
abbrev pub invariant-loop-node : goal.invariant-loop-node
invariant-loop-node l = keys_with l.set.keys (drop l.node-index l.nodes) ≡ keys_with l.fn.set.keys l.nodes
