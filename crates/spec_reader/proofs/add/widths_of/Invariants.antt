use Rattle.std.proofs.Common.{◌≡◌, map, take}
use Rattle.bv_terms.specs.Sorts.{width_of}
use Rattle.spec_reader.proofs.add.widths_of.Given as goal

abbrev pub invariant-loop-param : goal.invariant-loop-param
invariant-loop-param l = l.widths.items ≡ map (λ q. width_of q.sort) (take l.param-index l.params)
