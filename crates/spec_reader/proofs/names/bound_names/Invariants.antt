use Rattle.std.proofs.Common.{◌≡◌, ◌++◌, map, take}
use Rattle.spec_reader.proofs.names.bound_names.Given as goal

abbrev pub invariant-loop-param : goal.invariant-loop-param
invariant-loop-param l = l.names.items ≡ map (λ p. p.name) (take l.param-index l.args)

abbrev pub invariant-loop-param-2 : goal.invariant-loop-param-2
invariant-loop-param-2 l =
    l.names.items ≡ map (λ p. p.name) l.args ++ map (λ p. p.name) (take l.param-index l.attrs)
