use Rattle.std.proofs.Common.{◌≡◌, ◌++◌, ◌∷◌, map, take}
use Rattle.plain_search.proofs.choices.add_longer.Given as goal

abbrev pub invariant-loop-rest : goal.invariant-loop-rest
invariant-loop-rest g l =
    l.found.items ≡ l.initial.found.items ++ map (λ ys. l.first ∷ ys) (take l.rest-index l.shorter)
