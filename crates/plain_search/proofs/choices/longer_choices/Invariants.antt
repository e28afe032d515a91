use Rattle.std.proofs.Common.{◌≡◌, ◌++◌, ◌∷◌, map, drop}
use Rattle.std.specs.List.{flat_map}
use Rattle.plain_search.proofs.choices.longer_choices.Given as goal

abbrev pub invariant-loop-first : goal.invariant-loop-first
invariant-loop-first g l =
    l.found.items ++ flat_map (λ x. map (λ ys. x ∷ ys) l.shorter) (drop l.first-index l.firsts)
    ≡ flat_map (λ x. map (λ ys. x ∷ ys) l.shorter) l.firsts
