use Rattle.std.proofs.Common.{◌≡◌, ◌≤◌, ◌-◌, ◌++◌, drop, map, length}
use Rattle.std.specs.Option.{option_map}
use Rattle.dimacs.specs.Line.{steps}
use Rattle.dimacs.proofs.line.steps.Given as goal

abbrev pub invariant-loop-place : goal.invariant-loop-place
invariant-loop-place l =
    (steps l.variables (map (λ w. w.now) l.words)
    ≡ option_map (λ more. l.steps ++ more) (steps l.variables (map (λ w. w.now) (drop l.place l.words))))
    × (l.place ≤ length l.words)

abbrev pub decreases-loop-place : goal.decreases-loop-place
decreases-loop-place l = length l.words - l.place
