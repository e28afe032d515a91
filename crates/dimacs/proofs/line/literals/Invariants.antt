use Rattle.std.proofs.Common.{◌≡◌, ◌++◌, drop, map}
use Rattle.std.specs.Option.{option_map}
use Rattle.cnf_core.specs.Clause.{IsOver}
use Rattle.dimacs.specs.Line.{literals}
use Rattle.dimacs.proofs.line.literals.Given as goal

abbrev pub invariant-loop-place : goal.invariant-loop-place
invariant-loop-place l =
    (literals l.variables (map (λ w. w.now) l.words)
    ≡ option_map (λ more. l.lits ++ more) (literals l.variables (map (λ w. w.now) (drop l.place l.words))))
    × IsOver l.variables l.lits
