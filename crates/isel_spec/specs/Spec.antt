-- The file that a `Spec` stands for.
use Rattle.std.specs.Prelude.{map}
use Rattle.isel_spec.specs.declared.spec.Spec.{Spec}
use Rattle.isel_spec.specs.File.{File, operation, goal}

abbrev pub file : Spec → File
file s = record { pointer = s.pointer; ops = map (operation s.terms) s.ops; goals = map (goal s.terms) s.goals }
