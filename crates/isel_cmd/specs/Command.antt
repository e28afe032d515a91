-- The task that a command stands for.
use Rattle.std.specs.Prelude.{ℕ, List}
use Rattle.isel_cmd.specs.Words.{Task, Synth, IsTask}
use Rattle.isel_cmd.specs.declared.words.Command.{Command}
use Rattle.isel_cmd.specs.declared.words.Command.TheVariants as command

abbrev pub task_of : Command → Task
task_of (command.Synth file bound budget) = Synth file.now bound budget

abbrev pub IsCommand : List (List ℕ) → Command → Type 0
IsCommand words command = IsTask words (task_of command)
