use Rattle.std.proofs.Common.{◌≡◌, drop}
use Rattle.std.specs.List.{list_any}
use Rattle.isel_cmd.specs.Program.{lists_open}
use Rattle.isel_cmd.proofs.library.list_open.Given as goal

abbrev pub invariant-loop-answer : goal.invariant-loop-answer
invariant-loop-answer l = list_any lists_open (drop l.answer-index l.answers) ≡ list_any lists_open l.answers
