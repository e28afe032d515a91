use Rattle.std.proofs.Common.{◌≡◌, ◌++◌, take, codes}
use Rattle.std.specs.String.{string_bytes}
use Rattle.isel_spec.specs.Spec.{file}
use Rattle.pattern_text.specs.Text.{line, answers_text}
use Rattle.pattern_text.proofs.write.write_library.Given as goal

abbrev pub invariant-loop-place : goal.invariant-loop-place
invariant-loop-place l =
    string_bytes l.out ≡ line (codes "(isel-library 1)")
    ++ answers_text (file l.spec) (take l.place (file l.spec).goals) (take l.place l.answers)
