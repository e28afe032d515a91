use Rattle.std.proofs.Common.{◌≡◌, ◌++◌, map, take, slice_get}
use Rattle.std.specs.String.{string_bytes}
use Rattle.isel_spec.specs.Spec.{file}
use Rattle.pattern_text.specs.Text.{joined, op_name}
use Rattle.pattern_text.proofs.write.push_op_names.Given as goal

abbrev pub invariant-loop-place : goal.invariant-loop-place
invariant-loop-place l =
    string_bytes l.out ≡ string_bytes l.fn.out
    ++ joined (map (λ op. op_name (slice_get (file l.spec).ops op)) (take l.place l.ops))
