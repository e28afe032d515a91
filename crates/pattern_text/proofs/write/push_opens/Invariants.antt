use Rattle.std.proofs.Common.{◌≡◌, ◌++◌, take}
use Rattle.std.specs.List.{flat_map}
use Rattle.std.specs.String.{string_bytes}
use Rattle.isel_spec.specs.Spec.{file}
use Rattle.pattern_text.specs.Text.{open_text}
use Rattle.pattern_text.proofs.write.push_opens.Given as goal

abbrev pub invariant-loop-multi : goal.invariant-loop-multi
invariant-loop-multi l =
    string_bytes l.out ≡ string_bytes l.fn.out ++ flat_map (open_text (file l.spec)) (take l.multi-index l.multis)
