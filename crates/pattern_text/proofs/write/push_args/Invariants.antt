use Rattle.std.proofs.Common.{◌≡◌, ◌++◌, codes, take}
use Rattle.std.specs.List.{flat_map}
use Rattle.std.specs.String.{string_bytes}
use Rattle.pattern_text.specs.Text.{source_text}
use Rattle.pattern_text.proofs.write.push_args.Given as goal

abbrev pub invariant-loop-arg : goal.invariant-loop-arg
invariant-loop-arg l =
    string_bytes l.out ≡ string_bytes l.fn.out ++ flat_map (λ s. codes " " ++ source_text s) (take l.arg-index l.args)
