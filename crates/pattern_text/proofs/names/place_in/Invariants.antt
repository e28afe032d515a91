use Rattle.std.proofs.Common.{◌≡◌, drop, map}
use Rattle.std.specs.List.{position_from}
use Rattle.std.specs.Str.{bytes_eq}
use Rattle.pattern_text.proofs.names.place_in.Given as goal

abbrev pub invariant-loop-place : goal.invariant-loop-place
invariant-loop-place g l =
    position_from (bytes_eq l.word) l.place (map (λ e. e.0) (drop l.place l.table))
    ≡ position_from (bytes_eq l.word) 0 (map (λ e. e.0) l.table)
