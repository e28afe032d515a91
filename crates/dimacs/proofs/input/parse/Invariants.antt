use Rattle.std.proofs.Common.{◌≡◌, drop, map}
use Rattle.dimacs.specs.Input.{start, after_lines}
use Rattle.dimacs.proofs.input.parse.Given as goal

abbrev pub invariant-loop-place : goal.invariant-loop-place
invariant-loop-place l =
    after_lines start 0 (map (λ line. line.now) l.lines.items)
    ≡ after_lines l.reader l.place (map (λ line. line.now) (drop l.place l.lines.items))
