use Rattle.std.proofs.Common.{◌≡◌, take, reverse}
use Rattle.std.specs.List.{flat_map}
use Rattle.collections.specs.Named.{named}
use Rattle.term_text.proofs.scope.innermost.Given as goal

abbrev pub invariant-loop-place : goal.invariant-loop-place
invariant-loop-place l =
    named (flat_map (λ names. names) (reverse l.bound)) l.name
    ≡ named (flat_map (λ names. names) (reverse (take l.place l.bound))) l.name
