use Rattle.std.proofs.Common.{◌<◌, length, All}
use Rattle.blast_tests.proofs.tests.operators.over_inputs.Given as goal

abbrev pub invariant-loop-place : goal.invariant-loop-place
invariant-loop-place l = All (λ at. at.0 < length l.terms.nodes) l.args.items
