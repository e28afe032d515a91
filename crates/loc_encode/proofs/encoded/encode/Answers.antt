use Rattle.std.proofs.Common.{◌++◌, [], All}
use Rattle.loc_encode.specs.Given.{IsPatternFor}
use Rattle.loc_encode.proofs.EncodedLemmas.{for-now}
use Rattle.loc_encode.proofs.encoded.encode.Goals as goal

pub with_blocked-requires-clause-patterns : goal.with_blocked-requires-clause-patterns
with_blocked-requires-clause-patterns c =
    let s = c.args.spec.now in
    let first = c.in_ok-first.first in
    let agreeing = c.in_ok-agreeing.agreeing in
    for-now (λ g ops. All (IsPatternFor s g ops) c.args.blocked) first.goal first.inputs first.multi
    (first.examples ++ c.args.examples) first.blocked agreeing c.in_ok-agreeing.ensures.kept
    (for-now (λ g ops. All (IsPatternFor s g ops) c.args.blocked) c.args.goal 1746 c.args.multi.now [] [] first
    c.in_ok-first.ensures.kept c.requires.blocked)
