use Rattle.loc_encode.proofs.DifferenceLemmas.{limits-by_pattern}
use Rattle.loc_encode.proofs.LawLemmas.{values-of}
use Rattle.loc_encode.proofs.PatternLemmas.{stands-only}
use Rattle.loc_encode.proofs.laws.patterns_have_values.Goals as goal

pub returns-clause-some : goal.returns-clause-some
returns-clause-some c = λ claim p is pattern.
    values-of c.args.spec.now c.args.goal c.args.multi.now claim p c.len.ensures.table c.requires is pattern

pub returns-clause-only : goal.returns-clause-only
returns-clause-only c = λ claim env p q is first second stands other.
    stands-only claim
    (limits-by_pattern c.args.spec.now c.args.goal c.args.multi.now claim p c.len.ensures.table is first) env p q first
    second stands other
