use Rattle.std.proofs.Common.{◌^◌, ◌<◌, arith}
use Rattle.pattern_core.proofs.FitLemmas.{Pairwise-length, Pairwise-at, Pairwise-more}
use Rattle.pattern_core.proofs.well_formed.are_within.Goals as goal
use Rattle.list_lemmas.proofs.Bools.{no_answer, not_by_test as never}

pub returns-then-widths-numbers : goal.returns-then-widths-numbers
returns-then-widths-numbers c =
    no_answer (λ h. let e = Pairwise-length (λ w a. a < 2 ^ w) c.args.widths.now c.args.numbers.now h in
    c.if-widths-numbers.true e)

pub returns-then-not-is_within : goal.returns-then-not-is_within
returns-then-not-is_within c =
    no_answer (λ h. never c.is_within.result c.if-not-is_within.true c.is_within.ensures
    (Pairwise-at (λ w a. a < 2 ^ w) c.args.widths.now c.args.numbers.now c.loop-place.place 0 0 c.loop-place-test.true
    h))

pub loop-place-preserved : goal.loop-place-preserved
loop-place-preserved c =
    Pairwise-more (λ w a. a < 2 ^ w) c.args.widths.now c.args.numbers.now c.loop-place.place 0 0 c.loop-place-test.true
    (omega arith) (c.is_within.ensures.0 c.if-not-is_within.false) c.loop-place.invariant
