use Rattle.std.proofs.Common.{◌^◌, ◌≤◌, arith}
use Rattle.std.proofs.Math.Nat.{pow-le-pow_right}
use Rattle.pattern_core.proofs.well_formed.is_within.Goals as goal
use Rattle.list_lemmas.proofs.Bools.{yes_answer}

pub returns-else-width-lt64 : goal.returns-else-width-lt64
returns-else-width-lt64 c =
    let p : 2 ^ 64 ≤ 2 ^ c.args.width =
    pow-le-pow_right {n = 2} (omega arith) {i = 64} {j = c.args.width} c.if-width-lt64.false in
    yes_answer (omega (arith, p, c.ranges.number.fits))
