use Rattle.std.proofs.Common.{◌≤◌, ◌^◌, arith}
use Rattle.std.proofs.Math.Pow.{pow_mono}
use Rattle.test_inputs.proofs.lowest.Goals as goal

pub returns-else-width-lt64 : goal.returns-else-width-lt64
returns-else-width-lt64 c =
    let wide : 2 ^ 64 ≤ 2 ^ c.args.width = pow_mono c.if-width-lt64.false in
    omega (arith, wide, c.ranges.number.fits)
