use Rattle.std.proofs.Common.{arith, length-drop}
use Rattle.isel_base.proofs.Told.{told_after, rest_from}
use Rattle.isel_base.proofs.writing.put_all.Goals as goal

pub loop-done-preserved : goal.loop-done-preserved
loop-done-preserved g c =
    let bytes = c.args.bytes.now in
    let at_most = rw (rest_from bytes c.loop-done.done) at c.in_ok-count.ensures.within in
    record {
      within = omega (arith, at_most, length-drop c.loop-done.done bytes);
      told = told_after bytes c.loop-done.done c.in_ok-count.count _ _ _ c.loop-done.invariant.told
          c.in_ok-count.ensures.told;
      counts = omega (arith, c.in_ok-count.ensures.counts);
    }
