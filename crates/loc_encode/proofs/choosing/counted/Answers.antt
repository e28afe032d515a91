use Rattle.std.proofs.Common.{◌≡◌, ◌+◌, subst, arith}
use Rattle.bv_terms.proofs.GraftLemmas.{Extends-further}
use Rattle.loc_encode.proofs.CountLemmas.{AreThere-kept, AreThere-set, AreCountsBelow, count-there, counts-first}
use Rattle.loc_encode.proofs.CountLemmas.{counts-next, counts-all}
use Rattle.loc_encode.proofs.choosing.counted.Goals as goal

pub loop-count-init : goal.loop-count-init
loop-count-init c =
    let more = Extends-further _ _ _ c.not.ensures.extends c.and.ensures.extends in
    record {
      extends = more;
      there = AreThere-set _ _ 0 _ (AreThere-kept _ _ _ more c.requires.counts) (omega arith)
          c.in_ok-none.ensures.made.there;
      counts = counts-first _ _ _ _ _ _ _ _ _ c.requires.counts c.not.ensures.extends c.in_ok-other.ensures.made
          c.and.ensures.extends c.in_ok-none.ensures.made;
    }

pub ite-requires-clause-first : goal.ite-requires-clause-first
ite-requires-clause-first c =
    count-there _ _ _ _ _ c.requires.counts c.loop-count.invariant.extends
    (omega (arith, c.loop-count-test.true, c.requires.few))

pub ite-requires-clause-second : goal.ite-requires-clause-second
ite-requires-clause-second c =
    count-there _ _ _ _ _ c.requires.counts c.loop-count.invariant.extends
    (omega (arith, c.loop-count-test.true, c.requires.few))

pub loop-count-preserved : goal.loop-count-preserved
loop-count-preserved c =
    let so = c.loop-count.invariant in
    record {
      extends = Extends-further _ _ _ so.extends c.ite.ensures.extends;
      there = AreThere-set _ _ c.loop-count.count _ (AreThere-kept _ _ _ c.ite.ensures.extends so.there)
          (omega (arith, c.loop-count-test.true, c.requires.few)) c.in_ok-id.ensures.made.there;
      counts = counts-next c.args.terms.now c.loop-count.terms c.ite.new.terms c.args.slot c.in_ok-id.id c.args.counts
          c.loop-count.more _ c.args.most c.loop-count.count c.requires.counts so.there so.extends c.ite.ensures.extends
          c.loop-count.auto.count (omega (arith, c.loop-count-test.true)) c.requires.few c.in_ok-id.ensures.made
          so.counts;
    }

pub returns-clause-counts : goal.returns-clause-counts
returns-clause-counts c =
    let last : c.loop-count.count ≡ c.args.most + 1 =
    omega (arith, c.loop-count-test.false, c.loop-count.auto.count-end) in
    counts-all c.args.terms.now c.loop-count.terms c.args.slot c.args.counts c.loop-count.more c.args.most
    (subst (λ n. AreCountsBelow c.args.terms.now c.loop-count.terms c.args.slot c.args.counts c.args.most n
    c.loop-count.more) last c.loop-count.invariant.counts)
