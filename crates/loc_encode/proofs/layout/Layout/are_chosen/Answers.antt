use Rattle.std.proofs.Common.{take, get_or, true, false, nat_eq, subst, arith}
use Rattle.std.specs.Prelude.{count_by}
use Rattle.std.proofs.lemmas.List.{take_all}
use Rattle.std.proofs.lemmas.Option.{slice_get-get_or}
use Rattle.bv_terms.proofs.GraftLemmas.{Extends-further}
use Rattle.loc_encode.specs.Tests.{IsTest}
use Rattle.loc_encode.specs.Claimed.{claim_in}
use Rattle.loc_encode.proofs.TestLemmas.{IsTest-truth, IsTest-kept}
use Rattle.loc_encode.proofs.CountLemmas.{AreThere-set, AreThere-same, AreCounts-kept, counts-none, counts-more}
use Rattle.loc_encode.proofs.layout.Layout.are_chosen.Goals as goal

pub loop-slot-init : goal.loop-slot-init
loop-slot-init c =
    let never = IsTest-truth (claim_in c.args.self.now) _ _ _ false c.truth.ensures.extends c.in_ok-no.ensures.made in
    let kept = IsTest-kept (claim_in c.args.self.now) _ _ _ _ c.truth-2.ensures.extends never in
    record {
      extends = Extends-further _ _ _ c.truth.ensures.extends c.truth-2.ensures.extends;
      there = AreThere-set c.truth-2.new.terms _ 0 c.in_ok-yes.yes
          (AreThere-same c.truth-2.new.terms c.in_ok-no.no kept.there) (omega arith) c.in_ok-yes.ensures.made.there;
      counts = counts-none (claim_in c.args.self.now) c.truth-2.new.terms c.in_ok-no.no c.in_ok-yes.yes c.args.count
          kept
          (IsTest-truth (claim_in c.args.self.now) _ _ _ true c.truth-2.ensures.extends c.in_ok-yes.ensures.made);
    }

pub loop-slot-preserved : goal.loop-slot-preserved
loop-slot-preserved c =
    let so = c.loop-slot.invariant in
    let kept = AreCounts-kept (claim_in c.args.self.now) _ _ _ _ _ c.slot.ensures.extends so.counts in
    record {
      extends = Extends-further _ _ _ (Extends-further _ _ _ so.extends c.slot.ensures.extends)
          c.counted.ensures.extends;
      there = c.in_ok-counts.ensures.there;
      counts = counts-more (claim_in c.args.self.now) c.counted.new.terms c.in_ok-counts.counts c.args.count
          c.args.slots.now c.loop-slot.slot-index _ c.loop-slot-test.true
          (c.in_ok-counts.ensures.counts (claim_in c.args.self.now) _ (λ g. count_by g
          (take c.loop-slot.slot-index c.args.slots.now)) c.in_ok-chosen.ensures.test kept);
    }

pub returns-clause-test : goal.returns-clause-test
returns-clause-test c =
    let so = c.loop-slot.invariant in
    let there = slice_get-get_or c.loop-slot.counts c.args.count _ (omega (arith, so.there.seven, c.requires.few)) in
    subst (λ xs. IsTest (claim_in c.args.self.now) c.loop-slot.terms (get_or c.loop-slot.counts c.args.count _)
    (λ g. nat_eq (count_by g xs) c.args.count))
    (take_all c.loop-slot.slot-index c.args.slots.now c.loop-slot-test.false)
    (so.counts.each c.args.count _ (omega arith) there)
