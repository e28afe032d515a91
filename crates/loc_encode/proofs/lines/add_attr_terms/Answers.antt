use Rattle.bv_terms.specs.Table.{term_at}
use Rattle.loc_encode.specs.Lines.{IsId}
use Rattle.loc_encode.proofs.GrowthLemmas.{ids_keep, IsListing-more, IsListing-end}
use Rattle.loc_encode.proofs.FrontLemmas.{attr-front, attr-end}
use Rattle.loc_encode.proofs.lines.add_attr_terms.Goals as goal

pub loop-place-preserved : goal.loop-place-preserved
loop-place-preserved c =
    IsListing-more IsId term_at ids_keep c.args.terms.now c.loop-place.terms c.input.new.terms c.loop-place.ids.items
    c.push.new.self.items c.in_ok-id.id _ _ _ _ c.loop-place.invariant
    (attr-front c.args.line c.args.op c.args.widths.now c.loop-place.place 0 c.loop-place-test.true)
    c.input.ensures.table c.input.ensures.extends c.in_ok-id.ensures.within c.in_ok-id.ensures.term
    c.in_ok-push.ensures.items

pub returns-clause-terms : goal.returns-clause-terms
returns-clause-terms c =
    IsListing-end IsId term_at c.args.terms.now c.loop-place.terms c.loop-place.ids.items _ _ c.loop-place.invariant
    (attr-end c.args.line c.args.op c.args.widths.now c.loop-place.place c.loop-place-test.false)
