use Rattle.std.proofs.Common.{List, map}
use Rattle.std.proofs.lemmas.Option.{slice_get-get_or}
use Rattle.bv_terms.specs.declared.op.TermId.{TermId}
use Rattle.bv_terms.specs.Term.{Term}
use Rattle.bv_terms.specs.Table.{term_at}
use Rattle.loc_encode.specs.Lines.{of_kind}
use Rattle.loc_encode.specs.Making.{IsKindIn}
use Rattle.loc_encode.proofs.GrowthLemmas.{kinds_keep, IsListing-more, IsListing-end}
use Rattle.loc_encode.proofs.FrontLemmas.{result-front, result-end, CanGraft-longer, kind-made, kind-there}
use Rattle.loc_encode.proofs.lines.add_results.Goals as goal

pub graft-requires-clause-fit : goal.graft-requires-clause-fit
graft-requires-clause-fit c =
    let d : TermId = record { 0 = 0 } in
    let can = CanGraft-longer c.args.terms.now c.loop-place.terms c.args.from.now c.args.results.now c.args.inputs.now
    c.loop-place.invariant.extends c.requires.can in
    can.fit c.loop-place.place d c.loop-place-test.true

pub loop-place-preserved : goal.loop-place-preserved
loop-place-preserved c =
    let old = c.args.terms.now in
    let mid = c.loop-place.terms in
    let new = c.graft.new.self in
    let from = c.args.from.now in
    let results = c.args.results.now in
    let inputs = c.args.inputs.now in
    let i = c.loop-place.place in
    let d : TermId = record { 0 = 0 } in
    let terms : List Term = map (term_at old) inputs in
    let at = slice_get-get_or results i d c.loop-place-test.true in
    IsListing-more IsKindIn of_kind kinds_keep old mid new c.loop-place.kinds.items c.push.new.self.items _ _ _ _ _
    c.loop-place.invariant (result-front old.pointer c.args.op terms from results i d c.loop-place-test.true)
    c.graft.ensures.table c.graft.ensures.extends
    (kind-there old mid new from c.args.op i results inputs i _ c.in_ok-term.term c.sort-sort.result c.requires.can
    c.loop-place.invariant.extends c.graft.ensures.extends at c.sort-sort.ensures c.in_ok-term.ensures.within
    c.in_ok-term.ensures.sort)
    (kind-made old mid new from c.args.op i results inputs _ c.in_ok-term.term c.sort-sort.result c.requires.can
    c.loop-place.invariant.extends c.sort-sort.ensures c.in_ok-term.ensures.term) c.in_ok-push.ensures.items

pub returns-clause-kinds : goal.returns-clause-kinds
returns-clause-kinds c =
    let old = c.args.terms.now in
    let terms : List Term = map (term_at old) c.args.inputs.now in
    IsListing-end IsKindIn of_kind old c.loop-place.terms c.loop-place.kinds.items _ _ c.loop-place.invariant
    (result-end old.pointer c.args.op terms c.args.from.now c.args.results.now c.loop-place.place
    c.loop-place-test.false)
