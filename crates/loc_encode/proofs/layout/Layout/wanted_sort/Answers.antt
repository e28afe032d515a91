use Rattle.isel_spec.proofs.SpecLemmas.{IsSoundResult-goal}
use Rattle.loc_encode.specs.Layout.{claim_of}
use Rattle.loc_encode.specs.Claimed.{claim_in}
use Rattle.loc_encode.proofs.SortLemmas.{wanted_sort-is}
use Rattle.loc_encode.proofs.layout.Layout.wanted_sort.Goals as goal

pub sort-requires : goal.sort-requires
sort-requires c =
    let g = c.goal.ensures in
    let sound =
    IsSoundResult-goal c.args.self.now.spec.now c.args.self.now.goal g.0 c.goal.result.now c.as_slice-results.result.now
    c.from-place.result (record { 0 = 0 }) g.1 c.as_slice-results.ensures c.if-place-results.false in
    sound.there

pub returns : goal.returns
unfolding claim_in claim_of
returns c =
    let g = c.goal.ensures in
    wanted_sort-is c.args.self.now.spec.now c.args.self.now.goal c.args.self.now.ops.now c.args.place
    c.from-place.result g.0 c.goal.result.now c.as_slice-results.result.now (record { 0 = 0 }) c.sort.result
    c.from-place.ensures g.1 c.as_slice-results.ensures c.if-place-results.false c.sort.ensures
