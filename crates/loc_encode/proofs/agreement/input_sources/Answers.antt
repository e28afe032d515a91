use Rattle.std.proofs.Common.{arith}
use Rattle.isel_spec.specs.declared.definitions.Kind.{Kind}
use Rattle.isel_spec.specs.declared.definitions.Kind.TheVariants as kind
use Rattle.bv_terms.specs.declared.value.Sort.{Sort}
use Rattle.bv_terms.specs.declared.value.Sort.TheVariants as sort
use Rattle.loc_encode.specs.Lines.{sourced, IsIn}
use Rattle.loc_encode.proofs.GrowthLemmas.{sources_keep, IsListing-none, IsListing-more, IsListing-end}
use Rattle.loc_encode.proofs.FrontLemmas.{as-many-inputs, input-at, input-in, input-made, input-front, input-end}
use Rattle.loc_encode.proofs.agreement.input_sources.Goals as goal

pub loop-place-init : goal.loop-place-init
loop-place-init c =
    IsListing-none IsIn sourced c.args.terms.now c.new-sources.result.items _ c.requires.table
    c.new-sources.ensures.items

pub bounds-inputs-place : goal.bounds-inputs-place
bounds-inputs-place c =
    let same = as-many-inputs c.args.args.now c.args.inputs.now c.requires.sorted in
    omega (arith, same, c.loop-place-test.true)

pub constant-requires : goal.constant-requires
constant-requires c =
    let d : Kind × Sort = (kind.Reg, sort.Bool) in
    let given = input-at c.args.args.now c.args.inputs.now c.loop-place.place d _ c.requires.sorted c.requires.plain
    c.loop-place-test.true in
    (_, given.1, (let plain = given.0 in plain.sized))

pub loop-place-preserved : goal.loop-place-preserved
loop-place-preserved c =
    let args = c.args.args.now in
    let inputs = c.args.inputs.now in
    let i = c.loop-place.place in
    let new = c.constant.new.terms in
    let same = as-many-inputs args inputs c.requires.sorted in
    let given = input-at args inputs i _ _ c.requires.sorted c.requires.plain c.loop-place-test.true in
    IsListing-more IsIn sourced sources_keep c.args.terms.now c.loop-place.terms new c.loop-place.sources.items
    c.push.new.self.items _ _ _ _ _ c.loop-place.invariant
    (input-front (λ (a : Kind × Sort). a.1) args inputs i _ _ c.loop-place-test.true
    (omega (arith, same, c.loop-place-test.true))) c.constant.ensures.table c.constant.ensures.extends
    (input-in new i _ _ c.in_ok-term.term given c.in_ok-term.ensures.within c.in_ok-term.ensures.term)
    (input-made new i _ _ c.in_ok-term.term c.in_ok-term.ensures.term) c.in_ok-push.ensures.items

pub returns-clause-sources : goal.returns-clause-sources
returns-clause-sources c =
    IsListing-end IsIn sourced c.args.terms.now c.loop-place.terms c.loop-place.sources.items _ _
    c.loop-place.invariant
    (input-end (λ (a : Kind × Sort). a.1) c.args.args.now c.args.inputs.now c.loop-place.place c.loop-place-test.false)
