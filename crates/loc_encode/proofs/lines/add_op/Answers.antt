use Rattle.std.proofs.Common.{map, List}
use Rattle.std.proofs.lemmas.Result.{on_ok_weaker}
use Rattle.bv_terms.proofs.GraftLemmas.{Extends-further}
use Rattle.loc_encode.specs.Lines.{Sourced, sourced, of_kind}
use Rattle.loc_encode.specs.Making.{IsKindIn}
use Rattle.loc_encode.proofs.DefinitionLemmas.{IsPlainDefinition-from, few-args, plain-args, few-attrs, wide-attrs}
use Rattle.loc_encode.proofs.DefinitionLemmas.{narrow-attrs, inputs-made, can-graft, kinds-made}
use Rattle.loc_encode.proofs.GrowthLemmas.{kinds_keep, all-stay}
use Rattle.loc_encode.proofs.lines.add_op.Goals as goal

pub arg_terms-requires-clause-few : goal.arg_terms-requires-clause-few
arg_terms-requires-clause-few c =
    let name = c.op-definition.ensures.0 in
    let d = c.op-definition.result.now in
    let is = IsPlainDefinition-from c.args.spec.now c.args.op c.from.result name d c.from.ensures
    c.op-definition.ensures.1 c.requires.plain in
    few-args c.args.spec.now c.args.op name d c.as_slice-sorts.result.now is c.as_slice-sorts.ensures

pub arg_terms-requires-clause-plain : goal.arg_terms-requires-clause-plain
arg_terms-requires-clause-plain c =
    let name = c.op-definition.ensures.0 in
    let d = c.op-definition.result.now in
    let is = IsPlainDefinition-from c.args.spec.now c.args.op c.from.result name d c.from.ensures
    c.op-definition.ensures.1 c.requires.plain in
    plain-args c.args.spec.now c.args.op name d c.as_slice-sorts.result.now is c.as_slice-sorts.ensures

pub add_attr_terms-requires-clause-few : goal.add_attr_terms-requires-clause-few
add_attr_terms-requires-clause-few c =
    let name = c.op-definition.ensures.0 in
    let d = c.op-definition.result.now in
    let is = IsPlainDefinition-from c.args.spec.now c.args.op c.from.result name d c.from.ensures
    c.op-definition.ensures.1 c.requires.plain in
    few-attrs c.args.spec.now c.args.op name d c.as_slice-widths.result.now is c.as_slice-widths.ensures

pub add_attr_terms-requires-clause-wide : goal.add_attr_terms-requires-clause-wide
add_attr_terms-requires-clause-wide c =
    let name = c.op-definition.ensures.0 in
    let d = c.op-definition.result.now in
    let is = IsPlainDefinition-from c.args.spec.now c.args.op c.from.result name d c.from.ensures
    c.op-definition.ensures.1 c.requires.plain in
    wide-attrs c.args.spec.now c.args.op name d c.as_slice-widths.result.now is c.as_slice-widths.ensures

pub add_attr_terms-requires-clause-narrow : goal.add_attr_terms-requires-clause-narrow
add_attr_terms-requires-clause-narrow c =
    let name = c.op-definition.ensures.0 in
    let d = c.op-definition.result.now in
    let is = IsPlainDefinition-from c.args.spec.now c.args.op c.from.result name d c.from.ensures
    c.op-definition.ensures.1 c.requires.plain in
    narrow-attrs c.args.spec.now c.args.op name d c.as_slice-widths.result.now is c.as_slice-widths.ensures

pub add_results-requires-clause-can : goal.add_results-requires-clause-can
add_results-requires-clause-can c =
    let s = c.args.spec.now in
    let old = c.args.terms.now in
    let name = c.op-definition.ensures.0 in
    let d = c.op-definition.result.now in
    let is = IsPlainDefinition-from s c.args.op c.from.result name d c.from.ensures c.op-definition.ensures.1
    c.requires.plain in
    let sources : List Sourced = map (sourced old) c.args.sources.now in
    let more = Extends-further old c.arg_terms.new.terms c.add_attr_terms.new.terms c.arg_terms.ensures.extends
    c.add_attr_terms.ensures.extends in
    let made = inputs-made s c.args.op c.args.line name d sources c.as_slice-sorts.result.now
    c.as_slice-widths.result.now _ _ c.as_slice-sorts.ensures c.as_slice-widths.ensures c.in_ok-inputs.ensures.terms
    c.in_ok-add_attr_terms.ensures.terms in
    can-graft s c.len.ensures.table c.args.op c.args.line name d is old c.add_attr_terms.new.terms c.requires.pointer
    more c.args.sources.now c.requires.sources c.add_attr_terms.new.ids.items c.deref.result.now
    c.in_ok-add_attr_terms.ensures.there c.deref.ensures.value made c.as_slice-results.result.now
    c.as_slice-results.ensures

pub add_results-requires-clause-kinds : goal.add_results-requires-clause-kinds
add_results-requires-clause-kinds c =
    let old = c.args.terms.now in
    all-stay IsKindIn of_kind kinds_keep old c.add_attr_terms.new.terms
    (Extends-further old c.arg_terms.new.terms c.add_attr_terms.new.terms c.arg_terms.ensures.extends
    c.add_attr_terms.ensures.extends) c.args.kinds.now.items c.requires.kinds

pub returns-clause-kinds : goal.returns-clause-kinds
returns-clause-kinds c =
    let s = c.args.spec.now in
    let old = c.args.terms.now in
    let name = c.op-definition.ensures.0 in
    let d = c.op-definition.result.now in
    let is = IsPlainDefinition-from s c.args.op c.from.result name d c.from.ensures c.op-definition.ensures.1
    c.requires.plain in
    let sources : List Sourced = map (sourced old) c.args.sources.now in
    let more = Extends-further old c.arg_terms.new.terms c.add_attr_terms.new.terms c.arg_terms.ensures.extends
    c.add_attr_terms.ensures.extends in
    let made = inputs-made s c.args.op c.args.line name d sources c.as_slice-sorts.result.now
    c.as_slice-widths.result.now _ _ c.as_slice-sorts.ensures c.as_slice-widths.ensures c.in_ok-inputs.ensures.terms
    c.in_ok-add_attr_terms.ensures.terms in
    on_ok_weaker c.add_results.result
    (λ e. kinds-made s c.args.op c.args.line name d is old c.add_attr_terms.new.terms c.add_results.new.terms
    c.requires.pointer more sources c.args.kinds.now.items c.add_results.new.kinds.items c.requires.kinds
    c.add_attr_terms.new.ids.items c.deref.result.now c.deref.ensures.value made c.as_slice-results.result.now
    c.as_slice-results.ensures e) c.add_results.ensures.kinds
