use Rattle.std.proofs.Common.{◌≡◌, ◌∙◌, [], map, sym}
use Rattle.std.proofs.lemmas.Result.{IfOk-weaker}
use Rattle.sexp_read.specs.Forest.{tree_at}
use Rattle.isel_spec.specs.Spec.{file}
use Rattle.spec_reader.specs.Form.{Param}
use Rattle.spec_reader.specs.Parts.{parts_by}
use Rattle.spec_reader.specs.Walk.{count_fault, defined, name_fault, limit_fault, names_fault, params_of}
use Rattle.spec_reader.specs.Walk.{definition_fault}
use Rattle.spec_reader.proofs.DefinitionLemmas.{first-of-four, second-of-four, third-of-four, last-of-four}
use Rattle.spec_reader.proofs.item.definition_fault.Goals as goal

pub returns-in-Some : goal.returns-in-Some
returns-in-Some c =
    let tree = tree_at c.args.bytes.now c.args.forest.now.items in
    let parts = parts_by tree c.args.parts.now in
    first-of-four (count_fault (file c.args.spec.now) parts c.args.span)
    (name_fault (defined (file c.args.spec.now)) parts.name) (limit_fault parts c.args.span)
    (names_fault [] (map (λ (p : Param). p.name) (params_of parts))) c.in-Some.fault
    (sym (c.count_fault.ensures tree) ∙ c.in-Some.is)

pub returns-in-Some-own_name_fault : goal.returns-in-Some-own_name_fault
returns-in-Some-own_name_fault c =
    let tree = tree_at c.args.bytes.now c.args.forest.now.items in
    let parts = parts_by tree c.args.parts.now in
    second-of-four (count_fault (file c.args.spec.now) parts c.args.span)
    (name_fault (defined (file c.args.spec.now)) parts.name) (limit_fault parts c.args.span)
    (names_fault [] (map (λ (p : Param). p.name) (params_of parts))) c.in-Some-own_name_fault.fault
    (sym (c.count_fault.ensures tree) ∙ c.in_default.is)
    (sym c.own_name_fault.ensures ∙ c.in-Some-own_name_fault.is)

pub returns-in-Some-limit_fault : goal.returns-in-Some-limit_fault
returns-in-Some-limit_fault c =
    let tree = tree_at c.args.bytes.now c.args.forest.now.items in
    let parts = parts_by tree c.args.parts.now in
    third-of-four (count_fault (file c.args.spec.now) parts c.args.span)
    (name_fault (defined (file c.args.spec.now)) parts.name) (limit_fault parts c.args.span)
    (names_fault [] (map (λ (p : Param). p.name) (params_of parts))) c.in-Some-limit_fault.fault
    (sym (c.count_fault.ensures tree) ∙ c.in_default.is)
    (sym c.own_name_fault.ensures ∙ c.in_default-own_name_fault.is)
    (sym (c.limit_fault.ensures tree) ∙ c.in-Some-limit_fault.is)

pub returns : goal.returns
returns c =
    let tree = tree_at c.args.bytes.now c.args.forest.now.items in
    let parts = parts_by tree c.args.parts.now in
    IfOk-weaker c.params_fault.result _
    (λ fault. fault ≡ definition_fault (file c.args.spec.now) c.args.span parts)
    (λ fault e. last-of-four (count_fault (file c.args.spec.now) parts c.args.span)
    (name_fault (defined (file c.args.spec.now)) parts.name) (limit_fault parts c.args.span)
    (names_fault [] (map (λ (p : Param). p.name) (params_of parts))) fault
    (sym (c.count_fault.ensures tree) ∙ c.in_default.is)
    (sym c.own_name_fault.ensures ∙ c.in_default-own_name_fault.is)
    (sym (c.limit_fault.ensures tree) ∙ c.in_default-limit_fault.is) e)
    c.params_fault.ensures
