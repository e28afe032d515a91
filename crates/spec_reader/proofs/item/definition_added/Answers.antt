use Rattle.std.proofs.Common.{◌≡◌, ◌∙◌, map, sym, ap, inr}
use Rattle.sexp_read.specs.Forest.{tree_at}
use Rattle.term_text.specs.Build.{terms_at}
use Rattle.isel_spec.specs.Spec.{file}
use Rattle.spec_reader.specs.Parts.{parts_by}
use Rattle.spec_reader.specs.Walk.{params_of, scope_from, results_fault}
use Rattle.spec_reader.proofs.DefinitionLemmas.{shape-wrong, definition-is}
use Rattle.spec_reader.proofs.AddLemmas.{results-count}
use Rattle.spec_reader.proofs.StaysLemmas.{results-read-stay}
use Rattle.spec_reader.proofs.item.definition_added.Goals as goal

pub returns-in-Some : goal.returns-in-Some
returns-in-Some c =
    let tree = tree_at c.args.bytes.now c.args.forest.now.items in
    let parts = parts_by tree c.args.parts.now in
    let terms = terms_at c.args.spec.terms in
    let wrong : results_fault parts (terms c.args.nodes.items) c.args.span ≡ c.in-Ok.wrong =
    ap (λ nodes. results_fault parts (terms nodes) c.args.span) (sym c.as_slice.ensures.value)
    ∙ sym (c.in-Ok.ensures tree) in
    inr (shape-wrong (file c.args.spec) c.args.span parts (terms c.args.nodes.items) c.in-Some.fault c.requires.sound
    c.requires.read (wrong ∙ c.in-Some.is))

pub with_definition-requires-clause-count : goal.with_definition-requires-clause-count
with_definition-requires-clause-count c =
    let tree = tree_at c.args.bytes.now c.args.forest.now.items in
    results-count c.args.spec.pointer (scope_from 0 (params_of (parts_by tree c.args.parts.now))) tree
    c.args.parts.now.results.now c.args.spec.terms c.args.nodes.items c.requires.read

pub with_definition-requires-clause-stay : goal.with_definition-requires-clause-stay
with_definition-requires-clause-stay c =
    let tree = tree_at c.args.bytes.now c.args.forest.now.items in
    results-read-stay c.args.spec.pointer (params_of (parts_by tree c.args.parts.now))
    (map tree c.args.parts.now.results.now) c.args.spec.terms c.args.nodes.items c.requires.read

pub with_definition-requires-clause-shaped : goal.with_definition-requires-clause-shaped
with_definition-requires-clause-shaped c =
    let tree = tree_at c.args.bytes.now c.args.forest.now.items in
    let parts = parts_by tree c.args.parts.now in
    let terms = terms_at c.args.spec.terms in
    let wrong : results_fault parts (terms c.args.nodes.items) c.args.span ≡ c.in-Ok.wrong =
    ap (λ nodes. results_fault parts (terms nodes) c.args.span) (sym c.as_slice.ensures.value)
    ∙ sym (c.in-Ok.ensures tree) in
    wrong ∙ c.in_default-wrong.is

pub returns-in-Ok-with_definition : goal.returns-in-Ok-with_definition
returns-in-Ok-with_definition c =
    let tree = tree_at c.args.bytes.now c.args.forest.now.items in
    let parts = parts_by tree c.args.parts.now in
    let terms = terms_at c.args.spec.terms in
    let wrong : results_fault parts (terms c.args.nodes.items) c.args.span ≡ c.in-Ok.wrong =
    ap (λ nodes. results_fault parts (terms nodes) c.args.span) (sym c.as_slice.ensures.value)
    ∙ sym (c.in-Ok.ensures tree) in
    definition-is (file c.args.spec) c.args.span parts (terms c.args.nodes.items) (file c.in-Ok-with_definition.more)
    c.requires.sound c.requires.read (wrong ∙ c.in_default-wrong.is) c.in-Ok-with_definition.ensures
