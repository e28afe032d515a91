use Rattle.std.proofs.Common.{◌∙◌, sym}
use Rattle.std.proofs.lemmas.List.{length-map}
use Rattle.list_lemmas.proofs.Bools.{le-from_test}
use Rattle.sexp_read.specs.Forest.{tree_at}
use Rattle.isel_spec.specs.Spec.{file}
use Rattle.spec_reader.specs.Parts.{parts_by}
use Rattle.spec_reader.proofs.FormedLemmas.{parts-formed}
use Rattle.spec_reader.proofs.AddLemmas.{is-tested, fitting, sound-with-operation, sound-with-goal}
use Rattle.spec_reader.proofs.add.with_definition.Goals as goal

pub with_goal-requires-clause-named : goal.with_goal-requires-clause-named
with_goal-requires-clause-named c =
    let parts = parts_by (tree_at c.args.bytes.now c.args.forest.now.items) c.args.parts.now in
    let formed = parts-formed c.requires.formed.0 parts c.requires.formed.1 in
    formed.name

pub with_goal-requires-clause-cheap : goal.with_goal-requires-clause-cheap
with_goal-requires-clause-cheap c =
    let parts = parts_by (tree_at c.args.bytes.now c.args.forest.now.items) c.args.parts.now in
    let tested = is-tested (file c.args.spec) c.args.span parts c.requires.sound in
    le-from_test parts.cost 65535 tested.cost

pub with_goal-requires-clause-sound : goal.with_goal-requires-clause-sound
with_goal-requires-clause-sound c =
    let tree = tree_at c.args.bytes.now c.args.forest.now.items in
    let parts = parts_by tree c.args.parts.now in
    let results = c.args.results.items in
    sound-with-goal c.args.spec c.args.span parts results
    (fitting c.args.spec c.args.span parts results c.requires.formed.0 c.requires.formed.1 c.requires.sound
    (c.requires.count ∙ sym (length-map c.args.parts.now.results.now tree)) c.requires.nodes c.requires.stay
    c.requires.shaped)
    c.if-parts.true

pub with_operation-requires-clause-named : goal.with_operation-requires-clause-named
with_operation-requires-clause-named c =
    let parts = parts_by (tree_at c.args.bytes.now c.args.forest.now.items) c.args.parts.now in
    let formed = parts-formed c.requires.formed.0 parts c.requires.formed.1 in
    formed.name

pub with_operation-requires-clause-sound : goal.with_operation-requires-clause-sound
with_operation-requires-clause-sound c =
    let tree = tree_at c.args.bytes.now c.args.forest.now.items in
    let parts = parts_by tree c.args.parts.now in
    let results = c.args.results.items in
    sound-with-operation c.args.spec c.args.span parts results
    (fitting c.args.spec c.args.span parts results c.requires.formed.0 c.requires.formed.1 c.requires.sound
    (c.requires.count ∙ sym (length-map c.args.parts.now.results.now tree)) c.requires.nodes c.requires.stay
    c.requires.shaped)
    c.if-parts.false
