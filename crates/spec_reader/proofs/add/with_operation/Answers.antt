use Rattle.std.proofs.Common.{◌≡◌, ◌∙◌, ℕ, List, [], ◌∷◌, ◌++◌, map, sym, ap, subst, true}
use Rattle.sexp_read.specs.Forest.{tree_at}
use Rattle.sexp_read.specs.Words.{is_name}
use Rattle.isel_spec.specs.declared.definitions.OpDef.{OpDef}
use Rattle.isel_spec.specs.File.{is_sound}
use Rattle.isel_spec.specs.Spec.{file}
use Rattle.spec_reader.specs.declared.form.Param.{Param}
use Rattle.spec_reader.specs.Parts.{parts_by}
use Rattle.bv_terms.specs.Sorts.{width_of}
use Rattle.spec_reader.proofs.NameLemmas.{name-is-name}
use Rattle.spec_reader.proofs.AddLemmas.{made-operation, file-with-operation}
use Rattle.spec_reader.proofs.add.with_operation.Goals as goal

pub text_of-requires : goal.text_of-requires
text_of-requires c =
    subst (λ (word : List ℕ). is_name word ≡ true) (sym c.name_of.ensures)
    (name-is-name (tree_at c.args.bytes.now c.args.forest.now.items c.args.parts.now.name) c.requires.named)

pub add_op-requires : goal.add_op-requires
add_op-requires c =
    let tree = tree_at c.args.bytes.now c.args.forest.now.items in
    let s = c.args.spec in
    let made = made-operation tree c.args.parts.now c.args.results.items _ _ _ _
    (c.in_ok-name.ensures ∙ c.name_of.ensures)
    (c.in_ok-sorts_of.ensures ∙ ap (map (λ (q : Param). q.sort)) c.as_slice.ensures.value)
    (c.in_ok-widths_of.ensures ∙ ap (map (λ (q : Param). width_of q.sort)) c.as_slice-2.ensures.value)
    c.from_vec.ensures in
    record {
      sound = subst (λ (e : List ℕ × OpDef). is_sound s.pointer s.terms (s.ops ++ e ∷ []) s.goals ≡ true) (sym made)
          c.requires.sound;
    }

pub returns : goal.returns
returns c =
    let tree = tree_at c.args.bytes.now c.args.forest.now.items in
    let made = made-operation tree c.args.parts.now c.args.results.items _ _ _ _
    (c.in_ok-name.ensures ∙ c.name_of.ensures)
    (c.in_ok-sorts_of.ensures ∙ ap (map (λ (q : Param). q.sort)) c.as_slice.ensures.value)
    (c.in_ok-widths_of.ensures ∙ ap (map (λ (q : Param). width_of q.sort)) c.as_slice-2.ensures.value)
    c.from_vec.ensures in
    ap file c.in_ok-add_op.ensures.ok.1
    ∙ file-with-operation c.args.spec (parts_by tree c.args.parts.now) c.args.results.items _ made
    c.requires.operation
