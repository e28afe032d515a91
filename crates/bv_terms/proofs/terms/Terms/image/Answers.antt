-- An input's image is the node in its place; any other node's is made over the images of its arguments.
use Rattle.std.proofs.Common.{◌∙◌, ◌<◌, Some, All, length, sym, ap, subst}
use Rattle.std.proofs.lemmas.Option.{slice_get_within, get_or_from_slice_get}
use Rattle.bv_terms.specs.declared.op.TermId.{TermId}
use Rattle.bv_terms.specs.Table.{term_at, make_refusal}
use Rattle.bv_terms.proofs.GraftLemmas.{AreImages-beside, input-image, IsMoved, moved-few, moved-within, moved-allowed}
use Rattle.bv_terms.proofs.GraftLemmas.{moved-made}
use Rattle.bv_terms.proofs.terms.Terms.image.Goals as goal

pub bounds-inputs-number : goal.bounds-inputs-number
bounds-inputs-number c =
    let found = input-image c.args.self.now c.args.from.now c.args.inputs.now c.args.nodes.now c.args.at
    c.requires.graftable c.requires.ready c.in-Input.number c.in-Input.sort c.node.result.1.now
    (c.node.ensures ∙ ap (λ o. Some (record { op = o; args = c.node.result.1.now })) c.in-Input.is) in
    slice_get_within c.args.inputs.now c.in-Input.number found.0 found.1

pub returns-in-Input-clause-term : goal.returns-in-Input-clause-term
returns-in-Input-clause-term c =
    let found = input-image c.args.self.now c.args.from.now c.args.inputs.now c.args.nodes.now c.args.at
    c.requires.graftable c.requires.ready c.in-Input.number c.in-Input.sort c.node.result.1.now
    (c.node.ensures ∙ ap (λ o. Some (record { op = o; args = c.node.result.1.now })) c.in-Input.is) in
    ap (term_at c.args.self.now) (get_or_from_slice_get c.args.inputs.now c.in-Input.number found.0 _ found.1) ∙ found.2

pub returns-in-Input-clause-within : goal.returns-in-Input-clause-within
returns-in-Input-clause-within c =
    let found = input-image c.args.self.now c.args.from.now c.args.inputs.now c.args.nodes.now c.args.at
    c.requires.graftable c.requires.ready c.in-Input.number c.in-Input.sort c.node.result.1.now
    (c.node.ensures ∙ ap (λ o. Some (record { op = o; args = c.node.result.1.now })) c.in-Input.is) in
    c.requires.graftable.inputs_within c.in-Input.number _
    (slice_get_within c.args.inputs.now c.in-Input.number found.0 found.1)

pub images_of-moved-requires : goal.images_of-moved-requires
images_of-moved-requires c =
    let is : IsMoved c.args.self.now c.args.from.now c.args.inputs.now c.args.nodes.now c.args.images.now c.args.at
    c.node.result.0.now c.node.result.1.now = record {
      may = c.requires.graftable;
      rising = c.requires.rising;
      are = c.requires.images;
      ready = c.requires.ready;
      stands = c.node.ensures;
      other = c.in_default.not-Input;
    } in
    record {
      rising = c.requires.rising;
      beside = AreImages-beside c.args.self.now c.args.from.now _ c.args.nodes.now c.args.images.now c.requires.images;
      few = moved-few c.args.self.now c.args.from.now c.args.inputs.now c.args.nodes.now c.args.images.now c.args.at
          c.node.result.0.now c.node.result.1.now is;
      listed = c.requires.ready.arguments _ c.node.ensures;
    }

pub make_sorted-requires : goal.make_sorted-requires
make_sorted-requires c =
    let is : IsMoved c.args.self.now c.args.from.now c.args.inputs.now c.args.nodes.now c.args.images.now c.args.at
    c.node.result.0.now c.node.result.1.now = record {
      may = c.requires.graftable;
      rising = c.requires.rising;
      are = c.requires.images;
      ready = c.requires.ready;
      stands = c.node.ensures;
      other = c.in_default.not-Input;
    } in
    record {
      args = subst (All (λ (a : TermId). a.0 < length c.args.self.now.nodes)) (sym c.images_of-moved.ensures)
          (moved-within c.args.self.now c.args.from.now c.args.inputs.now c.args.nodes.now c.args.images.now c.args.at
          c.node.result.0.now c.node.result.1.now is);
      sorted = ap (make_refusal c.args.self.now c.node.result.0.now) c.images_of-moved.ensures
          ∙ moved-allowed c.args.self.now c.args.from.now c.args.inputs.now c.args.nodes.now c.args.images.now c.args.at
          c.node.result.0.now c.node.result.1.now is;
    }

pub returns-clause-term : goal.returns-clause-term
returns-clause-term c =
    let is : IsMoved c.args.self.now c.args.from.now c.args.inputs.now c.args.nodes.now c.args.images.now c.args.at
    c.node.result.0.now c.node.result.1.now = record {
      may = c.requires.graftable;
      rising = c.requires.rising;
      are = c.requires.images;
      ready = c.requires.ready;
      stands = c.node.ensures;
      other = c.in_default.not-Input;
    } in
    moved-made c.args.self.now c.args.from.now c.args.inputs.now c.args.nodes.now c.args.images.now c.args.at
    c.node.result.0.now c.node.result.1.now _ is c.images_of-moved.ensures c.make_sorted.new.self c.make_sorted.result
    c.make_sorted.ensures.term
