-- The node's image stands beside it, since the term is one of its own subterms.
use Rattle.std.proofs.Common.{◌≡◌, ◌∙◌, ◌<◌, List, All, Contains, length, map, sym, ap, subst, arith}
use Rattle.bv_terms.specs.declared.op.TermId.{TermId}
use Rattle.bv_terms.specs.Table.{term_at}
use Rattle.bv_terms.specs.Replaced.{ReplacementsFit}
use Rattle.bv_terms.specs.Graft.{image_in, AreImages}
use Rattle.bv_terms.proofs.GraftLemmas.{image-at, subterms-fit, IsGraft, graft-sort, graft-value, graft-thing}
use Rattle.bv_terms.proofs.GraftLemmas.{graft-fit, Extends-term}
use Rattle.bv_terms.proofs.terms.Terms.graft.Goals as goal

pub images-requires-clause-fit : goal.images-requires-clause-fit
images-requires-clause-fit c =
    let old = c.args.self.now in
    let ts = map (term_at old) c.args.inputs.now in
    subst (All (λ (a : TermId). ReplacementsFit old.pointer ts (term_at c.args.from.now a))) (sym c.deref.ensures.value)
    (subterms-fit old.pointer ts c.args.from.now c.args.at c.in_ok-nodes.nodes.items c.in_ok-nodes.ensures.exact
    c.requires.fit)

pub image_of-requires-clause-listed : goal.image_of-requires-clause-listed
image_of-requires-clause-listed c =
    subst (λ (ns : List TermId). Contains ns c.args.at) (sym c.deref-2.ensures.value)
    (c.in_ok-nodes.ensures.results 0 c.args.at (omega arith))

pub returns-clause-term : goal.returns-clause-term
returns-clause-term c =
    let new = c.images.new.self in
    let from = c.args.from.now in
    let at = c.args.at in
    let ts = map (term_at c.args.self.now) c.args.inputs.now in
    let nodes = c.in_ok-nodes.nodes.items in
    let images = c.in_ok-images.images.items in
    let is : c.image_of.result ≡ image_in nodes images at =
    c.image_of.ensures ∙ ap (λ ns. image_in ns c.deref-3.result.now at) c.deref-2.ensures.value
    ∙ ap (λ is. image_in nodes is at) c.deref-3.ensures.value in
    let are = subst (λ ns. AreImages new from ts ns images) c.deref.ensures.value c.in_ok-images.ensures.images in
    ap (term_at new) is ∙ (image-at new from ts nodes images c.in_ok-nodes.ensures.exact.rising are at
    (c.in_ok-nodes.ensures.results 0 at (omega arith))).1

pub returns-clause-within : goal.returns-clause-within
returns-clause-within c =
    let new = c.images.new.self in
    let from = c.args.from.now in
    let at = c.args.at in
    let ts = map (term_at c.args.self.now) c.args.inputs.now in
    let nodes = c.in_ok-nodes.nodes.items in
    let images = c.in_ok-images.images.items in
    let is : c.image_of.result ≡ image_in nodes images at =
    c.image_of.ensures ∙ ap (λ ns. image_in ns c.deref-3.result.now at) c.deref-2.ensures.value
    ∙ ap (λ is. image_in nodes is at) c.deref-3.ensures.value in
    let are = subst (λ ns. AreImages new from ts ns images) c.deref.ensures.value c.in_ok-images.ensures.images in
    subst (λ (i : TermId). i.0 < length new.nodes) (sym is)
    (image-at new from ts nodes images c.in_ok-nodes.ensures.exact.rising are at
    (c.in_ok-nodes.ensures.results 0 at (omega arith))).0

pub returns-clause-sort : goal.returns-clause-sort
returns-clause-sort c =
    let is : IsGraft c.args.self.now c.images.new.self c.args.from.now c.args.inputs.now c.args.at c.image_of.result =
    record {
      may = record {
        is_table = c.len.ensures.table;
        is_other = c.len-2.ensures.table;
        pointer = c.requires.pointer;
        inputs_within = c.requires.inputs;
      };
      there = c.requires.there;
      fit = c.requires.fit;
      pointer = c.in_ok-images.ensures.extends.pointer;
      term = returns-clause-term c;
    } in
    graft-sort c.args.self.now c.images.new.self c.args.from.now c.args.inputs.now c.args.at c.image_of.result is

pub returns-clause-value : goal.returns-clause-value
returns-clause-value c =
    let is : IsGraft c.args.self.now c.images.new.self c.args.from.now c.args.inputs.now c.args.at c.image_of.result =
    record {
      may = record {
        is_table = c.len.ensures.table;
        is_other = c.len-2.ensures.table;
        pointer = c.requires.pointer;
        inputs_within = c.requires.inputs;
      };
      there = c.requires.there;
      fit = c.requires.fit;
      pointer = c.in_ok-images.ensures.extends.pointer;
      term = returns-clause-term c;
    } in
    graft-value c.args.self.now c.images.new.self c.args.from.now c.args.inputs.now c.args.at c.image_of.result is

pub returns-clause-thing : goal.returns-clause-thing
returns-clause-thing c =
    let is : IsGraft c.args.self.now c.images.new.self c.args.from.now c.args.inputs.now c.args.at c.image_of.result =
    record {
      may = record {
        is_table = c.len.ensures.table;
        is_other = c.len-2.ensures.table;
        pointer = c.requires.pointer;
        inputs_within = c.requires.inputs;
      };
      there = c.requires.there;
      fit = c.requires.fit;
      pointer = c.in_ok-images.ensures.extends.pointer;
      term = returns-clause-term c;
    } in
    graft-thing c.args.self.now c.images.new.self c.args.from.now c.args.inputs.now c.args.at c.image_of.result is

pub returns-clause-inputs : goal.returns-clause-inputs
returns-clause-inputs c =
    let is : IsGraft c.args.self.now c.images.new.self c.args.from.now c.args.inputs.now c.args.at c.image_of.result =
    record {
      may = record {
        is_table = c.len.ensures.table;
        is_other = c.len-2.ensures.table;
        pointer = c.requires.pointer;
        inputs_within = c.requires.inputs;
      };
      there = c.requires.there;
      fit = c.requires.fit;
      pointer = c.in_ok-images.ensures.extends.pointer;
      term = returns-clause-term c;
    } in
    graft-fit c.args.self.now c.images.new.self c.args.from.now c.args.inputs.now c.args.at c.image_of.result is

-- earlier nodes keep their terms, on both ways out
pub returns-in_err-images-clause-kept : goal.returns-in_err-images-clause-kept
returns-in_err-images-clause-kept c =
    Extends-term c.args.self.now c.images.new.self c.in_err-images.ensures.extends

pub returns-clause-kept : goal.returns-clause-kept
returns-clause-kept c = Extends-term c.args.self.now c.images.new.self c.in_ok-images.ensures.extends
