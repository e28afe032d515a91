use Rattle.std.proofs.Common.{◌<◌, ◌∙◌, ap, length, not, subst, sym}
use Rattle.std.specs.List.{list_any}
use Rattle.std.proofs.lemmas.List.Elements.{All-map}
use Rattle.bv_terms.specs.declared.op.TermId.{TermId}
use Rattle.isel_spec.specs.Memory.{is_load}
use Rattle.term_text.specs.Build.{AreNodes, terms_at}
use Rattle.spec_reader.specs.declared.accesses.Access.{Access}
use Rattle.spec_reader.proofs.AccessLemmas.{plain-pointers}
use Rattle.spec_reader.proofs.accesses.are_plain.Goals as goal

pub subterms-requires : goal.subterms-requires
subterms-requires c =
    subst (AreNodes c.args.terms.now) (sym (c.as_slice.ensures.value ∙ c.in_ok-pointers.ensures))
    (All-map (λ (at : TermId). at.0 < length c.args.terms.now.nodes) (λ (a : Access). a.pointer) c.args.accesses.now
    c.requires)

pub returns : goal.returns
returns c =
    let table = c.args.terms.now in
    let pointers = c.as_slice.ensures.value ∙ c.in_ok-pointers.ensures in
    let within = subst (AreNodes table) (sym pointers)
    (All-map (λ (at : TermId). at.0 < length table.nodes) (λ (a : Access). a.pointer) c.args.accesses.now c.requires) in
    ap not (c.has_load.ensures ∙ ap (λ nodes. list_any is_load (terms_at table nodes)) c.as_slice-2.ensures.value)
    ∙ plain-pointers table c.len-size.ensures.table c.args.accesses.now c.as_slice.result.now c.in_ok-nodes.nodes.items
    pointers within c.in_ok-nodes.ensures.exact
