use Rattle.std.proofs.Common.{◌∙◌, ◌<◌, ap, sym, subst, map, length, take, arith}
use Rattle.std.specs.List.{filter_map}
use Rattle.std.proofs.lemmas.Grind.{common_steps}
use Rattle.std.proofs.lemmas.List.{take_all}
use Rattle.std.proofs.lemmas.List.Elements.{All-contains, filter_map-append}
use Rattle.bv_terms.specs.declared.op.TermId.{TermId}
use Rattle.bv_terms.specs.Table.{term_at}
use Rattle.bv_query.specs.Inputs.{input_of, AreInputsOf}
use Rattle.bv_query.proofs.InputLemmas.{Numbered, AreInputsOf-nodes}
use Rattle.list_lemmas.proofs.Members.{Contains-from_In}
use Rattle.bv_query.proofs.inputs.inputs_of.Goals as goal

pub loop-at-preserved : goal.loop-at-preserved
loop-at-preserved c = grind (arith, common_steps, filter_map-append)

pub returns : goal.returns
returns c =
    let table = c.args.terms.now in
    let formulas = c.args.formulas.now in
    subst (AreInputsOf (map (term_at table) formulas))
    (sym (c.loop-at.invariant
    ∙ ap (λ nodes. filter_map (λ (at : TermId). input_of (term_at table at)) (take c.loop-at.at-index nodes))
    c.deref-at-items.ensures.value
    ∙ ap (filter_map (λ (at : TermId). input_of (term_at table at)))
    (take_all c.loop-at.at-index c.in_ok-nodes.nodes.items (omega (
      arith,
      c.loop-at-test.false,
      ap length c.deref-at-items.ensures.value,
    )))))
    (AreInputsOf-nodes table c.len-count.ensures.table formulas c.in_ok-nodes.nodes.items
    (λ r i. All-contains (λ (at : TermId). at.0 < length table.nodes) formulas r c.requires
    (Contains-from_In formulas r i)) c.in_ok-nodes.ensures.exact)
