use Rattle.std.proofs.Common.{◌∷◌, ◌++◌, [], map, take, get_or, sym, subst}
use Rattle.std.proofs.lemmas.List.{take_more}
use Rattle.bv_terms.specs.declared.op.TermId.{TermId}
use Rattle.bv_terms.specs.Term.{Term}
use Rattle.bv_terms.specs.Table.{term_at}
use Rattle.bv_terms.specs.Graft.{AreGraftable}
use Rattle.bv_terms.specs.Replaced.{ReplacementsFit}
use Rattle.bv_terms.proofs.GraftLemmas.{IsGrafting, IsGrafting-more, Extends-terms}
use Rattle.pattern_core.proofs.symbolic.graft_all.Goals as goal

pub graft-requires-clause-fit : goal.graft-requires-clause-fit
graft-requires-clause-fit c =
    let zeroth : TermId = record { 0 = 0 } in
    let old = c.args.terms.now in
    let table = c.loop-at.terms in
    let inputs = c.args.inputs.now in
    let at : Term = term_at c.args.from.now (get_or c.args.results.now c.loop-at.at-index zeroth) in
    let same = Extends-terms old table c.loop-at.invariant.extends inputs c.requires.within in
    subst (λ p. ReplacementsFit p (map (term_at table) inputs) at) (sym c.loop-at.invariant.extends.pointer)
    (subst (λ ts. ReplacementsFit old.pointer ts at) (sym same)
    (c.requires.fit c.loop-at.at-index zeroth c.loop-at-test.true))

pub loop-at-preserved : goal.loop-at-preserved
loop-at-preserved c =
    let zeroth : TermId = record { 0 = 0 } in
    let old = c.args.terms.now in
    let new = c.graft.new.self in
    let from = c.args.from.now in
    let inputs = c.args.inputs.now in
    let results = c.args.results.now in
    let i = c.loop-at.at-index in
    let at : TermId = get_or results i zeroth in
    let may : AreGraftable old from inputs = record {
      is_table = c.len.ensures.table;
      is_other = c.len-2.ensures.table;
      pointer = c.requires.pointer;
      inputs_within = c.requires.within;
    } in
    let more =
    IsGrafting-more old c.loop-at.terms new from inputs (take i results) c.loop-at.nodes.items at c.in_ok-node.node may
    c.loop-at.invariant c.in_ok-node.ensures.table c.in_ok-node.ensures.extends c.in_ok-node.ensures.within
    c.in_ok-node.ensures.term in
    subst (λ nodes. IsGrafting old new from inputs nodes c.push.new.self.items)
    (sym (take_more results i zeroth c.loop-at-test.true))
    (subst (IsGrafting old new from inputs (take i results ++ at ∷ [])) (sym c.in_ok-push.ensures.items) more)
