-- Each step sets the place of its node, whose arguments stand before it.
use Rattle.std.proofs.Common.{◌∙◌, All, Contains, take, get_or, sym, ap, subst, arith}
use Rattle.std.proofs.lemmas.List.{take_more}
use Rattle.std.proofs.lemmas.List.Elements.{All-contains, All-weaker}
use Rattle.std.proofs.lemmas.Option.{slice_get-get_or}
use Rattle.bv_terms.specs.declared.op.TermId.{TermId}
use Rattle.bv_terms.specs.WellSorted.{InputsFit}
use Rattle.bv_terms.specs.Term.{value}
use Rattle.bv_terms.specs.Table.{term_at}
use Rattle.bv_terms.specs.Eval.{IsValued}
use Rattle.bv_terms.proofs.SubtermLemmas.{entry-at}
use Rattle.bv_terms.proofs.EvalLemmas.{IsAlong, IsAlong-more}
use Rattle.bv_terms.proofs.terms.Terms.eval_nodes.Goals as goal

pub loop-at-preserved : goal.loop-at-preserved
loop-at-preserved c =
    let table = c.args.self.now in
    let nodes = c.args.nodes.now in
    let inputs = c.args.env.now.values in
    let i = c.loop-at.at-index in
    let none : TermId = record { 0 = 0 } in
    let at = get_or nodes i none in
    let e = entry-at table at.0 (c.requires.order.within i none c.loop-at-test.true) in
    let before = c.requires.order.arguments i at e.0 (slice_get-get_or nodes i none c.loop-at-test.true) e.1 in
    let valued : All (IsValued table inputs c.loop-at.room) e.0.args =
    All-weaker (Contains (take i nodes)) (IsValued table inputs c.loop-at.room)
    (λ a c'. All-contains (IsValued table inputs c.loop-at.room) (take i nodes) a c.loop-at.invariant.valued c')
    e.0.args before in
    let is = c.step-value.ensures.value e.0 e.1
    (subst (λ inputs. All (IsValued table inputs c.loop-at.room) e.0.args) (sym c.as_slice-inputs.ensures) valued)
    (subst (λ inputs. InputsFit inputs (term_at table at)) (sym c.as_slice-inputs.ensures)
    (c.requires.inputs i none c.loop-at-test.true))
    ∙ ap (λ inputs. value inputs (term_at table at)) c.as_slice-inputs.ensures in
    subst (IsAlong table inputs c.args.room.now _) (sym (take_more nodes i none c.loop-at-test.true))
    (IsAlong-more table inputs c.args.room.now c.loop-at.room (take i nodes) at c.step-value.result
    (omega arith) c.loop-at.invariant is)
