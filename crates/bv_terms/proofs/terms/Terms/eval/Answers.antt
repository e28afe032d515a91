-- Each step fills the place of its node.
use Rattle.std.proofs.Common.{◌∙◌, ◌<◌, All, length, sym, ap, subst, arith}
use Rattle.std.proofs.lemmas.Option.{get_or_from_slice_get}
use Rattle.bv_terms.specs.declared.op.TermId.{TermId}
use Rattle.bv_terms.specs.Sorts.{HasSort}
use Rattle.bv_terms.specs.WellSorted.{InputsFit}
use Rattle.bv_terms.specs.Term.{value}
use Rattle.bv_terms.specs.Table.{term_at, IsTable}
use Rattle.bv_terms.specs.Eval.{IsValued}
use Rattle.bv_terms.proofs.TermLemmas.{value-sorted}
use Rattle.bv_terms.proofs.SubtermLemmas.{entry-at}
use Rattle.bv_terms.specs.Memory.{Plain}
use Rattle.bv_terms.proofs.MemoryLemmas.{term-plain}
use Rattle.bv_terms.proofs.EvalLemmas.{args-valued, IsFilled-more}
use Rattle.bv_terms.proofs.terms.Terms.eval.Goals as goal

pub loop-place-preserved : goal.loop-place-preserved
loop-place-preserved c =
    let table = c.args.self.now in
    let place = c.loop-place.place in
    let at : TermId = record { 0 = place } in
    let inputs_are = c.as_slice-inputs.ensures in
    let within : place < length c.loop-place.room = omega arith in
    let e = entry-at table place (omega arith) in
    IsFilled-more table c.args.env.now.values c.loop-place.room place c.step-value.result within c.loop-place.invariant
    (λ fit.
    let valued = args-valued table c.step-value.ensures.table c.args.env.now.values c.loop-place.room at e.0 e.1
    c.loop-place.invariant fit in
    c.step-value.ensures.value e.0 e.1
    (subst (λ inputs. All (IsValued table inputs c.loop-place.room) e.0.args) (sym inputs_are) valued)
    (subst (λ inputs. InputsFit inputs (term_at table at)) (sym inputs_are) fit)
    ∙ ap (λ inputs. value inputs (term_at table at)) inputs_are)

pub returns-clause-value : goal.returns-clause-value
returns-clause-value c =
    get_or_from_slice_get c.loop-place.room c.args.at.0 _ _
    (c.loop-place.invariant c.args.at.0 (omega arith) c.requires.inputs)

pub returns-clause-sorted : goal.returns-clause-sorted
returns-clause-sorted c = λ s sorted.
    subst (HasSort s) (sym
    (get_or_from_slice_get c.loop-place.room c.args.at.0 _ _
    (c.loop-place.invariant c.args.at.0 (omega arith) c.requires.inputs)))
    (value-sorted c.args.self.now.pointer c.args.env.now.values _ s sorted c.requires.inputs)

pub returns-clause-thing : goal.returns-clause-thing
returns-clause-thing c =
    term-plain c.args.self.now (subst IsTable c.self.view_is c.self.invariant.table) c.args.env.now.values c.args.at
    c.requires.there c.requires.inputs
    ∙ ap Plain (sym (returns-clause-value c))
