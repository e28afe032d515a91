use Rattle.std.proofs.Common.{◌≡◌, ◌∙◌, ◌≤◌, ℕ, List, length, ap, sym, subst}
use Rattle.std.proofs.lemmas.List.{length-map}
use Rattle.std.proofs.lemmas.Result.{IfOk-weaker}
use Rattle.bv_terms.specs.declared.value.Sort.{Sort}
use Rattle.isel_spec.specs.declared.definitions.Kind.{Kind}
use Rattle.isel_spec.proofs.SpecLemmas.{IsSoundGoal_at}
use Rattle.pattern_core.specs.Claim.{Claim, IsClaim}
use Rattle.plain_search.proofs.AgreementLemmas.{sorts_are}
use Rattle.cegis_loop.specs.Answer.{IsAsked, IsAnswer}
use Rattle.cegis_loop.proofs.confirmation.confirm.Goals as goal

pub asked-requires-clause-few : goal.asked-requires-clause-few
asked-requires-clause-few c =
    let sound = IsSoundGoal_at c.args.spec.now c.args.goal _ c.goal-definition.ensures.1 in
    let long : length c.deref.result.now ≡ length c.as_slice.result.now =
    ap length (c.deref.ensures.value ∙ c.in_ok-sorts.ensures)
    ∙ length-map c.as_slice.result.now (λ (a : Kind × Sort). a.1) in
    subst (λ n. n ≤ 4) (sym long)
    (subst (λ (args : List (Kind × Sort)). length args ≤ 4) (sym c.as_slice.ensures) sound.few)

pub concluded-requires-clause-few : goal.concluded-requires-clause-few
concluded-requires-clause-few c =
    let sound = IsSoundGoal_at c.args.spec.now c.args.goal _ c.goal-definition.ensures.1 in
    let long : length c.deref-2.result.now ≡ length c.as_slice.result.now =
    ap length (c.deref-2.ensures.value ∙ c.in_ok-sorts.ensures)
    ∙ length-map c.as_slice.result.now (λ (a : Kind × Sort). a.1) in
    subst (λ n. n ≤ 4) (sym long)
    (subst (λ (args : List (Kind × Sort)). length args ≤ 4) (sym c.as_slice.ensures) sound.few)

pub concluded-requires-clause-asked : goal.concluded-requires-clause-asked
concluded-requires-clause-asked c = λ k ops is.
    let p = c.args.pattern.now in
    let d = c.in_ok-decision.decision in
    subst (λ n. IsAsked k p n c.left-left.result d) (sym c.left-units.ensures)
    (subst (λ n. IsAsked k p c.args.fuel.now n d) (sym c.left-left.ensures) (c.in_ok-decision.ensures.answer k ops is))

pub returns-clause-answer : goal.returns-clause-answer
returns-clause-answer c =
    let s = c.args.spec.now in
    let p = c.args.pattern.now in
    IfOk-weaker c.concluded.result
    (λ a. (k : Claim) (ops : List ℕ) → IsClaim s c.args.goal ops k
    → IsAnswer k p c.left-units.result c.left-left.result a) _
    (λ a h. λ k ops is.
    subst (λ n. IsAnswer k p c.args.fuel.now n a) c.left-left.ensures
    (subst (λ n. IsAnswer k p n c.left-left.result a) c.left-units.ensures (h k ops is))) c.concluded.ensures

pub asked-requires-clause-sorts : goal.asked-requires-clause-sorts
asked-requires-clause-sorts c = λ g h.
    let d = c.goal-definition.ensures in
    sorts_are c.args.spec.now c.args.goal d.0 c.goal-definition.result.now c.deref.result.now c.as_slice.result.now d.1
    (c.deref.ensures.value ∙ c.in_ok-sorts.ensures) c.as_slice.ensures g h

pub concluded-requires-clause-sorts : goal.concluded-requires-clause-sorts
concluded-requires-clause-sorts c = λ g h.
    let d = c.goal-definition.ensures in
    sorts_are c.args.spec.now c.args.goal d.0 c.goal-definition.result.now c.deref-2.result.now c.as_slice.result.now
    d.1 (c.deref-2.ensures.value ∙ c.in_ok-sorts.ensures) c.as_slice.ensures g h
