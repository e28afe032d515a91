use Rattle.std.proofs.Common.{◌≡◌, ◌<◌, ◌^◌, [], ◌∷◌, ℕ, List, sym, subst, sum_by}
use Rattle.std.specs.Prelude.{◌↔◌}
use Rattle.std.proofs.lemmas.Result.{IfOk-weaker}
use Rattle.bv_terms.specs.declared.value.Sort.{Sort}
use Rattle.bv_terms.specs.Sorts.{width_of}
use Rattle.isel_spec.specs.File.{File}
use Rattle.isel_spec.specs.Spec.{file}
use Rattle.pattern_core.specs.Claim.{Claim, IsClaim}
use Rattle.pattern_core.specs.Rule.{IsRule, IsPlainRule}
use Rattle.cegis_loop.specs.declared.answer.Confirm.TheVariants as confirm
use Rattle.cegis_loop.specs.Answer.{IsAnswer, IsFoundAmongAll}
use Rattle.cegis_loop.proofs.AnswerLemmas.{spent-is, many-bits}
use Rattle.cegis_loop.proofs.confirmation.unanswered.Goals as goal

pub returns-in_default : goal.returns-in_default
returns-in_default c =
    let s = c.args.spec.now in
    let p = c.args.pattern.now in
    let units : ℕ = c.args.units in
    let many : units < 2 ^ sum_by width_of c.args.sorts.now =
    many-bits units (sum_by width_of c.args.sorts.now) c.ranges.units.fits c.in_default.ensures in
    IfOk-weaker c.spent.result (λ a. a ≡ confirm.Spent (c.args.call ∷ []))
    (λ a. (k : Claim) (ops : List ℕ) → IsClaim s c.args.goal ops k → IsAnswer k p units c.args.left a)
    (λ a e. λ k ops is.
    spent-is k p units c.args.left c.args.call a e c.requires.left
    (subst (λ (ss : List Sort). units < 2 ^ sum_by width_of ss) (c.requires.sorts k.goal is.of_goal) many)
    (c.requires.call k ops is)) c.spent.ensures

pub returns-then-count-units : goal.returns-then-count-units
returns-then-count-units c =
    let s = c.args.spec.now in
    let p = c.args.pattern.now in
    let units : ℕ = c.args.units in
    let many : units < 2 ^ sum_by width_of c.args.sorts.now =
    subst (λ m. units < m) c.in-Some.ensures.1 c.if-count-units.true in
    IfOk-weaker c.spent-then-count-units.result (λ a. a ≡ confirm.Spent (c.args.call ∷ []))
    (λ a. (k : Claim) (ops : List ℕ) → IsClaim s c.args.goal ops k → IsAnswer k p units c.args.left a)
    (λ a e. λ k ops is.
    spent-is k p units c.args.left c.args.call a e c.requires.left
    (subst (λ (ss : List Sort). units < 2 ^ sum_by width_of ss) (c.requires.sorts k.goal is.of_goal) many)
    (c.requires.call k ops is)) c.spent-then-count-units.ensures

pub returns-in-None : goal.returns-in-None
returns-in-None c = λ k ops is.
    let f = file c.args.spec.now in
    let p = c.args.pattern.now in
    let plain : IsPlainRule f k.goal p =
    subst (IsFoundAmongAll f k.goal p) c.in-None.is (c.in_ok-first_of_all.ensures k.goal is.of_goal) in
    let both : IsRule f k.goal p ↔ IsPlainRule f k.goal p =
    c.rules_are_plain.ensures k.goal p is.of_goal (c.requires.well_formed k.goal is.of_goal)
    (c.requires.plain k.goal is.of_goal) in
    subst (λ (x : File). IsRule x k.goal p) (sym is.of_file) (both.1 plain)
