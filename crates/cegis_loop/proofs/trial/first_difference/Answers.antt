use Rattle.std.proofs.Common.{◌≡◌, ◌∙◌, ℕ, List, map}
use Rattle.std.proofs.lemmas.Result.{IfOk-weaker}
use Rattle.pattern_core.specs.declared.pattern.Example.{Example}
use Rattle.pattern_core.specs.Claim.{Claim, IsClaim}
use Rattle.cegis_loop.specs.Trial.{case_at, AreCasesOf, IsTriedAt}
use Rattle.cegis_loop.proofs.TrialLemmas.{cases-sorted}
use Rattle.cegis_loop.proofs.trial.first_difference.Goals as goal

pub first_other-requires-clause-inputs : goal.first_other-requires-clause-inputs
first_other-requires-clause-inputs c = λ g h.
    let are = c.requires.cases.1 in
    cases-sorted g c.requires.cases.0 c.as_slice-cases.result.now (c.as_slice-cases.ensures ∙ are.cases g h)
    (are.sorts g h)

pub returns-clause-first : goal.returns-clause-first
returns-clause-first c =
    let s = c.args.spec.now in
    let place = c.args.goal in
    let p = c.args.pattern.now in
    IfOk-weaker c.first_other.result
    (λ found. (k : Claim) (ops : List ℕ) (xs : List Example) → IsClaim s place ops k
    → c.as_slice-cases.result.now ≡ map (case_at k.goal) xs → IsTriedAt k p xs found)
    (λ found. (k : Claim) (ops : List ℕ) (xs : List Example) → IsClaim s place ops k
    → AreCasesOf s place xs c.args.tests.now → IsTriedAt k p xs found)
    (λ found h. λ k ops xs is are.
    h k ops xs is (c.as_slice-cases.ensures ∙ are.cases k.goal is.of_goal)) c.first_other.ensures.first
