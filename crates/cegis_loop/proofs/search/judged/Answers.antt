use Rattle.std.proofs.Common.{Some, refl, subst}
use Rattle.bv_terms.specs.Sorts.{HaveSorts}
use Rattle.isel_spec.specs.Spec.{file}
use Rattle.list_lemmas.proofs.Lookups.{All-slice_get}
use Rattle.pattern_core.specs.declared.pattern.Example.{Example}
use Rattle.pattern_core.specs.Claim.{Claim, IsClaim}
use Rattle.cegis_loop.specs.Trial.{IsTriedAt}
use Rattle.cegis_loop.proofs.search.judged.Goals as goal

pub first_difference-requires-clause-well_formed : goal.first_difference-requires-clause-well_formed
first_difference-requires-clause-well_formed c = λ g h.
    let k : Claim = record { file = file c.args.spec.now; goal = g; ops = c.args.multi.now } in
    let is : IsClaim c.args.spec.now c.args.goal c.args.multi.now k =
    record { of_file = refl; of_goal = h; of_ops = refl } in
    (c.requires.pattern k is).well_formed

pub confirm-requires-clause-well_formed : goal.confirm-requires-clause-well_formed
confirm-requires-clause-well_formed c = λ g h.
    let k : Claim = record { file = file c.args.spec.now; goal = g; ops = c.args.multi.now } in
    let is : IsClaim c.args.spec.now c.args.goal c.args.multi.now k =
    record { of_file = refl; of_goal = h; of_ops = refl } in
    (c.requires.pattern k is).well_formed

pub returns-in_err-example-clause-cases : goal.returns-in_err-example-clause-cases
returns-in_err-example-clause-cases c =
    (c.requires.cases.0, c.first_difference.ensures.cases c.requires.cases.0 c.requires.cases.1)

pub returns-in-Some-clause-cases : goal.returns-in-Some-clause-cases
returns-in-Some-clause-cases c =
    (c.requires.cases.0, c.first_difference.ensures.cases c.requires.cases.0 c.requires.cases.1)

pub returns-clause-cases : goal.returns-clause-cases
returns-clause-cases c =
    (c.requires.cases.0, c.first_difference.ensures.cases c.requires.cases.0 c.requires.cases.1)

pub returns-in-Some-clause-answer : goal.returns-in-Some-clause-answer
returns-in-Some-clause-answer c = λ k is.
    let xs = c.requires.cases.0 in
    let are = c.requires.cases.1 in
    let x = c.in-Some.example in
    let first : IsTriedAt k c.args.pattern.now xs (Some x) =
    subst (IsTriedAt k c.args.pattern.now xs) c.in-Some.is
    (c.in_ok-example.ensures.first k c.args.multi.now xs is are) in (
      All-slice_get (λ (y : Example). HaveSorts k.goal.args y.inputs) xs first.place x (are.sorts k.goal is.of_goal)
          first.stands,
      first.differs,
    )
