use Rattle.std.proofs.Common.{[], refl, subst}
use Rattle.isel_spec.specs.Spec.{file}
use Rattle.pattern_core.specs.Claim.{Claim, IsClaim}
use Rattle.pattern_core.proofs.EvalLemmas.{some_goal}
use Rattle.cegis_loop.specs.Answer.{IsAsked}
use Rattle.cegis_loop.proofs.confirmation.concluded.Goals as goal

pub returns-in-Yes : goal.returns-in-Yes
returns-in-Yes c = λ k ops is.
    subst (IsAsked k c.args.pattern.now c.args.units c.args.left) c.in-Yes.is (c.requires.asked k ops is)

pub returns-in-No : goal.returns-in-No
returns-in-No c = λ k ops is.
    subst (IsAsked k c.args.pattern.now c.args.units c.args.left) c.in-No.is (c.requires.asked k ops is)

pub unanswered-requires-clause-left : goal.unanswered-requires-clause-left
unanswered-requires-clause-left c =
    let g = some_goal c.args.spec.now c.args.goal c.requires.there in
    let k : Claim = record { file = file c.args.spec.now; goal = g.0; ops = [] } in
    let is : IsClaim c.args.spec.now c.args.goal [] k = record { of_file = refl; of_goal = g.1; of_ops = refl } in
    (subst (IsAsked k c.args.pattern.now c.args.units c.args.left) c.in-Spent.is (c.requires.asked k [] is)).0

pub unanswered-requires-clause-call : goal.unanswered-requires-clause-call
unanswered-requires-clause-call c = λ k ops is.
    (subst (IsAsked k c.args.pattern.now c.args.units c.args.left) c.in-Spent.is (c.requires.asked k ops is)).1
