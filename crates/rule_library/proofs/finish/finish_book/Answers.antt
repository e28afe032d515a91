use Rattle.std.proofs.Common.{ℕ, List, subst, sym, ◌∙◌, arith}
use Rattle.isel_spec.specs.Spec.{file}
use Rattle.multiset_rank.specs.Claims.{Plan}
use Rattle.pattern_core.specs.declared.pattern.GoalAnswer.{GoalAnswer}
use Rattle.claim_outcome.specs.declared.outcome.Outcome.{Outcome}
use Rattle.rule_library.specs.Answer.{IsAnswerOf, AreAnswersOf}
use Rattle.rule_library.proofs.EntryLemmas.{AreSorted-from_right}
use Rattle.rule_library.proofs.FinishLemmas.{answers-more, all-promised}
use Rattle.rule_library.proofs.finish.finish_book.Goals as goal

pub of_book-requires-clause-sorted : goal.of_book-requires-clause-sorted
of_book-requires-clause-sorted c =
    AreSorted-from_right (file c.args.spec.now) c.args.plan c.requires.right.0 c.args.book.now c.requires.plan.goals
    c.requires.right.1

pub loop-goal-preserved : goal.loop-goal-preserved
loop-goal-preserved c =
    let index = c.in_ok-index.ensures in
    let a : GoalAnswer = c.in_ok-answer.field-0 in
    let of_plan =
    subst (λ (p : Plan). IsAnswerOf p c.in_ok-index.index.book.now c.loop-goal.goal a) index.plan
    c.in_ok-answer.ensures in
    let of_book =
    subst (λ (book : List (ℕ × Outcome)). IsAnswerOf c.args.plan book c.loop-goal.goal a) index.book of_plan in
    let more =
    answers-more c.args.plan c.args.book.now c.loop-goal.goal c.loop-goal.goals.items c.push.new.self.items a
    c.in_ok-push.ensures.items c.loop-goal.invariant.as_many of_book c.loop-goal.invariant.each in
    record { as_many = more.0; each = more.1 }

pub returns-clause-promise : goal.returns-clause-promise
returns-clause-promise c = λ budget right.
    let size = c.loop-goal.invariant.as_many in
    let all = c.goals-goal-end.ensures.value in
    let past = c.loop-goal-test.false in
    let most = c.loop-goal.auto.goal-end in
    all-promised c.args.spec.now c.args.plan budget c.args.book.now c.from_vec.result c.len.ensures.table
    c.requires.plan c.requires.book (sym c.has_run_out.ensures ∙ c.if-has_run_out.false) right
    (subst (AreAnswersOf c.args.plan c.args.book.now) (sym c.from_vec.ensures)
    (record { as_many = omega (arith, size, all, past, most); each = c.loop-goal.invariant.each }))
