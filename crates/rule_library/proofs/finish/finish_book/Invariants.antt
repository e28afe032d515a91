use Rattle.std.proofs.Common.{◌≡◌, ℕ, length, Some, slice_get}
use Rattle.pattern_core.specs.declared.pattern.GoalAnswer.{GoalAnswer}
use Rattle.rule_library.specs.Answer.{IsAnswerOf}
use Rattle.rule_library.proofs.finish.finish_book.Given as goal

abbrev pub invariant-loop-goal : goal.invariant-loop-goal
invariant-loop-goal l = record {
  as_many : length l.goals.items ≡ l.goal;
  each : (goal : ℕ) (a : GoalAnswer) → slice_get l.goals.items goal ≡ Some a → IsAnswerOf l.fn.plan l.book goal a;
}
