use Rattle.std.proofs.Common.{◌≡◌, ℕ, ◌<◌, ◌≤◌, ◌/◌, ◌^◌, length}
use Rattle.cdcl_base.specs.Scores.{score}
use Rattle.cdcl_base.proofs.decision.scale_down.Given as goal

abbrev pub invariant-loop-score : goal.invariant-loop-score
invariant-loop-score l = record {
  len : length l.scores ≡ length l.fn.scores;
  done : (x : ℕ) → x < l.score-index → score l.scores x ≡ score l.fn.scores x / 2 ^ 30;
  left : (x : ℕ) → l.score-index ≤ x → score l.scores x ≡ score l.fn.scores x;
}
