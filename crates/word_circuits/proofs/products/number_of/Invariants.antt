use Rattle.std.proofs.Common.{◌≡◌, ℕ, ◌≤◌, Bool, length, drop}
use Rattle.word_circuits.specs.Word.{word_number}
use Rattle.word_circuits.proofs.products.number_of.Given as goal

abbrev pub invariant-loop-place : goal.invariant-loop-place
invariant-loop-place l =
    (l.place ≤ length l.word) × ((v : ℕ → Bool) → word_number v (drop l.place l.word) ≡ l.number)

abbrev pub decreases-loop-place : goal.decreases-loop-place
decreases-loop-place l = l.place
