use Rattle.std.proofs.Common.{◌≡◌, ℕ, drop}
use Rattle.std.specs.List.{list_any}
use Rattle.claim_outcome.specs.declared.outcome.Outcome.{Outcome}
use Rattle.rule_library.specs.Book.{ran_out}
use Rattle.rule_library.proofs.ends.has_run_out.Given as goal

abbrev pub invariant-loop-entry : goal.invariant-loop-entry
invariant-loop-entry l =
    list_any (λ (e : ℕ × Outcome). ran_out e.1.end) (drop l.entry-index l.book)
    ≡ list_any (λ (e : ℕ × Outcome). ran_out e.1.end) l.book
