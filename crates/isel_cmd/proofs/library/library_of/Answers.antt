use Rattle.std.proofs.Common.{ℕ, List, sym, subst}
use Rattle.isel_spec.specs.Spec.{file}
use Rattle.claim_outcome.specs.declared.outcome.Outcome.{Outcome}
use Rattle.rule_library.specs.Book.{AreRight}
use Rattle.isel_cmd.proofs.AnswerLemmas.{library_text_of}
use Rattle.isel_cmd.proofs.library.library_of.Goals as goal

pub finish_book-requires-clause-right : goal.finish_book-requires-clause-right
finish_book-requires-clause-right c =
    let Right : List (ℕ × Outcome) → Type 0 =
    λ book. AreRight (file c.args.spec.now) c.args.plan c.args.budget book in
    (c.args.budget, subst Right (sym c.deref.ensures.value) c.in_ok-book.ensures.right)

pub returns : goal.returns
returns c =
    library_text_of (file c.args.spec.now) c.args.plan c.args.budget c.deref.result.now c.in_ok-finished.finished.goals
    c.as_slice-answers.result.now _ c.list_open.result
    (subst (λ (book : List (ℕ × Outcome)). AreRight (file c.args.spec.now) c.args.plan c.args.budget book)
    (sym c.deref.ensures.value) c.in_ok-book.ensures.right)
    c.in_ok-finished.ensures.promise c.as_slice-answers.ensures c.in_ok-text.ensures c.list_open.ensures
