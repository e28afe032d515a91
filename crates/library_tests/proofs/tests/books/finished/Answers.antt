use Rattle.std.proofs.Common.{ℕ, List, Option, IfSome, Vec, Global, sym, subst}
use Rattle.isel_spec.specs.Spec.{file}
use Rattle.claim_outcome.specs.declared.outcome.Outcome.{Outcome}
use Rattle.rule_library.specs.Book.{AreRight}
use Rattle.library_tests.proofs.tests.books.finished.Goals as goal

pub finish_book-requires-clause-right : goal.finish_book-requires-clause-right
finish_book-requires-clause-right c =
    let f = file c.in_ok-spec.spec in
    let plan = c.in-Some.plan in
    let right =
    subst (λ (found : Option (Vec (ℕ × Outcome) Global)). IfSome found (λ book. AreRight f plan 0 book.items))
    c.in-Some-2.is c.in_ok-book.ensures.right in
    (0, subst (λ (book : List (ℕ × Outcome)). AreRight f plan 0 book) (sym c.deref.ensures.value) right)
