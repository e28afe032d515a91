use Rattle.std.proofs.Common.{◌≡◌, Option, Some, IfSome, slice_get, subst, arith}
use Rattle.isel_spec.specs.File.{Goal}
use Rattle.isel_spec.specs.Spec.{file}
use Rattle.claim_outcome.specs.declared.outcome.Outcome.{Outcome}
use Rattle.claim_outcome.specs.Outcome.{IsRight}
use Rattle.rule_library.proofs.FirstEntries.{first-more, book-of_first}
use Rattle.library_tests.proofs.tests.books.book_of.Goals as goal

pub loop-number-preserved : goal.loop-number-preserved
loop-number-preserved c =
    let f = file c.args.spec.now in
    let claim = c.claim-goal.result in
    let right =
    subst (λ (found : Option Outcome). IfSome found (λ outcome. (g : Goal) → slice_get f.goals claim.0 ≡ Some g
    → IsRight (record { file = f; goal = g; ops = claim.1 }) 0 outcome)) c.in-Some.is c.in_ok-outcome.ensures in
    first-more f c.args.plan 0 c.loop-number.number claim.0 claim.1 c.in-Some.outcome c.loop-number.book.items
    c.push.new.self.items c.in_ok-push.ensures.items c.claim-goal.ensures.place.there right c.loop-number.invariant

pub returns-clause-book : goal.returns-clause-book
returns-clause-book c =
    let past = c.loop-number-test.false in
    let most = c.loop-number.auto.number-end in
    let all = c.claims-number-end.ensures.length in
    book-of_first (file c.args.spec.now) c.args.plan 0 c.loop-number.number c.loop-number.book.items
    (omega (arith, past, most, all)) c.loop-number.invariant
