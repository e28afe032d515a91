use Rattle.isel_spec.specs.Spec.{file}
use Rattle.std.proofs.Common.{arith}
use Rattle.rule_library.proofs.FirstEntries.{first-more, book-of_first, right-of_first}
use Rattle.isel_cmd.proofs.ClaimLemmas.{given_claim, claim_there}
use Rattle.isel_cmd.proofs.library.book_of.Goals as goal

pub settle-requires-clause-given : goal.settle-requires-clause-given
settle-requires-clause-given c =
    given_claim c.args.spec.now c.args.plan c.claim-goal.result.0 c.claim-goal.result.1 c.requires.memory
    c.requires.plan c.claim-goal.ensures.in_plan

pub loop-number-preserved : goal.loop-number-preserved
loop-number-preserved c =
    let claim = c.claim-goal.result in
    first-more (file c.args.spec.now) c.args.plan c.args.budget c.loop-number.number claim.0 claim.1 c.settle.result
    c.loop-number.book.items c.push.new.self.items c.in_ok-push.ensures.items c.claim-goal.ensures.place.there
    (λ g there. c.settle.ensures.right _ (claim_there c.args.spec.now claim.0 claim.1 g there))
    c.loop-number.invariant

pub returns-clause-book : goal.returns-clause-book
returns-clause-book c =
    let past = c.loop-number-test.false in
    let most = c.loop-number.auto.number-end in
    let all = c.claims-number-end.ensures.length in
    book-of_first (file c.args.spec.now) c.args.plan c.args.budget c.loop-number.number c.loop-number.book.items
    (omega (arith, past, most, all)) c.loop-number.invariant

pub returns-clause-right : goal.returns-clause-right
returns-clause-right c =
    right-of_first (file c.args.spec.now) c.args.plan c.args.budget c.loop-number.number c.loop-number.book.items
    c.loop-number.invariant
