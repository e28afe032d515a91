use Rattle.std.proofs.Common.{subst}
use Rattle.isel_spec.specs.Spec.{file}
use Rattle.plain_search.proofs.AgreementLemmas.{rule_from_all}
use Rattle.cegis_loop.specs.Answer.{IsFoundAt}
use Rattle.cegis_loop.proofs.AnswerLemmas.{found-among}
use Rattle.cegis_loop.proofs.confirmation.first_of_all.Goals as goal

pub returns-in-Some : goal.returns-in-Some
returns-in-Some c = λ g h.
    let f = file c.args.spec.now in
    let p = c.args.pattern.now in
    let n = c.loop-number.number in
    found-among f g p n c.in-Some.example (c.requires.plain g h)
    (subst (IsFoundAt f g p n) c.in-Some.is (c.in_ok-found.ensures.found g h))

pub returns : goal.returns
returns c = λ g h.
    rule_from_all (file c.args.spec.now) g c.args.pattern.now c.args.sorts.now c.args.count c.loop-number.number
    (c.requires.sorts g h) c.requires.count c.loop-number-test.false (c.loop-number.invariant.so_far g h)
