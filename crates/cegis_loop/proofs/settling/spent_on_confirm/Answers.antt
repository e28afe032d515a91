use Rattle.std.proofs.Common.{◌≡◌, ◌∙◌, ℕ, ◌+◌, ◌-◌, length, ap, arith}
use Rattle.std.proofs.lemmas.List.{length_push}
use Rattle.claim_outcome.specs.declared.record.Question.{Question}
use Rattle.claim_outcome.specs.declared.record.Question.TheVariants.{Confirm}
use Rattle.cegis_loop.proofs.SettlingLemmas.{call-of_spent, kept-confirm, units-of_one}
use Rattle.cegis_loop.proofs.settling.spent_on_confirm.Goals as goal

pub only_call-call-requires : goal.only_call-call-requires
only_call-call-requires c =
    let k = c.has_one_claim.ensures.there in
    let t = c.args.search in
    let units : ℕ = c.args.budget - length t.candidates - 1 in
    let whole : length t.candidates + 1 + units ≡ c.args.budget = omega (arith, c.requires.left) in
    ap length (c.requires.calls k.0 units k.1 whole).2.1

pub ran_out-requires-clause-rules : goal.ran_out-requires-clause-rules
ran_out-requires-clause-rules c = λ k is. (c.requires.searching.progress k is).rules

pub ran_out-requires-clause-rising : goal.ran_out-requires-clause-rising
ran_out-requires-clause-rising c =
    let k = c.has_one_claim.ensures.there in
    (c.requires.searching.progress k.0 k.1).rising

pub ran_out-requires-clause-kept : goal.ran_out-requires-clause-kept
ran_out-requires-clause-kept c = λ k is.
    let t = c.args.search in
    let e = t.finder.encoded in
    let p = c.args.pattern in
    let units : ℕ = c.args.budget - length t.candidates - 1 in
    let whole : length t.candidates + 1 + units ≡ c.args.budget = omega (arith, c.requires.left) in
    kept-confirm k e.examples e.blocked t.candidates t.found units p c.in_ok-copy.copy c.only_call-call.result
    c.in_ok-calls.calls c.push.new.self (c.requires.searching.progress k is) (c.requires.candidate k is)
    (call-of_spent k p units c.args.calls c.only_call-call.result (c.requires.calls k units is whole)
    c.only_call-call.ensures) c.in_ok-copy.ensures c.in_ok-calls.ensures c.in_ok-push.ensures.ok

pub ran_out-requires-clause-units : goal.ran_out-requires-clause-units
ran_out-requires-clause-units c =
    let k = c.has_one_claim.ensures.there in
    let t = c.args.search in
    let p = c.args.pattern in
    let units : ℕ = c.args.budget - length t.candidates - 1 in
    let whole : length t.candidates + 1 + units ≡ c.args.budget = omega (arith, c.requires.left) in
    let more = ap length c.in_ok-push.ensures.ok ∙ length_push t.candidates p in
    let question : Question = Confirm c.in_ok-copy.copy in
    units-of_one t.finder.encoded.examples c.push.new.self question c.only_call-call.result c.in_ok-calls.calls units
    c.args.budget c.in_ok-calls.ensures
    (call-of_spent k.0 p units c.args.calls c.only_call-call.result (c.requires.calls k.0 units k.1 whole)
    c.only_call-call.ensures).count (omega (arith, more, whole))
