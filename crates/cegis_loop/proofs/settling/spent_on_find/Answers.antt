use Rattle.std.proofs.Common.{◌≡◌, ℕ, ◌+◌, ◌-◌, length, arith}
use Rattle.claim_outcome.specs.declared.record.Question.{Question}
use Rattle.claim_outcome.specs.declared.record.Question.TheVariants.{Find}
use Rattle.cegis_loop.proofs.SettlingLemmas.{kept-find, units-of_one}
use Rattle.cegis_loop.proofs.settling.spent_on_find.Goals as goal

pub ran_out-requires-clause-rules : goal.ran_out-requires-clause-rules
ran_out-requires-clause-rules c = λ k is. (c.requires.searching.progress k is).rules

pub ran_out-requires-clause-rising : goal.ran_out-requires-clause-rising
ran_out-requires-clause-rising c =
    let k = c.has_one_claim.ensures.there in
    (c.requires.searching.progress k.0 k.1).rising

pub ran_out-requires-clause-kept : goal.ran_out-requires-clause-kept
ran_out-requires-clause-kept c = λ k is.
    let t = c.args.search in
    let units : ℕ = c.args.budget - length t.candidates in
    let whole : length t.candidates + units ≡ c.args.budget = omega arith in
    kept-find k t.finder.encoded t.candidates t.found units c.len.result c.len-2.result c.args.call
    c.in_ok-calls.calls (c.requires.searching.progress k is) (c.requires.call k units is whole) c.len.ensures
    c.len-2.ensures c.in_ok-calls.ensures

pub ran_out-requires-clause-units : goal.ran_out-requires-clause-units
ran_out-requires-clause-units c =
    let k = c.has_one_claim.ensures.there in
    let t = c.args.search in
    let units : ℕ = c.args.budget - length t.candidates in
    let whole : length t.candidates + units ≡ c.args.budget = omega arith in
    let question : Question = Find c.len.result c.len-2.result in
    units-of_one t.finder.encoded.examples t.candidates question c.args.call c.in_ok-calls.calls units c.args.budget
    c.in_ok-calls.ensures (c.requires.call k.0 units k.1 whole).count whole
