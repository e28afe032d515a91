use Rattle.std.proofs.Common.{List, sym, subst}
use Rattle.claim_outcome.specs.declared.record.Asked.{Asked}
use Rattle.claim_outcome.specs.Record.{IsRecord}
use Rattle.cegis_loop.proofs.SettlingLemmas.{record-without_calls}
use Rattle.cegis_loop.proofs.settling.without_fuel.Goals as goal

pub ran_out-requires-clause-rules : goal.ran_out-requires-clause-rules
ran_out-requires-clause-rules c = λ k is. (c.requires.searching.progress k is).rules

pub ran_out-requires-clause-rising : goal.ran_out-requires-clause-rising
ran_out-requires-clause-rising c =
    let k = c.has_one_claim.ensures.there in
    (c.requires.searching.progress k.0 k.1).rising

pub ran_out-requires-clause-kept : goal.ran_out-requires-clause-kept
ran_out-requires-clause-kept c = λ k is.
    let t = c.args.search in
    let e = t.finder.encoded in
    subst
    (λ (calls : List Asked).
    IsRecord k t.found (record { examples = e.examples; candidates = t.candidates; calls = calls }))
    (sym c.new.ensures)
    (record-without_calls k e.examples e.blocked t.candidates t.found (c.requires.searching.progress k is))
