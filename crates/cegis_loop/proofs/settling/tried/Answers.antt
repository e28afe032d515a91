use Rattle.std.proofs.Common.{◌≡◌, ◌-◌, subst, arith}
use Rattle.pattern_core.specs.Claim.{Claim, IsClaim}
use Rattle.pattern_core.specs.Rule.{IsRule}
use Rattle.cegis_loop.specs.Answer.{IsAnswer}
use Rattle.cegis_loop.specs.Search.{IsSearching, IsCandidate, IsCounterexample}
use Rattle.cegis_loop.specs.declared.answer.Confirm.TheVariants.{Spent}
use Rattle.cegis_loop.specs.declared.search.Search.{Search}
use Rattle.cegis_loop.proofs.SettlingLemmas.{searching-with_tests, under-names}
use Rattle.cegis_loop.proofs.settling.tried.Goals as goal

pub judged-requires-clause-pattern : goal.judged-requires-clause-pattern
judged-requires-clause-pattern c = λ k is. (c.requires.candidate k is).pattern

pub confirmed-requires-clause-searching : goal.confirmed-requires-clause-searching
confirmed-requires-clause-searching c =
    let s = c.args.spec.now in
    let t = c.args.search in
    let next : Search = record t { tests = c.judged.new.tests } in
    let n = c.requires.searching.finder in
    under-names (λ place ops. IsSearching s place ops next) t.finder.encoded.goal c.args.goal t.finder.encoded.multi
    c.args.multi.now n.goal_is n.ops_are
    (searching-with_tests s c.args.goal c.args.multi.now t c.judged.new.tests c.requires.searching
    c.judged.ensures.cases)

pub confirmed-requires-clause-candidate : goal.confirmed-requires-clause-candidate
confirmed-requires-clause-candidate c =
    let t = c.args.search in
    let n = c.requires.searching.finder in
    under-names (λ place ops. IsCandidate c.args.spec.now place ops t c.args.pattern) t.finder.encoded.goal c.args.goal
    t.finder.encoded.multi c.args.multi.now n.goal_is n.ops_are c.requires.candidate

pub confirmed-requires-clause-rule : goal.confirmed-requires-clause-rule
confirmed-requires-clause-rule c =
    let e = c.args.search.finder.encoded in
    let n = c.requires.searching.finder in
    let p = c.args.pattern in
    under-names (λ place ops. (k : Claim) → IsClaim c.args.spec.now place ops k → IsRule k.file k.goal p) e.goal
    c.args.goal e.multi c.args.multi.now n.goal_is n.ops_are
    (λ k is. subst (IsAnswer k p _ 0) c.in-Rule.is (c.in_ok-judged.ensures.answer k is))

pub refuted-requires-clause-searching : goal.refuted-requires-clause-searching
refuted-requires-clause-searching c =
    let s = c.args.spec.now in
    let t = c.args.search in
    let next : Search = record t { tests = c.judged.new.tests } in
    let n = c.requires.searching.finder in
    under-names (λ place ops. IsSearching s place ops next) t.finder.encoded.goal c.args.goal t.finder.encoded.multi
    c.args.multi.now n.goal_is n.ops_are
    (searching-with_tests s c.args.goal c.args.multi.now t c.judged.new.tests c.requires.searching
    c.judged.ensures.cases)

pub refuted-requires-clause-candidate : goal.refuted-requires-clause-candidate
refuted-requires-clause-candidate c =
    let t = c.args.search in
    let n = c.requires.searching.finder in
    under-names (λ place ops. IsCandidate c.args.spec.now place ops t c.args.pattern) t.finder.encoded.goal c.args.goal
    t.finder.encoded.multi c.args.multi.now n.goal_is n.ops_are c.requires.candidate

pub refuted-requires-clause-differs : goal.refuted-requires-clause-differs
refuted-requires-clause-differs c =
    let e = c.args.search.finder.encoded in
    let n = c.requires.searching.finder in
    let p = c.args.pattern in
    let x = c.in-Differs.example in
    under-names (λ place ops. (k : Claim) → IsClaim c.args.spec.now place ops k → IsCounterexample k p x) e.goal
    c.args.goal e.multi c.args.multi.now n.goal_is n.ops_are
    (λ k is. subst (IsAnswer k p _ 0) c.in-Differs.is (c.in_ok-judged.ensures.answer k is))

pub spent_on_confirm-requires-clause-calls : goal.spent_on_confirm-requires-clause-calls
spent_on_confirm-requires-clause-calls c = λ k units is whole.
    let p = c.args.pattern in
    let t = c.args.search in
    let left : c.args.budget - c.len.result - 1 ≡ units = omega (arith, whole, c.len.ensures) in
    let answer = subst (IsAnswer k p _ 0) c.in-Spent.is (c.in_ok-judged.ensures.answer k is) in
    subst (λ n. IsAnswer k p n 0 (Spent c.in-Spent.calls)) left answer
