use Rattle.std.proofs.Common.{◌∙◌}
use Rattle.std.proofs.lemmas.Result.{IfOk-weaker}
use Rattle.bv_terms.specs.WellSorted.{sort_of}
use Rattle.bv_terms.proofs.GraftLemmas.{Extends-further}
use Rattle.loc_encode.specs.declared.taking.Taker.TheVariants as taker
use Rattle.loc_encode.proofs.BuildingLemmas.{sort-both}
use Rattle.loc_encode.proofs.FrontLemmas.{result-plain, taken-sort, one_sort-made, truths-made, compared-made}
use Rattle.loc_encode.proofs.agreement.compared.Goals as goal

pub taken_term-requires-clause-plain : goal.taken_term-requires-clause-plain
taken_term-requires-clause-plain c =
    let given = result-plain c.args.from.now c.args.at c.args.value c.sort-sort.result c.requires.result
    c.sort-sort.ensures in
    given.0

pub constant-requires : goal.constant-requires
constant-requires c =
    let given = result-plain c.args.from.now c.args.at c.args.value c.sort-sort.result c.requires.result
    c.sort-sort.ensures in
    (c.sort-sort.result, given.1, (let plain = given.0 in plain.sized))

pub equal-requires-clause-sort : goal.equal-requires-clause-sort
equal-requires-clause-sort c =
    let s = c.sort-sort.result in
    let given = result-plain c.args.from.now c.args.at c.args.value s c.requires.result c.sort-sort.ensures in
    let taken = c.in_ok-taken.taken in
    one_sort-made c.taken_term.new.terms c.constant.new.terms taken c.in_ok-wanted.wanted s c.args.value given.0 given.1
    c.constant.ensures.extends c.in_ok-taken.ensures.within c.in_ok-wanted.ensures.within
    (taken-sort c.args.terms.now c.taken_term.new.terms (taker.Result c.args.place) s c.args.sources.now taken
    c.requires.sources given.0 c.taken_term.ensures.extends c.in_ok-taken.ensures.term) c.in_ok-wanted.ensures.term

pub both-requires-clause-sort : goal.both-requires-clause-sort
both-requires-clause-sort c =
    let old = c.args.terms.now in
    let first = c.taken_term.new.terms in
    let mid = c.constant.new.terms in
    let new = c.equal.new.terms in
    let s = c.sort-sort.result in
    let given = result-plain c.args.from.now c.args.at c.args.value s c.requires.result c.sort-sort.ensures in
    let taken = c.in_ok-taken.taken in
    let is = one_sort-made first mid taken c.in_ok-wanted.wanted s c.args.value given.0 given.1
    c.constant.ensures.extends c.in_ok-taken.ensures.within c.in_ok-wanted.ensures.within
    (taken-sort old first (taker.Result c.args.place) s c.args.sources.now taken c.requires.sources given.0
    c.taken_term.ensures.extends c.in_ok-taken.ensures.term) c.in_ok-wanted.ensures.term in
    let more = Extends-further old mid new
    (Extends-further old first mid c.taken_term.ensures.extends c.constant.ensures.extends) c.equal.ensures.extends in
    truths-made old mid new c.args.so_far taken c.in_ok-wanted.wanted c.in_ok-same.same is more c.equal.ensures.extends
    c.requires.there c.requires.truth c.in_ok-same.ensures.within c.in_ok-same.ensures.term

pub returns-clause-term : goal.returns-clause-term
returns-clause-term c =
    let old = c.args.terms.now in
    let first = c.taken_term.new.terms in
    let mid = c.constant.new.terms in
    let new = c.equal.new.terms in
    let more = Extends-further old mid new
    (Extends-further old first mid c.taken_term.ensures.extends c.constant.ensures.extends) c.equal.ensures.extends in
    IfOk-weaker c.both.result _ _
    (λ id e. compared-made old first mid new c.both.new.terms c.args.from.now c.args.sources.now c.args.so_far
    c.in_ok-taken.taken c.in_ok-wanted.wanted c.in_ok-same.same id c.args.place c.args.at c.sort-sort.result
    c.args.value c.sort-sort.ensures c.in_ok-taken.ensures.term c.in_ok-taken.ensures.within c.constant.ensures.extends
    c.in_ok-wanted.ensures.term c.in_ok-same.ensures.term more c.requires.there e) c.both.ensures.term

pub returns-clause-truth : goal.returns-clause-truth
returns-clause-truth c =
    let old = c.args.terms.now in
    let first = c.taken_term.new.terms in
    let mid = c.constant.new.terms in
    let new = c.equal.new.terms in
    let s = c.sort-sort.result in
    let given = result-plain c.args.from.now c.args.at c.args.value s c.requires.result c.sort-sort.ensures in
    let taken = c.in_ok-taken.taken in
    let is = one_sort-made first mid taken c.in_ok-wanted.wanted s c.args.value given.0 given.1
    c.constant.ensures.extends c.in_ok-taken.ensures.within c.in_ok-wanted.ensures.within
    (taken-sort old first (taker.Result c.args.place) s c.args.sources.now taken c.requires.sources given.0
    c.taken_term.ensures.extends c.in_ok-taken.ensures.term) c.in_ok-wanted.ensures.term in
    let more = Extends-further old mid new
    (Extends-further old first mid c.taken_term.ensures.extends c.constant.ensures.extends) c.equal.ensures.extends in
    let are = truths-made old mid new c.args.so_far taken c.in_ok-wanted.wanted c.in_ok-same.same is more
    c.equal.ensures.extends c.requires.there c.requires.truth c.in_ok-same.ensures.within c.in_ok-same.ensures.term in
    IfOk-weaker c.both.result _ _
    (λ id e. (λ i. let last = c.both.ensures.extends in sort_of (last.pointer i) (e i))
    ∙ sort-both new.pointer _ _ are.sorted are.other_sorted) c.both.ensures.term
