use Rattle.std.proofs.Common.{ℕ, List, ◌+◌, ◌∙◌, sym, subst, take, arith}
use Rattle.std.proofs.lemmas.List.{length-map, take_all}
use Rattle.isel_spec.specs.File.{operation}
use Rattle.isel_spec.specs.Spec.{file}
use Rattle.multiset_rank.specs.Multisets.{multisets}
use Rattle.pattern_core.specs.declared.pattern.Pattern.{Pattern}
use Rattle.plain_search.specs.Rules.{AreRulesAmong}
use Rattle.plain_search.proofs.SieveLemmas.{AreRules-from_among}
use Rattle.plain_search.proofs.SizeLemmas.{among-more}
use Rattle.plain_search.proofs.rules.rules_of_size.Goals as goal

pub loop-number-preserved : goal.loop-number-preserved
loop-number-preserved c = record {
  for_goal = c.in_ok-more.ensures.for_goal;
  rules = λ g there.
      let f = file c.args.spec.now in
      let all : List (List ℕ) = multisets c.len-kinds.result c.args.size in
      subst (λ (rules : List Pattern). AreRulesAmong f g (take (c.loop-number.number + 1) all) rules)
      (sym c.in_ok-append.ensures.items)
      (among-more f g c.len-kinds.result c.args.size c.loop-number.number all c.unrank-multi.result
      c.loop-number.rules.items c.in_ok-more.more.items c.count-number-end.ensures.law
      c.unrank-multi.ensures.place.there (c.loop-number.invariant.rules g there)
      (c.in_ok-more.ensures.rules g there));
}

pub returns-clause-rules : goal.returns-clause-rules
returns-clause-rules c = λ g there.
    let s = c.args.spec.now in
    let all : List (List ℕ) = multisets c.len-kinds.result c.args.size in
    AreRules-from_among (file s) g c.len-kinds.result c.args.size all c.loop-number.rules.items
    (length-map s.ops (operation s.terms) ∙ sym c.len-kinds.ensures) c.count-number-end.ensures.law
    (subst (λ (ms : List (List ℕ)). AreRulesAmong (file s) g ms c.loop-number.rules.items)
    (take_all c.loop-number.number all
    (omega (arith, c.loop-number-test.false, c.count-number-end.ensures.length)))
    (c.loop-number.invariant.rules g there))
