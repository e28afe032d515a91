use Rattle.std.proofs.Common.{◌∙◌, refl}
use Rattle.std.proofs.lemmas.Bool.{false≢true}
use Rattle.list_lemmas.proofs.Bools.{not_by_test}
use Rattle.isel_spec.specs.Spec.{file}
use Rattle.pattern_core.proofs.EvalLemmas.{some_goal}
use Rattle.plain_search.proofs.AgreementLemmas.{few_bits, AgreesBelow-more, agrees_from_rule, rule_from_all}
use Rattle.plain_search.proofs.agreement.is_rule.Goals as goal

pub count_of-number-end-requires : goal.count_of-number-end-requires
count_of-number-end-requires c =
    let g = some_goal c.args.spec.now c.args.goal c.requires.there in
    few_bits c.deref.result.now g.0 (c.deref.ensures.value ∙ c.requires.table.sorts g.0 g.1)
    (c.requires.few g.0 g.1)

pub returns-then-not-branch-clause-rule : goal.returns-then-not-branch-clause-rule
returns-then-not-branch-clause-rule c = λ g h. (
  λ no. absurd (false≢true no),
  λ rule. absurd (not_by_test _ c.if-not-branch.true (c.in_ok-agrees_at.ensures.agrees g h)
      (agrees_from_rule (file c.args.spec.now) g c.args.pattern.now c.loop-number.number (c.requires.plain g h) rule)),
)

pub loop-number-preserved : goal.loop-number-preserved
loop-number-preserved c = record {
  evaluation = c.agrees_at.ensures.evaluation;
  so_far = λ g h.
      AgreesBelow-more (file c.args.spec.now) g c.args.pattern.now c.loop-number.number
      (c.loop-number.invariant.so_far g h) ((c.in_ok-agrees_at.ensures.agrees g h).0 c.if-not-branch.false);
}

pub returns-clause-rule : goal.returns-clause-rule
returns-clause-rule c = λ g h. (
  λ _. rule_from_all (file c.args.spec.now) g c.args.pattern.now c.deref.result.now c.count_of-number-end.result
      c.loop-number.number (c.deref.ensures.value ∙ c.requires.table.sorts g h) c.count_of-number-end.ensures
      c.loop-number-test.false (c.loop-number.invariant.so_far g h),
  λ _. refl,
)
