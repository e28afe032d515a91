use Rattle.std.proofs.Common.{List, ◌∙◌, subst, map, arith}
use Rattle.std.proofs.lemmas.List.{take_all}
use Rattle.isel_spec.specs.Spec.{file}
use Rattle.pattern_core.specs.declared.pattern.Src.{Src}
use Rattle.plain_search.specs.Sieve.{Sifts}
use Rattle.plain_search.proofs.SiftLemmas.{with_results, sifts-one_more}
use Rattle.plain_search.proofs.sifting.sift_results.Goals as goal

pub loop-choice-preserved : goal.loop-choice-preserved
loop-choice-preserved g c = record {
  sifts =
      sifts-one_more g.S.Sieve.takes (file c.args.spec.now) c.args.goal c.args.sieve.now c.loop-choice.sieve
      c.sift.new.sieve (with_results c.args.pattern.now.nodes) c.args.choices.now c.loop-choice.choice-index
      c.choice-item.result (with_results c.loop-choice.pattern.nodes c.in_ok-pattern.field-0) c.loop-choice-test.true
      c.choice-item.is
      (λ i. with_results (c.loop-choice.invariant.nodes i) ((c.in_ok-pattern.ensures ∙ c.as_slice.ensures) i))
      c.loop-choice.invariant.sifts c.in_ok-sift.ensures.sifts;
  nodes = c.loop-choice.invariant.nodes;
  for_goal = c.in_ok-sift.ensures.for_goal;
}

pub returns-clause-sifts : goal.returns-clause-sifts
returns-clause-sifts g c =
    subst (λ (xs : List (List Src)). Sifts g.S.Sieve.takes (file c.args.spec.now) c.args.goal c.args.sieve.now
    (λ _. map (with_results c.args.pattern.now.nodes) xs) c.loop-choice.sieve)
    (take_all c.loop-choice.choice-index c.args.choices.now (omega (arith, c.loop-choice-test.false)))
    c.loop-choice.invariant.sifts
