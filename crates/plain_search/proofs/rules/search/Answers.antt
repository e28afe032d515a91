use Rattle.std.proofs.Common.{◌≡◌, [], length, ap, sym, ◌∙◌, arith, vec_len}
use Rattle.std.proofs.lemmas.Bool.{eqb-true, eq-eqb, false≢true}
use Rattle.std.proofs.lemmas.List.{nil_from_length}
use Rattle.isel_spec.specs.Spec.{file}
use Rattle.pattern_core.proofs.EvalLemmas.{some_goal}
use Rattle.plain_search.proofs.SizeLemmas.{few-bits, library-found, none_below-more}
use Rattle.plain_search.proofs.rules.search.Goals as goal

pub rule_sieve-requires-clause-small : goal.rule_sieve-requires-clause-small
rule_sieve-requires-clause-small c = λ g there.
    let can = c.requires.searchable g there in
    let inputs = can.inputs in
    record { inputs = omega (arith, inputs); no_memory = can.no_memory.args }

pub rules_of_size-requires-clause-few_bits : goal.rules_of_size-requires-clause-few_bits
rules_of_size-requires-clause-few_bits c = λ ops e.
    let g = some_goal c.args.spec.now c.args.goal c.requires.there in
    few-bits (file c.args.spec.now) g.0 c.args.bound c.loop-size.size (c.requires.searchable g.0 g.1)
    (omega (arith, c.loop-size-test.true)) ops e

pub returns-then-not-is_empty : goal.returns-then-not-is_empty
returns-then-not-is_empty c = λ g there.
    let rules = c.in_ok-rules.rules in
    library-found (file c.args.spec.now) g c.args.bound c.loop-size.size rules.items
    (omega (arith, c.loop-size-test.true)) (c.loop-size.invariant.none g there)
    (c.in_ok-rules.ensures.rules g there)
    (λ none. let empty : vec_len rules ≡ 0 = rules.ok.0 ∙ ap length none in
    false≢true (c.if-not-is_empty.ensures ∙ eq-eqb (vec_len rules) 0 empty))

pub loop-size-preserved : goal.loop-size-preserved
loop-size-preserved c =
    let rules = c.in_ok-rules.rules in
    let empty : vec_len rules ≡ 0 = eqb-true (vec_len rules) 0 (sym c.if-not-is_empty.ensures) in
    let nothing : rules.items ≡ [] = nil_from_length rules.items (sym rules.ok.0 ∙ empty) in
    record {
      for_goal = c.in_ok-rules.ensures.for_goal;
      none = λ g there.
          let can = c.requires.searchable g there in
          none_below-more c.args.spec.now c.args.goal g c.loop-size.invariant.for_goal.table there can.no_memory.args
          c.loop-size.size rules.items nothing (c.loop-size.invariant.none g there)
          (c.in_ok-rules.ensures.rules g there);
    }
