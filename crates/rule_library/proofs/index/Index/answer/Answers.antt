use Rattle.std.proofs.Common.{◌≡◌, [], length, ap, sym, ◌∙◌, arith, vec_len}
use Rattle.std.proofs.lemmas.Bool.{eqb-true, eq-eqb, false≢true}
use Rattle.std.proofs.lemmas.List.{nil_from_length}
use Rattle.rule_library.proofs.FoundLemmas.{answer-with, answer-without, none_below-more}
use Rattle.rule_library.proofs.index.Index.answer.Goals as goal

pub returns-then-not-is_empty : goal.returns-then-not-is_empty
returns-then-not-is_empty c =
    let i = c.args.self.now in
    let rules = c.in_ok-rules.rules in
    answer-with i.plan i.book.now c.args.goal c.loop-size.size rules.items c.of_size.new.undecided.items
    c.with_rules.result
    (λ none. let empty : vec_len rules ≡ 0 = rules.ok.0 ∙ ap length none in
    false≢true (c.if-not-is_empty.ensures ∙ eq-eqb (vec_len rules) 0 empty))
    c.loop-size.invariant.none c.in_ok-rules.ensures.rules c.in_ok-rules.ensures.after c.with_rules.ensures

pub loop-size-preserved : goal.loop-size-preserved
loop-size-preserved c =
    let i = c.args.self.now in
    let rules = c.in_ok-rules.rules in
    let empty : vec_len rules ≡ 0 = eqb-true (vec_len rules) 0 (sym c.if-not-is_empty.ensures) in
    let nothing : rules.items ≡ [] = nil_from_length rules.items (sym rules.ok.0 ∙ empty) in
    record {
      none =
          none_below-more i.plan i.book.now c.args.goal c.loop-size.size rules.items nothing c.loop-size.invariant.none
          c.in_ok-rules.ensures.rules;
      undecided = c.in_ok-rules.ensures.after;
    }

pub returns : goal.returns
returns c =
    let i = c.args.self.now in
    let past = c.loop-size-test.false in
    let bound = c.bound-size-end.ensures.value in
    answer-without i.plan i.book.now c.args.goal c.loop-size.size c.loop-size.undecided.items c.without_rules.result
    c.requires.index.sorted (omega (arith, past, bound)) c.loop-size.invariant.none c.loop-size.invariant.undecided
    c.without_rules.ensures
