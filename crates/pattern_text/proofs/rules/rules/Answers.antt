use Rattle.std.proofs.Common.{◌∙◌, sym, ap, subst, refl, Err, Ok, map, get_or, length, arith, [], ◌∷◌, ◌++◌, All}
use Rattle.std.proofs.lemmas.Result.{err_from_is_err_and}
use Rattle.sexp_read.specs.Forest.{tree_at}
use Rattle.isel_spec.specs.Spec.{file}
use Rattle.pattern_text.specs.Rules.{AreRules, IsPatternOf}
use Rattle.pattern_text.specs.Outcomes.{IsListOr}
use Rattle.pattern_text.proofs.IndexLemmas.{index-at}
use Rattle.pattern_text.proofs.VerdictLemmas.{ordered}
use Rattle.pattern_text.proofs.RuleLemmas.{one-more, stopped, at-done}
use Rattle.pattern_text.proofs.rules.rules.Goals as goal

pub returns-in_err-rule-clause-read : goal.returns-in_err-rule-clause-read
returns-in_err-rule-clause-read c =
    let is = err_from_is_err_and c.from_residual.result c.from_residual.ensures.1 in
    let f = file c.args.spec.now in
    let tree = tree_at c.args.bytes.now c.args.forest.now.items in
    subst (IsListOr (AreRules f c.args.goal c.args.size c.args.before [] (map tree c.args.items.now)))
    (sym (is.1 ∙ ap Err is.2))
    (stopped f c.args.goal c.args.size c.args.before tree c.args.items.now c.loop-item.item-index
    c.loop-item.rules.items
    c.in_err-rule.field-0.0 c.loop-item-test.true c.loop-item.invariant.so_far
    (at-done f c.args.goal c.args.size c.args.before (length c.as_slice-earlier.result.now)
    c.as_slice-earlier.result.now c.loop-item.rules.items
    (tree (get_or c.args.items.now c.loop-item.item-index 0)) (Err c.in_err-rule.field-0.0) refl
    c.as_slice-earlier.ensures.value c.in_err-rule.ensures.read))

pub rule-requires-clause-index : goal.rule-requires-clause-index
rule-requires-clause-index c =
    index-at c.as_slice-earlier.result.now c.loop-item.rules.items c.as_slice-listed.result.now c.loop-item.index.items
    c.as_slice-earlier.ensures.value c.as_slice-listed.ensures.value c.loop-item.invariant.index

pub insert-requires-clause-index : goal.insert-requires-clause-index
insert-requires-clause-index c =
    index-at c.as_slice-earlier.result.now c.loop-item.rules.items c.loop-item.index.items c.loop-item.index.items
    c.as_slice-earlier.ensures.value refl c.loop-item.invariant.index

pub insert-requires-clause-ordered : goal.insert-requires-clause-ordered
insert-requires-clause-ordered c =
    ordered (file c.args.spec.now) c.args.goal c.args.size c.in_ok-rule.rule c.as_slice-earlier.result.now
    c.order_is_total.ensures c.in_ok-rule.ensures.listed
    (subst (All (IsPatternOf (file c.args.spec.now) c.args.goal c.args.size)) (sym c.as_slice-earlier.ensures.value)
    c.loop-item.invariant.so_far.listed)

pub loop-item-preserved : goal.loop-item-preserved
loop-item-preserved c =
    let f = file c.args.spec.now in
    let tree = tree_at c.args.bytes.now c.args.forest.now.items in
    let long = ap length c.as_slice-earlier.ensures.value in
    record {
      so_far = one-more f c.args.goal c.args.size c.args.before tree c.args.items.now c.loop-item.item-index
          c.loop-item.rules.items
          c.push.new.self.items c.in_ok-rule.rule c.loop-item-test.true c.loop-item.invariant.so_far
          (at-done f c.args.goal c.args.size c.args.before (length c.as_slice-earlier.result.now)
          c.as_slice-earlier.result.now c.loop-item.rules.items
          (tree (get_or c.args.items.now c.loop-item.item-index 0)) (Ok c.in_ok-rule.rule) refl
          c.as_slice-earlier.ensures.value c.in_ok-rule.ensures.read)
          c.in_ok-rule.ensures.listed (omega (arith, c.in_ok-rule.ensures.few, long)) c.in_ok-push.ensures.items;
      index = index-at c.push.new.self.items (c.as_slice-earlier.result.now ++ c.in_ok-rule.rule ∷ [])
          c.insert.new.index.items c.insert.new.index.items
          (c.in_ok-push.ensures.items
          ∙ ap (λ ps. ps ++ c.in_ok-rule.rule ∷ []) (sym c.as_slice-earlier.ensures.value))
          refl c.in_ok-insert.ensures;
    }
