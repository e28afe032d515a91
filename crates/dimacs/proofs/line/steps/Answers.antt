use Rattle.std.proofs.Common.{◌++◌, sym, ap, ◌∙◌, arith}
use Rattle.std.specs.Option.{option_map}
use Rattle.dimacs.proofs.StepLemmas.{one_left, no_literal, one_step}
use Rattle.dimacs.proofs.line.steps.Goals as goal

pub returns-then-place-words : goal.returns-then-place-words
returns-then-place-words c =
    sym (c.loop-place.invariant.0
    ∙ ap (option_map (λ more. c.loop-place.steps ++ more))
    (one_left c.args.variables c.args.words.now c.loop-place.place c.if-place-words.true))

pub returns-in_default : goal.returns-in_default
returns-in_default c =
    sym (c.loop-place.invariant.0
    ∙ ap (option_map (λ more. c.loop-place.steps ++ more))
    (no_literal c.args.variables c.args.words.now c.loop-place.place _ (omega arith)
    (sym c.literal.ensures.value ∙ c.in_default.is)))

pub loop-place-preserved : goal.loop-place-preserved
loop-place-preserved c = (
  c.loop-place.invariant.0
      ∙ one_step c.args.variables c.args.words.now c.loop-place.place _ _ _ c.loop-place.steps _ (omega arith)
      (sym c.literal.ensures.value ∙ c.in-Some.is) (sym c.number.ensures ∙ c.in-Some-number.is) c.in_ok-push.ensures.ok,
  omega arith,
)
