use Rattle.std.proofs.Common.{arith, ap, ◌∙◌, ◌++◌, slice_get, codes}
use Rattle.std.proofs.lemmas.List.{length-map}
use Rattle.std.specs.String.{string_bytes}
use Rattle.isel_spec.specs.Spec.{file}
use Rattle.pattern_text.specs.Text.{line, goal_text}
use Rattle.pattern_text.proofs.AnswersText.{answers_text_more}
use Rattle.pattern_text.proofs.write.write_library.Goals as goal

pub loop-place-preserved : goal.loop-place-preserved
loop-place-preserved c =
    let f = file c.args.spec.now in
    answers_text_more f f.goals c.args.answers.now c.loop-place.place c.index-answers-place.result
    (line (codes "(isel-library 1)")) _ _
    (rw length-map (omega (arith, c.requires))) (omega arith) c.loop-place.invariant
    (c.in_ok-push_goal.ensures ∙ ap
    (λ a. string_bytes c.loop-place.out ++ goal_text f (slice_get f.goals c.loop-place.place) a)
    c.index-answers-place.is)
