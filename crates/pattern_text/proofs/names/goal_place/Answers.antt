use Rattle.std.proofs.Common.{◌∙◌, refl}
use Rattle.isel_spec.specs.File as file
use Rattle.pattern_text.proofs.PlaceLemmas.{place-named}
use Rattle.pattern_text.proofs.names.goal_place.Goals as goal

pub returns-in_err-place-clause-value : goal.returns-in_err-place-clause-value
returns-in_err-place-clause-value c =
    c.from_residual.ensures ∙ c.in_err-place.ensures.value
    ∙ place-named c.args.word.now (file.goal c.args.spec.now.terms) (λ (o : file.Goal). o.name) c.args.spec.now.goals
    (λ e. refl)

pub returns-clause-value : goal.returns-clause-value
returns-clause-value c =
    c.in_ok-place.ensures.value
    ∙ place-named c.args.word.now (file.goal c.args.spec.now.terms) (λ (o : file.Goal). o.name) c.args.spec.now.goals
    (λ e. refl)
