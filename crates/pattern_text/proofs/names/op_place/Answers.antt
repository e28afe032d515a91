use Rattle.std.proofs.Common.{◌∙◌, refl}
use Rattle.isel_spec.specs.File as file
use Rattle.pattern_text.proofs.PlaceLemmas.{place-named}
use Rattle.pattern_text.proofs.names.op_place.Goals as goal

pub returns-in_err-place-clause-value : goal.returns-in_err-place-clause-value
returns-in_err-place-clause-value c =
    c.from_residual.ensures ∙ c.in_err-place.ensures.value
    ∙ place-named c.args.word.now (file.operation c.args.spec.now.terms)
    (λ (o : file.Operation). o.name) c.args.spec.now.ops (λ e. refl)

pub returns-clause-value : goal.returns-clause-value
returns-clause-value c =
    c.in_ok-place.ensures.value
    ∙ place-named c.args.word.now (file.operation c.args.spec.now.terms)
    (λ (o : file.Operation). o.name) c.args.spec.now.ops (λ e. refl)
