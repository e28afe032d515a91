use Rattle.isel_spec.proofs.spec.Spec.goal.Goals as goal
use Rattle.list_lemmas.proofs.Options.{looked_up}

pub returns : goal.returns
returns c = (
  c.unwrap.result.0.now,
  looked_up (λ e. (e.0.now, e.1.now)) c.get.result c.unwrap.result _ c.get.ensures c.unwrap.ensures,
)
