use Rattle.std.proofs.Common.{sym, ◌∙◌}
use Rattle.std.proofs.lemmas.Bool.{false≢true}
use Rattle.isel_spec.specs.Spec.{file}
use Rattle.isel_cmd.proofs.accepted.accepted_in.Goals as goal

pub returns-in-Err : goal.returns-in-Err
returns-in-Err c = c.failure_of.ensures c.args.bound

pub returns-in-Err-planned : goal.returns-in-Err-planned
returns-in-Err-planned c = (
  c.requires.short,
  (
    file c.in-Ok.spec,
    c.in-Ok.ensures.grammar,
    (λ has. false≢true (sym c.if-has_memory.false ∙ c.has_memory.ensures.1 has)),
    c.in-Err-planned.ensures,
  ),
)
