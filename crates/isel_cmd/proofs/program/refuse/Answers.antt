use Rattle.std.proofs.Common.{ℕ, List, ◌∙◌, subst, inl, inr}
use Rattle.isel_base.specs.Outside.{HasPrefix}
use Rattle.isel_cmd.proofs.program.refuse.Goals as goal

pub returns-in-Ok-clause-cut : goal.returns-in-Ok-clause-cut
returns-in-Ok-clause-cut g c = λ five.
    let P : List ℕ → Type 0 =
    λ text. HasPrefix (g.E.Sink.written c.args.notes.now) text (g.E.Sink.written c.tell.new.notes) in
    inl (subst P (c.as_bytes.ensures.value ∙ c.in-Ok.ensures) (c.tell.ensures.cut five))

pub returns-in-Err-clause-cut : goal.returns-in-Err-clause-cut
returns-in-Err-clause-cut g c = λ five. inr (c.tell-in-Err.ensures.cut five)
