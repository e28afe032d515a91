use Rattle.std.proofs.Common.{◌∙◌, ap}
use Rattle.std.specs.Option.{is_some}
use Rattle.pattern_text.specs.Form.{number}
use Rattle.pattern_text.proofs.EachLemmas.{out_formed, second-test}
use Rattle.pattern_text.proofs.form.is_out_at.Goals as goal

pub returns-then-is_number : goal.returns-then-is_number
returns-then-is_number c =
    second-test c.is_number.result c.is_number-then-is_number.result _ _ _ c.is_number.ensures c.if-is_number.true
    (c.is_number-then-is_number.ensures ∙ ap (λ word. is_some (number word)) c.after.ensures)
    (out_formed c.args.word.now c.args.stop)
