use Rattle.std.proofs.Common.{◌∷◌, [], ◌++◌, sym, ap, ◌∙◌}
use Rattle.plain_search.proofs.RangeLemmas.{range-more}
use Rattle.plain_search.proofs.choices.numbers.Goals as goal

pub loop-number-preserved : goal.loop-number-preserved
loop-number-preserved c =
    c.in_ok-push.ensures.items ∙ ap (λ ks. ks ++ c.loop-number.number ∷ []) c.loop-number.invariant
    ∙ sym (range-more c.loop-number.number)
