use Rattle.std.proofs.Common.{rules, ◌∙◌, true, false, sym}
use Rattle.pattern_text.proofs.PlaceLemmas.{tested}
use Rattle.pattern_text.proofs.names.place_in.Goals as goal

pub returns-then-is_at-clause-value : goal.returns-then-is_at-clause-value
returns-then-is_at-clause-value g c =
    sym (tested c.args.word.now c.args.table.now c.loop-place.place true (search rules)
    (sym c.is_at.ensures ∙ c.if-is_at.true))
    ∙ c.loop-place.invariant

pub loop-place-preserved : goal.loop-place-preserved
loop-place-preserved g c =
    sym (tested c.args.word.now c.args.table.now c.loop-place.place false (search rules)
    (sym c.is_at.ensures ∙ c.if-is_at.false))
    ∙ c.loop-place.invariant
