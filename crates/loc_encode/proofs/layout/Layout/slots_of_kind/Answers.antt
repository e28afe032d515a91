use Rattle.std.proofs.Common.{◌++◌, ◌∷◌, [], sym, ap, ◌∙◌, arith}
use Rattle.std.proofs.lemmas.List.FromFn.{map-range_with_len_more}
use Rattle.loc_encode.specs.declared.slots.Slot.TheVariants as slot
use Rattle.loc_encode.proofs.layout.Layout.slots_of_kind.Goals as goal

pub loop-line-preserved : goal.loop-line-preserved
loop-line-preserved c =
    c.in_ok-push.ensures.items
    ∙ ap (λ xs. xs ++ slot.Kind c.loop-line.line c.args.op ∷ []) c.loop-line.invariant
    ∙ sym (map-range_with_len_more (λ line. slot.Kind line c.args.op) 0 c.loop-line.line c.loop-line.line (omega arith))
