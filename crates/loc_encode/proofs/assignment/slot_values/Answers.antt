use Rattle.std.proofs.Common.{◌∙◌, ap}
use Rattle.isel_spec.specs.Spec.{file}
use Rattle.loc_encode.specs.SlotValues.{slot_value}
use Rattle.loc_encode.proofs.AssignLemmas.{values-more}
use Rattle.loc_encode.proofs.assignment.slot_values.Goals as goal

pub loop-number-preserved : goal.loop-number-preserved
loop-number-preserved c =
    values-more (file c.args.spec.now) c.args.pattern.now c.loop-number.values.items c.push.new.self.items
    c.loop-number.number c.slot_value.result c.in_ok-push.ensures.items
    (c.slot_value.ensures ∙ ap (slot_value (file c.args.spec.now) c.args.pattern.now) c.at.ensures)
    c.loop-number.invariant
