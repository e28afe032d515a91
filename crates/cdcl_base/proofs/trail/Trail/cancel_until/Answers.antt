use Rattle.cdcl_base.proofs.TrailState.{state-cancelled, values-cancelled}
use Rattle.cdcl_base.proofs.trail.Trail.cancel_until.Goals as goal

pub unassign_from-requires-clause-room : goal.unassign_from-requires-clause-room
unassign_from-requires-clause-room c =
    (c.self.inside.variables, c.self.invariant.0.over, c.self.invariant.1.truths_room, c.self.invariant.1.phases_room)

pub invariant_of-self : goal.invariant_of-self
invariant_of-self c = (
  (state-cancelled c.self.inside.variables c.self.inside.lits.items c.self.inside.reasons.items
      c.self.inside.level_starts.items c.args.self.now c.args.keep c.cancel_decisions-place.result
      c.unassign_from.new.lits.items c.truncate.new.self.items c.cancel_decisions-place.new.level_starts.items
      c.self.invariant.0 c.self.view_is
      c.cancel_decisions-place.ensures.front c.cancel_decisions-place.ensures.first
      c.cancel_decisions-place.ensures.later c.cancel_decisions-place.ensures.before c.unassign_from.ensures.lits
      c.truncate.ensures.items).0,
  values-cancelled c.self.inside.variables c.self.inside.lits.items c.self.inside.truths.items
      c.self.inside.places.items c.self.inside.phases.items c.cancel_decisions-place.result
      c.unassign_from.new.lits.items c.unassign_from.new.truths.items c.unassign_from.new.phases.items
      c.self.invariant.1 c.unassign_from.ensures.lits c.unassign_from.ensures.agree
      c.unassign_from.ensures.truths_len c.unassign_from.ensures.phases_len,
)

pub returns-clause-cancelled : goal.returns-clause-cancelled
returns-clause-cancelled c =
    (state-cancelled c.self.inside.variables c.self.inside.lits.items c.self.inside.reasons.items
    c.self.inside.level_starts.items c.args.self.now c.args.keep c.cancel_decisions-place.result
    c.unassign_from.new.lits.items c.truncate.new.self.items c.cancel_decisions-place.new.level_starts.items
    c.self.invariant.0 c.self.view_is
    c.cancel_decisions-place.ensures.front c.cancel_decisions-place.ensures.first
    c.cancel_decisions-place.ensures.later c.cancel_decisions-place.ensures.before c.unassign_from.ensures.lits
    c.truncate.ensures.items).1

pub returns-clause-trail : goal.returns-clause-trail
returns-clause-trail c = (invariant_of-self c).0
