use Rattle.cdcl_base.proofs.trail.Trail.clear.Goals as goal

pub unassign_from-requires-clause-room : goal.unassign_from-requires-clause-room
unassign_from-requires-clause-room c =
    (c.self.inside.variables, c.self.invariant.0.over, c.self.invariant.1.truths_room, c.self.invariant.1.phases_room)
