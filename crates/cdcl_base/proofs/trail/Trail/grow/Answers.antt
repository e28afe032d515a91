use Rattle.std.proofs.Common.{le_refl, arith, ap, ◌≤◌}
use Rattle.cdcl_base.specs.Trail.{Trail}
use Rattle.cdcl_base.proofs.TrailState.{state-grown}
use Rattle.cdcl_base.proofs.trail.Trail.grow.Goals as goal

pub invariant_of-self-in_err-extend_places : goal.invariant_of-self-in_err-extend_places
invariant_of-self-in_err-extend_places c =
    let truths_room = c.self.invariant.1.truths_room in
    let places_room = c.self.invariant.1.places_room in
    let truths = c.extend_flags.ensures.kept in
    let places = c.extend_places.ensures.kept in
    state-grown c.self.inside.variables c.self.inside.variables c.self.inside.lits.items c.self.inside.reasons.items
    c.self.inside.level_starts.items c.self.inside.truths.items c.self.inside.places.items c.self.inside.phases.items
    c.extend_flags.new.flags.items c.extend_places.new.places.items c.self.inside.phases.items
    c.self.invariant (le_refl c.self.inside.variables) c.self.invariant.0.small c.extend_flags.ensures.same
    c.extend_places.ensures.same (omega (arith, truths_room, truths)) (omega (arith, places_room, places))
    c.self.invariant.1.phases_room

pub invariant_of-self-in_err-extend_flags-2 : goal.invariant_of-self-in_err-extend_flags-2
invariant_of-self-in_err-extend_flags-2 c =
    let truths_room = c.self.invariant.1.truths_room in
    let places_room = c.self.invariant.1.places_room in
    let phases_room = c.self.invariant.1.phases_room in
    let truths = c.extend_flags.ensures.kept in
    let places = c.extend_places.ensures.kept in
    let phases = c.extend_flags-2.ensures.kept in
    state-grown c.self.inside.variables c.self.inside.variables c.self.inside.lits.items c.self.inside.reasons.items
    c.self.inside.level_starts.items c.self.inside.truths.items c.self.inside.places.items c.self.inside.phases.items
    c.extend_flags.new.flags.items c.extend_places.new.places.items c.extend_flags-2.new.flags.items
    c.self.invariant (le_refl c.self.inside.variables) c.self.invariant.0.small c.extend_flags.ensures.same
    c.extend_places.ensures.same (omega (arith, truths_room, truths)) (omega (arith, places_room, places))
    (omega (arith, phases_room, phases))

pub invariant_of-self-2 : goal.invariant_of-self-2
invariant_of-self-2 c =
    let more : c.self.inside.variables ≤ c.args.variables =
    omega (arith, ap (λ (t : Trail). t.variables) c.self.view_is, c.requires) in
    state-grown c.self.inside.variables c.args.variables c.self.inside.lits.items c.self.inside.reasons.items
    c.self.inside.level_starts.items c.self.inside.truths.items c.self.inside.places.items c.self.inside.phases.items
    c.extend_flags.new.flags.items c.extend_places.new.places.items c.extend_flags-2.new.flags.items
    c.self.invariant more (omega arith) c.extend_flags.ensures.same
    c.extend_places.ensures.same c.in_ok-extend_flags.ensures.size c.in_ok-extend_places.ensures.size
    c.in_ok-extend_flags-2.ensures.size
