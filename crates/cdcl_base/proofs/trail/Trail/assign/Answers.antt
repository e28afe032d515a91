use Rattle.std.proofs.Common.{◌≡◌, ap, length, set, true, arith}
use Rattle.cdcl_base.proofs.TrailState.{state-forced}
use Rattle.cdcl_base.proofs.trail.Trail.assign.Goals as goal

pub invariant_of-self-2 : goal.invariant_of-self-2
invariant_of-self-2 c =
    let place : c.len-place.result ≡ length c.self.inside.lits.items = omega arith in
    state-forced c.self.inside.variables c.self.inside.lits.items c.self.inside.reasons.items
    c.self.inside.level_starts.items c.self.inside.truths.items c.self.inside.places.items c.self.inside.phases.items
    c.args.self.now c.args.lit c.args.reason c.push.new.lits.items c.push.new.reasons.items _ _
    c.self.invariant c.self.view_is c.requires.there c.requires.unassigned
    c.in_ok-push.ensures.lits c.in_ok-push.ensures.reasons
    (ap (λ n. set c.self.inside.truths.items n true) c.code.ensures.code)
    (λ i. set c.self.inside.places.items (c.variable.ensures.variable i) (place i))

pub returns-clause-trail : goal.returns-clause-trail
returns-clause-trail c = (invariant_of-self-2 c).0
