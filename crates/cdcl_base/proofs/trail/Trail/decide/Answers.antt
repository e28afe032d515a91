use Rattle.std.proofs.Common.{◌≡◌, ap, length, set, true, arith}
use Rattle.cdcl_base.proofs.TrailState.{state-decided}
use Rattle.cdcl_base.proofs.trail.Trail.decide.Goals as goal

pub invariant_of-self-2 : goal.invariant_of-self-2
invariant_of-self-2 c =
    let place : c.len-place.result ≡ length c.self.inside.lits.items = omega arith in
    state-decided c.self.inside.variables c.self.inside.lits.items c.self.inside.reasons.items
    c.self.inside.level_starts.items c.self.inside.truths.items c.self.inside.places.items c.self.inside.phases.items
    c.args.self.now c.args.lit c.push_decision.new.lits.items c.push_decision.new.reasons.items
    c.push_decision.new.level_starts.items _ _
    c.self.invariant c.self.view_is c.requires.there c.requires.unassigned
    c.in_ok-push_decision.ensures.lits c.in_ok-push_decision.ensures.reasons c.in_ok-push_decision.ensures.level_starts
    (ap (λ n. set c.self.inside.truths.items n true) c.code.ensures.code)
    (λ i. set c.self.inside.places.items (c.variable.ensures.variable i) (place i))

pub returns-clause-trail : goal.returns-clause-trail
returns-clause-trail c = (invariant_of-self-2 c).0
