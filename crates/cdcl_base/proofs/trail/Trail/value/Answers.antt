use Rattle.std.proofs.Common.{◌≡◌, ◌+◌, ◌*◌, ◌<◌, true, false, ap, subst, arith}
use Rattle.std.specs.Bool.{beq}
use Rattle.cnf_core.specs.Clause.{contains}
use Rattle.cdcl_base.specs.Trail.{Trail}
use Rattle.cdcl_base.proofs.ValueLemmas.{lit, truth_at, value-true, value-false, value-none}
use Rattle.cdcl_base.proofs.trail.Trail.value.Goals as goal

pub returns-then-index : goal.returns-then-index
returns-then-index c = λ sign.
    let room = c.self.invariant.1.truths_room in
    let there : c.args.variable < c.self.inside.variables =
    omega (arith, ap (λ (t : Trail). t.variables) c.self.view_is, c.requires) in
    subst (λ (t : Trail). contains t.lits (lit c.args.variable sign) ≡ beq true sign) c.self.view_is
    (value-true c.self.inside.truths.items c.self.inside.lits.items c.args.variable c.self.invariant.0.distinct
    c.self.invariant.1.agree
    (truth_at c.self.inside.truths.items (2 * c.args.variable + 1) c.index.result.now true (omega arith)
    c.index.ensures c.if-index.true) sign)

pub returns-then-index-2 : goal.returns-then-index-2
returns-then-index-2 c = λ sign.
    let room = c.self.invariant.1.truths_room in
    let there : c.args.variable < c.self.inside.variables =
    omega (arith, ap (λ (t : Trail). t.variables) c.self.view_is, c.requires) in
    subst (λ (t : Trail). contains t.lits (lit c.args.variable sign) ≡ beq false sign) c.self.view_is
    (value-false c.self.inside.truths.items c.self.inside.lits.items c.args.variable c.self.invariant.0.distinct
    c.self.invariant.1.agree
    (truth_at c.self.inside.truths.items (2 * c.args.variable) c.index-2.result.now true (omega arith)
    c.index-2.ensures c.if-index-2.true) sign)

pub returns : goal.returns
returns c = λ sign.
    let room = c.self.invariant.1.truths_room in
    let there : c.args.variable < c.self.inside.variables =
    omega (arith, ap (λ (t : Trail). t.variables) c.self.view_is, c.requires) in
    subst (λ (t : Trail). contains t.lits (lit c.args.variable sign) ≡ false) c.self.view_is
    (value-none c.self.inside.truths.items c.self.inside.lits.items c.args.variable
    c.self.invariant.1.agree
    (truth_at c.self.inside.truths.items (2 * c.args.variable + 1) c.index.result.now false (omega arith)
    c.index.ensures c.if-index.false)
    (truth_at c.self.inside.truths.items (2 * c.args.variable) c.index-2.result.now false (omega arith)
    c.index-2.ensures c.if-index-2.false) sign)
