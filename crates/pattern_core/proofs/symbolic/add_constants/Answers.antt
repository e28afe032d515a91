use Rattle.std.proofs.Common.{◌≡◌, length, min, arith}
use Rattle.pattern_core.proofs.SymbolicTables.{AreConstants-more, AreConstants-all}
use Rattle.pattern_core.proofs.symbolic.add_constants.Goals as goal

pub loop-place-preserved : goal.loop-place-preserved
loop-place-preserved c =
    AreConstants-more c.args.terms.now c.loop-place.terms c.constant.new.terms c.args.nodes.now.items
    c.loop-place.nodes.items c.push.new.self.items c.args.widths.now c.args.numbers.now c.loop-place.place 0 0
    c.in_ok-node.node c.loop-place.invariant (omega arith) (omega arith) c.in_ok-node.ensures.table
    c.in_ok-node.ensures.extends c.in_ok-node.ensures.within c.in_ok-node.ensures.term c.in_ok-push.ensures.items

pub returns-clause-terms : goal.returns-clause-terms
returns-clause-terms c =
    let at_end : c.loop-place.place ≡ min (length c.args.widths.now) (length c.args.numbers.now) = omega arith in
    AreConstants-all c.args.terms.now c.loop-place.terms c.args.nodes.now.items c.loop-place.nodes.items
    c.args.widths.now c.args.numbers.now c.loop-place.place c.loop-place.invariant at_end
