use Rattle.std.proofs.Common.{◌≡◌, ◌++◌, length, min, arith}
use Rattle.pattern_core.specs.Rule.{attr_values}
use Rattle.pattern_core.proofs.EvalLemmas.{attributes-more, attributes-all}
use Rattle.pattern_core.proofs.meaning.add_attributes.Goals as goal

pub loop-place-preserved : goal.loop-place-preserved
loop-place-preserved c =
    attributes-more c.args.widths.now c.args.numbers.now c.loop-place.place 0 0
    (c.args.values.now.items ++ attr_values c.args.widths.now c.args.numbers.now) c.loop-place.values.items
    c.push.new.self.items (omega arith) (omega arith) c.loop-place.invariant c.in_ok-push.ensures.items

pub returns : goal.returns
returns c =
    let at_end : c.loop-place.place ≡ min (length c.args.widths.now) (length c.args.numbers.now) = omega arith in
    attributes-all c.args.widths.now c.args.numbers.now c.loop-place.place
    (c.args.values.now.items ++ attr_values c.args.widths.now c.args.numbers.now) c.loop-place.values.items at_end
    c.loop-place.invariant
