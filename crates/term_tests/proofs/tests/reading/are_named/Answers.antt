use Rattle.std.proofs.Common.{below_more, map}
use Rattle.std.specs.String.{string_bytes}
use Rattle.term_text.proofs.NamedLemmas.{named-node}
use Rattle.term_tests.proofs.tests.reading.are_named.Goals as goal

pub loop-place-preserved : goal.loop-place-preserved
loop-place-preserved c =
    below_more _ _ c.loop-place.invariant
    (named-node c.args.terms.now c.len-place-end.ensures.table (map string_bytes c.args.names.now) c.loop-place.place _
    c.node.ensures (c.is_named.ensures c.if-not-is_named.false) c.loop-place.invariant)
