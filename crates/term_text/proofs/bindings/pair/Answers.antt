use Rattle.std.proofs.Common.{arith}
use Rattle.term_text.proofs.bindings.pair.Goals as goal

pub returns-in-len2-clause-later : goal.returns-in-len2-clause-later
returns-in-len2-clause-later c = λ bytes reading.
    let later = c.in_ok-children.ensures.later bytes reading in
    let first = later 0 0 (omega arith) in
    let second = later 1 0 (omega arith) in
    (first.0, first.1, second.0, second.1)
