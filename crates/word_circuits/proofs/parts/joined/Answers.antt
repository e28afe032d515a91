use Rattle.std.proofs.Common.{◌++◌, ap, ◌∙◌, arith}
use Rattle.std.proofs.lemmas.List.{take_all}
use Rattle.word_circuits.proofs.PartLemmas.{joined-of}
use Rattle.word_circuits.proofs.parts.joined.Goals as goal

pub returns-clause-word : goal.returns-clause-word
returns-clause-word c =
    λ n above below.
    joined-of c.args.high.now c.args.low.now c.loop-place.result
    (c.loop-place.invariant ∙ ap (λ xs. c.args.low.now ++ xs)
    (take_all c.loop-place.place c.args.high.now (omega arith)))
    above below
