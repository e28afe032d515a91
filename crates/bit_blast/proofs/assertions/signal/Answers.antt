use Rattle.std.proofs.Common.{◌≤◌, length, arith}
use Rattle.bit_blast.specs.Words.{wiring}
use Rattle.bit_blast.proofs.AssertLemmas.{part-signal}
use Rattle.bit_blast.proofs.MoveLemmas.{word-covers}
use Rattle.bit_blast.proofs.assertions.signal.Goals as goal

pub bounds-word-0 : goal.bounds-word-0
bounds-word-0 c =
    let is = c.in_ok-visit.ensures.moves.words.words c.args.part.at c.word-word.result.now c.word-word.ensures in
    let some : 1 ≤ length c.word-word.result.now = is.some in
    omega arith

pub returns-clause-listed : goal.returns-clause-listed
returns-clause-listed c = word-covers c.args.terms.now c.requires.table
    (wiring c.visit.new.circuit c.visit.new.self) c.in_ok-visit.ensures.moves.words c.args.part.at
    c.in_ok-visit.ensures.visited

pub returns-clause-value : goal.returns-clause-value
returns-clause-value c =
    let are = c.in_ok-visit.ensures.moves.words in
    let is = are.words c.args.part.at c.word-word.result.now c.word-word.ensures in
    part-signal c.args.terms.now c.args.part (wiring c.visit.new.circuit c.visit.new.self) c.word-word.result.now _
    c.turned.result c.requires.formula are c.word-word.ensures c.turned.ensures.value
    (c.turned.ensures.over _ (is.over 0 _ is.some))
