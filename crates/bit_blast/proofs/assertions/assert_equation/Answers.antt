use Rattle.std.proofs.lemmas.Result.{on_ok_weaker}
use Rattle.bit_blast.specs.Words.{wiring}
use Rattle.bit_blast.proofs.AssertLemmas.{equation-moves, equation-listed, same-places}
use Rattle.bit_blast.proofs.assertions.assert_equation.Goals as goal

pub visit-requires : goal.visit-requires
visit-requires c = record {
  table = c.requires.table;
  words = c.requires.words;
  there = c.requires.equation.left_within;
  memory = c.requires.equation.left_memory;
}

pub visit-requires-2 : goal.visit-requires-2
visit-requires-2 c = record {
  table = c.requires.table;
  words = c.in_ok-visit.ensures.moves.words;
  there = c.requires.equation.right_within;
  memory = c.requires.equation.right_memory;
}

pub word-requires : goal.word-requires
word-requires c = c.in_ok-visit-2.ensures.moves.kept c.args.sides.0 c.in_ok-visit.ensures.visited

pub assert_equal-requires : goal.assert_equal-requires
assert_equal-requires c =
    let are = c.in_ok-visit-2.ensures.moves.words in
    let left = are.words c.args.sides.0 c.word.result.now c.word.ensures in
    let right = are.words c.args.sides.1 c.word-2.result.now c.word-2.ensures in
    record {
      netlist = are.netlist;
      left = left.over;
      right = right.over;
      width = same-places c.args.terms.now c.visit-2.new.circuit c.args.sides.0 c.args.sides.1 c.word.result.now
          c.word-2.result.now c.requires.equation.same_sort left right;
    }

pub returns-clause-moves : goal.returns-clause-moves
returns-clause-moves c = on_ok_weaker c.assert_equal.result
    (λ asserts. equation-moves c.args.terms.now c.requires.table c.args.part c.args.sides.0 c.args.sides.1
    (wiring c.args.circuit.now c.args.nodes.now) (wiring c.visit.new.circuit c.visit.new.self)
    (wiring c.visit-2.new.circuit c.visit-2.new.self) c.assert_equal.new.circuit c.word.result.now c.word-2.result.now
    c.requires.equation c.in_ok-visit.ensures.moves c.in_ok-visit.ensures.visited c.in_ok-visit-2.ensures.moves
    c.word.ensures c.word-2.ensures asserts)
    c.assert_equal.ensures

pub returns-clause-listed : goal.returns-clause-listed
returns-clause-listed c = on_ok_weaker c.assert_equal.result
    (λ asserts.
    let moves = equation-moves c.args.terms.now c.requires.table c.args.part c.args.sides.0 c.args.sides.1
    (wiring c.args.circuit.now c.args.nodes.now) (wiring c.visit.new.circuit c.visit.new.self)
    (wiring c.visit-2.new.circuit c.visit-2.new.self) c.assert_equal.new.circuit c.word.result.now c.word-2.result.now
    c.requires.equation c.in_ok-visit.ensures.moves c.in_ok-visit.ensures.visited c.in_ok-visit-2.ensures.moves
    c.word.ensures c.word-2.ensures asserts in
    equation-listed c.args.terms.now c.requires.table c.args.part c.args.sides.0 c.args.sides.1
    (wiring c.assert_equal.new.circuit c.visit-2.new.self) c.requires.equation moves.words
    (c.in_ok-visit-2.ensures.moves.kept c.args.sides.0 c.in_ok-visit.ensures.visited) c.in_ok-visit-2.ensures.visited)
    c.assert_equal.ensures
