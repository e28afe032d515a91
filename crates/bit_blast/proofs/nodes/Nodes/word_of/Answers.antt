use Rattle.std.proofs.Common.{[], ◌∷◌, arith}
use Rattle.std.proofs.lemmas.Result.{IfOk-weaker, on_ok_weaker}
use Rattle.bv_terms.specs.declared.op.TermId.{TermId}
use Rattle.bv_terms.specs.Table.{term_at}
use Rattle.bit_blast.specs.Bits.{IsBitOf}
use Rattle.bit_blast.proofs.OperationLemmas.{on-ok, ok-both}
use Rattle.bit_blast.proofs.MoveLemmas.{grows-widens, widens-itself}
use Rattle.bit_blast.proofs.InputLemmas.{input-widens, input-kind}
use Rattle.bit_blast.proofs.NodeFacts.{node-facts, none-node, one-node, two-node, three-node, three-left}
use Rattle.bit_blast.proofs.TermWordLemmas.{may-stand, op-word, op-grown}
use Rattle.bit_blast.proofs.nodes.Nodes.word_of.Goals as goal

abbrev zeroth : TermId
zeroth = record { 0 = 0 }

pub returns-in-Input-clause-widens : goal.returns-in-Input-clause-widens
returns-in-Input-clause-widens c =
    let node = node-facts c.args.terms.now c.requires.table c.args.at _ _ c.node.ensures in
    on_ok_weaker c.input_word.result
    (input-widens c.args.terms.now c.args.at _ _ c.in-Input.number c.width.result c.in-Input.sort node c.in-Input.is
    c.width.ensures c.args.circuit.now c.input_word.new.circuit) c.input_word.ensures.widens

pub returns-in-Input-clause-word : goal.returns-in-Input-clause-word
returns-in-Input-clause-word c =
    let node = node-facts c.args.terms.now c.requires.table c.args.at _ _ c.node.ensures in
    IfOk-weaker c.input_word.result _ _
    (λ word is. input-kind c.args.terms.now c.args.at _ _ c.in-Input.number c.width.result c.in-Input.sort node
    c.in-Input.is c.width.ensures c.requires.memory c.input_word.new.circuit word is)
    c.input_word.ensures.word

pub constant_word-requires : goal.constant_word-requires
constant_word-requires c =
    let node = none-node c.args.terms.now c.requires.table c.args.at _ _ c.node.ensures c.if-args-eq0.true in
    record {
      stands = may-stand c.args.terms.now c.args.at _ [] c.args.circuit.now [] node tt;
      constant = c.in_default.not-Input;
    }

pub returns-then-args-eq0 : goal.returns-then-args-eq0
returns-then-args-eq0 c =
    let table = c.args.terms.now in
    let node = none-node table c.requires.table c.args.at _ _ c.node.ensures c.if-args-eq0.true in
    record {
      widens = on-ok c.constant_word.result
          (widens-itself (IsBitOf (term_at table c.args.at)) c.args.circuit.now c.requires.words.netlist);
      word = IfOk-weaker c.constant_word.result _ _
          (λ word is. op-word table c.args.at _ [] c.args.circuit.now [] word node tt c.in_default.not-Input
          (is c.args.circuit.now)) c.constant_word.ensures;
    }

pub word-requires : goal.word-requires
word-requires c = c.requires.arguments _ c.node.ensures 0 zeroth (omega (arith, c.if-args-eq1.true))

pub of_one-requires : goal.of_one-requires
of_one-requires c =
    let table = c.args.terms.now in
    let node = one-node table c.requires.table c.args.at _ _ c.node.ensures c.if-args-eq1.true in
    let first = c.requires.words.words _ c.word.result.now c.word.ensures in
    record {
      netlist = c.requires.words.netlist;
      word = first.over;
      stands = may-stand table c.args.at _ _ c.args.circuit.now (c.word.result.now ∷ []) node (first, tt);
    }

pub returns-then-args-eq1 : goal.returns-then-args-eq1
returns-then-args-eq1 c =
    let table = c.args.terms.now in
    let node = one-node table c.requires.table c.args.at _ _ c.node.ensures c.if-args-eq1.true in
    let first = c.requires.words.words _ c.word.result.now c.word.ensures in
    record {
      widens = on_ok_weaker c.of_one.result
          (grows-widens (IsBitOf (term_at table c.args.at)) c.args.circuit.now c.of_one.new.circuit)
          c.of_one.ensures.grows;
      word = ok-both _ _ c.of_one.result c.of_one.ensures.grows c.of_one.ensures.word
          (λ word growth is. op-grown table c.args.at _ _ c.args.circuit.now c.of_one.new.circuit
          (c.word.result.now ∷ []) word node (first, tt) c.in_default.not-Input growth is);
    }

pub word-requires-then-args-eq2 : goal.word-requires-then-args-eq2
word-requires-then-args-eq2 c = c.requires.arguments _ c.node.ensures 0 zeroth (omega (arith, c.if-args-eq2.true))

pub word-requires-then-args-eq2-2 : goal.word-requires-then-args-eq2-2
word-requires-then-args-eq2-2 c = c.requires.arguments _ c.node.ensures 1 zeroth (omega (arith, c.if-args-eq2.true))

pub of_two-requires : goal.of_two-requires
of_two-requires c =
    let table = c.args.terms.now in
    let node = two-node table c.requires.table c.args.at _ _ c.node.ensures c.if-args-eq2.true in
    let left = c.word-then-args-eq2.result.now in
    let right = c.word-then-args-eq2-2.result.now in
    let first = c.requires.words.words _ left c.word-then-args-eq2.ensures in
    let second = c.requires.words.words _ right c.word-then-args-eq2-2.ensures in
    record {
      netlist = c.requires.words.netlist;
      left = first.over;
      right = second.over;
      stands = may-stand table c.args.at _ _ c.args.circuit.now (left ∷ right ∷ []) node (first, (second, tt));
    }

pub returns-then-args-eq2 : goal.returns-then-args-eq2
returns-then-args-eq2 c =
    let table = c.args.terms.now in
    let node = two-node table c.requires.table c.args.at _ _ c.node.ensures c.if-args-eq2.true in
    let left = c.word-then-args-eq2.result.now in
    let right = c.word-then-args-eq2-2.result.now in
    let first = c.requires.words.words _ left c.word-then-args-eq2.ensures in
    let second = c.requires.words.words _ right c.word-then-args-eq2-2.ensures in
    record {
      widens = on_ok_weaker c.of_two.result
          (grows-widens (IsBitOf (term_at table c.args.at)) c.args.circuit.now c.of_two.new.circuit)
          c.of_two.ensures.grows;
      word = ok-both _ _ c.of_two.result c.of_two.ensures.grows c.of_two.ensures.word
          (λ word growth is. op-grown table c.args.at _ _ c.args.circuit.now c.of_two.new.circuit
          (left ∷ right ∷ []) word node (first, (second, tt)) c.in_default.not-Input growth is);
    }

pub word-requires-2 : goal.word-requires-2
word-requires-2 c =
    let three = three-left c.args.terms.now c.requires.table c.args.at _ _ c.node.ensures c.if-args-eq0.false
    c.if-args-eq1.false c.if-args-eq2.false in
    c.requires.arguments _ c.node.ensures 0 zeroth (omega (arith, three))

pub word-requires-3 : goal.word-requires-3
word-requires-3 c =
    let three = three-left c.args.terms.now c.requires.table c.args.at _ _ c.node.ensures c.if-args-eq0.false
    c.if-args-eq1.false c.if-args-eq2.false in
    c.requires.arguments _ c.node.ensures 1 zeroth (omega (arith, three))

pub word-requires-4 : goal.word-requires-4
word-requires-4 c =
    let three = three-left c.args.terms.now c.requires.table c.args.at _ _ c.node.ensures c.if-args-eq0.false
    c.if-args-eq1.false c.if-args-eq2.false in
    c.requires.arguments _ c.node.ensures 2 zeroth (omega (arith, three))

pub of_three-requires : goal.of_three-requires
of_three-requires c =
    let table = c.args.terms.now in
    let three = three-left table c.requires.table c.args.at _ _ c.node.ensures c.if-args-eq0.false
    c.if-args-eq1.false c.if-args-eq2.false in
    let node = three-node table c.requires.table c.args.at _ _ c.node.ensures three in
    let first = c.requires.words.words _ c.word-2.result.now c.word-2.ensures in
    let second = c.requires.words.words _ c.word-3.result.now c.word-3.ensures in
    let third = c.requires.words.words _ c.word-4.result.now c.word-4.ensures in
    record {
      netlist = c.requires.words.netlist;
      condition = first.over;
      chosen = second.over;
      otherwise = third.over;
      stands = may-stand table c.args.at _ _ c.args.circuit.now
          (c.word-2.result.now ∷ c.word-3.result.now ∷ c.word-4.result.now ∷ []) node (first, (second, (third, tt)));
    }

pub returns : goal.returns
returns c =
    let table = c.args.terms.now in
    let three = three-left table c.requires.table c.args.at _ _ c.node.ensures c.if-args-eq0.false
    c.if-args-eq1.false c.if-args-eq2.false in
    let node = three-node table c.requires.table c.args.at _ _ c.node.ensures three in
    let first = c.requires.words.words _ c.word-2.result.now c.word-2.ensures in
    let second = c.requires.words.words _ c.word-3.result.now c.word-3.ensures in
    let third = c.requires.words.words _ c.word-4.result.now c.word-4.ensures in
    record {
      widens = on_ok_weaker c.of_three.result
          (grows-widens (IsBitOf (term_at table c.args.at)) c.args.circuit.now c.of_three.new.circuit)
          c.of_three.ensures.grows;
      word = ok-both _ _ c.of_three.result c.of_three.ensures.grows c.of_three.ensures.word
          (λ word growth is. op-grown table c.args.at _ _ c.args.circuit.now c.of_three.new.circuit
          (c.word-2.result.now ∷ c.word-3.result.now ∷ c.word-4.result.now ∷ []) word node (
            first,
            (
              second,
              (third, tt),
            ),
          )
          c.in_default.not-Input growth is);
    }
