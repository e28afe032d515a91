use Rattle.std.proofs.Common.{◌+◌, [], All, length, take, sym, subst}
use Rattle.std.proofs.lemmas.List.{take_more, take_all}
use Rattle.std.proofs.lemmas.Result.{on_ok_weaker}
use Rattle.bv_terms.specs.Table.{term_at}
use Rattle.circuit.specs.Signal.{IsSignalOver}
use Rattle.bit_blast.specs.declared.parts.Join.TheVariants as join
use Rattle.bit_blast.specs.Words.{wiring, AreListed}
use Rattle.bit_blast.specs.Parts.{AreParts}
use Rattle.bit_blast.proofs.MoveLemmas.{asserts-bits}
use Rattle.bit_blast.proofs.AssertLemmas.{IsClause, clause-none, clause-more, clause-as, clause-moves, parts-listed}
use Rattle.bit_blast.proofs.assertions.assert_some.Goals as goal

pub loop-next-init : goal.loop-next-init
loop-next-init c =
    let table = c.args.terms.now in
    let old = wiring c.args.circuit.now c.args.nodes.now in
    let t = term_at table c.args.part.at in
    subst (IsClause table t old old []) (sym c.new-clause.ensures.items) (clause-none table t old c.requires.words)

pub loop-next-preserved : goal.loop-next-preserved
loop-next-preserved c =
    let table = c.args.terms.now in
    let parts = c.deref-next-items.result.now in
    let i = c.loop-next.next-index in
    let are = subst (AreParts table join.Any c.args.part)
    (sym c.deref-next-items.ensures.value) c.in_ok-parts.ensures in
    clause-more table (term_at table c.args.part.at) (wiring c.args.circuit.now c.args.nodes.now)
    (wiring c.loop-next.circuit c.loop-next.nodes) (wiring c.signal.new.circuit c.signal.new.nodes)
    (take i parts) (take (i + 1) parts) c.loop-next.clause.items c.push.new.self.items _ c.in_ok-signal.signal
    c.loop-next.invariant (are.below i _ c.loop-next-test.true)
    c.in_ok-signal.ensures.moves c.in_ok-signal.ensures.listed c.in_ok-signal.ensures.value
    (take_more parts i _ c.loop-next-test.true) c.in_ok-push.ensures.items

pub assert_any-requires : goal.assert_any-requires
assert_any-requires c = record {
  netlist = c.loop-next.invariant.moves.words.netlist;
  signals = subst (All (IsSignalOver (length c.loop-next.circuit.gates))) (sym c.deref.ensures.value)
      c.loop-next.invariant.over;
}

pub returns-clause-moves : goal.returns-clause-moves
returns-clause-moves c =
    let table = c.args.terms.now in
    let parts = c.deref-next-items.result.now in
    let are = subst (AreParts table join.Any c.args.part)
    (sym c.deref-next-items.ensures.value) c.in_ok-parts.ensures in
    on_ok_weaker c.assert_any.result
    (λ asserts. clause-moves table c.args.part parts (wiring c.args.circuit.now c.args.nodes.now)
    (wiring c.loop-next.circuit c.loop-next.nodes) c.assert_any.new.self c.deref.result.now are
    (clause-as table (term_at table c.args.part.at) (wiring c.args.circuit.now c.args.nodes.now)
    (wiring c.loop-next.circuit c.loop-next.nodes) (take c.loop-next.next-index parts) parts
    c.loop-next.clause.items c.deref.result.now
    (take_all c.loop-next.next-index parts c.loop-next-test.false) c.deref.ensures.value
    c.loop-next.invariant)
    asserts)
    c.assert_any.ensures.asserts

pub returns-clause-listed : goal.returns-clause-listed
returns-clause-listed c =
    let table = c.args.terms.now in
    let parts = c.deref-next-items.result.now in
    let are = subst (AreParts table join.Any c.args.part)
    (sym c.deref-next-items.ensures.value) c.in_ok-parts.ensures in
    let clause = clause-as table (term_at table c.args.part.at) (wiring c.args.circuit.now c.args.nodes.now)
    (wiring c.loop-next.circuit c.loop-next.nodes) (take c.loop-next.next-index parts) parts
    c.loop-next.clause.items c.deref.result.now
    (take_all c.loop-next.next-index parts c.loop-next-test.false) c.deref.ensures.value
    c.loop-next.invariant in
    on_ok_weaker c.assert_any.result
    (λ asserts. subst (λ bits. AreListed bits (term_at table c.args.part.at))
    (sym (asserts-bits c.loop-next.circuit c.assert_any.new.self _ c.loop-next.invariant.moves.words.netlist asserts))
    (parts-listed table join.Any c.args.part parts c.loop-next.circuit.bits are clause.listed))
    c.assert_any.ensures.asserts
