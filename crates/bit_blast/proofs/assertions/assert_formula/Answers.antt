use Rattle.std.proofs.Common.{◌+◌, take, true, refl, sym, subst}
use Rattle.std.proofs.lemmas.List.{take_more, take_all}
use Rattle.bv_terms.specs.Table.{term_at}
use Rattle.bit_blast.specs.declared.parts.Join.TheVariants as join
use Rattle.bit_blast.specs.Words.{wiring}
use Rattle.bit_blast.specs.Parts.{AreParts}
use Rattle.bit_blast.proofs.AssertLemmas.{AreAsserted, asserted-none, asserted-more, asserted-formula, parts-listed}
use Rattle.bit_blast.proofs.MemberLemmas.{part_of}
use Rattle.bit_blast.proofs.assertions.assert_formula.Goals as goal

pub loop-part-init : goal.loop-part-init
loop-part-init c = asserted-none c.args.terms.now (term_at c.args.terms.now c.args.formula)
    (wiring c.args.circuit.now c.args.nodes.now) c.requires.words

pub loop-part-preserved : goal.loop-part-preserved
loop-part-preserved c =
    let table = c.args.terms.now in
    let parts = c.deref-part-items.result.now in
    let i = c.loop-part.part-index in
    let are = subst (AreParts table join.All (part_of c.args.formula true)) (sym c.deref-part-items.ensures.value)
    c.in_ok-parts.ensures in
    asserted-more table (term_at table c.args.formula) (wiring c.args.circuit.now c.args.nodes.now)
    (wiring c.loop-part.circuit c.loop-part.nodes) (wiring c.assert_part.new.circuit c.assert_part.new.nodes)
    (take i parts) (take (i + 1) parts) _ c.loop-part.invariant (are.below i _ c.loop-part-test.true)
    c.in_ok-assert_part.ensures.moves c.in_ok-assert_part.ensures.listed (take_more parts i _ c.loop-part-test.true)

pub returns-clause-moves : goal.returns-clause-moves
returns-clause-moves c =
    let table = c.args.terms.now in
    let parts = c.deref-part-items.result.now in
    let are = subst (AreParts table join.All (part_of c.args.formula true)) (sym c.deref-part-items.ensures.value)
    c.in_ok-parts.ensures in
    asserted-formula table (part_of c.args.formula true) parts (take c.loop-part.part-index parts)
    (wiring c.args.circuit.now c.args.nodes.now) (wiring c.loop-part.circuit c.loop-part.nodes) refl
    (take_all c.loop-part.part-index parts c.loop-part-test.false) are c.loop-part.invariant

pub returns-clause-listed : goal.returns-clause-listed
returns-clause-listed c =
    let table = c.args.terms.now in
    let parts = c.deref-part-items.result.now in
    let are = subst (AreParts table join.All (part_of c.args.formula true)) (sym c.deref-part-items.ensures.value)
    c.in_ok-parts.ensures in
    let asserted = subst (AreAsserted table (term_at table c.args.formula) (wiring c.args.circuit.now c.args.nodes.now)
    (wiring c.loop-part.circuit c.loop-part.nodes))
    (take_all c.loop-part.part-index parts c.loop-part-test.false) c.loop-part.invariant in
    parts-listed table join.All (part_of c.args.formula true) parts c.loop-part.circuit.bits are asserted.listed
