use Rattle.std.proofs.Common.{◌==◌, ◌+◌, All, get_or, take, refl, sym, subst}
use Rattle.std.proofs.lemmas.List.{take_more, take_all}
use Rattle.std.proofs.lemmas.Option.{slice_get-get_or}
use Rattle.bv_terms.specs.declared.op.TermId.{TermId}
use Rattle.bv_terms.specs.Table.{term_at}
use Rattle.bit_blast.specs.Words.{wiring, IsBelow, AreUnvisited}
use Rattle.bit_blast.proofs.NodeFacts.{no_memory-below}
use Rattle.bit_blast.proofs.VisitLemmas.{next-arguments, visit-more, visited-none, visited-root}
use Rattle.bit_blast.proofs.nodes.Nodes.visit.Goals as goal

abbrev zeroth : TermId
zeroth = record { 0 = 0 }

pub loop-next-init : goal.loop-next-init
loop-next-init c = visited-none c.args.terms.now c.args.root
    (wiring c.args.circuit.now c.args.self.now) c.requires.words

pub word_of-requires-clause-words : goal.word_of-requires-clause-words
word_of-requires-clause-words c = c.loop-next.invariant.moves.words

pub word_of-requires-clause-arguments : goal.word_of-requires-clause-arguments
word_of-requires-clause-arguments c =
    let nodes = c.deref-next-items.result.now in
    let i = c.loop-next.next-index in
    next-arguments c.args.terms.now c.args.root (wiring c.args.circuit.now c.args.self.now)
    (wiring c.loop-next.circuit c.loop-next.self) nodes i (get_or nodes i zeroth)
    (subst (AreUnvisited c.args.terms.now c.args.self.now c.args.root) (sym c.deref-next-items.ensures.value)
    c.in_ok-nodes.ensures)
    c.loop-next.invariant (slice_get-get_or nodes i zeroth c.loop-next-test.true)

pub word_of-requires-clause-memory : goal.word_of-requires-clause-memory
word_of-requires-clause-memory c =
    let table = c.args.terms.now in
    let nodes = c.deref-next-items.result.now in
    let i = c.loop-next.next-index in
    let below : All (IsBelow table c.args.root) nodes =
    subst (All (IsBelow table c.args.root)) (sym c.deref-next-items.ensures.value) c.in_ok-nodes.ensures.below in
    no_memory-below (term_at table (get_or nodes i zeroth)) (term_at table c.args.root)
    (below i zeroth c.loop-next-test.true).1 c.requires.memory

pub loop-next-preserved : goal.loop-next-preserved
loop-next-preserved c =
    let table = c.args.terms.now in
    let nodes = c.deref-next-items.result.now in
    let i = c.loop-next.next-index in
    let at = get_or nodes i zeroth in
    let old = wiring c.args.circuit.now c.args.self.now in
    let unvisited = subst (AreUnvisited table c.args.self.now c.args.root) (sym c.deref-next-items.ensures.value)
    c.in_ok-nodes.ensures in
    let below = unvisited.below i zeroth c.loop-next-test.true in
    visit-more (λ a b. a.0 == b.0) (λ a b. refl) table c.args.root old c.loop-next.circuit c.word_of.new.circuit
    c.loop-next.self c.put.new.self (take i nodes) (take (i + 1) nodes) at c.in_ok-word.word c.loop-next.invariant
    below.0 below.1
    (next-arguments table c.args.root old (wiring c.loop-next.circuit c.loop-next.self) nodes i at unvisited
    c.loop-next.invariant (slice_get-get_or nodes i zeroth c.loop-next-test.true))
    c.in_ok-word.ensures.widens c.in_ok-word.ensures.word c.in_ok-put.ensures
    (take_more nodes i zeroth c.loop-next-test.true)

pub returns-clause-moves : goal.returns-clause-moves
returns-clause-moves c = c.loop-next.invariant.moves

pub returns-clause-visited : goal.returns-clause-visited
returns-clause-visited c =
    let nodes = c.deref-next-items.result.now in
    visited-root c.args.terms.now c.args.root (wiring c.args.circuit.now c.args.self.now)
    (wiring c.loop-next.circuit c.loop-next.self) nodes (take c.loop-next.next-index nodes)
    (take_all c.loop-next.next-index nodes c.loop-next-test.false)
    (subst (AreUnvisited c.args.terms.now c.args.self.now c.args.root) (sym c.deref-next-items.ensures.value)
    c.in_ok-nodes.ensures)
    c.loop-next.invariant
