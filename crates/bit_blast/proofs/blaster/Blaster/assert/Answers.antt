use Rattle.std.proofs.Common.{List, sym, subst}
use Rattle.bv_terms.specs.declared.op.TermId.{TermId}
use Rattle.bv_terms.specs.Table.{term_at}
use Rattle.bit_blast.specs.Words.{wiring}
use Rattle.bit_blast.specs.Parts.{node_true}
use Rattle.bit_blast.specs.Blast.{Blast, IsRight, Continues}
use Rattle.bit_blast.proofs.BlastLemmas.{asserted-right, moves-continue}
use Rattle.bit_blast.proofs.blaster.Blaster.assert.Goals as goal

pub assert_formula-requires : goal.assert_formula-requires
assert_formula-requires c =
    let right = subst (λ (b : Blast). IsRight b c.args.terms.now) (sym c.self.view_is) c.requires.right in
    record {
      table = c.len-count.ensures.table;
      words = right.words;
      formula = (c.requires.there, c.requires.truth);
    }

pub returns-clause-right : goal.returns-clause-right
returns-clause-right c =
    let table = c.args.terms.now in
    let inside = c.self.inside in
    let old : Blast = record { formulas = inside.formulas.items; netlist = inside.circuit; words = inside.nodes } in
    let right = subst (λ (b : Blast). IsRight b table) (sym c.self.view_is) c.requires.right in
    subst (λ (fs : List TermId). IsRight (record {
      formulas = fs;
      netlist = c.assert_formula.new.circuit;
      words = c.assert_formula.new.nodes;
    }) table) (sym c.in_ok-push.ensures.items)
    (asserted-right old table right c.args.formula c.requires.there c.assert_formula.new.circuit
    c.assert_formula.new.nodes c.in_ok-assert_formula.ensures.moves c.in_ok-assert_formula.ensures.listed)

pub returns-clause-continues : goal.returns-clause-continues
returns-clause-continues c =
    let table = c.args.terms.now in
    let inside = c.self.inside in
    let right = subst (λ (b : Blast). IsRight b table) (sym c.self.view_is) c.requires.right in
    subst (λ (b : Blast). Continues b.netlist c.assert_formula.new.circuit) c.self.view_is
    (moves-continue table (term_at table c.args.formula) (λ env. node_true table env c.args.formula)
    (wiring inside.circuit inside.nodes) (wiring c.assert_formula.new.circuit c.assert_formula.new.nodes) right.words
    c.in_ok-assert_formula.ensures.moves)
