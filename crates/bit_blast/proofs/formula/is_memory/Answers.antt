use Rattle.std.proofs.Common.{◌∙◌, sym, true, false}
use Rattle.bit_blast.proofs.FormulaLemmas.{is_memory-at}
use Rattle.bit_blast.proofs.formula.is_memory.Goals as goal

pub returns-then-is_empty : goal.returns-then-is_empty
returns-then-is_empty c =
    c.reads_memory.ensures ∙ is_memory-at c.args.terms.now c.len-count.ensures.table c.args.at c.node.result.0.now
    c.node.result.1.now true c.node.ensures (sym c.if-is_empty.true ∙ c.is_empty.ensures)

pub returns-else-is_empty : goal.returns-else-is_empty
returns-else-is_empty c =
    c.if-is_empty.false ∙ is_memory-at c.args.terms.now c.len-count.ensures.table c.args.at c.node.result.0.now
    c.node.result.1.now false c.node.ensures (sym c.if-is_empty.false ∙ c.is_empty.ensures)
