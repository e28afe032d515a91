use Rattle.std.proofs.Common.{◌∙◌, ap, sym}
use Rattle.std.specs.List.{list_any}
use Rattle.bv_terms.specs.declared.op.TermId.{TermId}
use Rattle.bv_terms.specs.Table.{term_at}
use Rattle.bit_blast.specs.Memory.{is_memory}
use Rattle.bit_blast.proofs.FormulaLemmas.{IsFormula-by}
use Rattle.bit_blast.proofs.formula.is_formula.Goals as goal

pub returns : goal.returns
returns c =
    let table = c.args.terms.now in
    IsFormula-by table c.len-count.ensures.table c.args.at c.in_ok-nodes.nodes.items c.sort.result c.has_memory.result
    c.requires c.in_ok-nodes.ensures.exact c.sort.ensures (sym c.is_same.ensures ∙ c.if-not-is_same.false)
    (c.has_memory.ensures
    ∙ ap (list_any (λ (x : TermId). is_memory (term_at table x))) c.deref.ensures.value)
