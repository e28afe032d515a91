use Rattle.std.proofs.Common.{sym, ap, ◌∙◌, map, inr, Err}
use Rattle.sexp_read.specs.Forest.{tree_at}
use Rattle.term_text.specs.Operator.{judge}
use Rattle.term_text.proofs.TermSteps.{over-made, over-refused}
use Rattle.term_text.proofs.walk.Walk.over.Goals as goal

pub returns-in-Ok-clause-read : goal.returns-in-Ok-clause-read
returns-in-Ok-clause-read c =
    over-made c.args.terms.now c.write_out.new.terms c.args.span
    (map (tree_at c.args.self.now.bytes.now c.args.self.now.forest.now.items) c.args.items.now) c.args.operator
    c.args.args.now c.in-Ok.field-0 c.write_out.result c.made.result
    (c.in-Ok.ensures
    ∙ (λ i. judge (c.pointer.ensures i) c.args.operator ((c.as_slice.ensures.value ∙ c.in_ok-sorts.ensures) i)))
    c.write_out.ensures.written c.made.ensures

pub returns-clause-read : goal.returns-clause-read
returns-clause-read c =
    inr
    (over-refused c.args.terms.now c.args.span
    (map (tree_at c.args.self.now.bytes.now c.args.self.now.forest.now.items) c.args.items.now) c.args.operator
    c.args.args.now c.in-Err.fault
    (c.in-Err.ensures
    ∙ (λ i. judge (c.pointer.ensures i) c.args.operator ((c.as_slice.ensures.value ∙ c.in_ok-sorts.ensures) i)))
    ∙ ap Err (sym c.operator_fault.ensures))
