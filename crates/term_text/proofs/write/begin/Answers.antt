-- What is written and what is put on the stack are the text of the node's operation over its arguments.
use Rattle.std.proofs.Common.{ap, ◌∙◌, ◌++◌, map}
use Rattle.std.specs.String.{string_bytes}
use Rattle.bv_terms.specs.Table.{term_at}
use Rattle.term_text.specs.Text.{op_text}
use Rattle.term_text.specs.Writing.{stack_size}
use Rattle.term_text.proofs.WritingLemmas.{begin-constant, constant-written, constant-less, begun-text, begun-size}
use Rattle.term_text.proofs.WritingLemmas.{begun-pieces, no-args, some-args}
use Rattle.term_text.proofs.write.begin.Goals as goal

pub returns-then-is_empty-clause-text : goal.returns-then-is_empty-clause-text
returns-then-is_empty-clause-text c =
    constant-written _ _ _ _ _ _
    (begin-constant (map string_bytes c.args.names.now) c.args.terms.now c.len.ensures.table c.args.at _ _
    (no-args _ _ c.is_empty.ensures c.if-is_empty.true) c.node.ensures)
    c.push_constant.ensures

pub returns-then-is_empty-clause-less : goal.returns-then-is_empty-clause-less
returns-then-is_empty-clause-less c =
    constant-less _ (stack_size c.args.terms.now c.args.stack.now.items) (term_at c.args.terms.now c.args.at)

pub returns-clause-text : goal.returns-clause-text
returns-clause-text c =
    begun-text _ (map string_bytes c.args.names.now) c.args.terms.now c.len.ensures.table c.args.at _ _
    (some-args _ _ c.is_empty.ensures c.if-is_empty.false) c.node.ensures _ _ _ _ _
    (c.in_ok-push_op.ensures ∙ ap (λ bs. bs ++ op_text c.node.result.0.now) c.in_ok-push_str.ensures.bytes)
    c.in_ok-push.ensures.items c.push_operands.ensures

pub returns-clause-less : goal.returns-clause-less
returns-clause-less c =
    begun-size _ c.args.terms.now c.len.ensures.table c.args.at _ _ c.node.ensures _ _ _ c.in_ok-push.ensures.items
    c.push_operands.ensures

pub returns-clause-pieces : goal.returns-clause-pieces
returns-clause-pieces c =
    begun-pieces _ c.args.terms.now c.len.ensures.table c.args.at _ _ c.node.ensures c.requires.there _ _ _
    c.requires.pieces c.in_ok-push.ensures.items c.push_operands.ensures
