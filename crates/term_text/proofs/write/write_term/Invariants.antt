use Rattle.std.proofs.Common.{◌≡◌, ◌++◌, map}
use Rattle.std.specs.String.{string_bytes}
use Rattle.bv_terms.specs.Table.{term_at}
use Rattle.term_text.specs.Text.{term_text}
use Rattle.term_text.specs.Writing.{stack_text, stack_size, ArePieces}
use Rattle.term_text.proofs.write.write_term.Given as goal

-- what is written and the text of the stack are the whole text
abbrev pub invariant-loop-stack : goal.invariant-loop-stack
invariant-loop-stack l = record {
  pieces : ArePieces l.terms l.stack.items;
  text : string_bytes l.out ++ stack_text (map string_bytes l.names) l.terms l.stack.items
      ≡ term_text (map string_bytes l.names) (term_at l.terms l.fn.at);
}

abbrev pub decreases-loop-stack : goal.decreases-loop-stack
decreases-loop-stack l = stack_size l.terms l.stack.items
