use Rattle.std.proofs.Common.{◌≡◌, ◌++◌, map, reverse, drop}
use Rattle.term_text.specs.declared.write.Piece.TheVariants.{Operand}
use Rattle.term_text.proofs.write.push_operands.Given as goal

abbrev pub invariant-loop-place : goal.invariant-loop-place
invariant-loop-place l = l.stack.items ≡ l.fn.stack.items ++ map Operand (reverse (drop l.place l.args))
