-- What is still to be written of a term's text, for the writer's own functions: pieces, the next one first.
use Rattle.std.specs.Prelude.{ℕ, ◌+◌, ◌<◌, List, ◌++◌, length, reverse, codes}
use Rattle.std.specs.List.{All, flat_map, sum_by}
use Rattle.bv_terms.specs.Term.{Term, Operands, Apply, End, Then}
use Rattle.bv_terms.specs.Table.{Table, term_at}
use Rattle.term_text.specs.declared.write.Piece.{Piece}
use Rattle.term_text.specs.declared.write.Piece.TheVariants.{Operand, Close}
use Rattle.term_text.specs.Text.{term_text}

-- the text of a piece
abbrev pub piece_text : List (List ℕ) → Table → Piece → List ℕ
piece_text names table (Operand at) = codes " " ++ term_text names (term_at table at)
piece_text names table Close = codes ")"

-- the text of the pieces of a stack, whose last piece is the next one
abbrev pub stack_text : List (List ℕ) → Table → List Piece → List ℕ
stack_text names table pieces = flat_map (piece_text names table) (reverse pieces)

-- how many pieces a term takes
unfoldable mutual
  pub term_size : Term → ℕ
  term_size (Apply o ts) = 2 + operands_size ts

  pub operands_size : Operands → ℕ
  operands_size End = 0
  operands_size (Then t ts) = 1 + term_size t + operands_size ts

abbrev pub piece_size : Table → Piece → ℕ
piece_size table (Operand at) = 1 + term_size (term_at table at)
piece_size table Close = 1

abbrev pub stack_size : Table → List Piece → ℕ
stack_size table pieces = sum_by (piece_size table) pieces

-- a piece's node stands in the table
abbrev pub IsPiece : Table → Piece → Type 0
IsPiece table (Operand at) = at.0 < length table.nodes
IsPiece table Close = Unit {0}

abbrev pub ArePieces : Table → List Piece → Type 0
ArePieces table pieces = All (IsPiece table) pieces
