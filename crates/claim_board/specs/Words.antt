-- Which board a table of words is of.
use Rattle.claim_board.specs.declared.table.Words.{Words}
use Rattle.claim_board.specs.Names.{BoardName}

-- the name of the board that is on this table
abbrev pub named : Words → BoardName
named w = record { table = w.table.shared.table_id; task = w.table.shared.key }
