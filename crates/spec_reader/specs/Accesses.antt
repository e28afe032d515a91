-- An access as the reader keeps it, with a node for its pointer, as the number of bytes and the pointer that it is.
use Rattle.std.specs.Prelude.{ℕ, List, map}
use Rattle.bv_terms.specs.Term.{Term}
use Rattle.bv_terms.specs.Table.{Table, term_at}
use Rattle.spec_reader.specs.declared.accesses.Access.{Access}

abbrev pub access_by : Table → Access → ℕ × Term
access_by table a = (a.bytes, term_at table a.pointer)

abbrev pub accesses_by : Table → List Access → List (ℕ × Term)
accesses_by table found = map (access_by table) found
