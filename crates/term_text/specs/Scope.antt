-- Names with nodes of a table, for the names with the terms of these nodes.
use Rattle.std.specs.Prelude.{◌≡◌, ℕ, ◌<◌, List, ◌++◌, length, map, reverse, Result, Ok, Err, ◌⊎◌}
use Rattle.std.proofs.Common.{Vec, Global}
use Rattle.std.specs.List.{All, flat_map}
use Rattle.bv_terms.specs.declared.op.TermId.{TermId}
use Rattle.bv_terms.specs.Term.{Term}
use Rattle.bv_terms.specs.Table.{Table, term_at}
use Rattle.term_text.specs.declared.fault.TermFault.{TermFault}
use Rattle.term_text.specs.declared.fault.TermKind.TheVariants as kind
use Rattle.term_text.specs.declared.scope.Scope as declared
use Rattle.term_text.specs.Build.{AreNodes, terms_at}
use Rattle.term_text.specs.Reading as reading

-- names with nodes
abbrev pub Names : Type 0
Names = List (List ℕ × TermId)

-- the names with the terms of their nodes
abbrev pub terms_under : Table → Names → reading.Scope
terms_under table names = map (λ e. (e.0, term_at table e.1)) names

-- the names that are bound, the innermost first, and then the outer ones
abbrev pub names_of : declared.Scope → Names
names_of scope = flat_map (λ names. names) (reverse scope.bound.items) ++ scope.outer.now

abbrev pub scope_of : Table → declared.Scope → reading.Scope
scope_of table scope = terms_under table (names_of scope)

-- the names are as before
abbrev pub KeepsNames : declared.Scope → declared.Scope → Type 0
KeepsNames old new = (new.bound.items ≡ old.bound.items) × (new.outer.now ≡ old.outer.now)

-- each name's node is in the table
abbrev pub AreNamesIn : Table → Names → Type 0
AreNamesIn table names = All (λ e. e.1.0 < length table.nodes) names

abbrev pub AreIn : Table → declared.Scope → Type 0
AreIn table scope = AreNamesIn table (names_of scope)

-- What a call answered: a node of the table for the term that is read, or the fault that is read, or out of memory.
abbrev pub IsRead : Table → Result Term TermFault → Result TermId TermFault → Type 0
IsRead table read (Ok at) = (at.0 < length table.nodes) × (read ≡ Ok (term_at table at))
IsRead table read (Err f) = (f.kind ≡ kind.NoMemory) ⊎ (read ≡ Err f)

-- the same of several terms
abbrev pub AreRead : Table → Result (List Term) TermFault → Result (Vec TermId Global) TermFault → Type 0
AreRead table read (Ok nodes) = AreNodes table nodes.items × (read ≡ Ok (terms_at table nodes.items))
AreRead table read (Err f) = (f.kind ≡ kind.NoMemory) ⊎ (read ≡ Err f)

-- the same of names with terms
abbrev pub NamesAreRead : Table → Result reading.Scope TermFault → Result Names TermFault → Type 0
NamesAreRead table read (Ok names) = AreNamesIn table names × (read ≡ Ok (terms_under table names))
NamesAreRead table read (Err f) = (f.kind ≡ kind.NoMemory) ⊎ (read ≡ Err f)
