-- What reading the results of a definition leaves in a table of terms.
use Rattle.std.specs.Prelude.{◌≡◌, ◌<◌, List, length, Result, Ok, Err, ◌⊎◌}
use Rattle.std.proofs.Common.{Vec, Global}
use Rattle.bv_terms.specs.declared.op.TermId.{TermId}
use Rattle.bv_terms.specs.Term.{Term}
use Rattle.bv_terms.specs.Table.{Table, term_at}
use Rattle.term_text.specs.Build.{AreNodes, terms_at}
use Rattle.spec_reader.specs.declared.fault.SpecFault.{SpecFault}
use Rattle.spec_reader.specs.declared.fault.SpecKind.TheVariants as fault

-- What a call answered: a node of the table for the term that is read, or the fault that is read, or out of memory.
abbrev pub IsResult : Table → Result Term SpecFault → Result TermId SpecFault → Type 0
IsResult table read (Ok at) = (at.0 < length table.nodes) × (read ≡ Ok (term_at table at))
IsResult table read (Err f) = (f.kind ≡ fault.NoMemory) ⊎ (read ≡ Err f)

-- the same of several terms
abbrev pub AreResults : Table → Result (List Term) SpecFault → Result (Vec TermId Global) SpecFault → Type 0
AreResults table read (Ok nodes) = AreNodes table nodes.items × (read ≡ Ok (terms_at table nodes.items))
AreResults table read (Err f) = (f.kind ≡ fault.NoMemory) ⊎ (read ≡ Err f)
