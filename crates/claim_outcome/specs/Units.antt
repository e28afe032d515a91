-- How much of a budget a record tells of.
use Rattle.std.specs.Prelude.{ℕ, ◌+◌, List, length, sum_by}
use Rattle.claim_outcome.specs.declared.record.Asked.{Asked}
use Rattle.claim_outcome.specs.declared.record.Record.{Record}

-- the clauses that the solver learnt in these calls
abbrev pub chains_of : List Asked → ℕ
chains_of calls = sum_by (λ (a : Asked). length a.log.chains) calls

-- a unit for each candidate, and one for each chain
abbrev pub units_of : Record → ℕ
units_of r = length r.candidates + chains_of r.calls
