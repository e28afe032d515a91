-- Clauses in one list of literals.
use Rattle.std.specs.Prelude.{◌≡◌, ℕ, zero, suc, ◌-◌, ◌≤◌, List, [], ◌∷◌, take, drop, slice_index_or}
use Rattle.cnf_core.specs.declared.clause.Lit.{Lit}
use Rattle.cnf_core.specs.declared.clause.Clause.{Clause}
use Rattle.cnf_core.specs.Resolution.{clause}

-- the clauses that end in these places, the first of which begins in a place
abbrev pub clauses_of : List Lit → ℕ → List ℕ → List Clause
clauses_of lits start [] = []
clauses_of lits start (end ∷ ends) = clause (take (end - start) (drop start lits)) ∷ clauses_of lits end ends

-- places that never fall, from a first one to a last one
abbrev pub AreEnds : ℕ → List ℕ → ℕ → Type 0
AreEnds start [] last = start ≡ last
AreEnds start (end ∷ ends) last = (start ≤ end) × AreEnds end ends last

-- the place in which the clause of a number begins
abbrev pub start_of : ℕ → List ℕ → ℕ → ℕ
start_of start ends zero = start
start_of start ends (suc number) = slice_index_or ends number start
