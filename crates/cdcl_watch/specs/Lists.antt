-- A list of watchers for each literal. M. Moskewicz, C. Madigan, Y. Zhao, L. Zhang, S. Malik, Chaff: Engineering an
-- Efficient SAT Solver, DAC 2001.
use Rattle.std.specs.Prelude.{ℕ, ◌-◌, ◌/◌, ◌%◌, ◌==◌, Bool, false, List, [], slice_index_or, slice_set, take, length}
use Rattle.cnf_core.specs.declared.clause.Lit.{Lit}
use Rattle.cdcl_base.specs.Codes.{code}
use Rattle.cdcl_watch.specs.declared.lists.Watcher.{Watcher}

-- the number of a watcher's clause
abbrev pub clause_number : Watcher → ℕ
clause_number w = w.tag / 2

-- whether a watcher's clause has two literals
abbrev pub is_short : Watcher → Bool
is_short w = w.tag % 2 == 1

-- the watchers of a literal
abbrev pub watchers : List (List Watcher) → Lit → List Watcher
watchers lists l = slice_index_or lists (code l) []

-- the watcher that is in no list
abbrev pub nobody : Watcher
nobody = record { tag = 0; blocker = record { variable = 0; positive = false } }

-- the watcher of a place
abbrev pub watcher_at : List Watcher → ℕ → Watcher
watcher_at ws k = slice_index_or ws k nobody

-- a list without the watcher of a place, which the last one takes
abbrev pub list_without : List Watcher → ℕ → List Watcher
list_without ws k = take (length ws - 1) (slice_set ws k (watcher_at ws (length ws - 1)))
