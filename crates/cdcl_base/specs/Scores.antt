-- The scores of the variables: in how many conflicts each had a part, where late ones count more.
use Rattle.std.specs.Prelude.{ℕ, ◌+◌, ◌-◌, ◌/◌, ◌^◌, ◌<◌, ◌≤◌, List, [], ◌∷◌, set, min, slice_index_or}
use Rattle.cnf_core.specs.declared.clause.Lit.{Lit}
use Rattle.cdcl_base.specs.Trail.{IsUnassigned}

-- a score for each variable, and what the next conflict adds
pub record Scores : Type 0 where
  pub scores : List ℕ
  pub step : ℕ

abbrev pub score : List ℕ → ℕ → ℕ
score scores x = slice_index_or scores x 0

-- a number raised by a step, up to the greatest number of 64 bits
abbrev pub raised : ℕ → ℕ → ℕ
raised step n = min (n + step) (2 ^ 64 - 1)

-- the scores with that of a variable raised by a step
abbrev pub bumped : Scores → ℕ → Scores
bumped s x = record { scores = set s.scores x (raised s.step (score s.scores x)); step = s.step }

-- the scores with those of variables raised, one after another
abbrev pub bumped_all : Scores → List ℕ → Scores
bumped_all s [] = s
bumped_all s (x ∷ xs) = bumped_all (bumped s x) xs

-- the next step, before it is scaled down
abbrev pub grown : ℕ → ℕ
grown step = raised (step / 16) step

-- no unassigned literal over n variables has a higher score
abbrev pub IsHighest : List ℕ → List Lit → ℕ → Lit → Type 0
IsHighest scores lits n l = (m : Lit) → m.variable < n → IsUnassigned lits m →
    score scores m.variable ≤ score scores l.variable
