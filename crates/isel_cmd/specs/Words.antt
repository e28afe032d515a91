-- The forms of the command line, and what words of a form ask for.
use Rattle.std.specs.Prelude.{◌≡◌, ◌≢◌, ℕ, ◌^◌, ◌≤◌, List, [], ◌∷◌, codes, slice_get, Some}
use Rattle.std.specs.Fmt.{decimal}

-- a file is named by a word that is not empty and does not begin with a dash
pub record IsFileName (word : List ℕ) : Type 0 where
  pub some : word ≢ []
  pub plain : slice_get word 0 ≢ Some 45

-- synth FILE --bound N --budget B, with N 0 to 6 and B 1 to 2^32
pub record IsSynth (words : List (List ℕ)) (name : List ℕ) (bound budget : ℕ) : Type 0 where
  pub spelled : words
      ≡ codes "synth" ∷ name ∷ codes "--bound" ∷ decimal bound ∷ codes "--budget" ∷ decimal budget ∷ []
  pub file : IsFileName name
  pub within : bound ≤ 6
  pub some : 1 ≤ budget
  pub most : budget ≤ 2 ^ 32

-- what is asked for
pub data Task : Type 0 where
  -- to write the library of the file of that name, for patterns of at most so many operations, with so many units of
  -- work for each goal with a multiset of operations
  Synth : List ℕ → ℕ → ℕ → Task

-- the words ask for it
abbrev pub IsTask : List (List ℕ) → Task → Type 0
IsTask words (Synth name bound budget) = IsSynth words name bound budget

-- they ask for nothing
abbrev pub HasNoForm : List (List ℕ) → Type 0
HasNoForm words = (task : Task) → IsTask words task → ⊥

-- the name of the file that is to be read
abbrev pub file_of : Task → List ℕ
file_of (Synth name bound budget) = name

-- how many operations a pattern may have
abbrev pub bound_of : Task → ℕ
bound_of (Synth name bound budget) = bound

-- how many units of work each goal with a multiset of operations may take
abbrev pub budget_of : Task → ℕ
budget_of (Synth name bound budget) = budget
