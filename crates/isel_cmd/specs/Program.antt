-- What a run of the program does, by its status.
use Rattle.std.specs.Prelude.{◌≡◌, ℕ, ◌≤◌, List, [], ◌++◌, length, Option, option_map, ◌⊎◌, codes, IfSome}
use Rattle.std.specs.Prelude.{Bool, true, false}
use Rattle.std.specs.List.{list_any}
use Rattle.isel_spec.specs.File.{File}
use Rattle.spec_reader.specs.File.{IsFile}
use Rattle.multiset_rank.specs.Claims.{claim_count}
use Rattle.pattern_core.specs.declared.pattern.GoalAnswer.{GoalAnswer}
use Rattle.pattern_core.specs.declared.pattern.GoalAnswer.TheVariants as answer
use Rattle.pattern_core.specs.Pattern.{Pairwise}
use Rattle.pattern_text.specs.Text.{line, library_text}
use Rattle.rule_library.specs.Promise.{IsPromised}
use Rattle.isel_base.specs.Outside.{HasPrefix}
use Rattle.isel_cmd.specs.declared.refusal.Reason.{Reason}
use Rattle.isel_cmd.specs.declared.refusal.Failure.{Failure}
use Rattle.isel_cmd.specs.declared.refusal.Failure.TheVariants as failure
use Rattle.isel_cmd.specs.Words.{Task, file_of, bound_of, budget_of}
use Rattle.isel_cmd.specs.Refusal.{most_bytes, most_claims, plan_of, HasMemory, IsReason, refusal_line}
use Rattle.isel_cmd.specs.Status.{done_status, IsDone, unread_line, memory_line}

-- ---- the library of a file

-- the answer lists undecided claims
abbrev pub lists_open : GoalAnswer → Bool
lists_open (answer.Complete size rules) = false
lists_open (answer.Partial size rules undecided) = true
lists_open answer.None = false
lists_open (answer.Stopped undecided) = true

-- the text is that of an answer for each goal of a file, in its order: its rules are right on every input, with none
-- missing where no claim is listed as undecided; the budget was spent on each that is. The status tells whether one is
pub record IsLibraryText (f : File) (bound budget status : ℕ) (text : List ℕ) : Type 0 where
  pub answers : List GoalAnswer
  pub promised : Pairwise (IsPromised f bound budget) f.goals answers
  pub written : text ≡ library_text f answers
  pub status_is : status ≡ done_status (list_any lists_open answers)

-- the bytes are a file that is not refused
pub record IsAccepted (bytes : List ℕ) (bound : ℕ) (f : File) : Type 0 where
  pub short : length bytes ≤ most_bytes
  pub is_file : IsFile bytes f
  pub no_memory : HasMemory f → ⊥
  pub few : claim_count (plan_of f bound) ≤ most_claims

-- the bytes are such a file, and the text is that of its answers
pub record IsLibraryOf (bytes : List ℕ) (bound budget status : ℕ) (text : List ℕ) : Type 0 where
  pub file : File
  pub accepted : IsAccepted bytes bound file
  pub library : IsLibraryText file bound budget status text

-- ---- what a source tells

-- the bytes under each name, where they are told
abbrev pub Told : Type 0
Told = List ℕ → Option (List ℕ)

-- the bytes are those under that name, where they are told
abbrev pub HasBytes : Told → List ℕ → List ℕ → Type 0
HasBytes told name bytes = IfSome (told name) (λ all. bytes ≡ all)

-- the text is the library of the file that a task names, and the status tells whether it lists an undecided claim
abbrev pub IsWork : Told → Task → ℕ → List ℕ → Type 0
IsWork told task status text =
    (bytes : List ℕ) × HasBytes told (file_of task) bytes
    × IsLibraryOf bytes (bound_of task) (budget_of task) status text

-- the same, whatever the status
abbrev pub IsSomeWork : Told → Task → List ℕ → Type 0
IsSomeWork told task text = (status : ℕ) × IsWork told task status text

-- the file of that name is refused for this reason
abbrev pub HasReason : Told → List ℕ → ℕ → Reason → Type 0
HasReason told name bound reason = (bytes : List ℕ) × HasBytes told name bytes × IsReason bytes bound reason

-- the text is the line that says why that file is refused
abbrev pub IsRefused : Told → Task → List ℕ → Type 0
IsRefused told task text =
    (reason : Reason) × HasReason told (file_of task) (bound_of task) reason
    × (text ≡ refusal_line (file_of task) reason)

-- it is the line that says that reading that file failed, as it did
abbrev pub IsUnread : (List ℕ → Type 0) → Task → List ℕ → Type 0
IsUnread failed task text = failed (file_of task) × (text ≡ unread_line (file_of task))

-- a failure for the file of that name, and patterns of at most so many operations, has its cause; memory may run out at
-- any time
abbrev pub IsCause : Told → (List ℕ → Type 0) → List ℕ → ℕ → Failure → Type 0
IsCause told failed name bound (failure.Refused reason) = HasReason told name bound reason
IsCause told failed name bound failure.ReadFault = failed name
IsCause told failed name bound failure.NoMemory = Unit {0}

-- the same of bytes that were read
abbrev pub IsCauseIn : List ℕ → ℕ → Failure → Type 0
IsCauseIn bytes bound (failure.Refused reason) = IsReason bytes bound reason
IsCauseIn bytes bound failure.ReadFault = ⊥
IsCauseIn bytes bound failure.NoMemory = Unit {0}

-- ---- what is written

-- what is told of a sink after a text was appended
abbrev pub with_text : List ℕ → Option (List ℕ) → Option (List ℕ)
with_text text told = option_map (λ w. w ++ text) told

abbrev pub no_form_line : List ℕ
no_form_line = line (codes "words: no such form")

-- the text is the line of a task that ended with this status, whose cause holds; none where the work is done. Memory
-- may run out at any time
abbrev pub IsNote : Told → (List ℕ → Type 0) → Task → ℕ → List ℕ → Type 0
IsNote told failed task status text =
    (IsDone status × (text ≡ [])) ⊎ ((status ≡ 3) × IsRefused told task text)
    ⊎ ((status ≡ 4) × IsUnread failed task text) ⊎ ((status ≡ 6) × (text ≡ memory_line))

-- a text with this property was appended to a sink
abbrev pub Writes : (List ℕ → Type 0) → Option (List ℕ) → Option (List ℕ) → Type 0
Writes Is old new = (text : List ℕ) × Is text × (new ≡ with_text text old)

-- nothing was appended to it, or a part of a text with this property and not all of it
abbrev pub WritesAtMostPart : (List ℕ → Type 0) → Option (List ℕ) → Option (List ℕ) → Type 0
WritesAtMostPart Is old new = (new ≡ old) ⊎ ((text : List ℕ) × Is text × HasPrefix old text new)

-- the line of some status, whose cause holds
abbrev pub IsSomeNote : Told → (List ℕ → Type 0) → Task → List ℕ → Type 0
IsSomeNote told failed task text = (status : ℕ) × IsNote told failed task status text

-- the statuses of a task: done, refused file, failed read, failed write, out of memory
abbrev pub IsTaskStatus : ℕ → Type 0
IsTaskStatus status = IsDone status ⊎ (status ≡ 3) ⊎ (status ≡ 4) ⊎ (status ≡ 5) ⊎ (status ≡ 6)
