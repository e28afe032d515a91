-- The numbers of the statuses, and of those of failures.
use Rattle.std.specs.Prelude.{◌≡◌, ℕ, List, ◌++◌, codes, Bool, true, false, ◌⊎◌}
use Rattle.pattern_text.specs.Text.{line}
use Rattle.isel_cmd.specs.declared.status.Status.{Status}
use Rattle.isel_cmd.specs.declared.status.Status.TheVariants.{Done, Open, NoForm, Refused, ReadFailed}
use Rattle.isel_cmd.specs.declared.status.Status.TheVariants.{WriteFailed, NoMemory}
use Rattle.isel_cmd.specs.declared.refusal.Failure.{Failure}
use Rattle.isel_cmd.specs.declared.refusal.Failure.TheVariants as failure
use Rattle.isel_cmd.specs.Refusal.{refusal_line}

abbrev pub number_of : Status → ℕ
number_of Done = 0
number_of Open = 1
number_of NoForm = 2
number_of Refused = 3
number_of ReadFailed = 4
number_of WriteFailed = 5
number_of NoMemory = 6

-- the status where the work is done, by whether a claim is listed as undecided
abbrev pub done_status : Bool → ℕ
done_status false = 0
done_status true = 1

-- the work is done
abbrev pub IsDone : ℕ → Type 0
IsDone status = (status ≡ 0) ⊎ (status ≡ 1)

abbrev pub failure_status : Failure → ℕ
failure_status (failure.Refused reason) = 3
failure_status failure.ReadFault = 4
failure_status failure.NoMemory = 6

-- the lines of a file that could not be read, and of memory that ran out
abbrev pub unread_line : List ℕ → List ℕ
unread_line name = name ++ line (codes ": ReadFault")

abbrev pub memory_line : List ℕ
memory_line = line (codes "memory")

-- the line of a failure, by the name of the file
abbrev pub failure_line : List ℕ → Failure → List ℕ
failure_line name (failure.Refused reason) = refusal_line name reason
failure_line name failure.ReadFault = unread_line name
failure_line name failure.NoMemory = memory_line
