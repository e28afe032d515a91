-- Why a file is refused, and the line that says so.
use Rattle.std.specs.Prelude.{◌≡◌, ℕ, ◌+◌, ◌^◌, ◌<◌, ◌≤◌, List, ◌++◌, length, take, reverse, Bool, not, ◌==◌, Err, ◌⊎◌}
use Rattle.std.specs.Prelude.{Contains, codes}
use Rattle.std.specs.List.{count_by, prefix_len, list_all}
use Rattle.std.specs.Fmt.{decimal}
use Rattle.bv_terms.specs.declared.value.Sort.TheVariants as sort
use Rattle.isel_spec.specs.File.{File, Operation, Goal}
use Rattle.spec_reader.specs.declared.fault.SpecFault.{SpecFault}
use Rattle.spec_reader.specs.declared.fault.SpecKind.{SpecKind}
use Rattle.spec_reader.specs.declared.fault.SpecKind.TheVariants as kind
use Rattle.spec_reader.specs.Outcome.{IsOutcome}
use Rattle.spec_reader.specs.File.{IsFile}
use Rattle.pattern_text.specs.Text.{line}
use Rattle.multiset_rank.specs.Claims.{Plan, claim_count}
use Rattle.plain_search.specs.Extent.{is_value}
use Rattle.isel_cmd.specs.declared.refusal.Reason.{Reason}
use Rattle.isel_cmd.specs.declared.refusal.Reason.TheVariants.{TooLong, Faulty, MemLater, TooMany}

-- the most bytes of a file
abbrev pub most_bytes : ℕ
most_bytes = 2 ^ 20

abbrev pub is_line_feed : ℕ → Bool
is_line_feed b = b == 10

abbrev pub is_in_line : ℕ → Bool
is_in_line b = not (b == 10)

-- the line in which a byte stands: 1 and the number of line feeds before it
abbrev pub line_at : List ℕ → ℕ → ℕ
line_at bytes place = 1 + count_by is_line_feed (take place bytes)

-- the column in which it stands: 1 and the number of bytes since the last of them
abbrev pub column_at : List ℕ → ℕ → ℕ
column_at bytes place = 1 + prefix_len is_in_line (reverse (take place bytes))

-- an operation or a goal takes a memory
abbrev pub HasMemory : File → Type 0
HasMemory f =
    ((o : Operation) × Contains f.ops o × Contains o.args sort.Mem)
    ⊎ ((g : Goal) × Contains f.goals g × Contains g.args sort.Mem)

-- no input of the goal is a memory
abbrev pub goal_takes_values : Goal → Bool
goal_takes_values g = list_all is_value g.args

-- the claims of a file: its goals, each with each multiset of at most so many operations
abbrev pub plan_of : File → ℕ → Plan
plan_of f bound = record { goals = length f.goals; kinds = length f.ops; bound = bound }

-- the most claims of a file
abbrev pub most_claims : ℕ
most_claims = 2 ^ 20

-- the fault of that kind, in that line and column, is the first of the bytes
pub record IsFaultAt (bytes : List ℕ) (k : SpecKind) (row column : ℕ) : Type 0 where
  pub fault : SpecFault
  pub first : IsOutcome bytes (Err fault)
  pub kind : k ≡ fault.kind
  pub row_is : row ≡ line_at bytes fault.from
  pub column_is : column ≡ column_at bytes fault.from

-- the bytes of a file are refused for this reason: there are too many; they are no file; the file has a memory, which
-- the search does not take yet; or it has none, and there are too many claims
abbrev pub IsReason : List ℕ → ℕ → Reason → Type 0
IsReason bytes bound TooLong = most_bytes < length bytes
IsReason bytes bound (Faulty k row column) = (length bytes ≤ most_bytes) × IsFaultAt bytes k row column
IsReason bytes bound MemLater = (length bytes ≤ most_bytes) × ((f : File) × IsFile bytes f × HasMemory f)
IsReason bytes bound TooMany =
    (length bytes ≤ most_bytes)
    × ((f : File) × IsFile bytes f × (HasMemory f → ⊥) × (most_claims < claim_count (plan_of f bound)))

abbrev pub kind_name : SpecKind → List ℕ
kind_name kind.NotText = codes "NotText"
kind_name kind.Unclosed = codes "Unclosed"
kind_name kind.Stray = codes "Stray"
kind_name kind.Deep = codes "Deep"
kind_name kind.Unknown = codes "Unknown"
kind_name kind.Literal = codes "Literal"
kind_name kind.Index = codes "Index"
kind_name kind.Arity = codes "Arity"
kind_name kind.Sorts = codes "Sorts"
kind_name kind.Width = codes "Width"
kind_name kind.Head = codes "Head"
kind_name kind.TwiceNamed = codes "TwiceNamed"
kind_name (kind.Limit which found) = codes "Limit"
kind_name kind.MemShape = codes "MemShape"
kind_name kind.PointerReads = codes "PointerReads"
kind_name kind.NoMemory = codes "NoMemory"

-- what the line says after the name of the file
abbrev pub reason_text : Reason → List ℕ
reason_text TooLong = codes ": TooLong"
reason_text (Faulty k row column) =
    codes ":" ++ decimal row ++ codes ":" ++ decimal column ++ codes ": " ++ kind_name k
reason_text MemLater = codes ": MemLater"
reason_text TooMany = codes ": TooMany"

-- the line of a refused file
abbrev pub refusal_line : List ℕ → Reason → List ℕ
refusal_line name reason = name ++ line (reason_text reason)
