-- A board that is not open yet.
use Rattle.std.specs.Prelude.{◌≡◌, ℕ, ◌≤◌, List, [], length, replicate, Option, None}
use Rattle.multiset_rank.specs.Claims.{claims}
use Rattle.atomic_table.specs.Seated.{TableId}
use Rattle.atomic_table.specs.Table.{Me}
use Rattle.claim_board.specs.declared.view.View.{View}
use Rattle.claim_board.specs.declared.view.View.TheVariants.{Book}
use Rattle.claim_board.specs.Names.{BoardName}
use Rattle.claim_board.specs.Steps.{empty_ledger}

-- the seat is the library's at this table, nothing is entered or handed out, and there is room for all claims and
-- workers
pub record IsBlank {E P : Type 0} (name : BoardName) (table : TableId) (me : Me ℕ View) (entries : List (ℕ × E))
    (room : ℕ) (sizes : List (Option ℕ)) (passes : List P) (places workers : ℕ) : Type 0 where
  pub same : table ≡ name.table
  pub seat : me ≡ (Book (empty_ledger name.task.workers), [])
  pub no_entries : entries ≡ []
  pub entry_room : length (claims name.task.plan) ≤ room
  pub no_sizes : sizes ≡ replicate name.task.plan.goals None
  pub no_passes : passes ≡ []
  pub pass_room : workers ≤ places
  pub all : workers ≡ name.task.workers
