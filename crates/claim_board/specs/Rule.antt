-- The rule of a board's table. It holds between any two steps.
use Rattle.std.specs.Prelude.{◌≡◌, ℕ, ◌+◌, ◌-◌, ◌^◌, ◌<◌, ◌≤◌, [], ◌∷◌, ◌++◌, length, min}
use Rattle.std.specs.List.{flat_map, sum_by}
use mathlib.Core.Option.{some}
use mathlib.Core.List.{IsPrefix}
use lib.ListN.{get_elem?}
use Rattle.atomic_table.specs.Table.{State}
use Rattle.claim_core.specs.Laws.{AreOnceBelow, numbers}
use Rattle.claim_board.specs.declared.view.Ledger.{Ledger}
use Rattle.claim_board.specs.declared.view.View.{View}
use Rattle.claim_board.specs.declared.view.View.TheVariants.{Book}
use Rattle.claim_board.specs.Views.{seen_by, claims_out, overs_out, workers_out}

-- the table has one word, which counts the draws. There are n claims and so many workers
pub record IsKept (n workers : ℕ) (s : State ℕ View) : Type 0 where
  pub word : ℕ
  pub words : s.words ≡ word ∷ []
  -- the one seat that is the library's
  pub keeper : ℕ
  pub ledger : Ledger
  pub there : get_elem? s.views keeper ≡ some (Book ledger)
  pub only : (seat : ℕ) (other : Ledger) → get_elem? s.views seat ≡ some (Book other) → seat ≡ keeper
  -- each claim that was drawn is in the library or out with a worker, once
  pub dealt : AreOnceBelow (min word n) (numbers ledger.book ++ flat_map claims_out s.views)
  pub drawn : length ledger.book + length (flat_map claims_out s.views) ≡ min word n
  -- each draw that found no claim made a worker that is over, which is out or was given in
  pub over : sum_by overs_out s.views + ledger.ended ≡ word - n
  -- each worker is out, was given in when it was over, or waits in the library between two passes
  pub seats : sum_by workers_out s.views + ledger.ended + ledger.free ≡ workers
  -- what a seat saw in the library is still its beginning
  pub seen : (seat : ℕ) (v : View) → get_elem? s.views seat ≡ some v → IsPrefix (seen_by v) ledger.book
  pub some_workers : 1 ≤ workers
  pub fits : n + workers < 2 ^ 32
