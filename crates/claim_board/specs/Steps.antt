-- The steps at a board's table. All but a draw read the word and leave it.
--
-- 1 draw       a worker that is idle adds 1 to the word
-- 2 enter      the library's seat takes in a worker's with its claim
-- 3 end        the library's seat takes in a worker's that is over
-- 4 give in    the library's seat takes in a worker's that is idle
-- 5 hand out   a new worker's seat is split off from the library's
-- 6 compare    the library's seat learns that what was given in last had seen a beginning of the book
use Rattle.std.specs.Prelude.{◌≡◌, ℕ, ◌+◌, ◌-◌, ◌<◌, ◌≤◌, [], ◌∷◌, ◌++◌, length, Option, All, nat_lt, if◌then◌else◌}
use mathlib.Core.List.{IsPrefix}
use Rattle.atomic_table.specs.Table.{Me}
use Rattle.claim_core.specs.Laws.{AreOnceBelow, numbers}
use Rattle.claim_board.specs.declared.view.Ledger.{Ledger}
use Rattle.claim_board.specs.declared.view.View.{View}
use Rattle.claim_board.specs.declared.view.View.TheVariants.{Idle, Claim, Over, Joined, Book}
use Rattle.claim_board.specs.Views.{seen_by}

-- nothing is entered, and each worker may be handed out
abbrev pub empty_ledger : ℕ → Ledger
empty_ledger workers = record { book = []; free = workers; ended = 0; last = [] }

-- the number that was read is the claim's, where there are more than so many claims
abbrev pub after_draw : ℕ → ℕ → View → View
after_draw n read v = if nat_lt read n then Claim read (seen_by v) else Over read (seen_by v)

-- the claim stands at the end of the book, with the size that its entry tells
abbrev pub after_enter : Option ℕ → View → View → View
after_enter size (Book l) (Claim number claims) = Book (record {
  book = l.book ++ (number, size) ∷ [];
  free = l.free + 1;
  ended = l.ended;
  last = claims;
})
after_enter size v w = v

-- one more worker that is over is given in
abbrev pub after_end : View → View → View
after_end (Book l) (Over read claims) = Book (record {
  book = l.book;
  free = l.free;
  ended = l.ended + 1;
  last = claims;
})
after_end v w = v

-- one more pass may be handed out
abbrev pub after_give_in : View → View → View
after_give_in (Book l) (Idle claims) = Book (record {
  book = l.book;
  free = l.free + 1;
  ended = l.ended;
  last = claims;
})
after_give_in v w = v

-- the library's seat after it handed a pass out
abbrev pub after_hand_out : View → View
after_hand_out (Book l) = Book (record { book = l.book; free = l.free - 1; ended = l.ended; last = l.last })
after_hand_out v = v

-- the pass that it handed out has seen the book
abbrev pub handed_out : View → View
handed_out (Book l) = Idle l.book
handed_out v = Joined

-- what the library's seat learns, where there are n claims and so many workers
pub record IsCompared (n workers : ℕ) (l : Ledger) : Type 0 where
  pub last : IsPrefix l.last l.book
  pub room : length l.book ≤ n
  pub below : All (λ c. c < n) (numbers l.book)
  -- once all workers are over and given in, each claim stands in the book once
  pub all : workers ≤ l.ended → AreOnceBelow n (numbers l.book)

-- a comparison leaves the seat as it was, and tells this of the library's
abbrev pub Compares : ℕ → ℕ → Me ℕ View → Me ℕ View → Type 0
Compares n workers before after = (after ≡ before)
    × ((l : Ledger) → before.0 ≡ Book l → IsCompared n workers l)
