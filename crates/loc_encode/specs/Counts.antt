-- Nodes that say how many of some slots are chosen.
use Rattle.std.specs.Prelude.{◌≡◌, ℕ, ◌+◌, ◌≤◌, ◌<◌, List, Bool, Some, length, slice_get, nat_eq, if◌then◌else◌}
use Rattle.bv_terms.specs.declared.op.TermId.{TermId}
use Rattle.bv_terms.specs.Table.{Table}
use Rattle.pattern_core.specs.Claim.{Claim}
use Rattle.loc_encode.specs.declared.slots.Slot.{Slot}
use Rattle.loc_encode.specs.Tests.{Test, IsTest}

-- seven nodes of the table
pub record AreThere (table : Table) (counts : List TermId) : Type 0 where
  pub seven : length counts ≡ 7
  pub each : (m : ℕ) (at : TermId) → slice_get counts m ≡ Some at → at.0 < length table.nodes

-- for each number up to the most the node that says whether so many are chosen
pub record AreCounts (c : Claim) (table : Table) (counts : List TermId) (most : ℕ) (n : (Slot → Bool) → ℕ)
    : Type 0 where
  pub each : (m : ℕ) (at : TermId) → m ≤ most → slice_get counts m ≡ Some at → IsTest c table at (λ g. nat_eq (n g) m)

-- one more where the test is true
abbrev pub one_more : Test → ((Slot → Bool) → ℕ) → (Slot → Bool) → ℕ
one_more x n g = if x g then n g + 1 else n g
