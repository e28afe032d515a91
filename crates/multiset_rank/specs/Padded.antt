-- What the fields of a `Multi` keep.
use Rattle.std.specs.Prelude.{◌≡◌, ℕ, ◌≤◌, List, length, take, IsTrue}
use Rattle.std.proofs.Common.{sym}
use Rattle.multiset_rank.specs.declared.multi.Multi.TheInside.{Inside}
use Rattle.multiset_rank.specs.Multisets.{never_falls}
use Rattle.multiset_rank.specs.Rising.{padded}

-- there are at most six numbers, which never fall, and 0 in the places that they leave
pub record IsPadded (len : ℕ) (places : List ℕ) : Type 0 where
  pub most : len ≤ 6
  pub rest : places ≡ padded (take len places)
  pub full : length (take len places) ≡ len
  pub order : IsTrue (never_falls (take len places))

-- the fields are those that their list gives
pub padded_again : (m : Inside) → IsPadded m.len m.places
    → (record { places = padded (take m.len m.places); len = length (take m.len m.places) }) ≡ m
padded_again m h = λ i. record { places = sym h.rest i; len = h.full i }
