-- Multisets of numbers, each as the list of its numbers that never falls, in lexicographic order: combinations with
-- repetition.
-- Knuth, The Art of Computer Programming, volume 4A, 7.2.1.3.
use Rattle.std.specs.Prelude.{◌≡◌, ℕ, zero, suc, ◌<◌, ◌≤◌, Bool, true, ◌&&◌, List, [], ◌∷◌, length, map, filter, nat_le}
use Rattle.std.specs.Prelude.{All, AllPairs, Contains, IsTrue, ◌↔◌, Some, slice_get}
use Rattle.std.specs.List.{flat_map, range_with_len}
use Rattle.std.specs.Ordering.{nat_cmp}
use Rattle.std.specs.Cmp.Lexicographic.{slice_cmp}
use Rattle.std.specs.declared.cmp.Ordering.TheVariants.{Less}

-- no number is less than the one before it
abbrev pub never_falls : List ℕ → Bool
never_falls [] = true
never_falls (x ∷ []) = true
never_falls (x ∷ y ∷ ys) = nat_le x y && never_falls (y ∷ ys)

-- all lists of `size` numbers below m, in lexicographic order
unfoldable pub tuples : ℕ → ℕ → List (List ℕ)
tuples m zero = [] ∷ []
tuples m (suc size) = flat_map (λ x. map (λ xs. x ∷ xs) (tuples m size)) (range_with_len 0 m)

-- the multisets of `size` numbers below m, in lexicographic order
unfoldable pub multisets : ℕ → ℕ → List (List ℕ)
multisets m size = filter never_falls (tuples m size)

-- what a multiset of operations is: at most six numbers, which never fall
abbrev pub IsMulti : List ℕ → Type 0
IsMulti xs = (length xs ≤ 6) × IsTrue (never_falls xs)

-- each number is below m
abbrev pub AreBelow : ℕ → List ℕ → Type 0
AreBelow m xs = All (λ x. x < m) xs

-- strictly rising in lexicographic order
abbrev pub IsLexicographic : List (List ℕ) → Type 0
IsLexicographic list = AllPairs (λ xs ys. slice_cmp nat_cmp xs ys ≡ Less) list

-- the list rises strictly, and has exactly the never-falling lists of `size` numbers below m
pub record AreMultisets (m size : ℕ) (list : List (List ℕ)) : Type 0 where
  pub rising : IsLexicographic list
  pub members : (xs : List ℕ) → Contains list xs ↔ ((length xs ≡ size) × AreBelow m xs × IsTrue (never_falls xs))

-- it stands at this place of the list, and nowhere else
pub record StandsAt {A : Type 0} (list : List A) (place : ℕ) (x : A) : Type 0 where
  pub there : slice_get list place ≡ Some x
  pub once : (k : ℕ) → slice_get list k ≡ Some x → k ≡ place
