-- Words of private functions.
use Rattle.std.specs.Prelude.{ℕ, zero, suc, ◌+◌, ◌-◌, List, [], ◌∷◌, ◌++◌, length, map, replicate}
use Rattle.multiset_rank.specs.Binomial.{choose}

-- the number of multisets of a size of n kinds
unfoldable pub multichoose : ℕ → ℕ → ℕ
multichoose n size = choose (n + size - 1) size

-- the never-falling lists of `size` numbers among the n numbers from k on, by the first number
unfoldable pub rising : ℕ → ℕ → ℕ → List (List ℕ)
rising k n zero = [] ∷ []
rising k zero (suc size) = []
rising k (suc n) (suc size) = map (λ xs. k ∷ xs) (rising k (suc n) size) ++ rising (k + 1) n (suc size)

-- six places, of which the first have these numbers and the rest 0
abbrev pub padded : List ℕ → List ℕ
padded xs = xs ++ replicate (6 - length xs) 0
