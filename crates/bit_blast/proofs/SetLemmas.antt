-- Sets by an order in which equal means the same, and how far up they reach.
use Rattle.std.proofs.Common.{◌≡◌, ℕ, ◌+◌, ◌<◌, ◌≤◌, max, ⊎_elim, List, [], ◌∷◌, ◌++◌, length, false, true}
use Rattle.std.proofs.Common.{All, Contains, refl, sym, ap, subst, arith}
use Rattle.std.specs.BTreeSet.{insert_key}
use Rattle.std.specs.List.{AllByRecursion}
use Rattle.std.specs.Ordering.{match_ordering}
use Rattle.std.specs.declared.cmp.Ordering.{Ordering}
use Rattle.std.specs.declared.cmp.Ordering.TheVariants.{Less, Equal, Greater}
use Rattle.std.proofs.lemmas.Bool.{false≢true}
use Rattle.std.proofs.lemmas.List.Elements.{recursion_from_All, Contains-push}
use Rattle.list_lemmas.proofs.Lookups.{Contains-cases, Contains-first, Contains-later}

module _ {K : Type 0} (cmp : K → K → Ordering) (exact : (a b : K) → cmp a b ≡ Equal → a ≡ b) where
  pub Contains-insert_key : (ks : List K) (k q : K) → Contains ks q → Contains (insert_key cmp ks k) q
  Contains-insert_key [] k q h = absurd (omega (arith, h.1))
  Contains-insert_key (x ∷ xs) k q h = by (cmp k x) (⊎_elim
      (λ same. subst (Contains (x ∷ insert_key cmp xs k)) same (Contains-first x (insert_key cmp xs k)))
      (λ later. Contains-later x q (insert_key cmp xs k) (Contains-insert_key xs k q later)) (Contains-cases x q xs h))
    where
      by : (o : Ordering) → Contains (x ∷ insert_key cmp xs k) q
          → Contains (match_ordering o (k ∷ x ∷ xs) (x ∷ xs) (x ∷ insert_key cmp xs k)) q
      by Less rest = Contains-later k q (x ∷ xs) h
      by Equal rest = h
      by Greater rest = rest

  pub Contains-inserted : (ks : List K) (k : K) → Contains (insert_key cmp ks k) k
  Contains-inserted [] k = Contains-first k []
  Contains-inserted (x ∷ xs) k = by (Contains-inserted xs k) (cmp k x) refl
    where
      by : Contains (insert_key cmp xs k) k → (o : Ordering) → cmp k x ≡ o
          → Contains (match_ordering o (k ∷ x ∷ xs) (x ∷ xs) (x ∷ insert_key cmp xs k)) k
      by rest Less e = Contains-first k (x ∷ xs)
      by rest Equal e = subst (Contains (x ∷ xs)) (sym (exact k x e)) (Contains-first x xs)
      by rest Greater e = Contains-later x k (insert_key cmp xs k) rest

-- ---- a number above all of a set's ranks

module _ {K : Type 0} (rank : K → ℕ) where
  pub most : List K → ℕ
  most [] = 0
  most (k ∷ ks) = max (rank k + 1) (most ks)

  below-most : (ks : List K) (n : ℕ) → AllByRecursion (λ k. rank k < n) ks → most ks ≤ n
  unfolding most
  below-most [] n all = omega arith
  below-most (k ∷ ks) n all = let rest = below-most ks n all.1 in omega (arith, all.0, rest)

  above-most : (ks : List K) (k : K) → Contains ks k → rank k < most ks
  unfolding most
  above-most [] k h = absurd (omega (arith, h.1))
  above-most (x ∷ xs) k h =
      ⊎_elim (λ same. let one = ap rank same in omega (arith, one))
      (λ later. let rest = above-most xs k later in omega (arith, rest)) (Contains-cases x k xs h)

  -- where the last of a set is taken, and all of the new set are below it, the set reaches less far
  pub most-falls : (old ks new : List K) (k : K) → old ≡ ks ++ k ∷ [] → All (λ q. rank q < rank k) new
      → most new < most old
  most-falls old ks new k split below =
      let first = below-most new (rank k) (recursion_from_All (λ q. rank q < rank k) new below) in
      let second = above-most old k (subst (λ xs. Contains xs k) (sym split) (Contains-push ks k)) in
      omega (arith, first, second)

-- where none can be taken, there is none
pub none-left : {K : Type 0} (ks : List K) → (0 < length ks → false ≡ true) → ks ≡ []
none-left [] none = refl
none-left (k ∷ ks) none = absurd (false≢true (none (omega arith)))
