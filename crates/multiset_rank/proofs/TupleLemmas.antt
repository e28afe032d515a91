-- The multisets are the never-falling lists among all: their order, their members, and the same list by first numbers.
use Rattle.std.proofs.Common.{◌≡◌, ℕ, zero, suc, ◌+◌, ◌<◌, ◌≤◌, Bool, true, false, cond, List, [], ◌∷◌, ◌++◌, length}
use Rattle.std.proofs.Common.{map, filter, Some, refl, sym, ap, subst, ◌∙◌, arith, zero-add, inl, inr, slice_get}
use Rattle.std.specs.List.{flat_map, range_with_len, AllByRecursion}
use Rattle.std.proofs.lemmas.List.Elements.{filter_agree, All-from_recursion, recursion_from_All}
use Rattle.multiset_rank.specs.Multisets.{never_falls, tuples, multisets, AreBelow, AreMultisets, StandsAt}
use Rattle.multiset_rank.specs.Rising.{rising}
use Rattle.multiset_rank.proofs.RisingLemmas.{rising-zero, rising-none, rising-more}
use Rattle.list_lemmas.proofs.Bools.{le_true}
use Rattle.list_lemmas.proofs.Lists.{filter-flat_map}
use Rattle.list_lemmas.proofs.Members.{Contains-from_In, In, In-filter, In-flat_map, In-from_Contains, In-map}
use Rattle.list_lemmas.proofs.Members.{In-range, In-slice_get, In_of_filter, In_of_flat_map, In_of_map, In_of_range}
use Rattle.list_lemmas.proofs.Numbers.{le_false}
use Rattle.list_lemmas.proofs.Orders.{AllPairs-from_ordered, Before, Before-first, Before-same_first, Before-strict}
use Rattle.list_lemmas.proofs.Orders.{IsOrdered, IsOrdered-filter, IsOrdered-flat_map, IsOrdered-map, IsOrdered-range}
use Rattle.list_lemmas.proofs.Orders.{once_in_order}

tuples-zero : (m : ℕ) → tuples m 0 ≡ [] ∷ []
unfolding tuples
tuples-zero m = refl

tuples-more : (m s : ℕ) → tuples m (suc s) ≡ flat_map (λ x. map (λ xs. x ∷ xs) (tuples m s)) (range_with_len 0 m)
unfolding tuples
tuples-more m s = refl

multisets-filter : (m s : ℕ) → multisets m s ≡ filter never_falls (tuples m s)
unfolding multisets
multisets-filter m s = refl

pub tuples-ordered : (m s : ℕ) → IsOrdered Before (tuples m s)
tuples-ordered m zero = subst (IsOrdered Before) (sym (tuples-zero m)) (λ y i. absurd i, tt)
tuples-ordered m (suc s) =
    subst (IsOrdered Before) (sym (tuples-more m s))
    (IsOrdered-flat_map (λ x y. x < y) Before (λ x. map (λ xs. x ∷ xs) (tuples m s))
    (λ x. IsOrdered-map Before Before (λ xs. x ∷ xs) (Before-same_first x) (tuples m s) (tuples-ordered m s))
    (λ a b u v l i j.
    let p = In_of_map (λ xs. a ∷ xs) (tuples m s) u i in
    let q = In_of_map (λ xs. b ∷ xs) (tuples m s) v j in
    subst (λ w. Before w v) p.2 (subst (Before (a ∷ p.0)) q.2 (Before-first a b p.0 q.0 l)))
    (range_with_len 0 m) (IsOrdered-range 0 m))

pub multisets-ordered : (m s : ℕ) → IsOrdered Before (multisets m s)
multisets-ordered m s =
    subst (IsOrdered Before) (sym (multisets-filter m s))
    (IsOrdered-filter Before never_falls (tuples m s) (tuples-ordered m s))

In_of_tuples : (m s : ℕ) (xs : List ℕ) → In (tuples m s) xs → (length xs ≡ s) × AllByRecursion (λ x. x < m) xs
In_of_tuples m zero xs h =
    elim (subst (λ ts. In ts xs) (tuples-zero m) h) [
      | inl e ↦ subst (λ ys. (length ys ≡ 0) × AllByRecursion (λ x. x < m) ys) e
          (refl, tt)
      | inr no_more ↦ absurd no_more
    ]
In_of_tuples m (suc s) xs h =
    let r = In_of_flat_map (λ x. map (λ ys. x ∷ ys) (tuples m s)) (range_with_len 0 m) xs
    (subst (λ ts. In ts xs) (tuples-more m s) h) in
    let p = In_of_map (λ ys. r.0 ∷ ys) (tuples m s) xs r.2 in
    let known = In_of_tuples m s p.0 p.1 in
    let below = In_of_range 0 m r.0 r.1 in
    subst (λ ys. (length ys ≡ suc s) × AllByRecursion (λ x. x < m) ys) p.2
    (ap suc known.0, (omega (arith, below.1), known.1))

In-tuples : (m s : ℕ) (xs : List ℕ) → length xs ≡ s → AllByRecursion (λ x. x < m) xs → In (tuples m s) xs
In-tuples m zero [] e h = subst (λ ts. In ts []) (sym (tuples-zero m)) (inl refl)
In-tuples m zero (x ∷ xs) e h = absurd (omega (arith, e))
In-tuples m (suc s) [] e h = absurd (omega (arith, e))
In-tuples m (suc s) (x ∷ xs) e h =
    subst (λ ts. In ts (x ∷ xs)) (sym (tuples-more m s))
    (In-flat_map (λ y. map (λ ys. y ∷ ys) (tuples m s)) (range_with_len 0 m) x (x ∷ xs)
    (In-range 0 m x (omega arith) (omega (arith, h.0)))
    (In-map (λ ys. x ∷ ys) (tuples m s) xs (In-tuples m s xs (omega (arith, e)) h.1)))

pub In_of_multisets : (m s : ℕ) (xs : List ℕ) → In (multisets m s) xs
    → (length xs ≡ s) × AreBelow m xs × (never_falls xs ≡ true)
In_of_multisets m s xs h =
    let r = In_of_filter never_falls (tuples m s) xs (subst (λ ts. In ts xs) (multisets-filter m s) h) in
    let p = In_of_tuples m s xs r.0 in
    (p.0, All-from_recursion (λ x. x < m) xs p.1, r.1)

pub In-multisets : (m s : ℕ) (xs : List ℕ) → length xs ≡ s → AreBelow m xs → never_falls xs ≡ true
    → In (multisets m s) xs
In-multisets m s xs e h t =
    subst (λ ts. In ts xs) (sym (multisets-filter m s))
    (In-filter never_falls (tuples m s) xs (In-tuples m s xs e (recursion_from_All (λ x. x < m) xs h)) t)

pub multisets_law : (m s : ℕ) → AreMultisets m s (multisets m s)
multisets_law m s = record {
  rising = AllPairs-from_ordered Before (multisets m s) (multisets-ordered m s);
  members = λ xs. (
    λ c. In_of_multisets m s xs (In-from_Contains (multisets m s) xs c),
    λ h. Contains-from_In (multisets m s) xs (In-multisets m s xs h.0 h.1 h.2),
  );
}

pub stands_once : (m s place : ℕ) (xs : List ℕ) → slice_get (multisets m s) place ≡ Some xs
    → StandsAt (multisets m s) place xs
stands_once m s place xs e = record {
  there = e;
  once = λ k h. once_in_order Before Before-strict (multisets m s) k place xs (multisets-ordered m s) h e;
}

pub multiset_at : (m s place : ℕ) (xs : List ℕ) → slice_get (multisets m s) place ≡ Some xs
    → (length xs ≡ s) × AreBelow m xs × (never_falls xs ≡ true)
multiset_at m s place xs e = In_of_multisets m s xs (In-slice_get (multisets m s) place xs e)

-- the lists that may follow a number
abbrev pub follows : ℕ → List ℕ → Bool
follows k xs = never_falls (k ∷ xs)

none_follow : (k x : ℕ) (ts : List (List ℕ)) → x < k → filter (follows k) (map (λ xs. x ∷ xs) ts) ≡ []
none_follow k x [] l = refl
none_follow k x (xs ∷ ts) l = let e = le_false k x l in rw e (none_follow k x ts l)

all_follow : (k x : ℕ) (ts : List (List ℕ)) → k ≤ x
    → filter (follows k) (map (λ xs. x ∷ xs) ts) ≡ map (λ xs. x ∷ xs) (filter (follows x) ts)
all_follow k x [] l = refl
all_follow k x (xs ∷ ts) l = let e = le_true k x l in rw e (by (never_falls (x ∷ xs)) (all_follow k x ts l))
  where
    by : (b : Bool) → filter (follows k) (map (λ xs. x ∷ xs) ts) ≡ map (λ xs. x ∷ xs) (filter (follows x) ts)
        → cond b ((x ∷ xs) ∷ filter (follows k) (map (λ xs. x ∷ xs) ts)) (filter (follows k) (map (λ xs. x ∷ xs) ts))
        ≡ map (λ xs. x ∷ xs) (cond b (xs ∷ filter (follows x) ts) (filter (follows x) ts))
    by true h = ap (λ us. (x ∷ xs) ∷ us) h
    by false h = h

-- what follows k among the tuples with the first numbers from j on
abbrev parts : ℕ → ℕ → ℕ → ℕ → List (List ℕ)
parts m s k x = filter (follows k) (map (λ xs. x ∷ xs) (tuples m s))

walk_above : (m s k n j : ℕ) → ((i r : ℕ) → i + r ≡ m → filter (follows i) (tuples m s) ≡ rising i r s) → k ≤ j
    → j + n ≡ m → flat_map (parts m s k) (range_with_len j n) ≡ rising j n (suc s)
walk_above m s k zero j h l e = sym (rising-none j s)
walk_above m s k (suc n) j h l e =
    (λ i. (all_follow k j (tuples m s) l ∙ ap (map (λ xs. j ∷ xs)) (h j (suc n) e)) i ++ walk_above m s k n (j + 1) h
    (omega arith) (omega (arith, e)) i)
    ∙ sym (rising-more j n s)

walk_below : (m s k r i n j : ℕ) → ((i r : ℕ) → i + r ≡ m → filter (follows i) (tuples m s) ≡ rising i r s) → k + r ≡ m
    → i + j ≡ k → j + n ≡ m → flat_map (parts m s k) (range_with_len j n) ≡ rising k r (suc s)
walk_below m s k r zero n j h e g f =
    let a : j ≡ k = omega (arith, e, g, f) in
    let b : n ≡ r = omega (arith, e, g, f) in
    walk_above m s k n j h (omega arith) f ∙ (λ t. rising (a t) (b t) (suc s))
walk_below m s k r (suc i) zero j h e g f = absurd (omega (arith, e, g, f))
walk_below m s k r (suc i) (suc n) j h e g f =
    ap (λ us. us ++ flat_map (parts m s k) (range_with_len (j + 1) n)) (none_follow k j (tuples m s) (omega (arith, g)))
    ∙ walk_below m s k r i n (j + 1) h e (omega (arith, g)) (omega (arith, f))

following : (s m k n : ℕ) → k + n ≡ m → filter (follows k) (tuples m s) ≡ rising k n s
following zero m k n e = ap (filter (follows k)) (tuples-zero m) ∙ sym (rising-zero k n)
following (suc s) m k n e =
    ap (filter (follows k)) (tuples-more m s)
    ∙ filter-flat_map (follows k) (λ x. map (λ xs. x ∷ xs) (tuples m s)) (range_with_len 0 m)
    ∙ walk_below m s k n k m 0 (λ i r. following s m i r) e (omega arith) (zero-add m)

pub follows-zero : (xs : List ℕ) → never_falls xs ≡ follows 0 xs
follows-zero [] = refl
follows-zero (x ∷ xs) = let e = le_true 0 x (omega arith) in rw e refl

pub multisets_are_rising : (m s : ℕ) → multisets m s ≡ rising 0 m s
multisets_are_rising m s = multisets-filter m s ∙ filter_agree never_falls (follows 0) follows-zero (tuples m s)
    ∙ following s m 0 m (zero-add m)
