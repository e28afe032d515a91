-- The list of claims: its order, its members, how long it is, and what stands where.
use Rattle.std.proofs.Common.{◌≡◌, ℕ, ◌+◌, ◌<◌, List, length, map, Some, refl, sym, ap, subst, ◌∙◌, arith}
use Rattle.std.proofs.Common.{slice_get}
use Rattle.std.specs.Prelude.{IsTrue}
use Rattle.std.specs.List.{flat_map, range_with_len}
use Rattle.std.specs.declared.cmp.Ordering.TheVariants.{Less, Equal}
use Rattle.multiset_rank.specs.Multisets.{multisets, never_falls, StandsAt}
use Rattle.multiset_rank.specs.Claims.{Plan, IsInPlan, claims, claims_of_size, claim_cmp, AreClaims}
use Rattle.multiset_rank.proofs.TupleLemmas.{multisets-ordered}
use Rattle.multiset_rank.proofs.TupleLemmas.{In_of_multisets, In-multisets}
use Rattle.list_lemmas.proofs.Members.{Contains-from_In, In, In-flat_map, In-from_Contains, In-map, In-range}
use Rattle.list_lemmas.proofs.Members.{In-slice_get, In_of_flat_map, In_of_map, In_of_range}
use Rattle.list_lemmas.proofs.Orders.{AllPairs-from_ordered, Before, IsOrdered, IsOrdered-flat_map, IsOrdered-map}
use Rattle.list_lemmas.proofs.Orders.{IsOrdered-range, IsOrdered-within, nat_cmp-less, nat_cmp-same, once_in_order}
use Rattle.list_lemmas.proofs.Orders.{slice_cmp-same}

pub claims_of_size-flat_map : (p : Plan) (s : ℕ)
    → claims_of_size p s ≡ flat_map (λ goal. map (λ xs. (goal, xs)) (multisets p.kinds s)) (range_with_len 0 p.goals)
unfolding claims_of_size
claims_of_size-flat_map p s = refl

pub claims-flat_map : (p : Plan) → claims p ≡ flat_map (claims_of_size p) (range_with_len 0 (p.bound + 1))
unfolding claims
claims-flat_map p = refl

-- the claims of one goal
abbrev pub of_goal : Plan → ℕ → ℕ → List (ℕ × List ℕ)
of_goal p s goal = map (λ xs. (goal, xs)) (multisets p.kinds s)

abbrev ClaimBefore : ℕ × List ℕ → ℕ × List ℕ → Type 0
ClaimBefore a b = claim_cmp a b ≡ Less

In_of_goal : (p : Plan) (s goal : ℕ) (u : ℕ × List ℕ) → In (of_goal p s goal) u
    → (u.0 ≡ goal) × In (multisets p.kinds s) u.1
In_of_goal p s goal u h =
    let r = In_of_map (λ xs. (goal, xs)) (multisets p.kinds s) u h in
    (sym (ap (λ v. v.0) r.2), subst (In (multisets p.kinds s)) (ap (λ v. v.1) r.2) r.1)

In_of_size : (p : Plan) (s : ℕ) (u : ℕ × List ℕ) → In (claims_of_size p s) u
    → (u.0 < p.goals) × In (multisets p.kinds s) u.1
In_of_size p s u h =
    let r = In_of_flat_map (of_goal p s) (range_with_len 0 p.goals) u
    (subst (λ us. In us u) (claims_of_size-flat_map p s) h) in
    let g = In_of_goal p s r.0 u r.2 in
    let l = In_of_range 0 p.goals r.0 r.1 in
    (omega (arith, g.0, l.1), g.1)

In-size : (p : Plan) (s goal : ℕ) (xs : List ℕ) → goal < p.goals → In (multisets p.kinds s) xs
    → In (claims_of_size p s) (goal, xs)
In-size p s goal xs l h =
    subst (λ us. In us (goal, xs)) (sym (claims_of_size-flat_map p s))
    (In-flat_map (of_goal p s) (range_with_len 0 p.goals) goal (goal, xs)
    (In-range 0 p.goals goal (omega arith) (omega (arith, l)))
    (In-map (λ ys. (goal, ys)) (multisets p.kinds s) xs h))

long : (p : Plan) (s : ℕ) (xs : List ℕ) → In (multisets p.kinds s) xs → length xs ≡ s
long p s xs h = (In_of_multisets p.kinds s xs h).0

-- of one size
abbrev Follows : List ℕ → List ℕ → Type 0
Follows xs ys = Before xs ys × (length xs ≡ length ys)

ClaimBefore-multiset : (goal : ℕ) (xs ys : List ℕ) → Follows xs ys → ClaimBefore (goal, xs) (goal, ys)
ClaimBefore-multiset goal xs ys h =
    let a = nat_cmp-same (length ys) in
    let b = nat_cmp-same goal in
    rw (h.1, a, b) h.0

ClaimBefore-goal : (g h : ℕ) (xs ys : List ℕ) → g < h → length xs ≡ length ys → ClaimBefore (g, xs) (h, ys)
ClaimBefore-goal g h xs ys l e =
    let a = nat_cmp-same (length ys) in
    let b = nat_cmp-less g h l in
    rw (e, a, b) refl

ClaimBefore-size : (g h : ℕ) (xs ys : List ℕ) → length xs < length ys → ClaimBefore (g, xs) (h, ys)
ClaimBefore-size g h xs ys l = let a = nat_cmp-less (length xs) (length ys) l in rw a refl

ClaimBefore-strict : (u : ℕ × List ℕ) → ClaimBefore u u → ⊥
ClaimBefore-strict u h =
    let a = nat_cmp-same (length u.1) in
    let b = nat_cmp-same u.0 in
    let c = slice_cmp-same u.1 in
    let e : claim_cmp u u ≡ Equal = rw (a, b) c in
    absurd (cc)

goal-ordered : (p : Plan) (s goal : ℕ) → IsOrdered ClaimBefore (of_goal p s goal)
goal-ordered p s goal =
    IsOrdered-map Follows ClaimBefore (λ xs. (goal, xs)) (ClaimBefore-multiset goal) (multisets p.kinds s)
    (IsOrdered-within Before Follows (multisets p.kinds s) (λ x y i j b. (b, long p s x i ∙ sym (long p s y j)))
    (multisets-ordered p.kinds s))

size-ordered : (p : Plan) (s : ℕ) → IsOrdered ClaimBefore (claims_of_size p s)
size-ordered p s =
    subst (IsOrdered ClaimBefore) (sym (claims_of_size-flat_map p s))
    (IsOrdered-flat_map (λ x y. x < y) ClaimBefore (of_goal p s) (goal-ordered p s)
    (λ a b u v l i j.
    let x = In_of_goal p s a u i in
    let y = In_of_goal p s b v j in
    ClaimBefore-goal u.0 v.0 u.1 v.1 (omega (arith, l, x.0, y.0)) (long p s u.1 x.1 ∙ sym (long p s v.1 y.1)))
    (range_with_len 0 p.goals) (IsOrdered-range 0 p.goals))

claims-ordered : (p : Plan) → IsOrdered ClaimBefore (claims p)
claims-ordered p =
    subst (IsOrdered ClaimBefore) (sym (claims-flat_map p))
    (IsOrdered-flat_map (λ x y. x < y) ClaimBefore (claims_of_size p) (size-ordered p)
    (λ s t u v l i j.
    let x = long p s u.1 (In_of_size p s u i).1 in
    let y = long p t v.1 (In_of_size p t v j).1 in
    ClaimBefore-size u.0 v.0 u.1 v.1 (omega (arith, l, x, y)))
    (range_with_len 0 (p.bound + 1)) (IsOrdered-range 0 (p.bound + 1)))

In_of_claims : (p : Plan) (goal : ℕ) (xs : List ℕ) → In (claims p) (goal, xs)
    → IsInPlan p goal xs × IsTrue (never_falls xs)
In_of_claims p goal xs h =
    let r = In_of_flat_map (claims_of_size p) (range_with_len 0 (p.bound + 1)) (goal, xs)
    (subst (λ us. In us (goal, xs)) (claims-flat_map p) h) in
    let l = In_of_range 0 (p.bound + 1) r.0 r.1 in
    let s = In_of_size p r.0 (goal, xs) r.2 in
    let m = In_of_multisets p.kinds r.0 xs s.1 in
    (record { goal_below = s.0; size_within = omega (arith, m.0, l.1); kinds_below = m.1 }, m.2)

In-claims : (p : Plan) (goal : ℕ) (xs : List ℕ) → IsInPlan p goal xs → IsTrue (never_falls xs)
    → In (claims p) (goal, xs)
In-claims p goal xs h t =
    let w = h.size_within in
    subst (λ us. In us (goal, xs)) (sym (claims-flat_map p))
    (In-flat_map (claims_of_size p) (range_with_len 0 (p.bound + 1)) (length xs) (goal, xs)
    (In-range 0 (p.bound + 1) (length xs) (omega arith) (omega (arith, w)))
    (In-size p (length xs) goal xs h.goal_below (In-multisets p.kinds (length xs) xs refl h.kinds_below t)))

pub claims_law : (p : Plan) → AreClaims p (claims p)
claims_law p = record {
  rising = AllPairs-from_ordered ClaimBefore (claims p) (claims-ordered p);
  members = λ goal xs. (
    λ c. In_of_claims p goal xs (In-from_Contains (claims p) (goal, xs) c),
    λ h. Contains-from_In (claims p) (goal, xs) (In-claims p goal xs h.0 h.1),
  );
}

pub claim_once : (p : Plan) (place : ℕ) (u : ℕ × List ℕ) → slice_get (claims p) place ≡ Some u
    → StandsAt (claims p) place u
claim_once p place u e = record {
  there = e;
  once = λ k h. once_in_order ClaimBefore ClaimBefore-strict (claims p) k place u (claims-ordered p) h e;
}

pub claim_at : (p : Plan) (place goal : ℕ) (xs : List ℕ) → slice_get (claims p) place ≡ Some (goal, xs)
    → IsInPlan p goal xs
claim_at p place goal xs e = (In_of_claims p goal xs (In-slice_get (claims p) place (goal, xs) e)).0
