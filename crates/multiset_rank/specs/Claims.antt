-- Claims: pairs of a goal and a multiset of operations, and their order.
use Rattle.std.specs.Prelude.{◌≡◌, ℕ, ◌+◌, ◌*◌, ◌^◌, ◌<◌, ◌≤◌, List, length, map, AllPairs, Contains, IsTrue, ◌↔◌}
use Rattle.std.specs.List.{flat_map, range_with_len}
use Rattle.std.specs.Ordering.{nat_cmp, ordering_then}
use Rattle.std.specs.Cmp.Lexicographic.{slice_cmp}
use Rattle.std.specs.declared.cmp.Ordering.{Ordering}
use Rattle.std.specs.declared.cmp.Ordering.TheVariants.{Less}
use Rattle.multiset_rank.specs.Binomial.{choose}
use Rattle.multiset_rank.specs.Multisets.{multisets, never_falls, AreBelow}

-- how many goals and operations there are, and the most operations of a multiset
pub record Plan : Type 0 where
  pub goals : ℕ
  pub kinds : ℕ
  pub bound : ℕ

-- the claims with `size` operations: by goal, and then by multiset
unfoldable pub claims_of_size : Plan → ℕ → List (ℕ × List ℕ)
claims_of_size p size = flat_map (λ goal. map (λ xs. (goal, xs)) (multisets p.kinds size)) (range_with_len 0 p.goals)

-- the claims of a plan: by size, from 0 to the bound, then by goal, and then by multiset
unfoldable pub claims : Plan → List (ℕ × List ℕ)
claims p = flat_map (claims_of_size p) (range_with_len 0 (p.bound + 1))

-- how many claims there are
abbrev pub claim_count : Plan → ℕ
claim_count p = p.goals * choose (p.kinds + p.bound) p.bound

-- the ranges that a plan keeps
pub record IsPlan (p : Plan) : Type 0 where
  pub some_goals : 1 ≤ p.goals
  pub most_goals : p.goals ≤ 256
  pub some_kinds : 1 ≤ p.kinds
  pub most_kinds : p.kinds ≤ 64
  pub most_bound : p.bound ≤ 6
  pub most_claims : claim_count p ≤ 2 ^ 20

-- this goal with this multiset is in the plan
pub record IsInPlan (p : Plan) (goal : ℕ) (xs : List ℕ) : Type 0 where
  pub goal_below : goal < p.goals
  pub size_within : length xs ≤ p.bound
  pub kinds_below : AreBelow p.kinds xs

-- by size, then by goal, then by multiset
abbrev pub claim_cmp : ℕ × List ℕ → ℕ × List ℕ → Ordering
claim_cmp a b = ordering_then (nat_cmp (length a.1) (length b.1))
    (ordering_then (nat_cmp a.0 b.0) (slice_cmp nat_cmp a.1 b.1))

-- the list rises strictly, and has exactly the goals with the never-falling lists that are in the plan
pub record AreClaims (p : Plan) (list : List (ℕ × List ℕ)) : Type 0 where
  pub rising : AllPairs (λ a b. claim_cmp a b ≡ Less) list
  pub members : (goal : ℕ) (xs : List ℕ) → Contains list (goal, xs) ↔ (IsInPlan p goal xs × IsTrue (never_falls xs))
