-- Two watched literals of each clause, and what propagation keeps of them. M. Moskewicz, C. Madigan, Y. Zhao, L. Zhang,
-- S. Malik, Chaff: Engineering an Efficient SAT Solver, DAC 2001.
use Rattle.std.specs.Prelude.{◌≡◌, ◌≢◌, ℕ, ◌+◌, ◌*◌, ◌≤◌, ◌⊎◌, true, false, List, take, length, Some, All, slice_get}
use Rattle.std.specs.Prelude.{if◌then◌else◌}
use Rattle.cnf_core.specs.declared.clause.Lit.{Lit}
use Rattle.cnf_core.specs.declared.clause.Clause.{Clause}
use Rattle.cnf_core.specs.Clause.{opposite, same_lit, contains, IsOver}
use Rattle.cdcl_base.specs.Trail.{Trail, IsSatisfied, AreReasons}
use Rattle.cdcl_watch.specs.declared.lists.Watcher.{Watcher}
use Rattle.cdcl_watch.specs.declared.propagation.Pair.{Pair}
use Rattle.cdcl_watch.specs.Lists.{clause_number, is_short, watchers}

-- two literals of a clause that differ
pub record IsPair (c : List Lit) (p : Pair) : Type 0 where
  pub first : contains c p.first ≡ true
  pub second : contains c p.second ≡ true
  pub differ : same_lit p.first p.second ≡ false

-- two literals of a clause that differ, neither of them false by these
pub record AreAwake (front c : List Lit) (p : Pair) : Type 0 where
  pub pair : IsPair c p
  pub first : contains front (opposite p.first) ≡ false
  pub second : contains front (opposite p.second) ≡ false

-- a clause is true, or its watches are not false by the literals at the front
abbrev pub IsWatched : List Lit → List Lit → List Lit → Pair → Type 0
IsWatched lits front c p = IsSatisfied lits c ⊎ AreAwake front c p

-- all clauses are so
abbrev pub AreWatched : List Lit → List Lit → List Clause → List Pair → Type 0
AreWatched lits front cs ps =
    (k : ℕ) (c : Clause) (p : Pair) → slice_get cs k ≡ Some c → slice_get ps k ≡ Some p → IsWatched lits front c.lits p

-- they were so before each decision on the trail
abbrev pub AreWatchedBefore : List Clause → List Pair → Trail → Type 0
AreWatchedBefore cs ps t = All (λ s. AreWatched (take s t.lits) (take s t.lits) cs ps) t.level_starts

-- a watcher in the list of a literal is of a clause that has two watches; its blocker stands in the clause, and is its
-- only other literal where the watcher says that there are two
pub record IsWatcher (cs : List Clause) (ps : List Pair) (l : Lit) (w : Watcher) : Type 0 where
  pub clause : Clause
  pub pair : Pair
  pub clause_there : slice_get cs (clause_number w) ≡ Some clause
  pub pair_there : slice_get ps (clause_number w) ≡ Some pair
  pub is_pair : IsPair clause.lits pair
  pub blocker : contains clause.lits w.blocker ≡ true
  pub short : is_short w ≡ true → (m : Lit) → contains clause.lits m ≡ true → (m ≡ w.blocker) ⊎ (m ≡ l)

-- the clause of a number stands in a list
pub record IsListed (ws : List Watcher) (number : ℕ) : Type 0 where
  pub place : ℕ
  pub watcher : Watcher
  pub stands : slice_get ws place ≡ Some watcher
  pub same : clause_number watcher ≡ number

-- each clause stands in the lists of both its watches
pub record AreLists (cs : List Clause) (ps : List Pair) (of : Lit → List Watcher) : Type 0 where
  pub watchers : (l : Lit) (k : ℕ) (w : Watcher) → slice_get (of l) k ≡ Some w → IsWatcher cs ps l w
  pub first : (k : ℕ) (c : Clause) (p : Pair) → slice_get cs k ≡ Some c → slice_get ps k ≡ Some p → IsPair c.lits p →
      IsListed (of p.first) k
  pub second : (k : ℕ) (c : Clause) (p : Pair) → slice_get cs k ≡ Some c → slice_get ps k ≡ Some p →
      IsPair c.lits p → IsListed (of p.second) k

-- what propagation keeps: as many pairs as clauses; each true literal but the decisions has its reason; and the clauses
-- are watched, by the literals before the head and before each decision
pub record IsWatching (cs : List Clause) (ps : List Pair) (lists : List (List Watcher)) (t : Trail) (head : ℕ) : Type 0
  where
    pub within : head ≤ length t.lits
    pub lengths : length ps ≡ length cs
    pub over : All (λ (c : Clause). IsOver t.variables c.lits) cs
    pub sized : length lists ≡ 2 * t.variables
    pub listed : AreLists cs ps (watchers lists)
    pub reasons : AreReasons cs t
    pub watched : AreWatched t.lits (take head t.lits) cs ps
    pub before : AreWatchedBefore cs ps t

-- the clause of a number does not stand in a list from a place on
abbrev pub IsPassed : List Watcher → ℕ → ℕ → Type 0
IsPassed ws from number = (k : ℕ) (w : Watcher) → from ≤ k → slice_get ws k ≡ Some w → clause_number w ≢ number

-- the lists, where that of one literal is kept beside the others
abbrev pub with_list : List (List Watcher) → Lit → List Watcher → Lit → List Watcher
with_list lists untrue list l = if same_lit l untrue then list else watchers lists l

-- the same while the list of a literal is gone over that is false by the literal at the head: the clauses that are
-- passed are watched by that literal too
pub record IsVisiting (cs : List Clause) (ps : List Pair) (lists : List (List Watcher)) (t : Trail) (head : ℕ)
    (untrue : Lit) (list : List Watcher) (cursor : ℕ) : Type 0 where
  pub lengths : length ps ≡ length cs
  pub over : All (λ (c : Clause). IsOver t.variables c.lits) cs
  pub sized : length lists ≡ 2 * t.variables
  pub listed : AreLists cs ps (with_list lists untrue list)
  pub reasons : AreReasons cs t
  pub watched : AreWatched t.lits (take head t.lits) cs ps
  pub before : AreWatchedBefore cs ps t
  pub falsified : slice_get t.lits head ≡ Some (opposite untrue)
  pub passed : (k : ℕ) (c : Clause) (p : Pair) → slice_get cs k ≡ Some c → slice_get ps k ≡ Some p →
      IsPassed list cursor k → IsWatched t.lits (take (head + 1) t.lits) c.lits p

-- a literal of a clause that is not false and is another than the watch
pub record IsOther (lits c : List Lit) (watch l : Lit) : Type 0 where
  pub stands : contains c l ≡ true
  pub differs : same_lit watch l ≡ false
  pub not_false : contains lits (opposite l) ≡ false

-- all literals of a clause but the watch are false
abbrev pub AreOthersFalse : List Lit → List Lit → Lit → Type 0
AreOthersFalse lits c watch = (m : Lit) → contains c m ≡ true → (m ≡ watch) ⊎ (contains lits (opposite m) ≡ true)
