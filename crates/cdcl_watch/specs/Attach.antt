-- Clauses that are watched one after another before any decision: those of one literal make it true, and the others
-- watch two literals.
use Rattle.std.specs.Prelude.{◌≡◌, ℕ, zero, suc, ◌*◌, ◌⊎◌, Bool, true, false, List, [], length, Some, slice_get}
use Rattle.cnf_core.specs.declared.clause.Lit.{Lit}
use Rattle.cnf_core.specs.declared.clause.Clause.{Clause}
use Rattle.cnf_core.specs.Clause.{same_lit, contains}
use Rattle.cdcl_base.specs.Trail.{Trail, IsTrail, AreReasons, IsConflict}
use Rattle.cdcl_watch.specs.declared.lists.Watcher.{Watcher}
use Rattle.cdcl_watch.specs.declared.propagation.Pair.{Pair}
use Rattle.cdcl_watch.specs.Lists.{watchers}
use Rattle.cdcl_watch.specs.Watches.{IsPair, AreWatched, AreLists}

-- two literals of a clause that differ, or its only one twice
pub record IsPairOf (c : List Lit) (p : Pair) : Type 0 where
  pub two : same_lit p.first p.second ≡ false → IsPair c p
  pub stands : contains c p.first ≡ true
  pub one : same_lit p.first p.second ≡ true → (m : Lit) → contains c m ≡ true → m ≡ p.first

-- the next clause without a pair has these two literals, and no other where it is short
pub record IsNext (cs : List Clause) (ps : List Pair) (p : Pair) (short : Bool) : Type 0 where
  pub clause : Clause
  pub there : slice_get cs (length ps) ≡ Some clause
  pub pair : IsPair clause.lits p
  pub only : short ≡ true → (m : Lit) → contains clause.lits m ≡ true → (m ≡ p.first) ⊎ (m ≡ p.second)

-- the first clauses have their pairs and stand in the lists, and those of one literal are true
pub record IsAttaching (cs : List Clause) (ps : List Pair) (lists : List (List Watcher)) (t : Trail) : Type 0 where
  pub trail : IsTrail t
  pub root : t.level_starts ≡ []
  pub sized : length lists ≡ 2 * t.variables
  pub listed : AreLists cs ps (watchers lists)
  pub reasons : AreReasons cs t
  pub watched : AreWatched t.lits [] cs ps

-- before any decision, a clause by its number with no literal that is not false
pub record IsRootConflict (cs : List Clause) (t : Trail) (number : ℕ) : Type 0 where
  pub trail : IsTrail t
  pub root : t.level_starts ≡ []
  pub reasons : AreReasons cs t
  pub conflict : IsConflict t.lits cs number

-- the pair of a learnt clause: the literal that it forces, and the other one that became false last, where there is one
abbrev pub learnt_pair : ℕ → Lit → Lit → Pair
learnt_pair zero l last = record { first = l; second = l }
learnt_pair (suc keep) l last = record { first = l; second = last }
