-- What a look at one clause leaves.
use Rattle.std.specs.Prelude.{◌≡◌, ℕ, ◌+◌, true, List, [], ◌∷◌, ◌++◌, length, Some}
use Rattle.cnf_core.specs.declared.clause.Lit.{Lit}
use Rattle.cnf_core.specs.declared.clause.Clause.{Clause}
use Rattle.cnf_core.specs.Clause.{opposite, contains}
use Rattle.cdcl_base.specs.Trail.{Trail, IsTrail, ExtendsTrail, IsConflict}
use Rattle.cdcl_watch.specs.declared.lists.Watcher.{Watcher}
use Rattle.cdcl_watch.specs.declared.propagation.Pair.{Pair}
use Rattle.cdcl_watch.specs.declared.propagation.Visit.{Visit}
use Rattle.cdcl_watch.specs.declared.propagation.Visit.TheVariants.{Kept, Moved, Falsified}
use Rattle.cdcl_watch.specs.Watches.{IsVisiting}

-- a literal is made true, with the clause of a number as its reason; or it is false, and the clause is falsified
abbrev pub IsSettled : Trail → Trail → Lit → ℕ → Visit → Type 0
IsSettled old new l number Kept =
    new ≡ (record {
      variables = old.variables;
      lits = old.lits ++ l ∷ [];
      reasons = old.reasons ++ Some number ∷ [];
      level_starts = old.level_starts;
    })
IsSettled old new l number Moved = ⊥
IsSettled old new l number (Falsified k) = (k ≡ number) × (new ≡ old) × (contains old.lits (opposite l) ≡ true)

-- the cursor passes a clause that stays; one that moved leaves the list, which has one less; and a conflict changes
-- nothing in the list
abbrev pub IsPassing : List Clause → List Pair → List (List Watcher) → Trail → ℕ → Lit → List Watcher → List Watcher →
    ℕ → Visit → Type 0
IsPassing cs ps lists t head untrue old list cursor Kept =
    IsVisiting cs ps lists t head untrue list (cursor + 1) × (length list ≡ length old)
IsPassing cs ps lists t head untrue old list cursor Moved =
    IsVisiting cs ps lists t head untrue list cursor × (length list + 1 ≡ length old)
IsPassing cs ps lists t head untrue old list cursor (Falsified number) =
    IsVisiting cs ps lists t head untrue list cursor × IsConflict t.lits cs number

-- what a look at the clause at a cursor leaves
pub record IsVisit (cs : List Clause) (ps : List Pair) (lists : List (List Watcher)) (before t : Trail) (head : ℕ)
    (untrue : Lit) (old list : List Watcher) (cursor : ℕ) (visit : Visit) : Type 0 where
  pub trail : IsTrail t
  pub extends : ExtendsTrail before t
  pub passing : IsPassing cs ps lists t head untrue old list cursor visit
