-- Conflict analysis: the clause that resolution with the reasons of the last literals leads to. J. Marques-Silva, K.
-- Sakallah, GRASP, IEEE Transactions on Computers 48 (1999); L. Zhang, C. Madigan, M. Moskewicz, S. Malik, Efficient
-- conflict driven learning in a Boolean satisfiability solver, ICCAD 2001 (the first unique implication point).
use Rattle.std.specs.Prelude.{◌≡◌, ℕ, zero, suc, ◌+◌, ◌-◌, ◌<◌, ◌≤◌, ◌==◌, ◌&&◌, ◌||◌, Bool, true, false, List, take}
use Rattle.std.specs.Prelude.{length, ◌⊎◌}
use Rattle.std.specs.Prelude.{Option, Some, slice_get}
use Rattle.std.specs.List.{list_any}
use Rattle.cnf_core.specs.declared.clause.Lit.{Lit}
use Rattle.cnf_core.specs.declared.clause.Clause.{Clause}
use Rattle.cnf_core.specs.Clause.{opposite, same_lit, contains, assigned, AreSame, IsOver}
use Rattle.cnf_core.specs.Resolution.{after_steps, derived, IsNewClause}
use Rattle.cdcl_base.specs.declared.analysis.Learnt.{Learnt}
use Rattle.cdcl_base.specs.Trail.{IsUnassigned, Forces, IsPropagated}

-- the literal in a place is forced by a clause and the literals before it
pub record HasReason (cs : List Clause) (lits : List Lit) (reasons : List (Option ℕ)) (place : ℕ) : Type 0 where
  pub lit : Lit
  pub stands : slice_get lits place ≡ Some lit
  pub number : ℕ
  pub reason : slice_get reasons place ≡ Some (Some number)
  pub clause : Clause
  pub there : slice_get cs number ≡ Some clause
  pub forces : Forces (take place lits) clause.lits lit

-- the literals in these places are forced by clauses
abbrev pub HaveReasons : List Clause → List Lit → List (Option ℕ) → ℕ → ℕ → Type 0
HaveReasons cs lits reasons from to = (k : ℕ) → from ≤ k → k < to → HasReason cs lits reasons k

-- whether a clause contains a literal of this variable
abbrev pub contains_variable : List Lit → ℕ → Bool
contains_variable c x = list_any (λ (l : Lit). l.variable == x) c

-- whether a number stands in a list
abbrev pub contains_number : List ℕ → ℕ → Bool
contains_number xs x = list_any (λ y. y == x) xs

-- the marks with those of a clause's variables
abbrev pub IsMarked : List Bool → List Lit → List Bool → Type 0
IsMarked old c new = (length new ≡ length old) × ((x : ℕ) → assigned new x ≡ (assigned old x || contains_variable c x))

-- no variable is marked whose literal stands in these places
abbrev pub AreUnmarked : List Bool → List Lit → ℕ → ℕ → Type 0
AreUnmarked marks lits from to = (k : ℕ) (l : Lit) → from ≤ k → k < to → slice_get lits k ≡ Some l →
    assigned marks l.variable ≡ false

-- the marked variables are those of the list
abbrev pub AreListed : List Bool → List ℕ → Type 0
AreListed marks marked = (x : ℕ) → assigned marks x ≡ contains_number marked x

-- a variable with a value
pub record HasPlace (lits : List Lit) (x : ℕ) : Type 0 where
  pub place : ℕ
  pub lit : Lit
  pub stands : slice_get lits place ≡ Some lit
  pub variable : lit.variable ≡ x

-- the marked variables are those of the list, and each has a value
pub record AreMarks (lits : List Lit) (marks : List Bool) (marked : List ℕ) : Type 0 where
  pub listed : AreListed marks marked
  pub placed : (x : ℕ) → assigned marks x ≡ true → HasPlace lits x

-- the first place of a listed variable from a place on; an end, where there is none before it
pub record IsFirstPlace (places : List ℕ) (from end : ℕ) (marked : List ℕ) (first : ℕ) : Type 0 where
  pub within : first ≤ end
  pub lower : (x place : ℕ) → contains_number marked x ≡ true → slice_get places x ≡ Some place → from ≤ place →
      first ≤ place
  pub found : (first ≡ end) ⊎ ((x : ℕ) × (contains_number marked x ≡ true) × (slice_get places x ≡ Some first)
      × (from ≤ first))

-- the number of places up to the last one of a listed variable before an end; zero where there is none
pub record IsKept (places : List ℕ) (end : ℕ) (marked : List ℕ) (keep : ℕ) : Type 0 where
  pub upper : (x place : ℕ) → contains_number marked x ≡ true → slice_get places x ≡ Some place → place < end →
      place < keep
  pub found : (keep ≡ 0) ⊎ ((x place : ℕ) × (contains_number marked x ≡ true) × (slice_get places x ≡ Some place)
      × (place < end) × (keep ≡ place + 1))

-- the last place before an end whose variable is marked
pub record IsLastMarked (marks : List Bool) (lits : List Lit) (from to place : ℕ) : Type 0 where
  pub from_on : from ≤ place
  pub before : place < to
  pub lit : Lit
  pub stands : slice_get lits place ≡ Some lit
  pub marked : assigned marks lit.variable ≡ true
  pub last : AreUnmarked marks lits (place + 1) to

-- the steps lead from a clause to the literals that are false by these and whose variables are marked
pub record Leads (cs : List Clause) (first : List Lit) (steps : List (Lit × ℕ)) (marks : List Bool)
    (lits : List Lit) : Type 0 where
  pub clause : List Lit
  pub derived : after_steps cs first steps ≡ Some clause
  pub same : (l : Lit) → contains clause l ≡ (contains lits (opposite l) && assigned marks l.variable)

-- what the clause of a chain is, as a set
pub record LeadsTo (cs : List Clause) (first : List Lit) (steps : List (Lit × ℕ)) (c : List Lit) : Type 0 where
  pub clause : List Lit
  pub derived : after_steps cs first steps ≡ Some clause
  pub same : AreSame clause c

-- the number of places up to the last one before an end whose variable is marked; zero where there is none
abbrev pub IsKeptLength : List Bool → List Lit → ℕ → ℕ → Type 0
IsKeptLength marks lits to zero = AreUnmarked marks lits 0 to
IsKeptLength marks lits to (suc place) = IsLastMarked marks lits 0 to place

-- the literals of a clause: one literal, and those that are false in the first places and whose variables are marked
abbrev pub IsCollected : List Bool → List Lit → Lit → ℕ → List Lit → Type 0
IsCollected marks lits l n c =
    (m : Lit) → contains c m ≡ (same_lit m l || (contains (take n lits) (opposite m) && assigned marks m.variable))

-- a clause that is unit on a literal once all but the first places are cancelled, and that was propagated before
pub record IsAsserting (lits c : List Lit) (l : Lit) (level_start keep : ℕ) : Type 0 where
  pub kept : keep ≤ level_start
  pub unassigned : (n : ℕ) → n ≤ level_start → IsUnassigned (take n lits) l
  pub forces : (n : ℕ) → keep ≤ n → Forces (take n lits) c l
  pub propagated : (n : ℕ) → n < keep → IsPropagated (take n lits) c

-- of a clause that is unit on a literal once all but the first places are cancelled, the other literal that became
-- false last: its opposite stands in the last of these places
pub record IsLastFalse (lits c : List Lit) (l : Lit) (keep : ℕ) (last : Lit) : Type 0 where
  pub stands : contains c last ≡ true
  pub differs : same_lit l last ≡ false
  pub falsified : slice_get lits (keep - 1) ≡ Some (opposite last)
  pub unassigned : (n : ℕ) → n < keep → IsUnassigned (take n lits) last

-- what is learnt from a conflict: a chain, its clause, the literal that the clause forces after the backjump, and the
-- other literal that became false last, where there is another
pub record IsLearnt (cs : List Clause) (variables : ℕ) (lits : List Lit) (level_start : ℕ) (learnt : Learnt) : Type 0
  where
    pub lits_derived : List Lit
    pub derives : derived cs learnt.chain ≡ Some lits_derived
    pub same : AreSame lits_derived learnt.clause.items
    pub new_clause : IsNewClause cs learnt.clause.items
    pub over : IsOver variables learnt.clause.items
    pub asserting : IsAsserting lits learnt.clause.items learnt.lit level_start learnt.keep
    pub last_false : 0 < learnt.keep → IsLastFalse lits learnt.clause.items learnt.lit learnt.keep learnt.last_false
