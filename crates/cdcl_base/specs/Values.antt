-- What a trail keeps beside its literals.
use Rattle.std.specs.Prelude.{◌≡◌, ℕ, ◌*◌, ◌≤◌, Bool, false, List, length, Option, Some, None}
use Rattle.std.specs.Bool.{beq}
use Rattle.cnf_core.specs.declared.clause.Lit.{Lit}
use Rattle.cnf_core.specs.Clause.{contains, assigned}
use Rattle.cdcl_base.specs.Codes.{code}
use Rattle.cdcl_base.specs.Trail.{Trail, ArePlaces}

-- the trail of these lists
abbrev pub trail_of : ℕ → List Lit → List (Option ℕ) → List ℕ → Trail
trail_of variables lits reasons level_starts =
    record { variables = variables; lits = lits; reasons = reasons; level_starts = level_starts }

-- whether a variable has that value
abbrev pub is_value : Option Bool → Bool → Bool
is_value None sign = false
is_value (Some value) sign = beq value sign

-- which literals are true, by their numbers; the place of each true literal; and a phase for each variable
pub record AreValues (variables : ℕ) (lits : List Lit) (truths : List Bool) (places : List ℕ)
    (phases : List Bool) : Type 0 where
  pub agree : (l : Lit) → assigned truths (code l) ≡ contains lits l
  pub placed : ArePlaces lits places
  pub truths_room : 2 * variables ≤ length truths
  pub places_room : variables ≤ length places
  pub phases_room : variables ≤ length phases
