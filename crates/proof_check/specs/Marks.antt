-- Marks of literals.
use Rattle.std.specs.Prelude.{◌≡◌, Bool, true, false, if◌then◌else◌, length, slice_get, unwrap_or}
use Rattle.cnf_core.specs.declared.clause.Lit.{Lit}
use Rattle.proof_check.specs.declared.marks.Marks.{Marks}

-- a literal of a variable that is not there is not marked
abbrev pub is_marked : Marks → Lit → Bool
is_marked m l = unwrap_or (slice_get (if l.positive then m.positive.items else m.negative.items) l.variable) false

-- as many variables, and no new mark
pub record KeepsMarks (old new : Marks) : Type 0 where
  pub positive : length new.positive.items ≡ length old.positive.items
  pub negative : length new.negative.items ≡ length old.negative.items
  pub no_more : (l : Lit) → is_marked new l ≡ true → is_marked old l ≡ true
