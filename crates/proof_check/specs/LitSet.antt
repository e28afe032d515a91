-- Sets of literals, as contracts see them and as they are kept.
use Rattle.std.specs.Prelude.{◌≡◌, ℕ, true, false, List, [], ◌∷◌, length}
use Rattle.std.specs.List.{filter}
use Rattle.cnf_core.specs.declared.clause.Lit.{Lit}
use Rattle.cnf_core.specs.Clause.{contains}
use Rattle.proof_check.specs.declared.marks.Marks.{Marks}
use Rattle.proof_check.specs.Marks.{is_marked}

-- the number of variables, and a clause that contains the literals of the set
pub record Literals : Type 0 where
  pub variables : ℕ
  pub lits : List Lit

abbrev pub literals_of : ℕ → Marks → List Lit → Literals
literals_of variables marks added = record { variables = variables; lits = filter (is_marked marks) added }

-- there is a mark for each literal over n variables, and each marked literal was added
pub record IsLitSet (variables : ℕ) (marks : Marks) (added : List Lit) : Type 0 where
  pub positive : length marks.positive.items ≡ variables
  pub negative : length marks.negative.items ≡ variables
  pub listed : (l : Lit) → is_marked marks l ≡ true → contains added l ≡ true

-- no literal stands twice
abbrev pub AreDistinct : List Lit → Type 0
AreDistinct [] = Unit {0}
AreDistinct (l ∷ ls) = (contains ls l ≡ false) × AreDistinct ls
