-- Terms that choose between others. Source: SMT-LIB 2.6, theory Core.
use Rattle.std.specs.Prelude.{◌≡◌, ℕ, ◌<◌, length, Some}
use Rattle.bv_terms.specs.declared.op.Op.TheVariants as op
use Rattle.bv_terms.specs.declared.op.TermId.{TermId}
use Rattle.bv_terms.specs.declared.value.Sort.{Sort}
use Rattle.bv_terms.specs.declared.value.Sort.TheVariants as sort
use Rattle.bv_terms.specs.declared.value.Value.{Value}
use Rattle.bv_terms.specs.declared.value.Value.TheVariants as val
use Rattle.bv_terms.specs.Term.{Term, Apply, End, Then}
use Rattle.bv_terms.specs.Table.{Table, term_at}
use Rattle.bv_terms.specs.WellSorted.{sort_of}

abbrev pub constant_term : Value → Term
constant_term (val.Bool b) = Apply (op.Bool b) End
constant_term (val.Bits w n) = Apply (op.Bits w n) End

abbrev pub input_term : ℕ → Sort → Term
input_term k s = Apply (op.Input k s) End

-- the first term where the input of that number is true, and else the second
abbrev pub choice_term : ℕ → Term → Term → Term
choice_term k t u = Apply op.Ite (Then (input_term k sort.Bool) (Then t (Then u End)))

abbrev pub equal_term : Term → Term → Term
equal_term t u = Apply op.Eq (Then t (Then u End))

abbrev pub both_term : Term → Term → Term
both_term t u = Apply op.And (Then t (Then u End))

-- nodes of the table whose terms have one sort, which is no memory
pub record IsOneSort (table : Table) (a b : TermId) : Type 0 where
  pub one : Sort
  pub plain : ¬ (one ≡ sort.Mem)
  pub there : a.0 < length table.nodes
  pub other_there : b.0 < length table.nodes
  pub sorted : sort_of table.pointer (term_at table a) ≡ Some one
  pub other_sorted : sort_of table.pointer (term_at table b) ≡ Some one

-- nodes of the table whose terms are truth values
pub record AreTruths (table : Table) (a b : TermId) : Type 0 where
  pub there : a.0 < length table.nodes
  pub other_there : b.0 < length table.nodes
  pub sorted : sort_of table.pointer (term_at table a) ≡ Some sort.Bool
  pub other_sorted : sort_of table.pointer (term_at table b) ≡ Some sort.Bool
