-- Terms of truth values. Source: SMT-LIB 2.6, theory Core.
use Rattle.std.specs.Prelude.{◌≡◌, ℕ, ◌<◌, Bool, length}
use Rattle.bv_terms.specs.declared.op.Op.TheVariants as op
use Rattle.bv_terms.specs.declared.op.TermId.{TermId}
use Rattle.bv_terms.specs.declared.value.Sort.{Sort}
use Rattle.bv_terms.specs.Term.{Term, Apply, End, Then}
use Rattle.bv_terms.specs.Table.{Table, term_at}

abbrev pub truth : Bool → Term
truth b = Apply (op.Bool b) End

abbrev pub input : ℕ → Sort → Term
input k s = Apply (op.Input k s) End

abbrev pub negation : Term → Term
negation t = Apply op.Not (Then t End)

abbrev pub conjunction : Term → Term → Term
conjunction t u = Apply op.And (Then t (Then u End))

abbrev pub disjunction : Term → Term → Term
disjunction t u = Apply op.Or (Then t (Then u End))

abbrev pub equality : Term → Term → Term
equality t u = Apply op.Eq (Then t (Then u End))

abbrev pub choice : Term → Term → Term → Term
choice t u v = Apply op.Ite (Then t (Then u (Then v End)))

-- the node stands in the table for the term
pub record Denotes (table : Table) (at : TermId) (t : Term) : Type 0 where
  pub there : at.0 < length table.nodes
  pub term : term_at table at ≡ t
