-- What the chain of a taker is made of, source by source.
use Rattle.std.specs.Prelude.{◌≡◌, ◌<◌, Option, Some, length, IfSome}
use Rattle.bv_terms.specs.declared.op.TermId.{TermId}
use Rattle.bv_terms.specs.declared.value.Sort.TheVariants as sort
use Rattle.bv_terms.specs.Table.{Table, term_at}
use Rattle.bv_terms.specs.WellSorted.{sort_of}
use Rattle.loc_encode.specs.declared.taking.Named.{Named}

-- a source and others, of one sort, whose terms stand in the table
pub record CanTake (table : Table) (named : Named) (others : Option TermId) : Type 0 where
  pub there : named.term.0 < length table.nodes
  pub plain : ¬ (named.sort ≡ sort.Mem)
  pub sorted : sort_of table.pointer (term_at table named.term) ≡ Some named.sort
  pub others_there : IfSome others (λ id. id.0 < length table.nodes)
  pub others_sorted : IfSome others (λ id. sort_of table.pointer (term_at table id) ≡ Some named.sort)
