-- Memories that are given to a term.
use Rattle.std.specs.Prelude.{Bool, false}
use Rattle.bv_terms.specs.declared.op.Op.{Op}
use Rattle.bv_terms.specs.declared.op.Op.TheVariants as op
use Rattle.bv_terms.specs.declared.value.Sort.TheVariants as sort
use Rattle.bv_terms.specs.Sorts.{same_sort}
use Rattle.bv_terms.specs.Term.{Term, Apply, End}

-- the operation is an input that is a memory
abbrev pub reads_memory : Op → Bool
reads_memory (op.Input k s) = same_sort s sort.Mem
reads_memory _ = false

-- so is the term
abbrev pub is_memory : Term → Bool
is_memory (Apply o End) = reads_memory o
is_memory _ = false
