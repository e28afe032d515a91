use Rattle.std.proofs.Common.{◌≡◌, ◌+◌, ◌≤◌, drop, filter, length, map}
use Rattle.bv_terms.specs.declared.value.Sort.TheVariants as sort
use Rattle.bv_terms.specs.Sorts.{same_sort}
use Rattle.spec_reader.specs.declared.form.Param.{Param}
use Rattle.spec_reader.proofs.shape.memories_taken.Given as goal

abbrev pub invariant-loop-param : goal.invariant-loop-param
invariant-loop-param l = record {
  count : l.taken + length (filter (same_sort sort.Mem) (map (λ (p : Param). p.sort) (drop l.param-index l.args)))
      ≡ length (filter (same_sort sort.Mem) (map (λ (p : Param). p.sort) l.args));
  few : l.taken ≤ l.param-index;
}
