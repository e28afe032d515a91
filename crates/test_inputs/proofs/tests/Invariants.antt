use Rattle.std.proofs.Common.{◌≡◌, length, All}
use Rattle.bv_terms.specs.Sorts.{HaveSorts}
use Rattle.pattern_core.specs.declared.pattern.Example.{Example}
use Rattle.test_inputs.proofs.tests.Given as goal

abbrev pub invariant-loop-test : goal.invariant-loop-test
invariant-loop-test l = record {
  sorts : All (λ (x : Example). HaveSorts l.sorts x.inputs) l.examples;
  count : length l.examples ≡ l.test;
}
