use Rattle.std.proofs.Common.{◌≡◌, ◌++◌, ◌<◌, ◌≤◌, All, drop, length}
use Rattle.std.specs.List.{flat_map}
use Rattle.isel_spec.specs.Memory.{access_in, some_of}
use Rattle.term_text.specs.Build.{terms_at}
use Rattle.spec_reader.specs.declared.accesses.Access.{Access}
use Rattle.spec_reader.specs.Accesses.{accesses_by}
use Rattle.spec_reader.proofs.accesses.accesses.Given as goal

abbrev pub invariant-loop-at : goal.invariant-loop-at
invariant-loop-at l = record {
  value : accesses_by l.terms l.found.items
      ++ flat_map (λ t. some_of (access_in t)) (terms_at l.terms (drop l.at-index l.nodes))
      ≡ flat_map (λ t. some_of (access_in t)) (terms_at l.terms l.nodes);
  within : All (λ (a : Access). a.pointer.0 < length l.terms.nodes) l.found.items;
  few : length l.found.items ≤ l.at-index;
}
