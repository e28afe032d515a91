use Rattle.std.proofs.Common.{◌≡◌, ◌≤◌, ℕ, ◌+◌, ◌*◌, drop}
use Rattle.std.specs.List.{sum_by}
use Rattle.bv_terms.specs.Term.{Term}
use Rattle.isel_spec.specs.Memory.{each_once, same_access}
use Rattle.spec_reader.specs.Accesses.{accesses_by}
use Rattle.spec_reader.proofs.accesses.accessed_bytes.Given as goal

abbrev pub invariant-loop-place : goal.invariant-loop-place
invariant-loop-place l = record {
  sum : l.total + sum_by (λ (a : ℕ × Term). a.0)
      (each_once same_access (accesses_by l.terms (drop l.place l.accesses)))
      ≡ sum_by (λ (a : ℕ × Term). a.0) (each_once same_access (accesses_by l.terms l.accesses));
  few : l.total ≤ 255 * l.place;
}
