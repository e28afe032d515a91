use Rattle.std.proofs.Common.{◌+◌, ◌-◌, ◌≡◌, ℕ, List, ap, arith, drop, length, length-drop, subst, take}
use Rattle.std.specs.List.{sum_by}
use Rattle.std.proofs.lemmas.List.{drop-drop, take_all}
use Rattle.bv_terms.specs.Term.{Term}
use Rattle.isel_spec.specs.Memory.{each_once, same_access}
use Rattle.spec_reader.specs.declared.accesses.Access.{Access}
use Rattle.spec_reader.specs.Accesses.{accesses_by}
use Rattle.spec_reader.proofs.accesses.accessed_bytes.Goals as goal

pub loop-place-preserved : goal.loop-place-preserved
loop-place-preserved c =
    let all = c.args.accesses.now in
    let i = c.loop-place.place in
    let bytes : List Access → ℕ =
    λ found. sum_by (λ (a : ℕ × Term). a.0) (each_once same_access (accesses_by c.args.terms.now found)) in
    let left : take (length all - i) (drop i all) ≡ drop i all =
    take_all (length all - i) (drop i all) (omega (arith, length-drop i all)) in
    let first = subst (λ found. bytes found ≡ c.first_bytes.result + bytes (drop 1 found)) left c.first_bytes.ensures in
    let next = ap bytes (drop-drop 1 i all) in
    record {
      sum = omega (arith, next, first, c.from-total.ensures, c.loop-place.invariant.sum);
      few = omega arith;
    }
