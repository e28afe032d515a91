use Rattle.std.proofs.Common.{◌≡◌, drop}
use Rattle.std.specs.List.{list_any}
use Rattle.isel_spec.specs.Memory.{same_access}
use Rattle.spec_reader.specs.Accesses.{access_by, accesses_by}
use Rattle.spec_reader.proofs.accesses.is_repeated.Given as goal

abbrev pub invariant-loop-other : goal.invariant-loop-other
invariant-loop-other l =
    list_any (same_access (access_by l.terms l.access)) (accesses_by l.terms (drop l.other-index l.others))
    ≡ list_any (same_access (access_by l.terms l.access)) (accesses_by l.terms l.others)
