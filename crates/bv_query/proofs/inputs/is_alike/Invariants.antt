use Rattle.std.proofs.Common.{◌≡◌, drop}
use Rattle.std.specs.List.{list_all}
use Rattle.bv_query.specs.Inputs.{are_alike}
use Rattle.bv_query.proofs.inputs.is_alike.Given as goal

abbrev pub invariant-loop-other : goal.invariant-loop-other
invariant-loop-other l =
    list_all (are_alike l.input) (drop l.other-index l.others) ≡ list_all (are_alike l.input) l.others
