use Rattle.std.proofs.Common.{◌≡◌, drop}
use Rattle.std.specs.List.{list_all}
use Rattle.bv_query.specs.Inputs.{are_alike, have_one_sort}
use Rattle.bv_query.proofs.inputs.are_all_alike.Given as goal

abbrev pub invariant-loop-input : goal.invariant-loop-input
invariant-loop-input l =
    list_all (λ i. list_all (are_alike i) l.inputs) (drop l.input-index l.inputs) ≡ have_one_sort l.inputs
