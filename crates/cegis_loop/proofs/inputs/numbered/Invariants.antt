use Rattle.std.proofs.Common.{◌≡◌, ◌++◌, drop}
use Rattle.plain_search.specs.Inputs.{inputs_numbered}
use Rattle.cegis_loop.proofs.inputs.numbered.Given as goal

abbrev pub invariant-loop-sort : goal.invariant-loop-sort
invariant-loop-sort l =
    l.values.items ++ inputs_numbered (drop l.sort-index l.sorts) l.rest ≡ inputs_numbered l.sorts l.number
