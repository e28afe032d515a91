use Rattle.std.proofs.Common.{◌≡◌, ◌++◌, drop}
use Rattle.isel_spec.specs.File.{sorts_in}
use Rattle.encode_file.proofs.sorts_of.Given as goal

abbrev pub invariant-loop-arg : goal.invariant-loop-arg
invariant-loop-arg l = l.sorts.items ++ sorts_in (drop l.arg-index l.args) ≡ sorts_in l.args
