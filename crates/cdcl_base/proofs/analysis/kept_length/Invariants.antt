use Rattle.std.proofs.Common.{take}
use Rattle.cdcl_base.specs.Analysis.{IsKept}
use Rattle.cdcl_base.proofs.analysis.kept_length.Given as goal

abbrev pub invariant-loop-variable : goal.invariant-loop-variable
invariant-loop-variable l = IsKept l.places l.end (take l.variable-index l.marked) l.keep
