use Rattle.std.proofs.Common.{◌∙◌}
use Rattle.pattern_core.proofs.HopelessLemmas.{gives-is}
use Rattle.pattern_core.proofs.SymbolicTables.{results-in}
use Rattle.pattern_core.proofs.feasibility.gives.Goals as goal

pub is_result-requires : goal.is_result-requires
is_result-requires c =
    results-in c.args.spec.now c.op.ensures.0 c.op.result.now c.as_slice-results.result.now c.args.op c.op.ensures.1
    c.as_slice-results.ensures

pub returns : goal.returns
returns c =
    c.is_result.ensures
    ∙ gives-is c.args.spec.now c.args.op c.op.ensures.0 c.op.result.now c.as_slice-results.result.now c.args.sort
    c.op.ensures.1 c.as_slice-results.ensures
