use Rattle.std.proofs.Common.{◌∙◌, ap}
use Rattle.std.specs.Prelude.{not}
use Rattle.bv_terms.specs.Table.{term_at}
use Rattle.isel_spec.specs.File.{sorts_in}
use Rattle.pattern_core.proofs.HopelessLemmas.{lacks-is}
use Rattle.pattern_core.proofs.feasibility.lacks_source_of.Goals as goal

pub returns : goal.returns
returns c =
    ap not c.has_source.ensures
    ∙ lacks-is c.args.spec.now (sorts_in c.args.args.now) c.args.ops.now (term_at c.args.spec.now.terms c.args.at)
    c.sort-sort.result c.sort-sort.ensures
