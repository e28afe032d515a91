use Rattle.std.proofs.Common.{◌∙◌}
use Rattle.bv_terms.specs.Table.{term_at}
use Rattle.pattern_core.proofs.HopelessLemmas.{sort-is}
use Rattle.pattern_core.proofs.feasibility.has_sort.Goals as goal

pub returns : goal.returns
returns c =
    c.is_same.ensures
    ∙ sort-is c.args.spec.now (term_at c.args.spec.now.terms c.args.at) c.sort.result c.args.sort c.sort.ensures
