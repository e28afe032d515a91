use Rattle.std.proofs.Common.{◌∙◌, ap, map}
use Rattle.bv_terms.specs.Table.{term_at}
use Rattle.bv_query.specs.Inputs.{have_one_sort}
use Rattle.bv_query.proofs.InputLemmas.{HaveOneSort-by}
use Rattle.bv_query.proofs.inputs.have_one_sort.Goals as goal

pub returns : goal.returns
returns c =
    HaveOneSort-by (map (term_at c.args.terms.now) c.args.formulas.now) c.in_ok-inputs.inputs.items
    c.are_all_alike.result c.in_ok-inputs.ensures
    (c.are_all_alike.ensures ∙ ap have_one_sort c.deref.ensures.value)
