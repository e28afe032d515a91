use Rattle.std.proofs.Common.{Some, ap, sym, ◌∙◌}
use Rattle.bv_terms.proofs.SignatureLemmas.{same_sort-true}
use Rattle.file_tests.proofs.tests.symbolic.has_sort.Goals as goal

pub returns : goal.returns
returns c = λ same.
    c.sort.ensures ∙ ap (λ s. Some s) (same_sort-true c.sort.result c.args.sort (sym c.is_same.ensures ∙ same))
