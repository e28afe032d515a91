use Rattle.std.proofs.Common.{slice_index_or, ap, ◌∙◌}
use Rattle.sexp_read.proofs.ForestLemmas.{item-at}
use Rattle.sexp_read.proofs.TreeAtLemmas.{item-span}
use Rattle.sexp_read.proofs.forest.Forest.span.Goals as goal

pub returns : goal.returns
returns c =
    let read = c.index-as_slice-item in
    let same = ap (λ is. slice_index_or is c.args.item read.result) c.as_slice.ensures in
    λ bytes reading.
    item-span bytes c.args.self.now reading c.args.item c.requires read.result
    (item-at _ c.args.item read.result (read.is ∙ same) c.requires)
