use Rattle.std.proofs.lemmas.Slice.Eq.{slice_eq-Decides}
use Rattle.plain_search.proofs.AgreementLemmas.{value_eq-Decides}
use Rattle.cegis_loop.proofs.trial.are_same.Goals as goal

pub returns : goal.returns
returns c = slice_eq-Decides value_eq-Decides c.args.left.now c.args.right.now c.eq.result c.eq.ensures
