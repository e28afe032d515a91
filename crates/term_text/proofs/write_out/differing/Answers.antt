-- A well-sorted term has well-sorted parts.
use Rattle.std.proofs.Common.{[], ◌∷◌}
use Rattle.bv_terms.specs.declared.op.Op.TheVariants.{Not}
use Rattle.bv_terms.specs.Table.{term_at}
use Rattle.term_text.specs.Written.{equation}
use Rattle.term_text.proofs.BuildLemmas.{parts-sorted}
use Rattle.term_text.proofs.write_out.differing.Goals as goal

pub make_fitting-requires-clause-sorted : goal.make_fitting-requires-clause-sorted
make_fitting-requires-clause-sorted c =
    let table = c.args.terms.now in
    (parts-sorted table.pointer Not (equation (term_at table c.args.first) (term_at table c.args.second) ∷ [])
    c.requires.sorted).0
