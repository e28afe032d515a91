-- A well-sorted term has well-sorted parts.
use Rattle.std.proofs.Common.{[], ◌∷◌}
use Rattle.bv_terms.specs.declared.op.Op.TheVariants as op
use Rattle.bv_terms.specs.Table.{term_at}
use Rattle.term_text.specs.Written.{on_two}
use Rattle.term_text.proofs.BuildLemmas.{parts-sorted}
use Rattle.term_text.proofs.signed.negated_of.Goals as goal

pub make_fitting-requires-clause-sorted : goal.make_fitting-requires-clause-sorted
make_fitting-requires-clause-sorted c =
    let table = c.args.terms.now in
    (parts-sorted table.pointer op.BvNeg
    (on_two c.args.op (term_at table c.args.first) (term_at table c.args.second) ∷ []) c.requires.sorted).0
