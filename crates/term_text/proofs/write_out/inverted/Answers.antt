-- A well-sorted term has well-sorted parts.
use Rattle.std.proofs.Common.{[], ◌∷◌}
use Rattle.bv_terms.specs.declared.op.Op.TheVariants.{BvNot}
use Rattle.term_text.specs.Written.{applied}
use Rattle.term_text.specs.Build.{terms_at}
use Rattle.term_text.proofs.BuildLemmas.{parts-sorted}
use Rattle.term_text.proofs.write_out.inverted.Goals as goal

pub make_fitting-requires-clause-sorted : goal.make_fitting-requires-clause-sorted
make_fitting-requires-clause-sorted c =
    (parts-sorted c.args.terms.now.pointer BvNot (applied c.args.op (terms_at c.args.terms.now c.args.args.now) ∷ [])
    c.requires.sorted).0
