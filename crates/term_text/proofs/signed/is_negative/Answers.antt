-- A well-sorted term has well-sorted parts, and nodes keep their terms.
use Rattle.std.proofs.Common.{[], ◌∷◌}
use Rattle.bv_terms.specs.declared.op.Op.TheVariants as op
use Rattle.term_text.proofs.BuildLemmas.{term_at-kept, Builds-after, parts-sorted}
use Rattle.term_text.proofs.BuildLemmas.{two-same}
use Rattle.term_text.proofs.SignedLemmas.{sorted-later}
use Rattle.term_text.proofs.signed.is_negative.Goals as goal

pub make_fitting-requires-clause-sorted : goal.make_fitting-requires-clause-sorted
make_fitting-requires-clause-sorted c =
    (parts-sorted c.args.terms.now.pointer op.BvSlt (_ ∷ _ ∷ []) c.requires.sorted).1.0

pub make_fitting-requires-2-clause-sorted : goal.make_fitting-requires-2-clause-sorted
make_fitting-requires-2-clause-sorted c =
    let a = c.args.terms.now in
    let b = c.make_fitting.new.terms in
    let more = c.make_fitting.ensures.extends in
    sorted-later a b more _ _ c.requires.sorted
    (two-same op.BvSlt _ _ _ _ (term_at-kept a b more c.args.at c.requires.at) c.in_ok-zero.ensures.stands.term)

pub returns : goal.returns
returns c =
    let a = c.args.terms.now in
    let b = c.make_fitting.new.terms in
    let more = c.make_fitting.ensures.extends in
    Builds-after a b c.make_fitting-2.new.terms c.make_fitting-2.result _ _ more c.make_fitting-2.ensures
    (two-same op.BvSlt _ _ _ _ (term_at-kept a b more c.args.at c.requires.at) c.in_ok-zero.ensures.stands.term)
