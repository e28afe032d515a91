-- A well-sorted term has well-sorted parts, and nodes keep their terms.
use Rattle.std.proofs.Common.{[], ◌∷◌}
use Rattle.bv_terms.specs.declared.op.Op.TheVariants as op
use Rattle.term_text.proofs.BuildLemmas.{term_at-kept, Builds-after, parts-sorted}
use Rattle.term_text.proofs.BuildLemmas.{three-same}
use Rattle.term_text.proofs.SignedLemmas.{sorted-later}
use Rattle.term_text.proofs.signed.if_negative.Goals as goal

pub is_negative-requires-clause-sorted : goal.is_negative-requires-clause-sorted
is_negative-requires-clause-sorted c =
    (parts-sorted c.args.terms.now.pointer op.Ite (_ ∷ _ ∷ _ ∷ []) c.requires.sorted).0

pub make_fitting-requires-clause-sorted : goal.make_fitting-requires-clause-sorted
make_fitting-requires-clause-sorted c =
    let a = c.args.terms.now in
    let b = c.is_negative.new.terms in
    let more = c.is_negative.ensures.extends in
    sorted-later a b more _ _ c.requires.sorted
    (three-same op.Ite _ _ _ _ _ _ c.in_ok-negative.ensures.stands.term
    (term_at-kept a b more c.args.below c.requires.below)
    (term_at-kept a b more c.args.above c.requires.above))

pub returns : goal.returns
returns c =
    let a = c.args.terms.now in
    let b = c.is_negative.new.terms in
    let more = c.is_negative.ensures.extends in
    Builds-after a b c.make_fitting.new.terms c.make_fitting.result _ _ more c.make_fitting.ensures
    (three-same op.Ite _ _ _ _ _ _ c.in_ok-negative.ensures.stands.term
    (term_at-kept a b more c.args.below c.requires.below)
    (term_at-kept a b more c.args.above c.requires.above))
