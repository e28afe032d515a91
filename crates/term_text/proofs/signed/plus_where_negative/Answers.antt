-- A well-sorted term has well-sorted parts, and nodes keep their terms.
use Rattle.std.proofs.Common.{[], ◌∷◌}
use Rattle.bv_terms.specs.declared.op.Op.TheVariants as op
use Rattle.term_text.proofs.BuildLemmas.{term_at-kept, Builds-after, parts-sorted}
use Rattle.term_text.proofs.SignedLemmas.{sorted-later, if-same}
use Rattle.term_text.proofs.signed.plus_where_negative.Goals as goal

pub make_fitting-requires-clause-sorted : goal.make_fitting-requires-clause-sorted
make_fitting-requires-clause-sorted c =
    (parts-sorted c.args.terms.now.pointer op.Ite (_ ∷ _ ∷ _ ∷ []) c.requires.sorted).1.0

pub if_negative-requires-clause-sorted : goal.if_negative-requires-clause-sorted
if_negative-requires-clause-sorted c =
    let a = c.args.terms.now in
    let b = c.make_fitting.new.terms in
    let more = c.make_fitting.ensures.extends in
    sorted-later a b more _ _ c.requires.sorted
    (if-same c.args.width _ _ _ _ _ _ (term_at-kept a b more c.args.other c.requires.other)
    c.in_ok-sum.ensures.stands.term
    (term_at-kept a b more c.args.at c.requires.at))

pub returns : goal.returns
returns c =
    let a = c.args.terms.now in
    let b = c.make_fitting.new.terms in
    let more = c.make_fitting.ensures.extends in
    Builds-after a b c.if_negative.new.terms c.if_negative.result _ _ more c.if_negative.ensures
    (if-same c.args.width _ _ _ _ _ _ (term_at-kept a b more c.args.other c.requires.other)
    c.in_ok-sum.ensures.stands.term
    (term_at-kept a b more c.args.at c.requires.at))
