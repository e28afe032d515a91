-- A well-sorted term has well-sorted parts, and nodes keep their terms.
use Rattle.std.proofs.Common.{[], ◌∷◌, ap, ◌∙◌}
use Rattle.bv_terms.specs.declared.op.Op.TheVariants as op
use Rattle.bv_terms.specs.Table.{term_at}
use Rattle.term_text.specs.Written.{absolute}
use Rattle.term_text.proofs.BuildLemmas.{Extends-further, term_at-kept, StandsFor-kept, Builds-after, parts-sorted}
use Rattle.term_text.proofs.BuildLemmas.{two-same}
use Rattle.term_text.proofs.SignedLemmas.{sorted-later}
use Rattle.term_text.proofs.signed.rest_of_absolutes.Goals as goal

pub absolute-requires-clause-sorted : goal.absolute-requires-clause-sorted
absolute-requires-clause-sorted c =
    (parts-sorted c.args.terms.now.pointer op.BvUrem (_ ∷ _ ∷ []) c.requires.sorted).0

pub absolute-requires-2-clause-sorted : goal.absolute-requires-2-clause-sorted
absolute-requires-2-clause-sorted c =
    let a = c.args.terms.now in
    let b = c.absolute.new.terms in
    let h = c.absolute.ensures.extends in
    sorted-later a b h _ _ (parts-sorted a.pointer op.BvUrem (_ ∷ _ ∷ []) c.requires.sorted).1.0
    (ap (absolute c.args.width) (term_at-kept a b h c.args.second c.requires.second))

pub make_fitting-requires-clause-sorted : goal.make_fitting-requires-clause-sorted
make_fitting-requires-clause-sorted c =
    let a = c.args.terms.now in
    let b = c.absolute.new.terms in
    let d = c.absolute-2.new.terms in
    let h = c.absolute.ensures.extends in
    let k = c.absolute-2.ensures.extends in
    let w = c.args.width in
    let dividend = StandsFor-kept b d k c.in_ok-dividend.dividend (absolute w (term_at a c.args.first))
    c.in_ok-dividend.ensures.stands in
    let same = two-same op.BvUrem _ _ _ _ dividend.term
    (c.in_ok-divisor.ensures.stands.term ∙ ap (absolute w) (term_at-kept a b h c.args.second c.requires.second)) in
    sorted-later a d (Extends-further a b d h k) _ _ c.requires.sorted same

pub returns : goal.returns
returns c =
    let a = c.args.terms.now in
    let b = c.absolute.new.terms in
    let d = c.absolute-2.new.terms in
    let h = c.absolute.ensures.extends in
    let k = c.absolute-2.ensures.extends in
    let w = c.args.width in
    let dividend = StandsFor-kept b d k c.in_ok-dividend.dividend (absolute w (term_at a c.args.first))
    c.in_ok-dividend.ensures.stands in
    let same = two-same op.BvUrem _ _ _ _ dividend.term
    (c.in_ok-divisor.ensures.stands.term ∙ ap (absolute w) (term_at-kept a b h c.args.second c.requires.second)) in
    Builds-after a d c.make_fitting.new.terms c.make_fitting.result _ _ (Extends-further a b d h k)
    c.make_fitting.ensures
    same
