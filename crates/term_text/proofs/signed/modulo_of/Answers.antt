-- A well-sorted term has well-sorted parts, and nodes keep their terms.
use Rattle.std.proofs.Common.{[], ◌∷◌, ◌∙◌}
use Rattle.bv_terms.specs.declared.op.Op.TheVariants as op
use Rattle.term_text.specs.Written.{signed_as_divisor}
use Rattle.term_text.proofs.BuildLemmas.{Extends-further, term_at-kept, StandsFor-kept, Builds-after, parts-sorted}
use Rattle.term_text.proofs.BuildLemmas.{three-same}
use Rattle.term_text.proofs.SignedLemmas.{sorted-later, on-three}
use Rattle.term_text.proofs.signed.modulo_of.Goals as goal

pub is_zero-requires-clause-sorted : goal.is_zero-requires-clause-sorted
is_zero-requires-clause-sorted c =
    (parts-sorted c.args.terms.now.pointer op.Ite (_ ∷ _ ∷ _ ∷ []) c.requires.sorted).0

pub signed_as_divisor-requires-clause-sorted : goal.signed_as_divisor-requires-clause-sorted
signed_as_divisor-requires-clause-sorted c =
    let a = c.args.terms.now in
    let b = c.is_zero.new.terms in
    let h = c.is_zero.ensures.extends in
    let w = c.args.width in
    let other = on-three (signed_as_divisor w) _ _ _ _ _ _ (term_at-kept a b h c.args.rest c.requires.rest)
    (term_at-kept a b h c.args.first c.requires.first) (term_at-kept a b h c.args.second c.requires.second) in
    sorted-later a b h _ _ (parts-sorted a.pointer op.Ite (_ ∷ _ ∷ _ ∷ []) c.requires.sorted).1.1.0 other

pub make_fitting-requires-clause-sorted : goal.make_fitting-requires-clause-sorted
make_fitting-requires-clause-sorted c =
    let a = c.args.terms.now in
    let b = c.is_zero.new.terms in
    let h = c.is_zero.ensures.extends in
    let w = c.args.width in
    let other = on-three (signed_as_divisor w) _ _ _ _ _ _ (term_at-kept a b h c.args.rest c.requires.rest)
    (term_at-kept a b h c.args.first c.requires.first) (term_at-kept a b h c.args.second c.requires.second) in
    let d = c.signed_as_divisor.new.terms in
    let k = c.signed_as_divisor.ensures.extends in
    let none = StandsFor-kept b d k c.in_ok-none.none _ c.in_ok-none.ensures.stands in
    let same = three-same op.Ite _ _ _ _ _ _ none.term
    (term_at-kept a d (Extends-further a b d h k) c.args.rest c.requires.rest)
    (c.in_ok-signed.ensures.stands.term ∙ other) in
    sorted-later a d (Extends-further a b d h k) _ _ c.requires.sorted same

pub returns : goal.returns
returns c =
    let a = c.args.terms.now in
    let b = c.is_zero.new.terms in
    let h = c.is_zero.ensures.extends in
    let w = c.args.width in
    let other = on-three (signed_as_divisor w) _ _ _ _ _ _ (term_at-kept a b h c.args.rest c.requires.rest)
    (term_at-kept a b h c.args.first c.requires.first) (term_at-kept a b h c.args.second c.requires.second) in
    let d = c.signed_as_divisor.new.terms in
    let k = c.signed_as_divisor.ensures.extends in
    let none = StandsFor-kept b d k c.in_ok-none.none _ c.in_ok-none.ensures.stands in
    let same = three-same op.Ite _ _ _ _ _ _ none.term
    (term_at-kept a d (Extends-further a b d h k) c.args.rest c.requires.rest)
    (c.in_ok-signed.ensures.stands.term ∙ other) in
    Builds-after a d c.make_fitting.new.terms c.make_fitting.result _ _ (Extends-further a b d h k)
    c.make_fitting.ensures
    same
