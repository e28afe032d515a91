-- A well-sorted term has well-sorted parts, and nodes keep their terms.
use Rattle.std.proofs.Common.{[], ◌∷◌}
use Rattle.bv_terms.specs.declared.op.Op.TheVariants as op
use Rattle.term_text.specs.Written.{on_two, if_negative}
use Rattle.term_text.proofs.BuildLemmas.{Extends-further, term_at-kept, Builds-after, parts-sorted}
use Rattle.term_text.proofs.SignedLemmas.{sorted-later, on-two, two-kept, choice-made}
use Rattle.term_text.proofs.signed.signed_as_divisor.Goals as goal

pub negated-requires-clause-sorted : goal.negated-requires-clause-sorted
negated-requires-clause-sorted c =
    let p = c.args.terms.now.pointer in
    (parts-sorted p op.Ite (_ ∷ _ ∷ _ ∷ []) (parts-sorted p op.Ite (_ ∷ _ ∷ _ ∷ []) c.requires.sorted).1.0).1.0

pub plus_where_positive-requires-clause-sorted : goal.plus_where_positive-requires-clause-sorted
plus_where_positive-requires-clause-sorted c =
    let a = c.args.terms.now in
    let b = c.negated.new.terms in
    let h = c.negated.ensures.extends in
    let w = c.args.width in
    let first = on-two (λ t u. if_negative w u t (on_two op.BvAdd t u)) _ _ _ _ c.in_ok-opposite.ensures.stands.term
    (term_at-kept a b h c.args.second c.requires.second) in
    sorted-later a b h _ _ (parts-sorted a.pointer op.Ite (_ ∷ _ ∷ _ ∷ []) c.requires.sorted).1.0 first

pub plus_where_negative-requires-clause-sorted : goal.plus_where_negative-requires-clause-sorted
plus_where_negative-requires-clause-sorted c =
    let a = c.args.terms.now in
    let b = c.negated.new.terms in
    let h = c.negated.ensures.extends in
    let w = c.args.width in
    let first = on-two (λ t u. if_negative w u t (on_two op.BvAdd t u)) _ _ _ _ c.in_ok-opposite.ensures.stands.term
    (term_at-kept a b h c.args.second c.requires.second) in
    let m = c.plus_where_positive.new.terms in
    let k = Extends-further a b m h c.plus_where_positive.ensures.extends in
    let second = two-kept (λ t u. if_negative w u (on_two op.BvAdd t u) t) a m k c.args.rest c.args.second
    c.requires.rest
    c.requires.second in
    sorted-later a m k _ _ (parts-sorted a.pointer op.Ite (_ ∷ _ ∷ _ ∷ []) c.requires.sorted).1.1.0 second

pub if_negative-requires-clause-sorted : goal.if_negative-requires-clause-sorted
if_negative-requires-clause-sorted c =
    let a = c.args.terms.now in
    let b = c.negated.new.terms in
    let h = c.negated.ensures.extends in
    let w = c.args.width in
    let first = on-two (λ t u. if_negative w u t (on_two op.BvAdd t u)) _ _ _ _ c.in_ok-opposite.ensures.stands.term
    (term_at-kept a b h c.args.second c.requires.second) in
    let m = c.plus_where_positive.new.terms in
    let k = Extends-further a b m h c.plus_where_positive.ensures.extends in
    let second = two-kept (λ t u. if_negative w u (on_two op.BvAdd t u) t) a m k c.args.rest c.args.second
    c.requires.rest
    c.requires.second in
    let d = c.plus_where_negative.new.terms in
    let l = c.plus_where_negative.ensures.extends in
    let same = choice-made a m d k l w c.args.first c.in_ok-below.below c.in_ok-above.above c.requires.first _ _ _ _
    c.in_ok-below.ensures.stands first c.in_ok-above.ensures.stands second in
    sorted-later a d (Extends-further a m d k l) _ _ c.requires.sorted same

pub returns : goal.returns
returns c =
    let a = c.args.terms.now in
    let b = c.negated.new.terms in
    let h = c.negated.ensures.extends in
    let w = c.args.width in
    let first = on-two (λ t u. if_negative w u t (on_two op.BvAdd t u)) _ _ _ _ c.in_ok-opposite.ensures.stands.term
    (term_at-kept a b h c.args.second c.requires.second) in
    let m = c.plus_where_positive.new.terms in
    let k = Extends-further a b m h c.plus_where_positive.ensures.extends in
    let second = two-kept (λ t u. if_negative w u (on_two op.BvAdd t u) t) a m k c.args.rest c.args.second
    c.requires.rest
    c.requires.second in
    let d = c.plus_where_negative.new.terms in
    let l = c.plus_where_negative.ensures.extends in
    let same = choice-made a m d k l w c.args.first c.in_ok-below.below c.in_ok-above.above c.requires.first _ _ _ _
    c.in_ok-below.ensures.stands first c.in_ok-above.ensures.stands second in
    Builds-after a d c.if_negative.new.terms c.if_negative.result _ _ (Extends-further a m d k l) c.if_negative.ensures
    same
