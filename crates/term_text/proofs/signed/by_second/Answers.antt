-- A well-sorted term has well-sorted parts, and nodes keep their terms.
use Rattle.std.proofs.Common.{[], ◌∷◌}
use Rattle.bv_terms.specs.declared.op.Op.TheVariants as op
use Rattle.bv_terms.specs.Table.{term_at}
use Rattle.term_text.specs.Written.{negated, perhaps_negated}
use Rattle.term_text.proofs.BuildLemmas.{Extends-further, term_at-kept, Builds-after, parts-sorted}
use Rattle.term_text.proofs.SignedLemmas.{sorted-later, on-two, two-kept, choice-made, operation-sorted}
use Rattle.term_text.proofs.signed.by_second.Goals as goal

pub negated-requires-clause-sorted : goal.negated-requires-clause-sorted
negated-requires-clause-sorted c =
    let table = c.args.terms.now in
    let p = table.pointer in
    let t = term_at table c.args.first in
    let u = term_at table c.args.second in
    (parts-sorted p c.args.op (t ∷ negated u ∷ []) (operation-sorted p c.args.negates_below c.args.op t (negated u)
    (parts-sorted p op.Ite (_ ∷ _ ∷ _ ∷ []) c.requires.sorted).1.0)).1.0

pub perhaps_negated-requires-clause-sorted : goal.perhaps_negated-requires-clause-sorted
perhaps_negated-requires-clause-sorted c =
    let a = c.args.terms.now in
    let b = c.negated.new.terms in
    let h = c.negated.ensures.extends in
    let w = c.args.width in
    let first = on-two (perhaps_negated c.args.negates_below c.args.op) _ _ _ _
    (term_at-kept a b h c.args.first c.requires.first)
    c.in_ok-opposite.ensures.stands.term in
    sorted-later a b h _ _ (parts-sorted a.pointer op.Ite (_ ∷ _ ∷ _ ∷ []) c.requires.sorted).1.0 first

pub perhaps_negated-requires-2-clause-sorted : goal.perhaps_negated-requires-2-clause-sorted
perhaps_negated-requires-2-clause-sorted c =
    let a = c.args.terms.now in
    let b = c.negated.new.terms in
    let h = c.negated.ensures.extends in
    let w = c.args.width in
    let first = on-two (perhaps_negated c.args.negates_below c.args.op) _ _ _ _
    (term_at-kept a b h c.args.first c.requires.first)
    c.in_ok-opposite.ensures.stands.term in
    let m = c.perhaps_negated.new.terms in
    let k = Extends-further a b m h c.perhaps_negated.ensures.extends in
    let second = two-kept (perhaps_negated c.args.negates_above c.args.op) a m k c.args.first c.args.second
    c.requires.first
    c.requires.second in
    sorted-later a m k _ _ (parts-sorted a.pointer op.Ite (_ ∷ _ ∷ _ ∷ []) c.requires.sorted).1.1.0 second

pub if_negative-requires-clause-sorted : goal.if_negative-requires-clause-sorted
if_negative-requires-clause-sorted c =
    let a = c.args.terms.now in
    let b = c.negated.new.terms in
    let h = c.negated.ensures.extends in
    let w = c.args.width in
    let first = on-two (perhaps_negated c.args.negates_below c.args.op) _ _ _ _
    (term_at-kept a b h c.args.first c.requires.first)
    c.in_ok-opposite.ensures.stands.term in
    let m = c.perhaps_negated.new.terms in
    let k = Extends-further a b m h c.perhaps_negated.ensures.extends in
    let second = two-kept (perhaps_negated c.args.negates_above c.args.op) a m k c.args.first c.args.second
    c.requires.first
    c.requires.second in
    let d = c.perhaps_negated-2.new.terms in
    let l = c.perhaps_negated-2.ensures.extends in
    let same = choice-made a m d k l w c.args.second c.in_ok-below.below c.in_ok-above.above c.requires.second _ _ _ _
    c.in_ok-below.ensures.stands first c.in_ok-above.ensures.stands second in
    sorted-later a d (Extends-further a m d k l) _ _ c.requires.sorted same

pub returns : goal.returns
returns c =
    let a = c.args.terms.now in
    let b = c.negated.new.terms in
    let h = c.negated.ensures.extends in
    let w = c.args.width in
    let first = on-two (perhaps_negated c.args.negates_below c.args.op) _ _ _ _
    (term_at-kept a b h c.args.first c.requires.first)
    c.in_ok-opposite.ensures.stands.term in
    let m = c.perhaps_negated.new.terms in
    let k = Extends-further a b m h c.perhaps_negated.ensures.extends in
    let second = two-kept (perhaps_negated c.args.negates_above c.args.op) a m k c.args.first c.args.second
    c.requires.first
    c.requires.second in
    let d = c.perhaps_negated-2.new.terms in
    let l = c.perhaps_negated-2.ensures.extends in
    let same = choice-made a m d k l w c.args.second c.in_ok-below.below c.in_ok-above.above c.requires.second _ _ _ _
    c.in_ok-below.ensures.stands first c.in_ok-above.ensures.stands second in
    Builds-after a d c.if_negative.new.terms c.if_negative.result _ _ (Extends-further a m d k l) c.if_negative.ensures
    same
