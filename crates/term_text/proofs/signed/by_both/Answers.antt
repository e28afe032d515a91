-- A well-sorted term has well-sorted parts, and nodes keep their terms.
use Rattle.std.proofs.Common.{[], ◌∷◌, not, true, false}
use Rattle.bv_terms.specs.declared.op.Op.TheVariants as op
use Rattle.bv_terms.specs.Table.{term_at}
use Rattle.term_text.specs.Written.{negated, by_second}
use Rattle.term_text.proofs.BuildLemmas.{Extends-further, term_at-kept, Builds-after, parts-sorted}
use Rattle.term_text.proofs.SignedLemmas.{sorted-later, on-two, two-kept, choice-made, operation-sorted}
use Rattle.term_text.proofs.signed.by_both.Goals as goal

pub negated-requires-clause-sorted : goal.negated-requires-clause-sorted
negated-requires-clause-sorted c =
    let table = c.args.terms.now in
    let p = table.pointer in
    let t = term_at table c.args.first in
    let u = term_at table c.args.second in
    let below = (parts-sorted p op.Ite (_ ∷ _ ∷ _ ∷ []) c.requires.sorted).1.0 in
    (parts-sorted p c.args.op (negated t ∷ negated u ∷ [])
    (operation-sorted p (not c.args.quotient) c.args.op (negated t) (negated u)
    (parts-sorted p op.Ite (_ ∷ _ ∷ _ ∷ []) below).1.0)).0

pub by_second-requires-clause-sorted : goal.by_second-requires-clause-sorted
by_second-requires-clause-sorted c =
    let a = c.args.terms.now in
    let b = c.negated.new.terms in
    let h = c.negated.ensures.extends in
    let w = c.args.width in
    let first = on-two (by_second w c.args.op (not c.args.quotient) true) _ _ _ _ c.in_ok-opposite.ensures.stands.term
    (term_at-kept a b h c.args.second c.requires.second) in
    sorted-later a b h _ _ (parts-sorted a.pointer op.Ite (_ ∷ _ ∷ _ ∷ []) c.requires.sorted).1.0 first

pub by_second-requires-2-clause-sorted : goal.by_second-requires-2-clause-sorted
by_second-requires-2-clause-sorted c =
    let a = c.args.terms.now in
    let b = c.negated.new.terms in
    let h = c.negated.ensures.extends in
    let w = c.args.width in
    let first = on-two (by_second w c.args.op (not c.args.quotient) true) _ _ _ _ c.in_ok-opposite.ensures.stands.term
    (term_at-kept a b h c.args.second c.requires.second) in
    let m = c.by_second.new.terms in
    let k = Extends-further a b m h c.by_second.ensures.extends in
    let second = two-kept (by_second w c.args.op c.args.quotient false) a m k c.args.first c.args.second
    c.requires.first
    c.requires.second in
    sorted-later a m k _ _ (parts-sorted a.pointer op.Ite (_ ∷ _ ∷ _ ∷ []) c.requires.sorted).1.1.0 second

pub if_negative-requires-clause-sorted : goal.if_negative-requires-clause-sorted
if_negative-requires-clause-sorted c =
    let a = c.args.terms.now in
    let b = c.negated.new.terms in
    let h = c.negated.ensures.extends in
    let w = c.args.width in
    let first = on-two (by_second w c.args.op (not c.args.quotient) true) _ _ _ _ c.in_ok-opposite.ensures.stands.term
    (term_at-kept a b h c.args.second c.requires.second) in
    let m = c.by_second.new.terms in
    let k = Extends-further a b m h c.by_second.ensures.extends in
    let second = two-kept (by_second w c.args.op c.args.quotient false) a m k c.args.first c.args.second
    c.requires.first
    c.requires.second in
    let d = c.by_second-2.new.terms in
    let l = c.by_second-2.ensures.extends in
    let same = choice-made a m d k l w c.args.first c.in_ok-below.below c.in_ok-above.above c.requires.first _ _ _ _
    c.in_ok-below.ensures.stands first c.in_ok-above.ensures.stands second in
    sorted-later a d (Extends-further a m d k l) _ _ c.requires.sorted same

pub returns : goal.returns
returns c =
    let a = c.args.terms.now in
    let b = c.negated.new.terms in
    let h = c.negated.ensures.extends in
    let w = c.args.width in
    let first = on-two (by_second w c.args.op (not c.args.quotient) true) _ _ _ _ c.in_ok-opposite.ensures.stands.term
    (term_at-kept a b h c.args.second c.requires.second) in
    let m = c.by_second.new.terms in
    let k = Extends-further a b m h c.by_second.ensures.extends in
    let second = two-kept (by_second w c.args.op c.args.quotient false) a m k c.args.first c.args.second
    c.requires.first
    c.requires.second in
    let d = c.by_second-2.new.terms in
    let l = c.by_second-2.ensures.extends in
    let same = choice-made a m d k l w c.args.first c.in_ok-below.below c.in_ok-above.above c.requires.first _ _ _ _
    c.in_ok-below.ensures.stands first c.in_ok-above.ensures.stands second in
    Builds-after a d c.if_negative.new.terms c.if_negative.result _ _ (Extends-further a m d k l) c.if_negative.ensures
    same
