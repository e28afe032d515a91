-- A well-sorted term has well-sorted parts, and nodes keep their terms.
use Rattle.std.proofs.Common.{[], ◌∷◌}
use Rattle.bv_terms.specs.declared.op.Op.TheVariants as op
use Rattle.term_text.specs.Written.{modulo_of}
use Rattle.term_text.proofs.BuildLemmas.{term_at-kept, Builds-after, parts-sorted}
use Rattle.term_text.proofs.SignedLemmas.{sorted-later, on-three}
use Rattle.term_text.proofs.signed.modulo.Goals as goal

pub rest_of_absolutes-requires-clause-sorted : goal.rest_of_absolutes-requires-clause-sorted
rest_of_absolutes-requires-clause-sorted c =
    (parts-sorted c.args.terms.now.pointer op.Ite (_ ∷ _ ∷ _ ∷ []) c.requires.sorted).1.0

pub modulo_of-requires-clause-sorted : goal.modulo_of-requires-clause-sorted
modulo_of-requires-clause-sorted c =
    let a = c.args.terms.now in
    let b = c.rest_of_absolutes.new.terms in
    let more = c.rest_of_absolutes.ensures.extends in
    sorted-later a b more _ _ c.requires.sorted
    (on-three (modulo_of c.args.width) _ _ _ _ _ _ c.in_ok-rest.ensures.stands.term
    (term_at-kept a b more c.args.first c.requires.first)
    (term_at-kept a b more c.args.second c.requires.second))

pub returns : goal.returns
returns c =
    let a = c.args.terms.now in
    let b = c.rest_of_absolutes.new.terms in
    let more = c.rest_of_absolutes.ensures.extends in
    Builds-after a b c.modulo_of.new.terms c.modulo_of.result _ _ more c.modulo_of.ensures
    (on-three (modulo_of c.args.width) _ _ _ _ _ _ c.in_ok-rest.ensures.stands.term
    (term_at-kept a b more c.args.first c.requires.first)
    (term_at-kept a b more c.args.second c.requires.second))
