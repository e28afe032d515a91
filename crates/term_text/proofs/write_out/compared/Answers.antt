-- A well-sorted term has well-sorted parts, and nodes keep their terms.
use Rattle.std.proofs.Common.{[], ◌∷◌, sym, subst}
use Rattle.bv_terms.specs.declared.op.Op.TheVariants.{Eq, Ite}
use Rattle.term_text.specs.Written.{applied, constant}
use Rattle.term_text.specs.Build.{terms_at, IsWellSorted}
use Rattle.term_text.proofs.BuildLemmas.{parts-sorted, three-same, StandsFor-kept, IsWellSorted-kept, Extends-further}
use Rattle.term_text.proofs.BuildLemmas.{Builds-after}
use Rattle.term_text.proofs.write_out.compared.Goals as goal

pub make_fitting-requires-clause-sorted : goal.make_fitting-requires-clause-sorted
make_fitting-requires-clause-sorted c =
    let table = c.args.terms.now in
    (parts-sorted table.pointer Ite (applied Eq (terms_at table c.args.args.now) ∷ constant 1 1 ∷ constant 1 0 ∷ [])
    c.requires.sorted).0

pub make_fitting-requires-2-clause-sorted : goal.make_fitting-requires-2-clause-sorted
make_fitting-requires-2-clause-sorted c =
    let table = c.args.terms.now in
    IsWellSorted-kept table c.make_fitting.new.terms c.make_fitting.ensures.extends (constant 1 1)
    (parts-sorted table.pointer Ite (applied Eq (terms_at table c.args.args.now) ∷ constant 1 1 ∷ constant 1 0 ∷ [])
    c.requires.sorted).1.0

pub make_fitting-requires-3-clause-sorted : goal.make_fitting-requires-3-clause-sorted
make_fitting-requires-3-clause-sorted c =
    let table = c.args.terms.now in
    let extends = Extends-further table c.make_fitting.new.terms c.make_fitting-2.new.terms
    c.make_fitting.ensures.extends c.make_fitting-2.ensures.extends in
    IsWellSorted-kept table c.make_fitting-2.new.terms extends (constant 1 0)
    (parts-sorted table.pointer Ite (applied Eq (terms_at table c.args.args.now) ∷ constant 1 1 ∷ constant 1 0 ∷ [])
    c.requires.sorted).1.1.0

pub make_fitting-requires-4-clause-sorted : goal.make_fitting-requires-4-clause-sorted
make_fitting-requires-4-clause-sorted c =
    let a = c.args.terms.now in
    let b = c.make_fitting.new.terms in
    let d = c.make_fitting-2.new.terms in
    let e = c.make_fitting-3.new.terms in
    let later = Extends-further b d e c.make_fitting-2.ensures.extends c.make_fitting-3.ensures.extends in
    let equal = StandsFor-kept b e later c.in_ok-equal.equal (applied Eq (terms_at a c.args.args.now))
    c.in_ok-equal.ensures.stands in
    let one = StandsFor-kept d e c.make_fitting-3.ensures.extends c.in_ok-one.one (constant 1 1)
    c.in_ok-one.ensures.stands in
    subst (IsWellSorted e)
    (sym (three-same Ite _ _ _ _ _ _ equal.term one.term c.in_ok-zero.ensures.stands.term))
    (IsWellSorted-kept a e (Extends-further a b e c.make_fitting.ensures.extends later) _ c.requires.sorted)

pub returns : goal.returns
returns c =
    let a = c.args.terms.now in
    let b = c.make_fitting.new.terms in
    let d = c.make_fitting-2.new.terms in
    let e = c.make_fitting-3.new.terms in
    let later = Extends-further b d e c.make_fitting-2.ensures.extends c.make_fitting-3.ensures.extends in
    let equal = StandsFor-kept b e later c.in_ok-equal.equal (applied Eq (terms_at a c.args.args.now))
    c.in_ok-equal.ensures.stands in
    let one = StandsFor-kept d e c.make_fitting-3.ensures.extends c.in_ok-one.one (constant 1 1)
    c.in_ok-one.ensures.stands in
    Builds-after a e c.make_fitting-4.new.terms c.make_fitting-4.result _ _
    (Extends-further a b e c.make_fitting.ensures.extends later) c.make_fitting-4.ensures
    (three-same Ite _ _ _ _ _ _ equal.term one.term c.in_ok-zero.ensures.stands.term)
