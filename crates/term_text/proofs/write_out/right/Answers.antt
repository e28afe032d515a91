-- The term before what is joined so far is joined to it.
use Rattle.std.proofs.Common.{IsSome, take, get_or, sym, ap, ◌∙◌, subst, ◌-◌, ◌++◌, ◌∷◌, [], ℕ, arith}
use Rattle.bv_terms.specs.declared.op.TermId.{TermId}
use Rattle.bv_terms.specs.Table.{term_at}
use Rattle.bv_terms.specs.WellSorted.{sort_of}
use Rattle.term_text.specs.Written.{applied, right}
use Rattle.term_text.specs.Build.{terms_at}
use Rattle.term_text.proofs.BuildLemmas.{Extends-further, right-more, last-sorted}
use Rattle.term_text.proofs.write_out.right.Goals as goal

abbrev zeroth : TermId
zeroth = record { 0 = 0 }

pub make_fitting-requires-clause-sorted : goal.make_fitting-requires-clause-sorted
make_fitting-requires-clause-sorted c =
    let old = c.args.terms.now in
    let now = c.loop-place.terms in
    let inv = c.loop-place.invariant in
    let ids = c.args.args.now in
    let i : ℕ = c.loop-place.place - 1 in
    let t = term_at now c.loop-place.joined in
    let more = right-more old now inv.extends c.args.op t ids c.requires.nodes i c.loop-place.place zeroth
    (omega arith) (omega arith) in
    subst (λ p. IsSome (sort_of p (applied c.args.op (term_at now (get_or ids i zeroth) ∷ t ∷ []))))
    (sym inv.extends.pointer)
    (last-sorted old.pointer c.args.op (take i (terms_at old ids)) _
    (subst (λ t. IsSome (sort_of old.pointer t)) (sym inv.whole ∙ more) c.requires.sorted))

pub loop-place-preserved : goal.loop-place-preserved
loop-place-preserved c =
    let old = c.args.terms.now in
    let now = c.loop-place.terms in
    let inv = c.loop-place.invariant in
    let ids = c.args.args.now in
    let i : ℕ = c.loop-place.place - 1 in
    let t = term_at now c.loop-place.joined in
    let more = right-more old now inv.extends c.args.op t ids c.requires.nodes i c.loop-place.place zeroth
    (omega arith) (omega arith) in
    record {
      extends = Extends-further old now c.make_fitting.new.terms inv.extends c.make_fitting.ensures.extends;
      within = c.in_ok-joined.ensures.stands.within;
      whole = ap (λ t. right c.args.op (take i (terms_at old ids) ++ t ∷ [])) c.in_ok-joined.ensures.stands.term
          ∙ sym more ∙ inv.whole;
    }
