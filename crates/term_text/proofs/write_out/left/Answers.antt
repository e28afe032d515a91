-- One more term is joined to what is joined so far.
use Rattle.std.proofs.Common.{IsSome, drop, get_or, sym, ap, ◌∙◌, subst, ◌+◌, ◌∷◌, []}
use Rattle.bv_terms.specs.declared.op.TermId.{TermId}
use Rattle.bv_terms.specs.Table.{term_at}
use Rattle.bv_terms.specs.WellSorted.{sort_of}
use Rattle.term_text.specs.Written.{applied, left_from}
use Rattle.term_text.specs.Build.{AreNodes, terms_at}
use Rattle.term_text.proofs.BuildLemmas.{AreNodes-drop, Extends-further, left-more, first-sorted}
use Rattle.term_text.proofs.write_out.left.Goals as goal

abbrev zeroth : TermId
zeroth = record { 0 = 0 }

pub make_fitting-requires-clause-sorted : goal.make_fitting-requires-clause-sorted
make_fitting-requires-clause-sorted c =
    let old = c.args.terms.now in
    let now = c.loop-next.terms in
    let inv = c.loop-next.invariant in
    let rest = c.split_at.result.1.now in
    let nodes = subst (AreNodes old) (sym c.split_at.ensures.back)
    (AreNodes-drop old 1 c.args.args.now c.requires.nodes) in
    let t = term_at now c.loop-next.joined in
    let more = left-more old now inv.extends c.args.op t rest nodes c.loop-next.next-index zeroth
    c.loop-next-test.true in
    subst (λ p. IsSome (sort_of p (applied c.args.op
    (t ∷ term_at now (get_or rest c.loop-next.next-index zeroth) ∷ [])))) (sym inv.extends.pointer)
    (first-sorted old.pointer c.args.op _ (drop (c.loop-next.next-index + 1) (terms_at old rest))
    (subst (λ t. IsSome (sort_of old.pointer t)) (sym inv.whole ∙ more) c.requires.sorted))

pub loop-next-preserved : goal.loop-next-preserved
loop-next-preserved c =
    let old = c.args.terms.now in
    let now = c.loop-next.terms in
    let inv = c.loop-next.invariant in
    let rest = c.split_at.result.1.now in
    let nodes = subst (AreNodes old) (sym c.split_at.ensures.back)
    (AreNodes-drop old 1 c.args.args.now c.requires.nodes) in
    let more = left-more old now inv.extends c.args.op (term_at now c.loop-next.joined) rest nodes
    c.loop-next.next-index zeroth c.loop-next-test.true in
    record {
      extends = Extends-further old now c.make_fitting.new.terms inv.extends c.make_fitting.ensures.extends;
      within = c.in_ok-joined.ensures.stands.within;
      whole = ap (λ t. left_from c.args.op t (drop (c.loop-next.next-index + 1) (terms_at old rest)))
          c.in_ok-joined.ensures.stands.term ∙ sym more ∙ inv.whole;
    }
