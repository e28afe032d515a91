-- One more inequation is joined to those so far.
use Rattle.std.proofs.Common.{◌≡◌, ℕ, ◌<◌, ◌+◌, [], List, ◌∷◌, length, drop, map, get_or, sym, ap, ◌∙◌, subst}
use Rattle.bv_terms.specs.declared.op.Op.TheVariants.{And}
use Rattle.bv_terms.specs.declared.op.TermId.{TermId}
use Rattle.bv_terms.specs.Term.{Term}
use Rattle.bv_terms.specs.Table.{Table, term_at, Extends}
use Rattle.term_text.specs.Written.{applied, left_from, inequation}
use Rattle.term_text.specs.Build.{AreNodes, terms_at, IsWellSorted}
use Rattle.term_text.proofs.BuildLemmas.{Extends-further, IsWellSorted-kept, differ-more, first-sorted, parts-sorted}
use Rattle.term_text.proofs.BuildLemmas.{joined-in}
use Rattle.term_text.proofs.write_out.and_differing.Goals as goal

abbrev zeroth : TermId
zeroth = record { 0 = 0 }

-- the next inequation joined to those so far is well-sorted
joined_sorted : (old now : Table) → Extends old now → (all at : TermId) (later : List TermId) (i : ℕ)
    → at.0 < length old.nodes → AreNodes old later → i < length later → (t : Term) → IsWellSorted old t
    → left_from And (term_at now all) (map (inequation (term_at old at)) (drop i (terms_at old later))) ≡ t
    → IsWellSorted old
    (applied And (term_at now all ∷ inequation (term_at now at) (term_at now (get_or later i zeroth)) ∷ []))
joined_sorted old now h all at later i within nodes lt t sorted whole =
    first-sorted old.pointer And _ (map (inequation (term_at old at)) (drop (i + 1) (terms_at old later)))
    (subst (IsWellSorted old) (sym whole ∙ differ-more old now h (term_at now all) at within later nodes i zeroth lt)
    sorted)

pub differing-requires-clause-sorted : goal.differing-requires-clause-sorted
differing-requires-clause-sorted c =
    let old = c.args.terms.now in
    let now = c.loop-other.terms in
    let inv = c.loop-other.invariant in
    let sorted = joined_sorted old now inv.extends c.loop-other.all c.args.at c.args.later.now c.loop-other.other-index
    c.requires.at c.requires.nodes c.loop-other-test.true _ c.requires.sorted inv.whole in
    IsWellSorted-kept old now inv.extends _ (parts-sorted old.pointer And (_ ∷ _ ∷ []) sorted).1.0

pub make_fitting-requires-clause-sorted : goal.make_fitting-requires-clause-sorted
make_fitting-requires-clause-sorted c =
    let old = c.args.terms.now in
    let now = c.loop-other.terms in
    let mid = c.differing.new.terms in
    let inv = c.loop-other.invariant in
    let more = c.differing.ensures.extends in
    let sorted = joined_sorted old now inv.extends c.loop-other.all c.args.at c.args.later.now c.loop-other.other-index
    c.requires.at c.requires.nodes c.loop-other-test.true _ c.requires.sorted inv.whole in
    subst (IsWellSorted mid)
    (sym (joined-in now mid more And c.loop-other.all c.in_ok-differs.differs _ inv.within
    c.in_ok-differs.ensures.stands))
    (IsWellSorted-kept old mid (Extends-further old now mid inv.extends more) _ sorted)

pub loop-other-preserved : goal.loop-other-preserved
loop-other-preserved c =
    let old = c.args.terms.now in
    let now = c.loop-other.terms in
    let mid = c.differing.new.terms in
    let new = c.make_fitting.new.terms in
    let inv = c.loop-other.invariant in
    let later = c.args.later.now in
    let i = c.loop-other.other-index in
    let more = differ-more old now inv.extends (term_at now c.loop-other.all) c.args.at c.requires.at later
    c.requires.nodes i zeroth c.loop-other-test.true in
    record {
      extends = Extends-further old now new inv.extends
          (Extends-further now mid new c.differing.ensures.extends c.make_fitting.ensures.extends);
      within = c.in_ok-all.ensures.stands.within;
      whole = ap (λ t. left_from And t (map (inequation (term_at old c.args.at)) (drop (i + 1) (terms_at old later))))
          (c.in_ok-all.ensures.stands.term
          ∙ joined-in now mid c.differing.ensures.extends And c.loop-other.all c.in_ok-differs.differs _
          inv.within c.in_ok-differs.ensures.stands) ∙ sym more ∙ inv.whole;
    }
