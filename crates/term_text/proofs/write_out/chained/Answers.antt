-- One more equation is joined to those so far.
use Rattle.std.proofs.Common.{◌≡◌, List, length, drop, get_or, sym, ap, ◌∙◌, subst, ◌+◌, ◌<◌, ◌∷◌, [], ℕ}
use Rattle.bv_terms.specs.declared.op.Op.TheVariants.{And}
use Rattle.bv_terms.specs.declared.op.TermId.{TermId}
use Rattle.bv_terms.specs.Term.{Term}
use Rattle.bv_terms.specs.Table.{Table, term_at, Extends}
use Rattle.term_text.specs.Written.{applied, left_from, equation, equations_from}
use Rattle.term_text.specs.Build.{AreNodes, terms_at, IsWellSorted}
use Rattle.term_text.proofs.BuildLemmas.{AreNodes-drop, Extends-further, IsWellSorted-kept, chain-more, first-sorted}
use Rattle.term_text.proofs.BuildLemmas.{parts-sorted, joined-in, chain-start}
use Rattle.term_text.proofs.write_out.chained.Goals as goal

abbrev zeroth : TermId
zeroth = record { 0 = 0 }

pub make_fitting-requires-clause-sorted : goal.make_fitting-requires-clause-sorted
make_fitting-requires-clause-sorted c =
    let table = c.args.terms.now in
    first-sorted table.pointer And _
    (equations_from (term_at table (get_or c.args.args.now 1 zeroth)) (terms_at table (drop 2 c.args.args.now)))
    (subst (IsWellSorted table) (chain-start table c.args.args.now zeroth c.requires.two) c.requires.sorted)

-- the next equation joined to those so far is well-sorted
joined_sorted : (old now : Table) → Extends old now → (all last : TermId) → (rest : List TermId) → (i : ℕ)
    → last.0 < length old.nodes → AreNodes old rest → i < length rest → (t : Term) → IsWellSorted old t
    → left_from And (term_at now all) (equations_from (term_at old last) (drop i (terms_at old rest))) ≡ t
    → IsWellSorted old
    (applied And (term_at now all ∷ equation (term_at now last) (term_at now (get_or rest i zeroth)) ∷ []))
joined_sorted old now h all last rest i within nodes lt t sorted whole =
    let more = chain-more old now h (term_at now all) last within rest nodes i zeroth lt in
    first-sorted old.pointer And _
    (equations_from (term_at old (get_or rest i zeroth)) (drop (i + 1) (terms_at old rest)))
    (subst (IsWellSorted old) (sym whole ∙ more) sorted)

pub make_fitting-requires-in-loop-next-clause-sorted : goal.make_fitting-requires-in-loop-next-clause-sorted
make_fitting-requires-in-loop-next-clause-sorted c =
    let old = c.args.terms.now in
    let now = c.loop-next.terms in
    let inv = c.loop-next.invariant in
    let nodes = subst (AreNodes old) (sym c.split_at.ensures.back)
    (AreNodes-drop old 2 c.args.args.now c.requires.nodes) in
    let sorted = joined_sorted old now inv.extends c.loop-next.all c.loop-next.last c.split_at.result.1.now
    c.loop-next.next-index inv.last nodes c.loop-next-test.true _ c.requires.sorted inv.whole in
    IsWellSorted-kept old now inv.extends _ (parts-sorted old.pointer And (_ ∷ _ ∷ []) sorted).1.0

pub make_fitting-requires-in-loop-next-2-clause-sorted : goal.make_fitting-requires-in-loop-next-2-clause-sorted
make_fitting-requires-in-loop-next-2-clause-sorted c =
    let old = c.args.terms.now in
    let now = c.loop-next.terms in
    let mid = c.make_fitting-in-loop-next.new.terms in
    let inv = c.loop-next.invariant in
    let more = c.make_fitting-in-loop-next.ensures.extends in
    let nodes = subst (AreNodes old) (sym c.split_at.ensures.back)
    (AreNodes-drop old 2 c.args.args.now c.requires.nodes) in
    let sorted = joined_sorted old now inv.extends c.loop-next.all c.loop-next.last c.split_at.result.1.now
    c.loop-next.next-index inv.last nodes c.loop-next-test.true _ c.requires.sorted inv.whole in
    subst (IsWellSorted mid)
    (sym (joined-in now mid more And c.loop-next.all c.in_ok-equal.equal _ inv.within c.in_ok-equal.ensures.stands))
    (IsWellSorted-kept old mid (Extends-further old now mid inv.extends more) _ sorted)

pub loop-next-preserved : goal.loop-next-preserved
loop-next-preserved c =
    let old = c.args.terms.now in
    let now = c.loop-next.terms in
    let mid = c.make_fitting-in-loop-next.new.terms in
    let new = c.make_fitting-in-loop-next-2.new.terms in
    let inv = c.loop-next.invariant in
    let rest = c.split_at.result.1.now in
    let i = c.loop-next.next-index in
    let nodes = subst (AreNodes old) (sym c.split_at.ensures.back)
    (AreNodes-drop old 2 c.args.args.now c.requires.nodes) in
    let more = chain-more old now inv.extends (term_at now c.loop-next.all) c.loop-next.last inv.last rest nodes i
    zeroth c.loop-next-test.true in
    record {
      extends = Extends-further old now new inv.extends
          (Extends-further now mid new c.make_fitting-in-loop-next.ensures.extends
          c.make_fitting-in-loop-next-2.ensures.extends);
      last = nodes i zeroth c.loop-next-test.true;
      within = c.in_ok-all-2.ensures.stands.within;
      whole = ap (λ t. left_from And t
          (equations_from (term_at old (get_or rest i zeroth)) (drop (i + 1) (terms_at old rest))))
          (c.in_ok-all-2.ensures.stands.term
          ∙ joined-in now mid c.make_fitting-in-loop-next.ensures.extends And c.loop-next.all c.in_ok-equal.equal _
          inv.within c.in_ok-equal.ensures.stands) ∙ sym more ∙ inv.whole;
    }
