-- The inequations of one term more are joined to those so far.
use Rattle.std.proofs.Common.{◌≡◌, ◌<◌, ◌≤◌, ◌+◌, List, length, drop, map, get_or, sym, ap, ◌∙◌, subst, arith}
use Rattle.bv_terms.specs.declared.op.Op.TheVariants.{And}
use Rattle.bv_terms.specs.declared.op.TermId.{TermId}
use Rattle.bv_terms.specs.Term.{Term}
use Rattle.bv_terms.specs.Table.{Table, term_at, Extends}
use Rattle.term_text.specs.Written.{left, left_from, inequation, inequations}
use Rattle.term_text.specs.Build.{AreNodes, terms_at, IsWellSorted, StandsFor}
use Rattle.term_text.proofs.BuildLemmas.{AreNodes-drop, AreNodes-kept, Extends-further, IsWellSorted-kept}
use Rattle.term_text.proofs.BuildLemmas.{distinct-first, distinct-more, first-sorted, terms_at-kept, term_at-kept}
use Rattle.term_text.proofs.write_out.distinct.Goals as goal

abbrev zeroth : TermId
zeroth = record { 0 = 0 }

-- the inequations of the first term, joined
abbrev of_first : Table → List TermId → Term
of_first table ids =
    left_from And (inequation (term_at table (get_or ids 0 zeroth)) (term_at table (get_or ids 1 zeroth)))
    (map (inequation (term_at table (get_or ids 0 zeroth))) (terms_at table (drop 2 ids)))

first_sorted : (table : Table) (ids : List TermId) → 2 ≤ length ids
    → IsWellSorted table (left And (inequations (terms_at table ids))) → IsWellSorted table (of_first table ids)
first_sorted table ids two sorted =
    first-sorted table.pointer And (of_first table ids) (inequations (drop 1 (terms_at table ids)))
    (subst (IsWellSorted table) (distinct-first table ids zeroth two) sorted)

pub differing-requires-clause-sorted : goal.differing-requires-clause-sorted
differing-requires-clause-sorted c =
    let table = c.args.terms.now in
    let ids = c.args.args.now in
    first-sorted table.pointer And _
    (map (inequation (term_at table (get_or ids 0 zeroth))) (terms_at table (drop 2 ids)))
    (first_sorted table ids c.requires.two c.requires.sorted)

-- in the table that has the first inequation
first_same : (old now : Table) → Extends old now → (ids : List TermId) → 2 ≤ length ids → AreNodes old ids
    → (rest : List TermId) → rest ≡ drop 2 ids → (first : TermId)
    → StandsFor now first (inequation (term_at old (get_or ids 0 zeroth)) (term_at old (get_or ids 1 zeroth)))
    → left_from And (term_at now first) (map (inequation (term_at now (get_or ids 0 zeroth))) (terms_at now rest))
    ≡ of_first old ids
first_same old now h ids two nodes rest e first stands =
    let lt : 0 < length ids = omega arith in
    let more = subst (AreNodes old) (sym e) (AreNodes-drop old 2 ids nodes) in
    let at = get_or ids 0 zeroth in
    let same = terms_at-kept old now h rest more ∙ ap (terms_at old) e in
    ap (λ t. left_from And t (map (inequation (term_at now at)) (terms_at now rest))) stands.term
    ∙ ap (λ t. left_from And (inequation (term_at old at) (term_at old (get_or ids 1 zeroth)))
    (map (inequation t) (terms_at now rest))) (term_at-kept old now h at (nodes 0 zeroth lt))
    ∙ ap (λ ts. left_from And (inequation (term_at old at) (term_at old (get_or ids 1 zeroth)))
    (map (inequation (term_at old at)) ts)) same

pub and_differing-requires-clause-sorted : goal.and_differing-requires-clause-sorted
and_differing-requires-clause-sorted c =
    let old = c.args.terms.now in
    let now = c.differing.new.terms in
    let ids = c.args.args.now in
    let same = first_same old now c.differing.ensures.extends ids c.requires.two c.requires.nodes
    c.split_at.result.1.now c.split_at.ensures.back c.in_ok-first.first c.in_ok-first.ensures.stands in
    subst (IsWellSorted now) (sym same)
    (IsWellSorted-kept old now c.differing.ensures.extends (of_first old ids)
    (first_sorted old ids c.requires.two c.requires.sorted))

pub loop-place-init : goal.loop-place-init
loop-place-init c =
    let old = c.args.terms.now in
    let now = c.differing.new.terms in
    let ids = c.args.args.now in
    let same = first_same old now c.differing.ensures.extends ids c.requires.two c.requires.nodes
    c.split_at.result.1.now c.split_at.ensures.back c.in_ok-first.first c.in_ok-first.ensures.stands in
    record {
      extends = Extends-further old now c.and_differing.new.terms c.differing.ensures.extends
          c.and_differing.ensures.extends;
      within = c.in_ok-all.ensures.stands.within;
      whole = ap (λ t. left_from And t (inequations (drop 1 (terms_at old ids))))
          (c.in_ok-all.ensures.stands.term ∙ same) ∙ sym (distinct-first old ids zeroth c.requires.two);
    }

pub and_differing-requires-in-loop-place-clause-nodes : goal.and_differing-requires-in-loop-place-clause-nodes
and_differing-requires-in-loop-place-clause-nodes c =
    let old = c.args.terms.now in
    let now = c.loop-place.terms in
    subst (AreNodes now) (sym c.split_at-in-loop-place.ensures.back)
    (AreNodes-drop now (c.loop-place.place + 1) c.args.args.now
    (AreNodes-kept old now c.loop-place.invariant.extends c.args.args.now c.requires.nodes))

pub and_differing-requires-in-loop-place-clause-sorted : goal.and_differing-requires-in-loop-place-clause-sorted
and_differing-requires-in-loop-place-clause-sorted c =
    let old = c.args.terms.now in
    let now = c.loop-place.terms in
    let inv = c.loop-place.invariant in
    let ids = c.args.args.now in
    let more = distinct-more old now inv.extends (term_at now c.loop-place.all) ids c.requires.nodes c.loop-place.place
    zeroth c.loop-place-test.true c.split_at-in-loop-place.result.1.now c.split_at-in-loop-place.ensures.back in
    IsWellSorted-kept old now inv.extends _
    (first-sorted old.pointer And _ (inequations (drop (c.loop-place.place + 1) (terms_at old ids)))
    (subst (IsWellSorted old) (sym inv.whole ∙ more) c.requires.sorted))

pub loop-place-preserved : goal.loop-place-preserved
loop-place-preserved c =
    let old = c.args.terms.now in
    let now = c.loop-place.terms in
    let inv = c.loop-place.invariant in
    let ids = c.args.args.now in
    let more = distinct-more old now inv.extends (term_at now c.loop-place.all) ids c.requires.nodes c.loop-place.place
    zeroth c.loop-place-test.true c.split_at-in-loop-place.result.1.now c.split_at-in-loop-place.ensures.back in
    record {
      extends = Extends-further old now c.and_differing-in-loop-place.new.terms inv.extends
          c.and_differing-in-loop-place.ensures.extends;
      within = c.in_ok-all-2.ensures.stands.within;
      whole = ap (λ t. left_from And t (inequations (drop (c.loop-place.place + 1) (terms_at old ids))))
          c.in_ok-all-2.ensures.stands.term ∙ sym more ∙ inv.whole;
    }
