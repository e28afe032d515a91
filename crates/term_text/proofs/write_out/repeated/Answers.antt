-- One more copy is joined to those so far.
use Rattle.std.proofs.Common.{◌<◌, ◌-◌, ◌+◌, length, get_or, replicate, sym, ap, ◌∙◌, subst, arith}
use Rattle.bv_terms.specs.declared.op.Op.TheVariants.{Concat}
use Rattle.bv_terms.specs.declared.op.TermId.{TermId}
use Rattle.bv_terms.specs.Table.{term_at}
use Rattle.term_text.specs.Written.{left_from, first_term}
use Rattle.term_text.specs.Build.{terms_at, IsWellSorted}
use Rattle.term_text.proofs.BuildLemmas.{Extends-itself, Extends-further, IsWellSorted-kept, first-sorted, term_at-kept}
use Rattle.term_text.proofs.BuildLemmas.{first_term-is, copies-start, copies-more}
use Rattle.term_text.proofs.write_out.repeated.Goals as goal

abbrev zeroth : TermId
zeroth = record { 0 = 0 }

pub loop-copies-init : goal.loop-copies-init
loop-copies-init c =
    let old = c.args.terms.now in
    let ids = c.args.args.now in
    let some : 0 < length ids = omega arith in
    record {
      extends = Extends-itself old;
      within = c.requires.nodes 0 zeroth some;
      whole = copies-start (term_at old (get_or ids 0 zeroth)) (first_term (terms_at old ids)) c.args.by c.requires.some
          (sym (first_term-is old ids zeroth some));
    }

pub make_fitting-requires-clause-sorted : goal.make_fitting-requires-clause-sorted
make_fitting-requires-clause-sorted c =
    let old = c.args.terms.now in
    let now = c.loop-copies.terms in
    let inv = c.loop-copies.invariant in
    let ids = c.args.args.now in
    let copy = first_term (terms_at old ids) in
    let some : 0 < length ids = omega arith in
    let same = first_term-is old ids zeroth some
    ∙ sym (term_at-kept old now inv.extends (get_or ids 0 zeroth) (c.requires.nodes 0 zeroth some)) in
    let more = copies-more (term_at now c.loop-copies.joined) copy (term_at now (get_or ids 0 zeroth)) c.args.by
    c.loop-copies._copies c.loop-copies-test.true same in
    IsWellSorted-kept old now inv.extends _
    (first-sorted old.pointer Concat _ (replicate (c.args.by - (c.loop-copies._copies + 1)) copy)
    (subst (IsWellSorted old) (sym inv.whole ∙ more) c.requires.sorted))

pub loop-copies-preserved : goal.loop-copies-preserved
loop-copies-preserved c =
    let old = c.args.terms.now in
    let now = c.loop-copies.terms in
    let inv = c.loop-copies.invariant in
    let ids = c.args.args.now in
    let copy = first_term (terms_at old ids) in
    let some : 0 < length ids = omega arith in
    let same = first_term-is old ids zeroth some
    ∙ sym (term_at-kept old now inv.extends (get_or ids 0 zeroth) (c.requires.nodes 0 zeroth some)) in
    let more = copies-more (term_at now c.loop-copies.joined) copy (term_at now (get_or ids 0 zeroth)) c.args.by
    c.loop-copies._copies c.loop-copies-test.true same in
    record {
      extends = Extends-further old now c.make_fitting.new.terms inv.extends c.make_fitting.ensures.extends;
      within = c.in_ok-joined.ensures.stands.within;
      whole = ap (λ t. left_from Concat t (replicate (c.args.by - (c.loop-copies._copies + 1)) copy))
          c.in_ok-joined.ensures.stands.term ∙ sym more ∙ inv.whole;
    }
