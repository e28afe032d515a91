use Rattle.std.proofs.Common.{◌∙◌, sym, subst, Option, ◌+◌}
use Rattle.std.proofs.lemmas.Option.{slice_get-get_or}
use Rattle.bv_terms.specs.declared.op.TermId.{TermId}
use Rattle.bv_terms.specs.Table.{Table}
use Rattle.loc_encode.proofs.TakingLemmas.{IsTaking, CanTake-from, IsTaking-skip, IsTaking-more}
use Rattle.loc_encode.proofs.taking.taken_term.Goals as goal
use Rattle.loc_encode.proofs.taking.taken_term.Goals.{then-is_same+in_ok-with_source, else-is_same}

pub with_source-requires-clause-can : goal.with_source-requires-clause-can
with_source-requires-clause-can c =
    CanTake-from c.args.terms.now c.loop-named.terms c.args.taker c.args.sort c.args.sources.now
    c.loop-named.named-index c.loop-named.found _
    (slice_get-get_or c.args.sources.now c.loop-named.named-index _ c.loop-named-test.true)
    (sym c.is_same.ensures ∙ c.if-is_same.true) c.requires.sources c.loop-named.invariant

pub loop-named-preserved : goal.loop-named-preserved
loop-named-preserved c =
    let old = c.args.terms.now in
    let i = c.loop-named.named-index in
    let sources = c.args.sources.now in
    let Is : Table → Option TermId → Type 0 =
    λ table found. IsTaking old table c.args.taker c.args.sort sources (i + 1) found in
    elim c.if-is_same.branch [
      | then-is_same+in_ok-with_source w ↦
          subst (λ table. Is table c.if-is_same.found) (sym w.terms-is)
          (subst (Is w.with_source.new.terms) (sym w.found-is)
          (IsTaking-more old c.loop-named.terms w.with_source.new.terms c.args.taker c.args.sort sources i
          c.loop-named.found _ w.in_ok-with_source.field-0 (slice_get-get_or sources i _ c.loop-named-test.true)
          (sym c.is_same.ensures ∙ w.if-is_same.true) c.requires.sources c.loop-named.invariant
          w.with_source.ensures.table w.with_source.ensures.extends w.in_ok-with_source.ensures.within
          w.in_ok-with_source.ensures.term))
      | else-is_same w ↦
          subst (λ table. Is table c.if-is_same.found) (sym w.terms-is)
          (subst (Is c.loop-named.terms) (sym w.found-is)
          (IsTaking-skip old c.loop-named.terms c.args.taker c.args.sort sources i c.loop-named.found _
          (slice_get-get_or sources i _ c.loop-named-test.true) (sym c.is_same.ensures ∙ w.if-is_same.false)
          c.loop-named.invariant))
    ]
