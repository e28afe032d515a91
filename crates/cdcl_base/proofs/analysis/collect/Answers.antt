use Rattle.std.proofs.Common.{◌+◌, ◌++◌, ◌∷◌, [], Vec, Global, sym, subst, ap, ◌∙◌, arith, get_or}
use Rattle.std.proofs.Common.{take}
use Rattle.std.proofs.lemmas.Option.{slice_get-get_or, slice_get_within}
use Rattle.cnf_core.specs.declared.clause.Lit.{Lit}
use Rattle.cnf_core.specs.Clause.{opposite}
use Rattle.cdcl_base.proofs.MarkLemmas.{number-at}
use Rattle.cdcl_base.proofs.CollectLemmas.{IsCollectedBy, place-is, place-within, collected-more_by, collected-skip_by}
use Rattle.cdcl_base.proofs.analysis.collect.Goals.{then-earlier-level_start+in_ok-push-2, else-earlier-level_start}
use Rattle.cdcl_base.proofs.analysis.collect.Goals as goal

pub offset_bounds-places-variable : goal.offset_bounds-places-variable
offset_bounds-places-variable c =
    let within =
    place-within c.args.lits.now c.args.places.now (get_or c.args.marked.now c.loop-variable.variable-index 0)
    c.requires.places
    (c.requires.placed (get_or c.args.marked.now c.loop-variable.variable-index 0)
    (number-at c.args.marked.now c.loop-variable.variable-index 0 c.loop-variable-test.true)) in
    omega (arith, within, c.type_inv.places)

pub bounds-places-variable : goal.bounds-places-variable
bounds-places-variable c =
    place-within c.args.lits.now c.args.places.now (get_or c.args.marked.now c.loop-variable.variable-index 0)
    c.requires.places
    (c.requires.placed (get_or c.args.marked.now c.loop-variable.variable-index 0)
    (number-at c.args.marked.now c.loop-variable.variable-index 0 c.loop-variable-test.true))

pub opposite_at-requires : goal.opposite_at-requires
opposite_at-requires c =
    let has =
    c.requires.placed (get_or c.args.marked.now c.loop-variable.variable-index 0)
    (number-at c.args.marked.now c.loop-variable.variable-index 0 c.loop-variable-test.true) in
    let within =
    place-within c.args.lits.now c.args.places.now (get_or c.args.marked.now c.loop-variable.variable-index 0)
    c.requires.places has in
    let found =
    place-is c.args.lits.now c.args.places.now (get_or c.args.marked.now c.loop-variable.variable-index 0)
    (get_or c.args.places.now (get_or c.args.marked.now c.loop-variable.variable-index 0) 0) c.requires.places has
    (slice_get-get_or c.args.places.now (get_or c.args.marked.now c.loop-variable.variable-index 0) 0 within) in
    slice_get_within c.args.lits.now
    (get_or c.args.places.now (get_or c.args.marked.now c.loop-variable.variable-index 0) 0) found.0 found.1

pub loop-variable-preserved : goal.loop-variable-preserved
loop-variable-preserved c =
    let has =
    c.requires.placed (get_or c.args.marked.now c.loop-variable.variable-index 0)
    (number-at c.args.marked.now c.loop-variable.variable-index 0 c.loop-variable-test.true) in
    let within =
    place-within c.args.lits.now c.args.places.now (get_or c.args.marked.now c.loop-variable.variable-index 0)
    c.requires.places has in
    let at =
    slice_get-get_or c.args.places.now (get_or c.args.marked.now c.loop-variable.variable-index 0) 0 within in
    let found =
    place-is c.args.lits.now c.args.places.now (get_or c.args.marked.now c.loop-variable.variable-index 0)
    (get_or c.args.places.now (get_or c.args.marked.now c.loop-variable.variable-index 0) 0) c.requires.places has at
    in
    elim c.if-earlier-level_start.branch [
      | then-earlier-level_start+in_ok-push-2 w ↦ λ x stands.
          subst (IsCollectedBy (take (c.loop-variable.variable-index + 1) c.args.marked.now) c.args.lits.now
          (opposite x) c.args.level_start)
          (ap (λ l. c.loop-variable.clause.items ++ l ∷ []) (sym (w.opposite_at.ensures found.0 found.1))
          ∙ sym w.in_ok-push-2.ensures.items ∙ sym (ap (λ (v : Vec Lit Global). v.items) w.clause-is))
          (collected-more_by c.args.lits.now c.args.places.now c.args.marked.now c.loop-variable.variable-index 0
          c.args.level_start (get_or c.args.places.now (get_or c.args.marked.now c.loop-variable.variable-index 0) 0)
          (opposite x) found.0 c.loop-variable.clause.items c.requires.places has
          c.loop-variable-test.true at w.if-earlier-level_start.true found.1
          (c.loop-variable.invariant x stands))
      | else-earlier-level_start w ↦ λ x stands.
          subst (IsCollectedBy (take (c.loop-variable.variable-index + 1) c.args.marked.now) c.args.lits.now
          (opposite x) c.args.level_start)
          (sym (ap (λ (v : Vec Lit Global). v.items) w.clause-is))
          (collected-skip_by c.args.lits.now c.args.places.now c.args.marked.now c.loop-variable.variable-index 0
          c.args.level_start (get_or c.args.places.now (get_or c.args.marked.now c.loop-variable.variable-index 0) 0)
          (opposite x) c.loop-variable.clause.items c.requires.places has
          c.loop-variable-test.true at w.if-earlier-level_start.false
          (c.loop-variable.invariant x stands))
    ]
