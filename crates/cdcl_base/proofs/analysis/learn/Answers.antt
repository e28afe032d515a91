use Rattle.std.proofs.Common.{◌≡◌, ℕ, ◌+◌, ◌<◌, ◌≤◌, ◌||◌, Bool, List, true, Some, sym, ap, subst, subst₂, ◌∙◌}
use Rattle.std.proofs.Common.{arith, take, length, slice_get, option_and_then}
use Rattle.std.proofs.lemmas.Option.{same_Some, slice_get-get_or}
use Rattle.cnf_core.specs.declared.clause.Lit.{Lit}
use Rattle.cnf_core.specs.declared.clause.Clause.{Clause}
use Rattle.cnf_core.specs.Clause.{opposite, assigned, IsOver}
use Rattle.cnf_core.specs.Resolution.{after_steps, clause}
use Rattle.cdcl_base.specs.declared.analysis.Learnt.{Learnt}
use Rattle.cdcl_base.specs.Trail.{HasDistinctVariables, ArePlaces, IsFalsified, ArePropagated}
use Rattle.cdcl_base.specs.Analysis.{Leads, HaveReasons, IsCollected, IsKept, IsKeptLength, contains_variable}
use Rattle.cdcl_base.specs.Analysis.{contains_number, AreListed, IsAsserting, IsLastFalse, IsLearnt}
use Rattle.cdcl_base.proofs.MarkLemmas.{listed-over}
use Rattle.cdcl_base.proofs.AnalysisLemmas.{leads-level_start, conflict-placed, lits-over, conflict-marked}
use Rattle.cdcl_base.proofs.AnalysisLemmas.{collected-same, collected-new_clause, collected-asserting, collected-last}
use Rattle.cdcl_base.proofs.AnalysisLemmas.{collected-over}
use Rattle.cdcl_base.proofs.CollectLemmas.{all-within, kept-is}
use Rattle.cdcl_base.proofs.SearchLemmas.{have_reasons, greatest_level_start, propagated_at_level_start}
use Rattle.cdcl_base.proofs.analysis.learn.Goals as goal

pub mark-requires : goal.mark-requires
mark-requires c =
    lits-over c.args.trail.now.variables (length c.args.marks.now) c.args.clauses.now c.args.conflict
    c.lits.result.now (sym c.requires.room) c.requires.over c.lits.ensures

pub returns-in_err-mark-clause-over : goal.returns-in_err-mark-clause-over
returns-in_err-mark-clause-over c =
    listed-over c.mark.new.marks c.mark.new.marked.items c.args.trail.now.variables
    (c.mark.ensures.length ∙ c.requires.room)
    (c.mark.ensures.listed
    (λ x. c.requires.marks x ∙ sym (ap (λ xs. contains_number xs x) c.requires.marked)))

pub first_uip-requires-clause-reasons : goal.first_uip-requires-clause-reasons
first_uip-requires-clause-reasons c =
    let trail = c.args.trail.now in
    subst₂ (λ ls rs. HaveReasons c.args.clauses.now ls rs (c.args.level_start + 1) (length ls))
    (sym c.lits-lits.ensures.lits) (sym c.reasons-reasons.ensures)
    (have_reasons c.args.clauses.now trail (c.args.level_start + 1) c.lits-lits.ensures.trail c.requires.reasons
    (λ s at.
    let last = greatest_level_start trail c.args.level_start s c.lits-lits.ensures.trail c.requires.level_start at in
    omega (arith, last)))

pub first_uip-requires-clause-marks : goal.first_uip-requires-clause-marks
first_uip-requires-clause-marks c =
    let same : clause c.lits.result.now ≡ c.requires.conflict.0 =
    same_Some (clause c.lits.result.now) c.requires.conflict.0 (sym c.lits.ensures ∙ c.requires.conflict.1) in
    record {
      listed = c.mark.ensures.listed
          (λ x. c.requires.marks x ∙ sym (ap (λ xs. contains_number xs x) c.requires.marked));
      placed =
          conflict-placed c.lits-lits.result.now c.requires.conflict.0.lits c.mark.new.marks
          (subst (λ ls. IsFalsified ls c.requires.conflict.0.lits) (sym c.lits-lits.ensures.lits)
          c.requires.conflict.2)
          (λ x. c.in_ok-mark.ensures.marks.1 x
          ∙ ap (λ b. b || contains_variable c.lits.result.now x) (c.requires.marks x)
          ∙ ap (λ (y : Clause). contains_variable y.lits x) same);
    }

pub first_uip-requires-clause-marked : goal.first_uip-requires-clause-marked
first_uip-requires-clause-marked c =
    let same : clause c.lits.result.now ≡ c.requires.conflict.0 =
    same_Some (clause c.lits.result.now) c.requires.conflict.0 (sym c.lits.ensures ∙ c.requires.conflict.1) in
    let trail = c.args.trail.now in
    subst (λ ls. (k : ℕ) × (l : Lit) × (c.args.level_start ≤ k) × (slice_get ls k ≡ Some l)
    × (assigned c.mark.new.marks l.variable ≡ true)) (sym c.lits-lits.ensures.lits)
    (conflict-marked c.args.clauses.now trail.lits c.args.level_start c.args.conflict c.requires.conflict.0
    c.mark.new.marks c.lits-lits.ensures.trail.distinct c.requires.conflict.1 c.requires.conflict.2
    (propagated_at_level_start c.args.clauses.now trail c.args.level_start c.requires.before c.requires.level_start)
    (λ x. c.in_ok-mark.ensures.marks.1 x
    ∙ ap (λ b. b || contains_variable c.lits.result.now x) (c.requires.marks x)
    ∙ ap (λ (y : Clause). contains_variable y.lits x) same))

pub returns-in_err-place-clause-over : goal.returns-in_err-place-clause-over
returns-in_err-place-clause-over c =
    listed-over c.first_uip.new.marks c.first_uip.new.marked.items c.args.trail.now.variables
    (c.first_uip.ensures.length ∙ c.mark.ensures.length ∙ c.requires.room) c.first_uip.ensures.listed

pub kept_length-keep-requires : goal.kept_length-keep-requires
kept_length-keep-requires c =
    subst (λ xs. (x : ℕ) → contains_number xs x ≡ true → x < length c.places-places.result.now)
    (sym c.as_slice.ensures.value)
    (all-within c.lits-lits.result.now c.first_uip.new.marks c.places-places.result.now c.first_uip.new.marked.items
    c.in_ok-place.ensures.marks
    (subst (λ ls. ArePlaces ls c.places-places.result.now) (sym c.lits-lits.ensures.lits) c.places-places.ensures))

pub returns-in_err-clause-clause-over : goal.returns-in_err-clause-clause-over
returns-in_err-clause-clause-over c =
    listed-over c.first_uip.new.marks c.first_uip.new.marked.items c.args.trail.now.variables
    (c.first_uip.ensures.length ∙ c.mark.ensures.length ∙ c.requires.room) c.first_uip.ensures.listed

pub returns-clause-over : goal.returns-clause-over
returns-clause-over c =
    listed-over c.first_uip.new.marks c.first_uip.new.marked.items c.args.trail.now.variables
    (c.first_uip.ensures.length ∙ c.mark.ensures.length ∙ c.requires.room) c.first_uip.ensures.listed

pub returns-clause-learnt : goal.returns-clause-learnt
returns-clause-learnt c =
    subst (λ ls. IsLearnt c.args.clauses.now c.args.trail.now.variables ls c.args.level_start learnt)
    c.lits-lits.ensures.lits
    (record {
      lits_derived = led.clause;
      derives =
          ap (option_and_then (λ (x : Clause). after_steps c.args.clauses.now x.lits c.from_vec.result))
          c.requires.conflict.1
          ∙ ap (after_steps c.args.clauses.now c.requires.conflict.0.lits) c.from_vec.ensures ∙ led.derived;
      same =
          λ l. collected-same c.args.clauses.now c.requires.conflict.0.lits c.first_uip.new.steps.items marks
          lits c.args.level_start place x c.in_ok-clause.clause.items
          c.in_ok-place.ensures.point.0 at (c.in_ok-place.ensures.marked x at) c.in_ok-place.ensures.alone led
          collected l;
      new_clause =
          collected-new_clause c.args.clauses.now marks lits c.args.level_start place x c.in_ok-clause.clause.items
          distinct propagated at collected;
      over =
          collected-over c.args.trail.now.variables marks lits c.args.level_start place x c.in_ok-clause.clause.items
          over at collected;
      asserting =
          subst (λ l. IsAsserting lits c.in_ok-clause.clause.items l c.args.level_start c.kept_length-keep.result)
          (sym c.opposite-lit.ensures)
          (collected-asserting marks lits c.args.level_start place c.kept_length-keep.result x
          c.in_ok-clause.clause.items distinct c.in_ok-place.ensures.point.0 at collected kept);
      last_false =
          λ some.
          subst (λ l. IsLastFalse lits c.in_ok-clause.clause.items l c.kept_length-keep.result c.last_false.result)
          (sym c.opposite-lit.ensures)
          (collected-last marks lits c.args.level_start place c.kept_length-keep.result x c.last_false.result
          c.in_ok-clause.clause.items distinct c.in_ok-place.ensures.point.0 at collected kept some
          (c.last_false.ensures some));
    })
  where
    learnt : Learnt
    learnt = record {
      chain = record { first = c.args.conflict; steps = c.from_vec.result };
      clause = c.in_ok-clause.clause;
      lit = c.opposite-lit.result;
      keep = c.kept_length-keep.result;
      last_false = c.last_false.result;
    }

    place : ℕ
    place = c.in_ok-place.place

    marks : List Bool
    marks = c.first_uip.new.marks

    lits : List Lit
    lits = c.lits-lits.result.now

    distinct : HasDistinctVariables lits
    distinct = subst HasDistinctVariables (sym c.lits-lits.ensures.lits) c.lits-lits.ensures.trail.distinct

    over : IsOver c.args.trail.now.variables lits
    over = subst (IsOver c.args.trail.now.variables) (sym c.lits-lits.ensures.lits) c.lits-lits.ensures.trail.over

    propagated : ArePropagated (take c.args.level_start lits) c.args.clauses.now
    propagated =
        subst (λ ls. ArePropagated (take c.args.level_start ls) c.args.clauses.now) (sym c.lits-lits.ensures.lits)
        (propagated_at_level_start c.args.clauses.now c.args.trail.now c.args.level_start c.requires.before
        c.requires.level_start)

    places : ArePlaces lits c.places-places.result.now
    places =
        subst (λ ls. ArePlaces ls c.places-places.result.now) (sym c.lits-lits.ensures.lits) c.places-places.ensures

    x : Lit
    x = c.index-lits-place.result

    at : slice_get lits place ≡ Some x
    at = slice_get-get_or lits place x c.in_ok-place.ensures.point.1 ∙ ap (λ l. Some l) (sym c.index-lits-place.is)

    same : clause c.lits.result.now ≡ c.requires.conflict.0
    same = same_Some (clause c.lits.result.now) c.requires.conflict.0 (sym c.lits.ensures ∙ c.requires.conflict.1)

    begin : (y : ℕ) → assigned c.mark.new.marks y ≡ contains_variable c.requires.conflict.0.lits y
    begin y =
        c.in_ok-mark.ensures.marks.1 y
        ∙ ap (λ b. b || contains_variable c.lits.result.now y) (c.requires.marks y)
        ∙ ap (λ (z : Clause). contains_variable z.lits y) same

    falsified : IsFalsified lits c.requires.conflict.0.lits
    falsified =
        subst (λ ls. IsFalsified ls c.requires.conflict.0.lits) (sym c.lits-lits.ensures.lits) c.requires.conflict.2

    led : Leads c.args.clauses.now c.requires.conflict.0.lits c.first_uip.new.steps.items marks (take (place + 1) lits)
    led = c.in_ok-place.ensures.steps c.requires.conflict.0.lits
        (subst (λ ss. Leads c.args.clauses.now c.requires.conflict.0.lits ss c.mark.new.marks lits)
        (sym c.new-steps.ensures.items)
        (leads-level_start c.args.clauses.now lits c.requires.conflict.0.lits c.mark.new.marks distinct falsified
        begin))

    collected : IsCollected marks lits (opposite x) c.args.level_start c.in_ok-clause.clause.items
    collected =
        c.in_ok-clause.ensures x at marks
        (subst (AreListed marks) (sym c.as_slice-2.ensures.value) c.first_uip.ensures.listed)

    kept : IsKeptLength marks lits c.args.level_start c.kept_length-keep.result
    kept =
        kept-is lits marks c.places-places.result.now c.first_uip.new.marked.items c.args.level_start
        c.kept_length-keep.result c.in_ok-place.ensures.marks places
        (subst (λ xs. IsKept c.places-places.result.now c.args.level_start xs c.kept_length-keep.result)
        c.as_slice.ensures.value c.kept_length-keep.ensures)
