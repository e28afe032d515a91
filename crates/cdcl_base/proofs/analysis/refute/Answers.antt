use Rattle.std.proofs.Common.{◌≡◌, ℕ, ◌||◌, List, Bool, sym, subst, subst₂, ap, ◌∙◌, length, option_and_then}
use Rattle.std.proofs.lemmas.Option.{same_Some}
use Rattle.std.proofs.lemmas.List.{with_items_is}
use Rattle.cnf_core.specs.declared.clause.Lit.{Lit}
use Rattle.cnf_core.specs.declared.clause.Clause.{Clause}
use Rattle.cnf_core.specs.Clause.{assigned}
use Rattle.cnf_core.specs.Resolution.{after_steps, clause}
use Rattle.cdcl_base.specs.Trail.{HasDistinctVariables, IsFalsified}
use Rattle.cdcl_base.specs.Analysis.{HaveReasons, Leads, contains_variable}
use Rattle.cdcl_base.proofs.AnalysisLemmas.{leads-level_start, lits-over}
use Rattle.cdcl_base.proofs.SearchLemmas.{have_reasons, no_level_start}
use Rattle.cdcl_base.proofs.analysis.refute.Goals as goal

pub mark-requires : goal.mark-requires
mark-requires c =
    lits-over c.args.trail.now.variables (length c.deref_mut.result.now) c.args.clauses.now c.args.conflict
    c.lits.result.now
    (sym (ap length c.deref_mut.ensures.value ∙ c.in_ok-marks.ensures.length ∙ c.variables.ensures.variables))
    c.requires.over c.lits.ensures

pub resolve_all-requires-clause-reasons : goal.resolve_all-requires-clause-reasons
resolve_all-requires-clause-reasons c =
    subst₂ (λ ls rs. HaveReasons c.args.clauses.now ls rs 0 (length ls))
    (sym c.lits-lits.ensures.lits) (sym c.reasons-reasons.ensures)
    (have_reasons c.args.clauses.now c.args.trail.now 0 c.lits-lits.ensures.trail c.requires.reasons
    (λ s at. absurd (no_level_start c.args.trail.now s c.requires.level_start at)))

pub returns : goal.returns
returns c =
    ap (option_and_then (λ (x : Clause). after_steps c.args.clauses.now x.lits c.from_vec.result)) c.requires.conflict.1
    ∙ ap (after_steps c.args.clauses.now c.requires.conflict.0.lits) c.from_vec.ensures
    ∙ c.in_ok-resolve_all.ensures c.requires.conflict.0.lits led
  where
    lits : List Lit
    lits = c.lits-lits.result.now

    marks : List Bool
    marks = c.mark.new.marks

    back : c.deref_mut-2.result.now ≡ marks
    back =
        c.deref_mut-2.ensures.value
        ∙ with_items_is c.in_ok-marks.marks marks
        (c.mark.ensures.length ∙ ap length c.deref_mut.ensures.value ∙ sym c.in_ok-marks.marks.ok.0)

    same : clause c.lits.result.now ≡ c.requires.conflict.0
    same = same_Some (clause c.lits.result.now) c.requires.conflict.0 (sym c.lits.ensures ∙ c.requires.conflict.1)

    begin : (y : ℕ) → assigned marks y ≡ contains_variable c.requires.conflict.0.lits y
    begin y =
        c.in_ok-mark.ensures.marks.1 y
        ∙ ap (λ b. b || contains_variable c.lits.result.now y)
        (ap (λ ms. assigned ms y) c.deref_mut.ensures.value ∙ c.in_ok-marks.ensures.unmarked y)
        ∙ ap (λ (z : Clause). contains_variable z.lits y) same

    led : Leads c.args.clauses.now c.requires.conflict.0.lits c.new-steps.result.items c.deref_mut-2.result.now lits
    led =
        subst₂ (λ ss ms. Leads c.args.clauses.now c.requires.conflict.0.lits ss ms lits) (sym c.new-steps.ensures.items)
        (sym back)
        (leads-level_start c.args.clauses.now lits c.requires.conflict.0.lits marks
        (subst HasDistinctVariables (sym c.lits-lits.ensures.lits) c.lits-lits.ensures.trail.distinct)
        (subst (λ ls. IsFalsified ls c.requires.conflict.0.lits) (sym c.lits-lits.ensures.lits) c.requires.conflict.2)
        begin)
