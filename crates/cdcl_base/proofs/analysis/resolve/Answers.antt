use Rattle.std.proofs.Common.{◌++◌, ◌∷◌, [], sym, ap, ◌∙◌, subst, arith, take, length}
use Rattle.std.proofs.lemmas.Result.{on_ok_weaker}
use Rattle.cnf_core.specs.Clause.{IsOver}
use Rattle.cnf_core.proofs.Over.{clause-over}
use Rattle.cdcl_base.specs.Analysis.{HasReason, Leads}
use Rattle.cdcl_base.proofs.LeadsLemmas.{reason_lits, leads-resolve, placed-more}
use Rattle.cdcl_base.proofs.analysis.resolve.Goals as goal

pub mark-requires : goal.mark-requires
mark-requires c =
    let h : HasReason c.args.clauses.now c.args.lits.now c.args.reasons.now c.args.place =
    c.requires.reason c.args.place (omega arith) (omega arith) in
    subst (IsOver (length c.args.marks.now))
    (reason_lits c.args.clauses.now c.args.lits.now c.args.reasons.now c.args.place c.unwrap-reason.result
    c.lits.result.now h c.unwrap-reason.ensures c.lits.ensures)
    (clause-over (length c.args.marks.now) c.args.clauses.now h.number h.clause h.there c.requires.over)

pub returns-clause-placed : goal.returns-clause-placed
returns-clause-placed c =
    let h : HasReason c.args.clauses.now c.args.lits.now c.args.reasons.now c.args.place =
    c.requires.reason c.args.place (omega arith) (omega arith) in
    on_ok_weaker c.mark.result
    (λ m. placed-more c.args.clauses.now c.args.lits.now c.args.reasons.now c.args.place c.lits.result.now
    c.args.marks.now c.mark.new.marks h
    (reason_lits c.args.clauses.now c.args.lits.now c.args.reasons.now c.args.place c.unwrap-reason.result
    c.lits.result.now h c.unwrap-reason.ensures c.lits.ensures) m)
    c.mark.ensures.marks

pub returns-clause-step : goal.returns-clause-step
returns-clause-step c =
    let h : HasReason c.args.clauses.now c.args.lits.now c.args.reasons.now c.args.place =
    c.requires.reason c.args.place (omega arith) (omega arith) in
    on_ok_weaker c.mark.result
    (λ m first before.
    subst (λ xs. Leads c.args.clauses.now first xs c.mark.new.marks (take c.args.place c.args.lits.now))
    (ap (λ l. c.args.steps.now.items ++ (l, c.unwrap-reason.result) ∷ []) (sym (c.lit.ensures ∙ c.opposite.ensures))
    ∙ sym c.in_ok-push.ensures.items)
    (leads-resolve c.args.clauses.now c.args.lits.now c.args.reasons.now c.args.place c.unwrap-reason.result
    c.index-lits-place.result c.lits.result.now c.args.marks.now c.mark.new.marks h
    c.unwrap-reason.ensures c.lits.ensures c.index-lits-place.is c.requires.distinct c.requires.marked m first
    c.args.steps.now.items before))
    c.mark.ensures.marks
