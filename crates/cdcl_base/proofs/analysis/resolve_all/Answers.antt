use Rattle.std.proofs.Common.{sym, ◌∙◌, arith}
use Rattle.cdcl_base.specs.Analysis.{AreUnmarked}
use Rattle.cdcl_base.proofs.LeadsLemmas.{found_at, leads-found}
use Rattle.cdcl_base.proofs.AnalysisLemmas.{leads-empty, where_none}
use Rattle.cdcl_base.proofs.analysis.resolve_all.Goals as goal

pub loop-marks-preserved : goal.loop-marks-preserved
loop-marks-preserved c =
    let found =
    found_at c.loop-marks.marks c.args.lits.now 0 c.loop-marks.end c.unwrap-place.result
    c.last_marked-in-loop-marks.result c.last_marked-in-loop-marks.ensures.some c.unwrap-place.ensures in
    let before = found.before in
    let within = c.loop-marks.invariant.1 in (
      c.resolve.ensures.length ∙ c.loop-marks.invariant.0,
      omega (arith, before, within),
      λ first leads.
          c.in_ok-resolve.ensures.step first
          (leads-found c.args.clauses.now first c.loop-marks.steps.items c.loop-marks.marks c.args.lits.now 0
          c.loop-marks.end c.unwrap-place.result found (c.loop-marks.invariant.2 first leads)),
    )

pub returns : goal.returns
returns c = λ first leads.
    let none : AreUnmarked c.loop-marks.marks c.args.lits.now 0 c.loop-marks.end =
    where_none c.last_marked.result (AreUnmarked c.loop-marks.marks c.args.lits.now 0 c.loop-marks.end)
    c.last_marked.ensures.none (sym c.is_some.ensures ∙ c.loop-marks-test.false) in
    leads-empty c.args.clauses.now first c.loop-marks.steps.items c.loop-marks.marks c.args.lits.now c.loop-marks.end
    none (c.loop-marks.invariant.2 first leads)
