use Rattle.std.proofs.Common.{◌+◌, refl, ap, length, sym, subst, arith}
use Rattle.cdcl_base.specs.Scores.{Scores}
use Rattle.cdcl_base.proofs.DecisionLemmas.{IsBest, valued, unvalued, pick-skip, pick-more}
use Rattle.cdcl_base.proofs.decision.Scores.pick.Goals.{then-is_none, else-is_none}
use Rattle.cdcl_base.proofs.decision.Scores.pick.Goals as goal

pub loop-variable-preserved : goal.loop-variable-preserved
loop-variable-preserved c =
    elim c.if-is_none.branch [
      | then-is_none w ↦ let h = w.better.ensures in
          subst (λ best. IsBest c.args.trail.now c.as_slice-scores.result.now best (c.loop-variable.variable + 1))
          (sym w.best-is)
          (pick-more c.args.trail.now c.as_slice-scores.result.now c.loop-variable.best c.loop-variable.variable
          (record { variable = c.loop-variable.variable; positive = w.phase.result }) w.better.result
          c.loop-variable.invariant
          (omega (
            arith,
            c.loop-variable-test.true,
            c.requires,
            ap length c.as_slice-scores.ensures.value,
            ap (λ (s : Scores). length s.scores) c.self.view_is,
          )) refl
          (unvalued c.args.trail.now.lits c.loop-variable.variable c.value.result c.value.ensures w.if-is_none.ensures
          w.phase.result)
          h.one h.high h.higher)
      | else-is_none w ↦
          subst (λ best. IsBest c.args.trail.now c.as_slice-scores.result.now best (c.loop-variable.variable + 1))
          (sym w.best-is)
          (pick-skip c.args.trail.now c.as_slice-scores.result.now c.loop-variable.best c.loop-variable.variable
          c.loop-variable.invariant
          (valued c.args.trail.now.lits c.loop-variable.variable c.value.result c.value.ensures w.if-is_none.ensures))
    ]
