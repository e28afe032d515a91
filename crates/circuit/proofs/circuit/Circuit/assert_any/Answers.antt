use Rattle.std.proofs.Common.{◌≡◌, ◌+◌, Vec, Global, length, refl, sym, ap, ◌∙◌, subst, arith}
use Rattle.cnf_core.specs.declared.clause.Lit.{Lit}
use Rattle.circuit.specs.declared.signal.Signal.TheVariants.{Constant}
use Rattle.std.proofs.lemmas.Result.{on_ok_weaker}
use Rattle.cnf_core.specs.Clause.{clause_true}
use Rattle.circuit.specs.Signal.{signal_true}
use Rattle.circuit.proofs.ClauseLemmas.{adds-clause, adds-as}
use Rattle.circuit.proofs.AssertLemmas.{AreSoFar, so_far-false, so_far-literal, any-done, asserts-added}
use Rattle.circuit.proofs.circuit.Circuit.assert_any.Goals as goal
use Rattle.circuit.proofs.circuit.Circuit.assert_any.Goals.{in-Constant+else-value, in-Literal+in_ok-push-in-Literal}

pub returns-clause-asserts : goal.returns-clause-asserts
returns-clause-asserts c =
    on_ok_weaker c.push-2.result
    (λ e. asserts-added _ c.args.self.now _ _ c.self.view_is c.requires.netlist refl refl
    (adds-as (adds-clause _ _ (record { lits = c.from_vec.result }) e)
    (λ v. ap (clause_true v) c.from_vec.ensures
    ∙ any-done (signal_true v) c.args.signals.now c.loop-signal.signal-index (clause_true v c.loop-signal.lits.items) _
    (omega arith) (c.loop-signal.invariant.test v))))
    c.push-2.ensures.ok

pub loop-signal-preserved : goal.loop-signal-preserved
loop-signal-preserved c =
    elim c.match-signal.branch [
      | in-Constant+else-value w ↦
          so_far w.lits-is
          (so_far-false _ c.args.signals.now c.loop-signal.signal-index c.loop-signal.lits.items _
          c.loop-signal-test.true (w.in-Constant.is ∙ ap Constant w.if-value.false) c.loop-signal.invariant)
      | in-Literal+in_ok-push-in-Literal w ↦
          so_far w.lits-is
          (subst (AreSoFar _ c.args.signals.now (c.loop-signal.signal-index + 1))
          (sym w.in_ok-push-in-Literal.ensures.items)
          (so_far-literal _ c.args.signals.now c.loop-signal.signal-index c.loop-signal.lits.items _ w.in-Literal.lit
          c.loop-signal-test.true w.in-Literal.is c.requires.signals c.loop-signal.invariant))
    ]
  where
    so_far : {lits : Vec Lit Global} → c.match-signal.lits ≡ lits →
        AreSoFar (length c.args.self.now.gates) c.args.signals.now (c.loop-signal.signal-index + 1) lits.items →
        AreSoFar (length c.args.self.now.gates) c.args.signals.now (c.loop-signal.signal-index + 1)
        c.match-signal.lits.items
    so_far {lits} e h =
        subst
        (λ (x : Vec Lit Global). AreSoFar (length c.args.self.now.gates) c.args.signals.now
        (c.loop-signal.signal-index + 1) x.items)
        (sym e) h
