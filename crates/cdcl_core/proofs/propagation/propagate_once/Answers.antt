use Rattle.std.proofs.Common.{◌≡◌, ℕ, ◌+◌, ◌<◌, Bool, true, List, Vec, Global, Some, inl, inr, refl, sym, subst, subst₂}
use Rattle.std.proofs.Common.{length, arith, slice_get}
use Rattle.std.specs.Vec.{vec_len}
use Rattle.cnf_core.specs.declared.clause.Lit.{Lit}
use Rattle.cnf_core.specs.declared.clause.Clause.{Clause}
use Rattle.cnf_core.specs.Clause.{contains}
use Rattle.cnf_core.specs.Resolution.{clause}
use Rattle.cnf_core.proofs.Over.{over-at}
use Rattle.cdcl_base.specs.Trail.{Trail}
use Rattle.cdcl_base.proofs.AnalysisLemmas.{lits-over}
use Rattle.cdcl_core.specs.Propagation.{AreBlockers}
use Rattle.cdcl_core.proofs.PropagationLemmas.{IsPropagating, propagate_once-begins, propagate_once-propagated}
use Rattle.cdcl_core.proofs.PropagationLemmas.{propagate_once-forced, propagate_once-ends, blockers-length, blocker-at}
use Rattle.cdcl_core.proofs.PropagationLemmas.{blockers-set}
use Rattle.cdcl_core.proofs.propagation.propagate_once.Goals as goal
use Rattle.cdcl_core.proofs.propagation.propagate_once.Goals.{in-Satisfied, in-Unresolved, in-Unit+in_ok-assign-in-Unit}

pub loop-number-init : goal.loop-number-init
loop-number-init c = (propagate_once-begins c.args.clauses.now c.args.trail.now c.requires.reasons, c.requires.blockers)

inside_blockers : (cs : List Clause) (blockers : Vec Lit Global) (number : ℕ) → number < length cs →
    AreBlockers cs blockers.items → number < vec_len blockers
inside_blockers cs blockers number lt h = omega (arith, lt, blockers-length cs blockers.items h, blockers.ok.0)

pub index-requires : goal.index-requires
index-requires c =
    inside_blockers c.args.clauses.now c.loop-number.blockers c.loop-number.number (omega arith)
    c.loop-number.invariant.1

pub index_mut-requires : goal.index_mut-requires
index_mut-requires c =
    inside_blockers c.args.clauses.now c.loop-number.blockers c.loop-number.number (omega arith)
    c.loop-number.invariant.1

pub status_by_blocker-requires-clause-blocker : goal.status_by_blocker-requires-clause-blocker
status_by_blocker-requires-clause-blocker c =
    subst (λ l. contains c.lits.result.now l ≡ true) (sym c.index.ensures)
    (blocker-at c.args.clauses.now c.loop-number.blockers.items c.loop-number.number (clause c.lits.result.now)
    c.index.result.now c.loop-number.invariant.1 c.lits.ensures)

pub status_by_blocker-requires-clause-over : goal.status_by_blocker-requires-clause-over
status_by_blocker-requires-clause-over c =
    lits-over c.args.trail.now.variables c.loop-number.trail.variables c.args.clauses.now c.loop-number.number
    c.lits.result.now (sym c.loop-number.invariant.0.extends.variables) c.requires.over c.lits.ensures

pub assign-requires-clause-there : goal.assign-requires-clause-there
assign-requires-clause-there c =
    over-at c.loop-number.trail.variables c.lits.result.now c.in-Unit.lit
    (lits-over c.args.trail.now.variables c.loop-number.trail.variables c.args.clauses.now c.loop-number.number
    c.lits.result.now (sym c.loop-number.invariant.0.extends.variables) c.requires.over c.lits.ensures)
    c.in-Unit.ensures.0.stands

pub returns-in-Falsified-clause-tells : goal.returns-in-Falsified-clause-tells
returns-in-Falsified-clause-tells c = (clause c.lits.result.now, c.lits.ensures, c.in-Falsified.ensures)

pub loop-number-preserved : goal.loop-number-preserved
loop-number-preserved c =
    elim c.match-status_by_blocker.branch [
      | in-Satisfied w ↦ (
        progress w.trail-is w.changed-is
            (propagate_once-propagated c.args.clauses.now c.args.trail.now c.loop-number.trail c.loop-number.number
            c.loop-number.changed (clause c.lits.result.now)
            c.loop-number.invariant.0 c.lits.ensures
            (inl
            (record {
              lit = w.in-Satisfied.lit;
              stands = w.in-Satisfied.ensures.0;
              holds = w.in-Satisfied.ensures.1;
            }))),
        blockers w.blockers-is
            (blockers-set c.args.clauses.now c.loop-number.blockers.items c.loop-number.number
            (clause c.lits.result.now) w.in-Satisfied.lit
            c.loop-number.invariant.1 c.lits.ensures w.in-Satisfied.ensures.0),
      )
      | in-Unresolved w ↦ (
        progress w.trail-is w.changed-is
            (propagate_once-propagated c.args.clauses.now c.args.trail.now c.loop-number.trail c.loop-number.number
            c.loop-number.changed (clause c.lits.result.now)
            c.loop-number.invariant.0 c.lits.ensures (inr w.in-Unresolved.ensures)),
        blockers w.blockers-is c.loop-number.invariant.1,
      )
      | in-Unit+in_ok-assign-in-Unit w ↦ (
        progress w.trail-is w.changed-is
            (propagate_once-forced c.args.clauses.now c.args.trail.now c.loop-number.trail w.assign.new.self
            c.loop-number.number c.loop-number.changed
            (clause c.lits.result.now) w.in-Unit.lit c.loop-number.invariant.0 c.lits.ensures w.in-Unit.ensures.0
            w.in_ok-assign-in-Unit.ensures.was_trail w.in_ok-assign-in-Unit.ensures.trail
            w.in_ok-assign-in-Unit.ensures.ok),
        blockers w.blockers-is c.loop-number.invariant.1,
      )
    ]
  where
    progress : {t : Trail} {changed : Bool} → c.match-status_by_blocker.trail ≡ t →
        c.match-status_by_blocker.changed ≡ changed →
        IsPropagating c.args.clauses.now c.args.trail.now t (c.loop-number.number + 1) changed →
        IsPropagating c.args.clauses.now c.args.trail.now c.match-status_by_blocker.trail (c.loop-number.number + 1)
        c.match-status_by_blocker.changed
    progress {t} {changed} e f h =
        subst₂
        (λ (x : Trail) (b : Bool). IsPropagating c.args.clauses.now c.args.trail.now x (c.loop-number.number + 1) b)
        (sym e) (sym f) h

    blockers : {blockers : Vec Lit Global} → c.match-status_by_blocker.blockers ≡ blockers →
        AreBlockers c.args.clauses.now blockers.items →
        AreBlockers c.args.clauses.now c.match-status_by_blocker.blockers.items
    blockers {blockers} e h = subst (λ (x : Vec Lit Global). AreBlockers c.args.clauses.now x.items) (sym e) h

pub returns-else-changed-clause-tells : goal.returns-else-changed-clause-tells
returns-else-changed-clause-tells c =
    propagate_once-ends c.args.clauses.now c.loop-number.trail.lits c.loop-number.number (omega arith)
    (c.loop-number.invariant.0.fixpoint c.if-changed.false)
