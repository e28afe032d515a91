use Rattle.std.proofs.Common.{◌≡◌, ◌++◌, [], Option, None, Some, sym, ap, ◌∙◌, subst}
use Rattle.std.specs.Prelude.{Contains, IfSome}
use Rattle.std.proofs.lemmas.Bool.{false≢true}
use Rattle.cnf_core.specs.declared.clause.Clause.{Clause}
use Rattle.cnf_core.specs.Clause.{IsOver}
use Rattle.cnf_core.specs.Resolution.{clause}
use Rattle.cnf_core.proofs.Sound.{accepted-no_model}
use Rattle.proof_check.specs.declared.check.Verdict.TheVariants.{Refuted, BadStep, NotEmpty}
use Rattle.proof_check.specs.Check.{AreOver, IsClauseOf}
use Rattle.proof_check.proofs.LogLemmas.{Derives-none, Derives-more, Derives-bad, Derives-accepted, Derives-not_empty}
use Rattle.proof_check.proofs.LogLemmas.{only-verdict, verdict-of}
use Rattle.proof_check.proofs.check.check_log.Goals as goal

pub loop-number-init : goal.loop-number-init
loop-number-init c =
    Derives-none c.args.cnf.now.variables c.clauses-clauses.result.now c.in_ok-so_far.so_far c.new-derived.result.items
    (c.in_ok-so_far.ensures ∙ ap (λ n. record { variables = n; lits = [] }) c.variables.ensures)
    c.new-derived.ensures.items
    (subst (AreOver c.args.cnf.now.variables) (sym c.clauses-clauses.ensures.clauses) c.clauses-clauses.ensures.formula)

pub loop-number-preserved : goal.loop-number-preserved
loop-number-preserved c =
    let cs = c.clauses-clauses.result.now in
    let gave = subst (λ es. IsClauseOf (cs ++ es) c.chain-item.result (Some c.in-Some.clause)) c.as_slice.ensures.value
    (subst (IsClauseOf (cs ++ c.as_slice.result.now) c.chain-item.result) c.in-Some.is c.in_ok-clause.ensures.derived)
    in
    let empty =
    subst (λ (o : Option Clause). IfSome o (λ _. c.derive.new.so_far.lits ≡ [])) c.in-Some.is
    c.in_ok-clause.ensures.empty in
    let over =
    subst (λ (o : Option Clause). IfSome o (λ (d : Clause). IsOver c.loop-number.so_far.variables d.lits))
    c.in-Some.is c.in_ok-clause.ensures.over in
    Derives-more c.args.cnf.now.variables cs c.as_slice-chain-items.result.now c.loop-number.number c.chain-item.result
    c.loop-number.so_far c.derive.new.so_far c.loop-number.derived.items c.push.new.self.items c.in-Some.clause
    c.loop-number-test.true c.chain-item.is c.loop-number.invariant c.derive.ensures.variables empty over gave
    c.in_ok-push.ensures.items

pub returns-in_default-clause-verdict : goal.returns-in_default-clause-verdict
returns-in_default-clause-verdict c =
    let cs = c.clauses-clauses.result.now in
    let gave = subst (λ es. IsClauseOf (cs ++ es) c.chain-item.result None) c.as_slice.ensures.value
    (subst (IsClauseOf (cs ++ c.as_slice.result.now) c.chain-item.result) c.in_default.is
    c.in_ok-clause.ensures.derived) in
    verdict-of cs c.args.cnf.now.clauses c.as_slice-chain-items.result.now c.args.log.now.chains
    (BadStep c.loop-number.number) c.clauses-clauses.ensures.clauses c.as_slice-chain-items.ensures
    (Derives-bad c.args.cnf.now.variables cs c.as_slice-chain-items.result.now c.loop-number.number c.chain-item.result
    c.loop-number.so_far c.loop-number.derived.items
    c.loop-number-test.true c.chain-item.is c.loop-number.invariant gave)

pub returns-in_default-clause-only : goal.returns-in_default-clause-only
returns-in_default-clause-only c =
    λ w. only-verdict c.args.cnf.now.clauses c.args.log.now.chains (BadStep c.loop-number.number) w
    (returns-in_default-clause-verdict c)

pub returns-then-is_any_empty-clause-verdict : goal.returns-then-is_any_empty-clause-verdict
returns-then-is_any_empty-clause-verdict c =
    let cs = c.clauses-clauses.result.now in
    let at =
    subst (λ es. Contains (cs ++ es) (clause [])) c.as_slice-2.ensures.value
    (c.is_any_empty.ensures.0 c.if-is_any_empty.true) in
    verdict-of cs c.args.cnf.now.clauses c.as_slice-chain-items.result.now c.args.log.now.chains Refuted
    c.clauses-clauses.ensures.clauses c.as_slice-chain-items.ensures
    (Derives-accepted c.args.cnf.now.variables cs c.as_slice-chain-items.result.now c.loop-number.number
    c.loop-number.so_far c.loop-number.derived.items c.loop-number-test.false c.loop-number.invariant at)

pub returns-then-is_any_empty-clause-only : goal.returns-then-is_any_empty-clause-only
returns-then-is_any_empty-clause-only c =
    λ w. only-verdict c.args.cnf.now.clauses c.args.log.now.chains Refuted w
    (returns-then-is_any_empty-clause-verdict c)

pub returns-then-is_any_empty-clause-refuted : goal.returns-then-is_any_empty-clause-refuted
returns-then-is_any_empty-clause-refuted c =
    λ _. accepted-no_model c.args.cnf.now.clauses c.args.log.now.chains (returns-then-is_any_empty-clause-verdict c)

pub returns-clause-verdict : goal.returns-clause-verdict
returns-clause-verdict c =
    let cs = c.clauses-clauses.result.now in
    let none : ¬ (Contains (cs ++ c.as_slice-2.result.now) (clause [])) =
    λ at. false≢true (sym c.if-is_any_empty.false ∙ c.is_any_empty.ensures.1 at) in
    let none_here = subst (λ es. ¬ (Contains (cs ++ es) (clause []))) c.as_slice-2.ensures.value none in
    verdict-of cs c.args.cnf.now.clauses c.as_slice-chain-items.result.now c.args.log.now.chains NotEmpty
    c.clauses-clauses.ensures.clauses c.as_slice-chain-items.ensures
    (Derives-not_empty c.args.cnf.now.variables cs c.as_slice-chain-items.result.now c.loop-number.number
    c.loop-number.so_far c.loop-number.derived.items c.loop-number-test.false c.loop-number.invariant none_here)

pub returns-clause-only : goal.returns-clause-only
returns-clause-only c =
    λ w. only-verdict c.args.cnf.now.clauses c.args.log.now.chains NotEmpty w (returns-clause-verdict c)
