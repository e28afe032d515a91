use Rattle.std.proofs.Common.{◌≡◌, ◌++◌, [], Option, None, Some, sym, ap, ◌∙◌, subst}
use Rattle.std.specs.Prelude.{IfSome}
use Rattle.std.proofs.lemmas.Bool.{false≢true}
use Rattle.cnf_core.specs.declared.clause.Clause.{Clause}
use Rattle.cnf_core.specs.Clause.{IsOver}
use Rattle.cnf_core.specs.Resolution.{AreNewClauses, IsNewClause}
use Rattle.proof_check.specs.Check.{AreOver, IsClauseOf}
use Rattle.proof_check.proofs.LogLemmas.{Derives-none, Derives-more}
use Rattle.proof_check.proofs.NewClausesLemmas.{new_clauses-more, not-new_clauses-old, not-new_clauses-bad}
use Rattle.proof_check.proofs.new_clauses.are_new_clauses.Goals as goal

pub loop-chain-init : goal.loop-chain-init
loop-chain-init c = (
  Derives-none c.args.cnf.now.variables c.clauses-clauses.result.now c.in_ok-so_far.so_far c.new-derived.result.items
      (c.in_ok-so_far.ensures ∙ ap (λ n. record { variables = n; lits = [] }) c.variables.ensures)
      c.new-derived.ensures.items
      (subst (AreOver c.args.cnf.now.variables) (sym c.clauses-clauses.ensures.clauses)
      c.clauses-clauses.ensures.formula),
  tt,
)

pub loop-chain-preserved : goal.loop-chain-preserved
loop-chain-preserved c =
    let cs = c.clauses-clauses.result.now in
    let chains = c.as_slice-chain-items.result.now in
    let gave = subst (λ es. IsClauseOf (cs ++ es) c.chain-item.result (Some c.in-Some.clause)) c.as_slice.ensures.value
    (subst (IsClauseOf (cs ++ c.as_slice.result.now) c.chain-item.result) c.in-Some.is c.in_ok-clause.ensures.derived)
    in
    let empty =
    subst (λ (o : Option Clause). IfSome o (λ _. c.derive.new.so_far.lits ≡ [])) c.in-Some.is
    c.in_ok-clause.ensures.empty in
    let over =
    subst (λ (o : Option Clause). IfSome o (λ (d : Clause). IsOver c.loop-chain.so_far.variables d.lits))
    c.in-Some.is c.in_ok-clause.ensures.over in
    let new_clause =
    subst (λ es. IsNewClause (cs ++ es) c.in-Some.clause.lits) c.as_slice-in-loop-chain.ensures.value
    (c.is_new.ensures.0 c.if-not-is_new.false) in (
      Derives-more c.args.cnf.now.variables cs chains c.loop-chain.chain-index c.chain-item.result c.loop-chain.so_far
          c.derive.new.so_far c.loop-chain.derived.items c.push.new.self.items c.in-Some.clause
          c.loop-chain-test.true c.chain-item.is c.loop-chain.invariant.0 c.derive.ensures.variables empty over gave
          c.in_ok-push.ensures.items,
      new_clauses-more c.args.cnf.now.variables cs chains c.loop-chain.chain-index c.chain-item.result
          c.loop-chain.so_far c.loop-chain.derived.items c.in-Some.clause
          c.loop-chain-test.true c.chain-item.is c.loop-chain.invariant.0 gave new_clause c.loop-chain.invariant.1,
    )

pub returns-in_default : goal.returns-in_default
returns-in_default c =
    let cs = c.clauses-clauses.result.now in
    let chains = c.as_slice-chain-items.result.now in
    let gave = subst (λ es. IsClauseOf (cs ++ es) c.chain-item.result None) c.as_slice.ensures.value
    (subst (IsClauseOf (cs ++ c.as_slice.result.now) c.chain-item.result) c.in_default.is
    c.in_ok-clause.ensures.derived) in (
      λ yes. absurd (false≢true yes),
      λ new_clauses.
          absurd
          (not-new_clauses-bad c.args.cnf.now.variables cs chains c.loop-chain.chain-index c.chain-item.result
          c.loop-chain.so_far c.loop-chain.derived.items
          c.loop-chain-test.true c.chain-item.is c.loop-chain.invariant.0 gave
          (subst (λ xs. AreNewClauses xs chains) (sym c.clauses-clauses.ensures.clauses)
          (subst (AreNewClauses c.args.cnf.now.clauses) (sym c.as_slice-chain-items.ensures) new_clauses))),
    )

pub returns-then-not-is_new : goal.returns-then-not-is_new
returns-then-not-is_new c =
    let cs = c.clauses-clauses.result.now in
    let chains = c.as_slice-chain-items.result.now in
    let gave = subst (λ es. IsClauseOf (cs ++ es) c.chain-item.result (Some c.in-Some.clause)) c.as_slice.ensures.value
    (subst (IsClauseOf (cs ++ c.as_slice.result.now) c.chain-item.result) c.in-Some.is c.in_ok-clause.ensures.derived)
    in
    let old : IsNewClause (cs ++ c.loop-chain.derived.items) c.in-Some.clause.lits → ⊥ =
    λ new_clause.
    false≢true
    (sym c.if-not-is_new.true
    ∙ c.is_new.ensures.1
    (subst (λ es. IsNewClause (cs ++ es) c.in-Some.clause.lits) (sym c.as_slice-in-loop-chain.ensures.value)
    new_clause)) in (
      λ yes. absurd (false≢true yes),
      λ new_clauses.
          absurd
          (not-new_clauses-old c.args.cnf.now.variables cs chains c.loop-chain.chain-index c.chain-item.result
          c.loop-chain.so_far c.loop-chain.derived.items c.in-Some.clause
          c.loop-chain-test.true c.chain-item.is c.loop-chain.invariant.0 gave old
          (subst (λ xs. AreNewClauses xs chains) (sym c.clauses-clauses.ensures.clauses)
          (subst (AreNewClauses c.args.cnf.now.clauses) (sym c.as_slice-chain-items.ensures) new_clauses))),
    )
