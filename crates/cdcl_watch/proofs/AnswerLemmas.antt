-- What an answer says, a part at a time.
use Rattle.std.proofs.Common.{◌≡◌, ℕ, ◌+◌, ◌^◌, ◌≤◌, true, length, arith, subst}
use Rattle.std.proofs.Common.{Result, IfOk}
use Rattle.std.specs.declared.alloc.AllocError.{AllocError}
use Rattle.cnf_core.specs.Clause.{assigned, is_model, HasNoModel}
use Rattle.cnf_core.specs.Formula.{Formula, IsFormula}
use Rattle.cnf_core.specs.Resolution.{IsAccepted, AreNewClauses}
use Rattle.cnf_core.proofs.Sound.{accepted-no_model}
use Rattle.cnf_core.proofs.NewClausesBound.{fewer_new_clauses}
use Rattle.cdcl_base.specs.declared.answer.Answer.{Answer}
use Rattle.cdcl_base.specs.declared.answer.Answer.TheVariants.{Model, Refuted, Spent}
use Rattle.cdcl_base.specs.Answer.{OnModel, OnRefuted, OnSpent, OnLog}
use Rattle.cdcl_watch.specs.Answer.{IsAnswer}

pub answer-model : (f : Formula) (old new : ℕ) (a : Answer) → IsAnswer f old new a →
    OnModel a (λ values. (length values ≡ f.variables) × (is_model (assigned values) f.clauses ≡ true))
answer-model f old new (Model values) h = h
answer-model f old new (Refuted log) h = tt
answer-model f old new (Spent log) h = tt

pub answer-refuted : (f : Formula) (old new : ℕ) (a : Answer) → IsAnswer f old new a →
    OnRefuted a (λ chains. IsAccepted f.clauses chains)
answer-refuted f old new (Model values) h = tt
answer-refuted f old new (Refuted log) h = h.0
answer-refuted f old new (Spent log) h = tt

pub answer-no_model : (f : Formula) (old new : ℕ) (a : Answer) → IsAnswer f old new a →
    OnRefuted a (λ chains. HasNoModel f.clauses)
answer-no_model f old new (Model values) h = tt
answer-no_model f old new (Refuted log) h = accepted-no_model f.clauses log.chains h.0
answer-no_model f old new (Spent log) h = tt

pub answer-new_clauses : (f : Formula) (old new : ℕ) (a : Answer) → IsAnswer f old new a →
    OnLog a (AreNewClauses f.clauses)
answer-new_clauses f old new (Model values) h = tt
answer-new_clauses f old new (Refuted log) h = h.1
answer-new_clauses f old new (Spent log) h = h.1

pub answer-count : (f : Formula) (old new : ℕ) (a : Answer) → IsAnswer f old new a →
    OnLog a (λ chains. length chains + new ≡ old)
answer-count f old new (Model values) h = tt
answer-count f old new (Refuted log) h = h.2
answer-count f old new (Spent log) h = h.2

pub answer-spent : (f : Formula) (old new : ℕ) (a : Answer) → IsAnswer f old new a → OnSpent a (λ chains. new ≡ 0)
answer-spent f old new (Model values) h = tt
answer-spent f old new (Refuted log) h = tt
answer-spent f old new (Spent log) h = h.3

pub answer-decided : (f : Formula) (old new : ℕ) (a : Answer) → IsFormula f → IsAnswer f old new a →
    3 ^ f.variables ≤ old → OnSpent a (λ chains. ⊥)
answer-decided f old new (Model values) formula h enough = tt
answer-decided f old new (Refuted log) formula h enough = tt
answer-decided f old new (Spent log) formula h enough =
    let few = fewer_new_clauses f.variables f.clauses log.chains formula h.1 h.0 in
    let count = h.2 in
    let none = h.3 in
    omega (arith, few, count, none, enough)

pub answered : (r : Result Answer AllocError) (f g : Formula) (old new : ℕ) → f ≡ g → IfOk r (IsAnswer f old new) →
    IfOk r (IsAnswer g old new)
answered r f g old new e h = subst (λ (x : Formula). IfOk r (IsAnswer x old new)) e h
