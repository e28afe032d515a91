-- Which variables a clause has: what is derived has those of what it is derived from.
use Rattle.std.proofs.Common.{◌≡◌, ℕ, ◌<◌, true, not, ◌&&◌, List, [], ◌∷◌, ◌++◌, Some, All, slice_get, sym, subst, inl}
use Rattle.std.proofs.Common.{inr}
use Rattle.std.proofs.lemmas.Bool.{false≢true}
use Rattle.std.proofs.lemmas.List.Elements.{All-head, All-tail, All-append, All-filter, All-get_or}
use Rattle.std.proofs.lemmas.Option.{cond_some, same_Some, option_and_then_some, slice_get_within}
use Rattle.std.proofs.lemmas.Option.{get_or_from_slice_get}
use Rattle.cnf_core.specs.declared.clause.Lit.{Lit}
use Rattle.cnf_core.specs.declared.clause.Clause.{Clause}
use Rattle.cnf_core.specs.declared.log.Chain.{Chain}
use Rattle.cnf_core.specs.Clause.{opposite, same_lit, contains, IsOver}
use Rattle.cnf_core.specs.Resolution.{without, resolvent, step, after_steps, derived}
use Rattle.cnf_core.proofs.Sets.{same_lit-true}
use Rattle.list_lemmas.proofs.Bools.{or-cases}

-- the variable of a literal of a clause over n variables
pub over-at : (variables : ℕ) (c : List Lit) (l : Lit) → IsOver variables c → contains c l ≡ true →
    l.variable < variables
over-at variables [] l over h = absurd (false≢true h)
over-at variables (m ∷ c) l over h =
    elim (or-cases (same_lit l m) (contains c l) h) [
      | inl same ↦ subst (λ (x : Lit). x.variable < variables) (sym (same_lit-true l m same))
          (All-head (λ (x : Lit). x.variable < variables) m c over)
      | inr later ↦ over-at variables c l (All-tail (λ (x : Lit). x.variable < variables) m c over) later
    ]

pub without-over : (variables : ℕ) (l : Lit) (c : List Lit) → IsOver variables c → IsOver variables (without l c)
without-over variables l c over = All-filter (λ m. not (same_lit l m)) (λ (m : Lit). m.variable < variables) c over

pub resolvent-over : (variables : ℕ) (c : List Lit) (l : Lit) (d e : List Lit) → resolvent c l d ≡ Some e →
    IsOver variables c → IsOver variables d → IsOver variables e
resolvent-over variables c l d e h over other =
    subst (IsOver variables)
    (cond_some (contains c l && contains d (opposite l)) (without l c ++ without (opposite l) d) e h).1
    (All-append (λ (m : Lit). m.variable < variables) (without l c) (without (opposite l) d)
    (without-over variables l c over) (without-over variables (opposite l) d other))

pub clause-over : (variables : ℕ) (cs : List Clause) (k : ℕ) (c : Clause) → slice_get cs k ≡ Some c →
    All (λ (c : Clause). IsOver variables c.lits) cs → IsOver variables c.lits
clause-over variables cs k c e over =
    subst (λ (x : Clause). IsOver variables x.lits) (get_or_from_slice_get cs k c c e)
    (All-get_or (λ (x : Clause). IsOver variables x.lits) cs k c (slice_get_within cs k c e) over)

pub steps-over : (variables : ℕ) (cs : List Clause) (c : List Lit) (steps : List (Lit × ℕ)) (e : List Lit) →
    after_steps cs c steps ≡ Some e → All (λ (c : Clause). IsOver variables c.lits) cs → IsOver variables c →
    IsOver variables e
steps-over variables cs c [] e h over start = subst (IsOver variables) (same_Some c e h) start
steps-over variables cs c (s ∷ steps) e h over start =
    option_and_then_some (λ d. after_steps cs d steps) (step cs c s) e h
    (λ d found rest.
    steps-over variables cs d steps e rest over
    (option_and_then_some (λ (x : Clause). resolvent c s.0 x.lits) (slice_get cs s.1) d found
    (λ x there gives. resolvent-over variables c s.0 x.lits d gives start (clause-over variables cs s.1 x there over))))

pub derived-over : (variables : ℕ) (cs : List Clause) (chain : Chain) (lits : List Lit) → derived cs chain ≡ Some lits →
    All (λ (c : Clause). IsOver variables c.lits) cs → IsOver variables lits
derived-over variables cs chain lits h over =
    option_and_then_some (λ (c : Clause). after_steps cs c.lits chain.steps) (slice_get cs chain.first) lits h
    (λ c there rest. steps-over variables cs c.lits chain.steps lits rest over
    (clause-over variables cs chain.first c there over))
