-- Sets that grow, and steps over clauses that are the same sets.
use Rattle.std.proofs.Common.{◌≡◌, ℕ, suc, ◌<◌, ◌≤◌, ◌+◌, ◌&&◌, true, false, not, cond, List, [], ◌∷◌, ◌++◌, sym, ap}
use Rattle.std.proofs.Common.{◌∙◌, subst, arith, length, get_or, drop, Some, None, slice_get, option_and_then}
use Rattle.std.proofs.lemmas.List.{drop_all}
use Rattle.std.proofs.Math.Seq.{drop-cons}
use Rattle.cnf_core.specs.declared.clause.Lit.{Lit}
use Rattle.cnf_core.specs.declared.clause.Clause.{Clause}
use Rattle.cnf_core.specs.declared.log.Chain.{Chain}
use Rattle.cnf_core.specs.Clause.{opposite, same_lit, contains, AreSame}
use Rattle.cnf_core.specs.Resolution.{without, resolvent, step, after_steps, derived, clause}
use Rattle.cnf_core.proofs.Sets.{contains-without, append-same, AreSame-itself}
use Rattle.proof_check.specs.LitSet.{Literals}
use Rattle.list_lemmas.proofs.Bools.{and-both}

-- the literals of a clause put into a set
pub record Adds (old new : Literals) (lits : List Lit) : Type 0 where
  pub variables : new.variables ≡ old.variables
  pub same : AreSame (old.lits ++ lits) new.lits

-- what was marked after a resolution is the resolvent
pub resolved : (c d removed new : List Lit) (pivot : Lit) → contains c pivot ≡ true →
    contains d (opposite pivot) ≡ true →
    ((l : Lit) → contains removed l ≡ (not (same_lit pivot l) && contains c l)) →
    AreSame (removed ++ without (opposite pivot) d) new →
    (x : List Lit) × (resolvent c pivot d ≡ Some x) × AreSame x new
resolved c d removed new pivot here there removes adds = (
  without pivot c ++ without (opposite pivot) d,
  ap (λ b. cond b (Some (without pivot c ++ without (opposite pivot) d)) None)
      (and-both (contains c pivot) (contains d (opposite pivot)) here there),
  λ l. append-same (without pivot c) removed (without (opposite pivot) d) (without (opposite pivot) d)
      (λ m. contains-without pivot c m ∙ sym (removes m)) (AreSame-itself (without (opposite pivot) d)) l ∙ adds l,
)

-- the steps so far led from the clause at the start to the one that is marked now
pub record Follows (cs : List Clause) (steps rest : List (Lit × ℕ)) (start now : Literals) : Type 0 where
  pub variables : now.variables ≡ start.variables
  pub led : (c : List Lit) → AreSame c start.lits →
      (d : List Lit) × (after_steps cs c steps ≡ after_steps cs d rest) × AreSame d now.lits

-- what `get_or` gives past the end
abbrev pub no_step : Lit × ℕ
no_step = (record { variable = 0; positive = false }, 0)

-- a step over the clause that it names
step-at : (cs : List Clause) (c : List Lit) (s : Lit × ℕ) (lits : List Lit) → slice_get cs s.1 ≡ Some (clause lits) →
    step cs c s ≡ resolvent c s.0 lits
step-at cs c s lits e = ap (option_and_then (λ (d : Clause). resolvent c s.0 d.lits)) e

next-step : (cs : List Clause) (steps : List (Lit × ℕ)) (i : ℕ) (d : Lit × ℕ) (c : List Lit) (lits : List Lit) →
    i < length steps →
    slice_get cs (get_or steps i d).1 ≡ Some (clause lits) →
    after_steps cs c (drop i steps) ≡ option_and_then (λ x. after_steps cs x (drop (i + 1) steps))
    (resolvent c (get_or steps i d).0 lits)
next-step cs steps i d c lits within e =
    let next : suc i ≡ i + 1 = omega arith in
    let cons : drop i steps ≡ get_or steps i d ∷ drop (i + 1) steps =
    drop-cons steps i d within ∙ ap (λ n. get_or steps i d ∷ drop n steps) next in
    ap (after_steps cs c) cons
    ∙ ap (option_and_then (λ x. after_steps cs x (drop (i + 1) steps))) (step-at cs c (get_or steps i d) lits e)

-- one more step
pub Follows-more : (cs : List Clause) (steps : List (Lit × ℕ)) (i : ℕ) (d : Lit × ℕ) (lits : List Lit)
    (start now new : Literals) → i < length steps →
    slice_get cs (get_or steps i d).1 ≡ Some (clause lits) → new.variables ≡ now.variables →
    ((c : List Lit) → AreSame c now.lits → (x : List Lit) × (resolvent c (get_or steps i d).0 lits ≡ Some x) × AreSame x
    new.lits) →
    Follows cs steps (drop i steps) start now → Follows cs steps (drop (i + 1) steps) start new
Follows-more cs steps i d lits start now new within e variables gives f = record {
  variables = variables ∙ f.variables;
  led = λ c same.
      let before = f.led c same in
      let after = gives before.0 before.2 in (
        after.0,
        before.1 ∙ next-step cs steps i d before.0 lits within e
            ∙ ap (option_and_then (λ x. after_steps cs x (drop (i + 1) steps))) after.1,
        after.2,
      );
}

-- a step that does not resolve
pub Follows-stops : (cs : List Clause) (steps : List (Lit × ℕ)) (i : ℕ) (d : Lit × ℕ) (lits : List Lit)
    (start now : Literals) → i < length steps →
    slice_get cs (get_or steps i d).1 ≡ Some (clause lits) →
    ((c : List Lit) → AreSame c now.lits → resolvent c (get_or steps i d).0 lits ≡ None) →
    Follows cs steps (drop i steps) start now → (c : List Lit) → AreSame c start.lits → after_steps cs c steps ≡ None
Follows-stops cs steps i d lits start now within e gives f c same =
    let before = f.led c same in
    before.1 ∙ next-step cs steps i d before.0 lits within e
    ∙ ap (option_and_then (λ x. after_steps cs x (drop (i + 1) steps))) (gives before.0 before.2)

-- no step left
pub Follows-all : (cs : List Clause) (steps : List (Lit × ℕ)) (i : ℕ) (start now : Literals) → length steps ≤ i →
    Follows cs steps (drop i steps) start now → (c : List Lit) → AreSame c start.lits →
    (x : List Lit) × (after_steps cs c steps ≡ Some x) × AreSame x now.lits
Follows-all cs steps i start now past f c same =
    let before = f.led c same in
    (before.0, before.1 ∙ ap (after_steps cs before.0) (drop_all i steps past), before.2)

-- a chain over the clause at its start
pub derived-at : (cs : List Clause) (chain : Chain) (lits : List Lit) → slice_get cs chain.first ≡ Some (clause lits) →
    derived cs chain ≡ after_steps cs lits chain.steps
derived-at cs chain lits e = ap (option_and_then (λ (c : Clause). after_steps cs c.lits chain.steps)) e

pub added-to_none : (old lits new : List Lit) → old ≡ [] → AreSame (old ++ lits) new → AreSame lits new
added-to_none old lits new e h = subst (λ (c : List Lit). AreSame (c ++ lits) new) e h
