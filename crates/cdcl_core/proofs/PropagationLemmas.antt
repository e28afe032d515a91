-- A pass over the clauses, clause by clause.
use Rattle.std.proofs.Common.{◌≡◌, ◌≢◌, ◌∙◌, ℕ, zero, suc, ◌+◌, ◌<◌, ◌≤◌, ◌++◌, refl, get_or, set, Bool, true, false}
use Rattle.std.proofs.Common.{List, [], ◌∷◌, Some, subst, sym, ap, slice_get, length, take, take_all, length-append}
use Rattle.std.proofs.Common.{arith}
use Rattle.std.proofs.lemmas.Bool.{false≢true}
use Rattle.std.proofs.lemmas.Option.{none-some, same_Some, slice_get_within, get_or_from_slice_get}
use Rattle.std.proofs.lemmas.List.{length_push, take_more}
use Rattle.std.proofs.lemmas.List.Elements.{All-more}
use Rattle.cnf_core.specs.declared.clause.Lit.{Lit}
use Rattle.cnf_core.specs.declared.clause.Clause.{Clause}
use Rattle.cnf_core.specs.Clause.{contains}
use Rattle.cnf_core.specs.Resolution.{clause}
use Rattle.cnf_core.proofs.Sets.{contains-head}
use Rattle.cdcl_core.specs.Propagation.{AreBlockers}
use Rattle.cdcl_base.specs.Trail.{Trail, IsTrail, IsPropagated, ArePropagated, AreReasons, ExtendsTrail, Forces}
use Rattle.cdcl_base.proofs.TrailLemmas.{forced, ExtendsTrail-itself, ExtendsTrail-trans, AreReasons-forced}

-- a pass after the first clauses
pub record IsPropagating (cs : List Clause) (old now : Trail) (number : ℕ) (changed : Bool) : Type 0 where
  pub extends : ExtendsTrail old now
  pub reasons : AreReasons cs now
  pub fixpoint : changed ≡ false → ArePropagated now.lits (take number cs)
  pub progress : changed ≡ true → (length old.lits < length now.lits) × (length now.lits ≤ now.variables)

pub propagate_once-begins : (cs : List Clause) (t : Trail) → AreReasons cs t → IsPropagating cs t t 0 false
propagate_once-begins cs t h =
    record {
      extends = ExtendsTrail-itself t;
      reasons = h;
      fixpoint = λ _ k d lt. absurd (omega arith);
      progress = λ e. absurd (false≢true e);
    }

pub propagate_once-propagated : (cs : List Clause) (old now : Trail) (number : ℕ) (changed : Bool) (c : Clause) →
    IsPropagating cs old now number changed → slice_get cs number ≡ Some c → IsPropagated now.lits c.lits →
    IsPropagating cs old now (number + 1) changed
propagate_once-propagated cs old now number changed c s at h =
    let within = slice_get_within cs number c at in
    let here = subst (λ (x : Clause). IsPropagated now.lits x.lits) (sym (get_or_from_slice_get cs number c c at)) h in
    record {
      extends = s.extends;
      reasons = s.reasons;
      fixpoint = λ e. All-more (λ (x : Clause). IsPropagated now.lits x.lits) cs number c within (s.fixpoint e) here;
      progress = s.progress;
    }

extends-forced : (now next : Trail) (l : Lit) (reason : ℕ) → next ≡ forced now l reason → ExtendsTrail now next
extends-forced now next l reason e = record {
  variables = ap (λ (t : Trail). t.variables) e;
  level_starts = ap (λ (t : Trail). t.level_starts) e;
  more_lits = l ∷ [];
  lits = ap (λ (t : Trail). t.lits) e;
  more_reasons = Some reason ∷ [];
  reasons = ap (λ (t : Trail). t.reasons) e;
}

pub propagate_once-forced : (cs : List Clause) (old now next : Trail) (number : ℕ) (changed : Bool) (c : Clause)
    (l : Lit) → IsPropagating cs old now number changed → slice_get cs number ≡ Some c →
    Forces now.lits c.lits l → IsTrail now → IsTrail next → next ≡ forced now l number →
    IsPropagating cs old next (number + 1) true
propagate_once-forced cs old now next number changed c l s at h it it' e =
    let before = ap length s.extends.lits in
    let after = ap (λ (t : Trail). length t.lits) e in
    let fits = it'.fits in
    record {
      extends = ExtendsTrail-trans old now next s.extends (extends-forced now next l number e);
      reasons = subst (AreReasons cs) (sym e) (AreReasons-forced cs now l number c it s.reasons at h);
      fixpoint = λ x. absurd (false≢true (sym x));
      progress = λ _. (omega (arith, length-append old.lits s.extends.more_lits, length_push now.lits l), fits);
    }

-- no clause is left
pub propagate_once-ends : (cs : List Clause) (lits : List Lit) (number : ℕ) → length cs ≤ number →
    ArePropagated lits (take number cs) → ArePropagated lits cs
propagate_once-ends cs lits number le h = subst (ArePropagated lits) (take_all number cs le) h

-- ---- blockers

pub blockers-length : (cs : List Clause) (blockers : List Lit) → AreBlockers cs blockers → length blockers ≡ length cs
blockers-length [] [] h = refl
blockers-length [] (l ∷ ls) h = absurd h
blockers-length (c ∷ cs) [] h = absurd h
blockers-length (c ∷ cs) (l ∷ ls) h = ap suc (blockers-length cs ls h.1)

-- a clause contains its blocker
pub blocker-at : (cs : List Clause) (blockers : List Lit) (k : ℕ) (c : Clause) (d : Lit) → AreBlockers cs blockers →
    slice_get cs k ≡ Some c → contains c.lits (get_or blockers k d) ≡ true
blocker-at [] blockers k c d h e = absurd (none-some c e)
blocker-at (x ∷ cs) [] k c d h e = absurd h
blocker-at (x ∷ cs) (l ∷ ls) zero c d h e = subst (λ (y : Clause). contains y.lits l ≡ true) (same_Some x c e) h.0
blocker-at (x ∷ cs) (l ∷ ls) (suc k) c d h e = blocker-at cs ls k c d h.1 e

-- another literal of a clause
pub blockers-set : (cs : List Clause) (blockers : List Lit) (k : ℕ) (c : Clause) (l : Lit) → AreBlockers cs blockers →
    slice_get cs k ≡ Some c → contains c.lits l ≡ true → AreBlockers cs (set blockers k l)
blockers-set [] blockers k c l h e stands = absurd (none-some c e)
blockers-set (x ∷ cs) [] k c l h e stands = absurd h
blockers-set (x ∷ cs) (m ∷ ms) zero c l h e stands =
    (subst (λ (y : Clause). contains y.lits l ≡ true) (sym (same_Some x c e)) stands, h.1)
blockers-set (x ∷ cs) (m ∷ ms) (suc k) c l h e stands = (h.0, blockers-set cs ms k c l h.1 e stands)

-- one clause more
pub blockers-push : (cs : List Clause) (blockers : List Lit) (c : Clause) (l : Lit) → AreBlockers cs blockers →
    contains c.lits l ≡ true → AreBlockers (cs ++ c ∷ []) (blockers ++ l ∷ [])
blockers-push [] [] c l h stands = (stands, tt)
blockers-push [] (m ∷ ms) c l h stands = absurd h
blockers-push (x ∷ cs) [] c l h stands = absurd h
blockers-push (x ∷ cs) (m ∷ ms) c l h stands = (h.0, blockers-push cs ms c l h.1 stands)

head-stands : (c : List Lit) (d : Lit) → c ≢ [] → contains c (get_or c 0 d) ≡ true
head-stands [] d h = absurd (h refl)
head-stands (x ∷ xs) d h = contains-head x xs

pub has-first : (c : List Lit) → c ≢ [] → 0 < length c
has-first [] h = absurd (h refl)
has-first (x ∷ xs) h = omega arith

-- the first literal of the next clause
pub blockers-next : (cs : List Clause) (blockers : List Lit) (k : ℕ) (c : List Lit) (l : Lit) →
    AreBlockers (take k cs) blockers → slice_get cs k ≡ Some (clause c) → l ≡ get_or c 0 l → c ≢ [] →
    AreBlockers (take (k + 1) cs) (blockers ++ l ∷ [])
blockers-next cs blockers k c l h at first filled =
    subst (λ xs. AreBlockers xs (blockers ++ l ∷ []))
    (sym
    (take_more cs k (clause c) (slice_get_within cs k (clause c) at)
    ∙ ap (λ x. take k cs ++ x ∷ []) (get_or_from_slice_get cs k (clause c) (clause c) at)))
    (blockers-push (take k cs) blockers (clause c) l h (ap (contains c) first ∙ head-stands c l filled))
