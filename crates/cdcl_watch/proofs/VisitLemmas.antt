-- What a look at one clause tells.
use Rattle.std.proofs.Common.{◌≡◌, ◌∙◌, ◌⊎◌, inl, inr, ℕ, true, false, List, Some, sym, ap, subst}
use Rattle.std.proofs.Common.{slice_get, if◌then◌else◌}
use Rattle.std.proofs.lemmas.Bool.{false≢true}
use Rattle.cnf_core.specs.declared.clause.Lit.{Lit}
use Rattle.cnf_core.specs.declared.clause.Clause.{Clause}
use Rattle.cnf_core.specs.Clause.{opposite, same_lit, contains}
use Rattle.cnf_core.proofs.Sets.{same_lit-true, same_lit-from, same_lit-itself}
use Rattle.list_lemmas.proofs.Bools.{true-or-false, false_unless}
use Rattle.cdcl_base.specs.Trail.{Trail, IsFalsified, Forces}
use Rattle.cdcl_watch.specs.declared.lists.Watcher.{Watcher}
use Rattle.cdcl_watch.specs.declared.propagation.Pair.{Pair}
use Rattle.cdcl_watch.specs.Lists.{watchers}
use Rattle.cdcl_watch.specs.Watches.{IsPair, IsWatcher, IsVisiting, AreOthersFalse}

-- the watcher of a place
pub visiting-watcher : (cs : List Clause) (ps : List Pair) (lists : List (List Watcher)) (t : Trail) (head : ℕ)
    (untrue : Lit) (list : List Watcher) (cursor k : ℕ) (w : Watcher) →
    IsVisiting cs ps lists t head untrue list cursor → slice_get list k ≡ Some w → IsWatcher cs ps untrue w
visiting-watcher cs ps lists t head untrue list cursor k w h at =
    h.listed.watchers untrue k w
    (ap (λ b. slice_get (if b then list else watchers lists untrue) k) (same_lit-itself untrue) ∙ at)

-- the other one of two watches
pub record IsOtherOf (c : List Lit) (p : Pair) (untrue other : Lit) : Type 0 where
  pub stands : contains c other ≡ true
  pub kept : (p.first ≡ other) ⊎ (p.second ≡ other)
  pub differs : same_lit other untrue ≡ false

pub other-of : (c : List Lit) (p : Pair) (untrue other : Lit) → IsPair c p →
    other ≡ (if same_lit p.first untrue then p.second else p.first) → IsOtherOf c p untrue other
other-of c p untrue other is e = by (true-or-false (same_lit p.first untrue))
  where
    by : (same_lit p.first untrue ≡ true) ⊎ (same_lit p.first untrue ≡ false) → IsOtherOf c p untrue other
    by (inl holds) =
        let same : p.second ≡ other = sym (e ∙ ap (λ b. if b then p.second else p.first) holds) in
        record {
          stands = subst (λ l. contains c l ≡ true) same is.second;
          kept = inr same;
          differs = subst (λ l. same_lit l untrue ≡ false) same
              (false_unless (same_lit p.second untrue) (λ too. false≢true (sym is.differ ∙ same_lit-from p.first
              p.second
              (same_lit-true p.first untrue holds ∙ sym (same_lit-true p.second untrue too)))));
        }
    by (inr differ) =
        let same : p.first ≡ other = sym (e ∙ ap (λ b. if b then p.second else p.first) differ) in
        record {
          stands = subst (λ l. contains c l ≡ true) same is.first;
          kept = inl same;
          differs = subst (λ l. same_lit l untrue ≡ false) same differ;
        }

pub all-false : (lits c : List Lit) (watch : Lit) → AreOthersFalse lits c watch → contains lits (opposite watch) ≡
    true →
    IsFalsified lits c
all-false lits c watch h untrue m stands = by (h m stands)
  where
    by : (m ≡ watch) ⊎ (contains lits (opposite m) ≡ true) → contains lits (opposite m) ≡ true
    by (inl e) = subst (λ l. contains lits (opposite l) ≡ true) (sym e) untrue
    by (inr e) = e

pub all-but-one : (lits c : List Lit) (watch : Lit) → AreOthersFalse lits c watch → contains c watch ≡ true →
    Forces lits c watch
all-but-one lits c watch h stands = record { stands = stands; others = h }
