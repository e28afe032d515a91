-- The tests of lists that tell whether a clause says something new.
use Rattle.std.proofs.Common.{◌≡◌, Bool, true, false, List, [], ◌∷◌, All, refl, sym, ◌∙◌, subst, ◌⊎◌, inl, inr}
use Rattle.std.specs.List.{list_any}
use Rattle.std.proofs.lemmas.Bool.{false≢true}
use Rattle.std.proofs.lemmas.List.Elements.{All-nil, All-cons, All-head, All-tail}
use Rattle.cnf_core.specs.declared.clause.Lit.{Lit}
use Rattle.cnf_core.specs.declared.clause.Clause.{Clause}
use Rattle.cnf_core.specs.Clause.{opposite, same_lit, contains, is_subset, is_tautology, is_subsumed, IsSubset}
use Rattle.cnf_core.specs.Resolution.{IsNewClause}
use Rattle.cnf_core.proofs.Sets.{same_lit-true, contains-head, contains-tail}
use Rattle.list_lemmas.proofs.Bools.{and-both, and_left as and-left, and_right as and-right, or-cases, or-left}
use Rattle.list_lemmas.proofs.Bools.{or-right, true-or-false}

-- ---- subsets

is_subset-at : (c d : List Lit) → is_subset c d ≡ true → IsSubset c d
is_subset-at [] d h l stands = absurd (false≢true stands)
is_subset-at (m ∷ c) d h l stands =
    elim (or-cases (same_lit l m) (contains c l) stands) [
      | inl same ↦ subst (λ x. contains d x ≡ true) (sym (same_lit-true l m same))
          (and-left (contains d m) (is_subset c d) h)
      | inr later ↦ is_subset-at c d (and-right (contains d m) (is_subset c d) h) l later
    ]

is_subset-from : (c d : List Lit) → IsSubset c d → is_subset c d ≡ true
is_subset-from [] d h = refl
is_subset-from (m ∷ c) d h =
    and-both (contains d m) (is_subset c d) (h m (contains-head m c))
    (is_subset-from c d (λ l stands. h l (contains-tail m c l stands)))

-- ---- tautologies

-- a test that holds of a literal holds of one
any-from : (p : Lit → Bool) (c : List Lit) (l : Lit) → contains c l ≡ true → p l ≡ true → list_any p c ≡ true
any-from p [] l stands h = absurd (false≢true stands)
any-from p (m ∷ c) l stands h =
    elim (or-cases (same_lit l m) (contains c l) stands) [
      | inl same ↦ or-left (p m) (list_any p c) (subst (λ x. p x ≡ true) (same_lit-true l m same) h)
      | inr later ↦ or-right (p m) (list_any p c) (any-from p c l later h)
    ]

any-at : (p : Lit → Bool) (c : List Lit) → list_any p c ≡ true → (l : Lit) × (contains c l ≡ true) × (p l ≡ true)
any-at p [] h = absurd (false≢true h)
any-at p (m ∷ c) h =
    elim (or-cases (p m) (list_any p c) h) [
      | inl here ↦ (m, contains-head m c, here)
      | inr later ↦ (let found = any-at p c later in (found.0, contains-tail m c found.0 found.1, found.2))
    ]

not_tautology-at : (c : List Lit) → is_tautology c ≡ false → (l : Lit) → contains c l ≡ true →
    contains c (opposite l) ≡ false
not_tautology-at c h l stands = by (true-or-false (contains c (opposite l)))
  where
    by : (contains c (opposite l) ≡ true) ⊎ (contains c (opposite l) ≡ false) → contains c (opposite l) ≡ false
    by (inl t) = absurd (false≢true (sym h ∙ any-from (λ (m : Lit). contains c (opposite m)) c l stands t))
    by (inr f) = f

pub not_tautology-from : (cs : List Clause) (c : List Lit) → IsNewClause cs c → is_tautology c ≡ false
not_tautology-from cs c h = by (true-or-false (is_tautology c))
  where
    by : (is_tautology c ≡ true) ⊎ (is_tautology c ≡ false) → is_tautology c ≡ false
    by (inl t) =
        let found = any-at (λ (m : Lit). contains c (opposite m)) c t in
        absurd (false≢true (sym (h.not_tautology found.0 found.1) ∙ found.2))
    by (inr f) = f

-- ---- subsumed clauses

not_subsumed-at : (cs : List Clause) (c : List Lit) → is_subsumed cs c ≡ false → All (λ d. IsSubset d.lits c → ⊥) cs
not_subsumed-at [] c h = All-nil (λ d. IsSubset d.lits c → ⊥)
not_subsumed-at (d ∷ ds) c h =
    All-cons (λ d. IsSubset d.lits c → ⊥) d ds
    (λ inside. false≢true (sym h ∙ or-left (is_subset d.lits c) (is_subsumed ds c) (is_subset-from d.lits c inside)))
    (not_subsumed-at ds c (by (true-or-false (is_subsumed ds c))))
  where
    by : (is_subsumed ds c ≡ true) ⊎ (is_subsumed ds c ≡ false) → is_subsumed ds c ≡ false
    by (inl t) = absurd (false≢true (sym h ∙ or-right (is_subset d.lits c) (is_subsumed ds c) t))
    by (inr f) = f

not_subsumed-all : (cs : List Clause) (c : List Lit) → All (λ d. IsSubset d.lits c → ⊥) cs → is_subsumed cs c ≡ true → ⊥
not_subsumed-all [] c h t = false≢true t
not_subsumed-all (d ∷ ds) c h t =
    elim (or-cases (is_subset d.lits c) (is_subsumed ds c) t) [
      | inl here ↦ All-head (λ d. IsSubset d.lits c → ⊥) d ds h (is_subset-at d.lits c here)
      | inr later ↦ not_subsumed-all ds c (All-tail (λ d. IsSubset d.lits c → ⊥) d ds h) later
    ]

pub not_subsumed-from : (cs : List Clause) (c : List Lit) → IsNewClause cs c → is_subsumed cs c ≡ false
not_subsumed-from cs c h = by (true-or-false (is_subsumed cs c))
  where
    by : (is_subsumed cs c ≡ true) ⊎ (is_subsumed cs c ≡ false) → is_subsumed cs c ≡ false
    by (inl t) = absurd (not_subsumed-all cs c h.not_subsumed t)
    by (inr f) = f

-- ---- both

pub new_clause-from : (cs : List Clause) (c : List Lit) → is_tautology c ≡ false → is_subsumed cs c ≡ false →
    IsNewClause cs c
new_clause-from cs c h k = record { not_tautology = not_tautology-at c h; not_subsumed = not_subsumed-at cs c k }
