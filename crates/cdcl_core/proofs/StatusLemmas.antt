-- The computed status says what it is to say of the clause.
use Rattle.std.proofs.Common.{◌≡◌, Bool, true, false, not, List, [], ◌∷◌, Some, None, if◌then◌else◌, subst, sym, ◌⊎◌}
use Rattle.std.proofs.Common.{inl, inr}
use Rattle.std.proofs.lemmas.Bool.{false≢true}
use Rattle.cnf_core.specs.declared.clause.Lit.{Lit}
use Rattle.cnf_core.specs.Clause.{opposite, same_lit, contains, IsSubset}
use Rattle.cnf_core.proofs.Sets.{same_lit-true, contains-one, contains-head, contains-tail}
use Rattle.cdcl_core.specs.declared.propagation.ClauseStatus.{ClauseStatus}
use Rattle.cdcl_core.specs.declared.propagation.ClauseStatus.TheVariants.{Satisfied, Unresolved, Unit, Falsified}
use Rattle.cdcl_base.specs.Trail.{IsUnassigned, IsFalsified, IsUnresolved, Forces}
use Rattle.cdcl_core.specs.ClauseStatus.{IsStatus, clause_status}
use Rattle.list_lemmas.proofs.Bools.{or-cases, true-or-false}

-- each literal of the first clause is in the second, or is false
abbrev IsSubsetButFalse : List Lit → List Lit → List Lit → Type 0
IsSubsetButFalse lits d c =
    (m : Lit) → contains d m ≡ true → (contains c m ≡ true) ⊎ (contains lits (opposite m) ≡ true)

-- an answer stays where literals are added that are false or stand there already
two-more : (lits c d : List Lit) → IsSubset c d → IsUnresolved lits c → IsUnresolved lits d
two-more lits c d h x = record {
  first = x.first;
  second = x.second;
  differ = x.differ;
  first_stands = h x.first x.first_stands;
  second_stands = h x.second x.second_stands;
  first_not_false = x.first_not_false;
  second_not_false = x.second_not_false;
}

forces-more : (lits c d : List Lit) (l : Lit) → IsSubset c d → IsSubsetButFalse lits d c → Forces lits c l →
    Forces lits d l
forces-more lits c d l h k f = record { stands = h l f.stands; others = λ m stands. by m (k m stands) }
  where
    by : (m : Lit) → (contains c m ≡ true) ⊎ (contains lits (opposite m) ≡ true) →
        (m ≡ l) ⊎ (contains lits (opposite m) ≡ true)
    by m (inl e) = f.others m e
    by m (inr e) = inr e

false-more : (lits c d : List Lit) → IsSubsetButFalse lits d c → IsFalsified lits c → IsFalsified lits d
false-more lits c d k f m stands = by (k m stands)
  where
    by : (contains c m ≡ true) ⊎ (contains lits (opposite m) ≡ true) → contains lits (opposite m) ≡ true
    by (inl e) = f m e
    by (inr e) = e

status-more : (lits c d : List Lit) (r : ClauseStatus) → IsSubset c d → IsSubsetButFalse lits d c → IsStatus lits c r →
    IsStatus lits d r
status-more lits c d (Satisfied l) h k x = (h l x.0, x.1)
status-more lits c d Unresolved h k x = two-more lits c d h x
status-more lits c d (Unit l) h k x = (forces-more lits c d l h k x.0, x.1)
status-more lits c d Falsified h k x = false-more lits c d k x

-- one false literal more
false-head : (lits : List Lit) (l : Lit) (c : List Lit) (r : ClauseStatus) → contains lits (opposite l) ≡ true →
    IsStatus lits c r → IsStatus lits (l ∷ c) r
false-head lits l c r untrue x =
    status-more lits c (l ∷ c) r (λ m h. contains-tail l c m h) (λ m h. by m (or-cases (same_lit m l) (contains c m) h))
    x
  where
    by : (m : Lit) → (same_lit m l ≡ true) ⊎ (contains c m ≡ true) →
        (contains c m ≡ true) ⊎ (contains lits (opposite m) ≡ true)
    by m (inl e) = inr (subst (λ x. contains lits (opposite x) ≡ true) (sym (same_lit-true m l e)) untrue)
    by m (inr e) = inl e

-- the same below the first literal
false-second : (lits : List Lit) (first l : Lit) (c : List Lit) (r : ClauseStatus) → contains lits (opposite l) ≡ true →
    IsStatus lits (first ∷ c) r → IsStatus lits (first ∷ l ∷ c) r
false-second lits first l c r untrue x =
    status-more lits (first ∷ c) (first ∷ l ∷ c) r (λ m h. wider m (or-cases (same_lit m first) (contains c m) h))
    (λ m h. by m (or-cases (same_lit m first) (contains (l ∷ c) m) h)) x
  where
    wider : (m : Lit) → (same_lit m first ≡ true) ⊎ (contains c m ≡ true) → contains (first ∷ l ∷ c) m ≡ true
    wider m (inl e) =
        subst (λ x. contains (first ∷ l ∷ c) x ≡ true) (sym (same_lit-true m first e)) (contains-head first (l ∷ c))
    wider m (inr e) = contains-tail first (l ∷ c) m (contains-tail l c m e)

    inner : (m : Lit) → (same_lit m l ≡ true) ⊎ (contains c m ≡ true) →
        (contains (first ∷ c) m ≡ true) ⊎ (contains lits (opposite m) ≡ true)
    inner m (inl e) = inr (subst (λ x. contains lits (opposite x) ≡ true) (sym (same_lit-true m l e)) untrue)
    inner m (inr e) = inl (contains-tail first c m e)

    by : (m : Lit) → (same_lit m first ≡ true) ⊎ (contains (l ∷ c) m ≡ true) →
        (contains (first ∷ c) m ≡ true) ⊎ (contains lits (opposite m) ≡ true)
    by m (inl e) =
        inl (subst (λ x. contains (first ∷ c) x ≡ true) (sym (same_lit-true m first e)) (contains-head first c))
    by m (inr e) = inner m (or-cases (same_lit m l) (contains c m) e)

-- a literal that stands twice
twice : (lits : List Lit) (l : Lit) (c : List Lit) (r : ClauseStatus) → IsStatus lits (l ∷ c) r →
    IsStatus lits (l ∷ l ∷ c) r
twice lits l c r x =
    status-more lits (l ∷ c) (l ∷ l ∷ c) r (λ m h. contains-tail l (l ∷ c) m h)
    (λ m h. by m (or-cases (same_lit m l) (contains (l ∷ c) m) h)) x
  where
    by : (m : Lit) → (same_lit m l ≡ true) ⊎ (contains (l ∷ c) m ≡ true) →
        (contains (l ∷ c) m ≡ true) ⊎ (contains lits (opposite m) ≡ true)
    by m (inl e) = inl (subst (λ x. contains (l ∷ c) x ≡ true) (sym (same_lit-true m l e)) (contains-head l c))
    by m (inr e) = inl e

only-forced : (lits : List Lit) (l : Lit) → Forces lits (l ∷ []) l
only-forced lits l = record { stands = contains-head l []; others = λ m h. inl (contains-one l m h) }

none-false : (lits : List Lit) → IsFalsified lits []
none-false lits m h = absurd (false≢true h)

true-head : (lits : List Lit) (l : Lit) (c : List Lit) → contains lits l ≡ true → IsStatus lits (l ∷ c) (Satisfied l)
true-head lits l c h = (contains-head l c, h)

-- after a literal without a value
status-after : (lits : List Lit) (first : Lit) (c : List Lit) → IsUnassigned lits first →
    IsStatus lits (first ∷ c) (clause_status lits c (Some first))
status-after lits first [] free = (only-forced lits first, free)
status-after lits first (l ∷ c) free =
    by (true-or-false (contains lits l)) (status-after lits first c free) (λ this. status-after lits l c this)
  where
    answer : Bool → Bool → Bool → ClauseStatus
    answer holds untrue other =
        if holds then Satisfied l else if untrue then clause_status lits c (Some first) else
        if other then Unresolved else clause_status lits c (Some l)

    third : contains lits l ≡ false → contains lits (opposite l) ≡ false →
        (same_lit first l ≡ true) ⊎ (same_lit first l ≡ false) →
        (IsUnassigned lits l → IsStatus lits (l ∷ c) (clause_status lits c (Some l))) →
        IsStatus lits (first ∷ l ∷ c) (if not (same_lit first l) then Unresolved else clause_status lits c (Some l))
    third a b (inl e) next =
        subst (λ x. IsStatus lits (first ∷ l ∷ c) (if not x then Unresolved else clause_status lits c (Some l))) (sym e)
        (subst (λ x. IsStatus lits (x ∷ l ∷ c) (clause_status lits c (Some l))) (sym (same_lit-true first l e))
        (twice lits l c (clause_status lits c (Some l)) (next (a, b))))
    third a b (inr e) next =
        subst (λ x. IsStatus lits (first ∷ l ∷ c) (if not x then Unresolved else clause_status lits c (Some l))) (sym e)
        (record {
          first = first;
          second = l;
          differ = e;
          first_stands = contains-head first (l ∷ c);
          second_stands = contains-tail first (l ∷ c) l (contains-head l c);
          first_not_false = free.1;
          second_not_false = b;
        })

    second : contains lits l ≡ false → (contains lits (opposite l) ≡ true) ⊎ (contains lits (opposite l) ≡ false) →
        IsStatus lits (first ∷ c) (clause_status lits c (Some first)) →
        (IsUnassigned lits l → IsStatus lits (l ∷ c) (clause_status lits c (Some l))) →
        IsStatus lits (first ∷ l ∷ c)
        (if contains lits (opposite l) then clause_status lits c (Some first) else if not
        (same_lit first l) then Unresolved else clause_status lits c (Some l))
    second a (inl e) rest next =
        subst (λ x. IsStatus lits (first ∷ l ∷ c) (answer false x (not (same_lit first l)))) (sym e)
        (false-second lits first l c (clause_status lits c (Some first)) e rest)
    second a (inr e) rest next =
        subst (λ x. IsStatus lits (first ∷ l ∷ c) (answer false x (not (same_lit first l)))) (sym e)
        (third a e (true-or-false (same_lit first l)) next)

    by : (contains lits l ≡ true) ⊎ (contains lits l ≡ false) →
        IsStatus lits (first ∷ c) (clause_status lits c (Some first)) →
        (IsUnassigned lits l → IsStatus lits (l ∷ c) (clause_status lits c (Some l))) →
        IsStatus lits (first ∷ l ∷ c) (clause_status lits (l ∷ c) (Some first))
    by (inl e) rest next =
        subst (λ x. IsStatus lits (first ∷ l ∷ c) (answer x (contains lits (opposite l)) (not (same_lit first l))))
        (sym e)
        (contains-tail first (l ∷ c) l (contains-head l c), e)
    by (inr e) rest next =
        subst (λ x. IsStatus lits (first ∷ l ∷ c) (answer x (contains lits (opposite l)) (not (same_lit first l))))
        (sym e)
        (second e (true-or-false (contains lits (opposite l))) rest next)

status-from : (lits c : List Lit) → IsStatus lits c (clause_status lits c None)
status-from lits [] = none-false lits
status-from lits (l ∷ c) = by (true-or-false (contains lits l)) (status-from lits c)
  where
    answer : Bool → Bool → ClauseStatus
    answer holds untrue =
        if holds then Satisfied l else if untrue then clause_status lits c None else clause_status lits c (Some l)

    second : contains lits l ≡ false → (contains lits (opposite l) ≡ true) ⊎ (contains lits (opposite l) ≡ false) →
        IsStatus lits c (clause_status lits c None) →
        IsStatus lits (l ∷ c)
        (if contains lits (opposite l) then clause_status lits c None else clause_status lits c (Some l))
    second a (inl e) rest =
        subst (λ x. IsStatus lits (l ∷ c) (answer false x)) (sym e)
        (false-head lits l c (clause_status lits c None) e rest)
    second a (inr e) rest = subst (λ x. IsStatus lits (l ∷ c) (answer false x)) (sym e) (status-after lits l c (a, e))

    by : (contains lits l ≡ true) ⊎ (contains lits l ≡ false) → IsStatus lits c (clause_status lits c None) →
        IsStatus lits (l ∷ c) (clause_status lits (l ∷ c) None)
    by (inl e) rest =
        subst (λ x. IsStatus lits (l ∷ c) (answer x (contains lits (opposite l)))) (sym e) (true-head lits l c e)
    by (inr e) rest =
        subst (λ x. IsStatus lits (l ∷ c) (answer x (contains lits (opposite l)))) (sym e)
        (second e (true-or-false (contains lits (opposite l))) rest)

pub clause_status-is : (lits c : List Lit) (r : ClauseStatus) → r ≡ clause_status lits c None → IsStatus lits c r
clause_status-is lits c r e = subst (IsStatus lits c) (sym e) (status-from lits c)
