-- Steps of resolution, back along a trail.
use Rattle.std.proofs.Common.{◌≡◌, ℕ, ◌+◌, ◌<◌, ◌≤◌, ◌&&◌, ◌||◌, Bool, true, false, not, cond, List, [], ◌∷◌, ◌++◌}
use Rattle.std.proofs.Common.{subst, sym, ap, ◌∙◌, arith, ◌⊎◌, inl, inr, take, get_or, slice_get, Option, Some, None}
use Rattle.std.proofs.Common.{option_and_then, IfSome}
use Rattle.std.proofs.lemmas.Bool.{false≢true, cases_lt}
use Rattle.std.proofs.lemmas.Option.{same_Some, get_or_from_slice_get}
use Rattle.cnf_core.specs.declared.clause.Lit.{Lit}
use Rattle.cnf_core.specs.declared.clause.Clause.{Clause}
use Rattle.cnf_core.specs.Clause.{opposite, same_lit, contains, assigned}
use Rattle.cnf_core.specs.Resolution.{without, resolvent, step, clause}
use Rattle.cnf_core.proofs.Sets.{same_lit-true, same_lit-from, contains-left, contains-right, contains-cases}
use Rattle.cnf_core.proofs.Sets.{contains-without, opposite-opposite, same_variable}
use Rattle.cnf_core.proofs.Chains.{after_steps-more}
use Rattle.cdcl_base.specs.Trail.{HasDistinctVariables, IsUnassigned, Forces}
use Rattle.cdcl_base.specs.Analysis.{contains_variable, IsMarked, AreUnmarked, Leads, HasReason, IsLastMarked}
use Rattle.cdcl_base.specs.Analysis.{HasPlace}
use Rattle.cdcl_base.proofs.MarkLemmas.{contains_variable-from, contains_variable-at}
use Rattle.cdcl_base.proofs.Places.{Stands, place_of, contains-from, contains-more, not_both}
use Rattle.list_lemmas.proofs.Bools.{and-both, and_left as and-left, and_right as and-right, or-cases, or-left}
use Rattle.list_lemmas.proofs.Bools.{or-right, same_test, true-or-false}

-- ---- a step that resolves

pub step-from : (cs : List Clause) (c : List Lit) (m : Lit) (r : ℕ) (d : Clause) → slice_get cs r ≡ Some d →
    contains c m ≡ true → contains d.lits (opposite m) ≡ true →
    step cs c (m, r) ≡ Some (without m c ++ without (opposite m) d.lits)
step-from cs c m r d at h k =
    ap (option_and_then (λ (x : Clause). resolvent c m x.lits)) at
    ∙ ap (λ b. cond b (Some (without m c ++ without (opposite m) d.lits)) None)
    (and-both (contains c m) (contains d.lits (opposite m)) h k)

-- what is left of a clause has another literal of it
without-contains : (m : Lit) (c : List Lit) (l : Lit) → (m ≡ l → ⊥) → contains c l ≡ true →
    contains (without m c) l ≡ true
without-contains m c l h k = contains-without m c l ∙ by (true-or-false (same_lit m l))
  where
    by : (same_lit m l ≡ true) ⊎ (same_lit m l ≡ false) → (not (same_lit m l) && contains c l) ≡ true
    by (inl e) = absurd (h (same_lit-true m l e))
    by (inr e) = ap (λ b. not b && contains c l) e ∙ k

-- and nothing else
without-had : (m : Lit) (c : List Lit) (l : Lit) → contains (without m c) l ≡ true → (m ≡ l → ⊥) × (contains c l ≡ true)
without-had m c l h = (
  λ e. false≢true (sym (ap (λ b. not b && contains c l) (same_lit-from m l e)) ∙ sym (contains-without m c l) ∙ h),
  and-right (not (same_lit m l)) (contains c l) (sym (contains-without m c l) ∙ h),
)

-- ---- back over places without a mark

pub leads-skip : (cs : List Clause) (first : List Lit) (steps : List (Lit × ℕ)) (marks : List Bool) (lits : List Lit)
    (m n : ℕ) →
    m ≤ n → AreUnmarked marks lits m n → Leads cs first steps marks (take n lits) →
    Leads cs first steps marks (take m lits)
leads-skip cs first steps marks lits m n h u x = record {
  clause = x.clause;
  derived = x.derived;
  same =
      λ l. x.same l ∙ same_test (contains (take n lits) (opposite l) && assigned marks l.variable)
      (contains (take m lits) (opposite l) && assigned marks l.variable) (less l) (more l);
}
  where
    less : (l : Lit) → (contains (take n lits) (opposite l) && assigned marks l.variable) ≡ true →
        (contains (take m lits) (opposite l) && assigned marks l.variable) ≡ true
    less l e = by (cases_lt found.place m)
      where
        found : Stands lits n (opposite l)
        found =
            place_of lits n (opposite l) (and-left (contains (take n lits) (opposite l)) (assigned marks l.variable) e)

        marked : assigned marks l.variable ≡ true
        marked = and-right (contains (take n lits) (opposite l)) (assigned marks l.variable) e

        by : (found.place < m) ⊎ (m ≤ found.place) →
            (contains (take m lits) (opposite l) && assigned marks l.variable) ≡ true
        by (inl b) =
            and-both (contains (take m lits) (opposite l)) (assigned marks l.variable)
            (contains-from lits m (opposite l) found.place b found.at) marked
        by (inr b) = absurd (false≢true (sym (u found.place (opposite l) b found.before found.at) ∙ marked))

    more : (l : Lit) → (contains (take m lits) (opposite l) && assigned marks l.variable) ≡ true →
        (contains (take n lits) (opposite l) && assigned marks l.variable) ≡ true
    more l e = and-both (contains (take n lits) (opposite l)) (assigned marks l.variable)
        (contains-more lits m n (opposite l) h
        (and-left (contains (take m lits) (opposite l)) (assigned marks l.variable) e))
        (and-right (contains (take m lits) (opposite l)) (assigned marks l.variable) e)

-- ---- one step back

pub leads-step : (cs : List Clause) (first : List Lit) (steps : List (Lit × ℕ)) (old new : List Bool) (lits : List Lit)
    (p r : ℕ) (x : Lit) (d : Clause) →
    HasDistinctVariables lits → slice_get lits p ≡ Some x → slice_get cs r ≡ Some d → Forces (take p lits) d.lits x →
    assigned old x.variable ≡ true → IsMarked old d.lits new →
    Leads cs first steps old (take (p + 1) lits) → Leads cs first (steps ++ (opposite x, r) ∷ []) new (take p lits)
leads-step cs first steps old new lits p r x d consistent at there forces marked m before = record {
  clause = rest;
  derived = after_steps-more cs steps (opposite x, r) first c rest before.derived
      (step-from cs c (opposite x) r d there pivot
      (subst (λ y. contains d.lits y ≡ true) (sym (opposite-opposite x)) forces.stands));
  same = λ l. same_test (contains rest l) (contains (take p lits) (opposite l) && assigned new l.variable) (forth l)
      (back l);
}
  where
    c : List Lit
    c = before.clause

    rest : List Lit
    rest = without (opposite x) c ++ without (opposite (opposite x)) d.lits

    unassigned_before : IsUnassigned (take p lits) x
    unassigned_before = consistent p x at

    pivot : contains c (opposite x) ≡ true
    pivot =
        before.same (opposite x)
        ∙ and-both (contains (take (p + 1) lits) (opposite (opposite x))) (assigned old x.variable)
        (ap (contains (take (p + 1) lits)) (opposite-opposite x) ∙ contains-from lits (p + 1) x p (omega arith) at)
        marked

    not_this : (l : Lit) → contains (take p lits) (opposite l) ≡ true → opposite l ≡ x → ⊥
    not_this l h e = false≢true (sym unassigned_before.0 ∙ ap (contains (take p lits)) (sym e) ∙ h)

    forth : (l : Lit) → contains rest l ≡ true → (contains (take p lits) (opposite l) && assigned new l.variable) ≡ true
    forth l h = by (contains-cases (without (opposite x) c) (without (opposite (opposite x)) d.lits) l h)
      where
        both : contains (take p lits) (opposite l) ≡ true →
            (assigned old l.variable || contains_variable d.lits l.variable) ≡ true →
            (contains (take p lits) (opposite l) && assigned new l.variable) ≡ true
        both f g = and-both (contains (take p lits) (opposite l)) (assigned new l.variable) f (m.1 l.variable ∙ g)

        kept : (opposite x ≡ l → ⊥) × (contains c l ≡ true) →
            (contains (take p lits) (opposite l) && assigned new l.variable) ≡ true
        kept k = place (cases_lt found.place p)
          where
            was : (contains (take (p + 1) lits) (opposite l) && assigned old l.variable) ≡ true
            was = sym (before.same l) ∙ k.1

            found : Stands lits (p + 1) (opposite l)
            found =
                place_of lits (p + 1) (opposite l)
                (and-left (contains (take (p + 1) lits) (opposite l)) (assigned old l.variable) was)

            place : (found.place < p) ⊎ (p ≤ found.place) →
                (contains (take p lits) (opposite l) && assigned new l.variable) ≡ true
            place (inl b) =
                both (contains-from lits p (opposite l) found.place b found.at)
                (or-left (assigned old l.variable) (contains_variable d.lits l.variable)
                (and-right (contains (take (p + 1) lits) (opposite l)) (assigned old l.variable) was))
            place (inr b) =
                let f = found.before in
                let here : found.place ≡ p = omega (arith, b, f) in
                let same : x ≡ opposite l =
                same_Some x (opposite l) (sym at ∙ ap (slice_get lits) (sym here) ∙ found.at) in
                absurd (k.0 (ap opposite same ∙ opposite-opposite l))

        new_one : (opposite (opposite x) ≡ l → ⊥) × (contains d.lits l ≡ true) →
            (contains (take p lits) (opposite l) && assigned new l.variable) ≡ true
        new_one k = other (forces.others l k.1)
          where
            other : (l ≡ x) ⊎ (contains (take p lits) (opposite l) ≡ true) →
                (contains (take p lits) (opposite l) && assigned new l.variable) ≡ true
            other (inl e) = absurd (k.0 (opposite-opposite x ∙ sym e))
            other (inr e) =
                both e
                (or-right (assigned old l.variable) (contains_variable d.lits l.variable)
                (contains_variable-from d.lits l k.1))

        by : (contains (without (opposite x) c) l ≡ true) ⊎ (contains (without (opposite (opposite x)) d.lits) l ≡ true)
            → (contains (take p lits) (opposite l) && assigned new l.variable) ≡ true
        by (inl k) = kept (without-had (opposite x) c l k)
        by (inr k) = new_one (without-had (opposite (opposite x)) d.lits l k)

    back : (l : Lit) → (contains (take p lits) (opposite l) && assigned new l.variable) ≡ true → contains rest l ≡ true
    back l h =
        by (or-cases (assigned old l.variable) (contains_variable d.lits l.variable)
        (sym (m.1 l.variable) ∙ and-right (contains (take p lits) (opposite l)) (assigned new l.variable) h))
      where
        false_now : contains (take p lits) (opposite l) ≡ true
        false_now = and-left (contains (take p lits) (opposite l)) (assigned new l.variable) h

        from_clause : (y : Lit) → contains d.lits y ≡ true → (y ≡ l) ⊎ (y ≡ opposite l) → contains rest l ≡ true
        from_clause y k (inl e) =
            contains-right (without (opposite x) c) (without (opposite (opposite x)) d.lits) l
            (without-contains (opposite (opposite x)) d.lits l
            (λ s.
            false≢true
            (sym unassigned_before.1 ∙ ap (λ z. contains (take p lits) (opposite z)) (sym (opposite-opposite x) ∙ s)
            ∙ false_now))
            (subst (λ z. contains d.lits z ≡ true) e k))
        from_clause y k (inr e) = absurd (clash (forces.others y k))
          where
            clash : (y ≡ x) ⊎ (contains (take p lits) (opposite y) ≡ true) → ⊥
            clash (inl s) = not_this l false_now (sym e ∙ s)
            clash (inr s) =
                not_both lits p l consistent
                (sym (ap (λ z. contains (take p lits) (opposite z)) e
                ∙ ap (contains (take p lits)) (opposite-opposite l)) ∙ s) false_now

        by : (assigned old l.variable ≡ true) ⊎ (contains_variable d.lits l.variable ≡ true) → contains rest l ≡ true
        by (inl k) =
            contains-left (without (opposite x) c) (without (opposite (opposite x)) d.lits) l
            (without-contains (opposite x) c l (λ s. not_this l false_now (ap opposite (sym s) ∙ opposite-opposite x))
            (before.same l ∙ and-both (contains (take (p + 1) lits) (opposite l)) (assigned old l.variable)
            (contains-more lits p (p + 1) (opposite l) (omega arith) false_now) k))
        by (inr k) =
            let found = contains_variable-at d.lits l.variable k in
            from_clause found.0 found.1 (same_variable found.0 l found.2)

pub reason_number : (cs : List Clause) (lits : List Lit) (reasons : List (Option ℕ)) (p r : ℕ) →
    (h : HasReason cs lits reasons p) → get_or reasons p None ≡ Some r → h.number ≡ r
reason_number cs lits reasons p r h e =
    same_Some h.number r (sym (get_or_from_slice_get reasons p (Some h.number) None h.reason) ∙ e)

-- the clause of the reason
pub reason_lits : (cs : List Clause) (lits : List Lit) (reasons : List (Option ℕ)) (p r : ℕ) (ls : List Lit) →
    (h : HasReason cs lits reasons p) → get_or reasons p None ≡ Some r → slice_get cs r ≡ Some (clause ls) →
    h.clause.lits ≡ ls
reason_lits cs lits reasons p r ls h e at =
    ap (λ (x : Clause). x.lits)
    (same_Some h.clause (clause ls)
    (sym h.there ∙ ap (slice_get cs) (reason_number cs lits reasons p r h e) ∙ at))

pub leads-resolve : (cs : List Clause) (lits : List Lit) (reasons : List (Option ℕ)) (p r : ℕ) (y : Lit)
    (ls : List Lit) (old new : List Bool) →
    HasReason cs lits reasons p → get_or reasons p None ≡ Some r → slice_get cs r ≡ Some (clause ls) →
    y ≡ get_or lits p y → HasDistinctVariables lits →
    ((l : Lit) → slice_get lits p ≡ Some l → assigned old l.variable ≡ true) → IsMarked old ls new →
    (first : List Lit) (steps : List (Lit × ℕ)) → Leads cs first steps old (take (p + 1) lits) →
    Leads cs first (steps ++ (opposite y, r) ∷ []) new (take p lits)
leads-resolve cs lits reasons p r y ls old new h e at is consistent marked m first steps before =
    subst (λ x. Leads cs first (steps ++ (opposite x, r) ∷ []) new (take p lits))
    (sym (is ∙ get_or_from_slice_get lits p h.lit y h.stands))
    (leads-step cs first steps old new lits p r h.lit h.clause consistent h.stands
    (ap (slice_get cs) (sym (reason_number cs lits reasons p r h e)) ∙ h.there) h.forces (marked h.lit h.stands)
    (subst (λ x. IsMarked old x new) (sym (reason_lits cs lits reasons p r ls h e at)) m) before)

-- every marked variable still has a value
pub placed-more : (cs : List Clause) (lits : List Lit) (reasons : List (Option ℕ)) (p : ℕ) (ls : List Lit)
    (old new : List Bool) → (h : HasReason cs lits reasons p) → h.clause.lits ≡ ls → IsMarked old ls new →
    ((x : ℕ) → assigned old x ≡ true → HasPlace lits x) → (x : ℕ) → assigned new x ≡ true → HasPlace lits x
placed-more cs lits reasons p ls old new h e m placed x k =
    by (or-cases (assigned old x) (contains_variable ls x) (sym (m.1 x) ∙ k))
  where
    one : (l : Lit) → l.variable ≡ x → (l ≡ h.lit) ⊎ (contains (take p lits) (opposite l) ≡ true) → HasPlace lits x
    one l same (inl s) = record {
      place = p;
      lit = h.lit;
      stands = h.stands;
      variable = ap (λ (y : Lit). y.variable) (sym s) ∙ same;
    }
    one l same (inr s) =
        let found = place_of lits p (opposite l) s in
        record { place = found.place; lit = opposite l; stands = found.at; variable = same }

    by : (assigned old x ≡ true) ⊎ (contains_variable ls x ≡ true) → HasPlace lits x
    by (inl s) = placed x s
    by (inr s) =
        let found = contains_variable-at ls x s in
        one found.0 found.2 (h.forces.others found.0 (ap (λ c. contains c found.0) e ∙ found.1))

-- ---- the last marked place

pub found_at : (marks : List Bool) (lits : List Lit) (from to place : ℕ) (o : Option ℕ) →
    IfSome o (λ k. IsLastMarked marks lits from to k) → o ≡ Some place → IsLastMarked marks lits from to place
found_at marks lits from to place o h e = subst (λ x. IfSome x (λ k. IsLastMarked marks lits from to k)) e h

pub found-marked : (marks : List Bool) (lits : List Lit) (from to place : ℕ) → IsLastMarked marks lits from to place →
    (l : Lit) → slice_get lits place ≡ Some l → assigned marks l.variable ≡ true
found-marked marks lits from to place h l e =
    ap (λ (x : Lit). assigned marks x.variable) (same_Some l h.lit (sym e ∙ h.stands)) ∙ h.marked

pub leads-found : (cs : List Clause) (first : List Lit) (steps : List (Lit × ℕ)) (marks : List Bool) (lits : List Lit)
    (from to place : ℕ) →
    IsLastMarked marks lits from to place → Leads cs first steps marks (take to lits) →
    Leads cs first steps marks (take (place + 1) lits)
leads-found cs first steps marks lits from to place h x = let b =
    h.before in leads-skip cs first steps marks lits (place + 1) to (omega (arith, b)) h.last x
