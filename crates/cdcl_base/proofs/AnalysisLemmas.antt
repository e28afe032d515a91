-- Conflict analysis: from the falsified clause to the learnt one.
use Rattle.std.proofs.Common.{◌≡◌, ℕ, zero, suc, ◌+◌, ◌-◌, ◌<◌, ◌≤◌, ◌&&◌, ◌||◌, Bool, true, false, List, []}
use Rattle.std.proofs.Common.{refl, subst, sym, ap, ◌∙◌, arith, ◌⊎◌, inl, inr, take, length, get_or, slice_get, Option}
use Rattle.std.proofs.Common.{Some, None, All, IfNone, is_some}
use Rattle.std.proofs.lemmas.Bool.{false≢true, cases_lt}
use Rattle.std.proofs.lemmas.Option.{same_Some, slice_get_within, get_or_from_slice_get, slice_get-get_or}
use Rattle.cnf_core.specs.declared.clause.Lit.{Lit}
use Rattle.cnf_core.specs.declared.clause.Clause.{Clause}
use Rattle.cnf_core.specs.Clause.{opposite, same_lit, contains, assigned, AreSame, IsSubset, IsOver}
use Rattle.cnf_core.specs.Resolution.{after_steps, clause, IsNewClause}
use Rattle.cnf_core.proofs.Sets.{same_lit-true, same_lit-from, same_lit-itself, different}
use Rattle.cnf_core.proofs.Sets.{opposite-opposite, opposite-same, same_variable, no_literal}
use Rattle.cnf_core.proofs.Over.{over-at, clause-over}
use Rattle.cdcl_base.specs.Trail.{HasDistinctVariables, IsUnassigned, IsFalsified, IsUnresolved, IsPropagated}
use Rattle.cdcl_base.specs.Trail.{ArePropagated}
use Rattle.cdcl_base.specs.Analysis.{contains_variable, AreUnmarked, Leads, IsCollected, IsKeptLength, IsAsserting}
use Rattle.cdcl_base.specs.Analysis.{IsLastFalse, HasPlace}
use Rattle.cdcl_base.proofs.MarkLemmas.{contains_variable-from, contains_variable-at}
use Rattle.cdcl_base.proofs.Places.{Stands, place_of, place_in, contains-from, contains-more, not_yet, contains-at}
use Rattle.cdcl_base.proofs.Places.{contains-part, clash}
use Rattle.list_lemmas.proofs.Bools.{and-both, and_left as and-left, and_right as and-right, or-cases, or-left}
use Rattle.list_lemmas.proofs.Bools.{or-right, same_test, true-or-false}

-- ---- the beginning: all literals of the false clause

pub leads-level_start : (cs : List Clause) (lits c : List Lit) (marks : List Bool) → HasDistinctVariables lits →
    IsFalsified lits c →
    ((x : ℕ) → assigned marks x ≡ contains_variable c x) → Leads cs c [] marks lits
leads-level_start cs lits c marks consistent h m = record {
  clause = c;
  derived = refl;
  same = λ l. same_test (contains c l) (contains lits (opposite l) && assigned marks l.variable)
      (λ k. and-both (contains lits (opposite l)) (assigned marks l.variable) (h l k)
      (m l.variable ∙ contains_variable-from c l k))
      (λ k. back l (and-left (contains lits (opposite l)) (assigned marks l.variable) k)
      (contains_variable-at c l.variable
      (sym (m l.variable) ∙ and-right (contains lits (opposite l)) (assigned marks l.variable) k)));
}
  where
    back : (l : Lit) → contains lits (opposite l) ≡ true →
        ((x : Lit) × (contains c x ≡ true) × (x.variable ≡ l.variable)) → contains c l ≡ true
    back l k found = by (same_variable found.0 l found.2)
      where
        by : (found.0 ≡ l) ⊎ (found.0 ≡ opposite l) → contains c l ≡ true
        by (inl e) = ap (contains c) (sym e) ∙ found.1
        by (inr e) =
            absurd
            (clash lits l consistent
            (sym (ap (λ x. contains lits (opposite x)) e ∙ ap (contains lits) (opposite-opposite l))
            ∙ h found.0 found.1) k)

-- each of its variables has a value
pub conflict-placed : (lits c : List Lit) (marks : List Bool) → IsFalsified lits c →
    ((x : ℕ) → assigned marks x ≡ contains_variable c x) → (x : ℕ) → assigned marks x ≡ true → HasPlace lits x
conflict-placed lits c marks h m x k =
    let found = contains_variable-at c x (sym (m x) ∙ k) in
    let stands = place_in lits (opposite found.0) (h found.0 found.1) in
    record { place = stands.place; lit = opposite found.0; stands = stands.at; variable = found.2 }

-- a clause is over as many variables as there are marks
pub lits-over : (n m : ℕ) (cs : List Clause) (number : ℕ) (c : List Lit) → n ≡ m →
    All (λ (x : Clause). IsOver n x.lits) cs → slice_get cs number ≡ Some (clause c) → IsOver m c
lits-over n m cs number c e over at =
    subst (λ k. IsOver k c) e (clause-over n cs number (clause c) at over)

-- the false clause has a literal of the last level
pub conflict-marked : (cs : List Clause) (lits : List Lit) (level_start number : ℕ) (c : Clause) (marks : List Bool) →
    HasDistinctVariables lits →
    slice_get cs number ≡ Some c → IsFalsified lits c.lits → ArePropagated (take level_start lits) cs →
    ((x : ℕ) → assigned marks x ≡ contains_variable c.lits x) →
    (k : ℕ) × (l : Lit) × (level_start ≤ k) × (slice_get lits k ≡ Some l) × (assigned marks l.variable ≡ true)
conflict-marked cs lits level_start number c marks consistent at h propagated m = by was
  where
    was : IsPropagated (take level_start lits) c.lits
    was = subst (λ (x : Clause). IsPropagated (take level_start lits) x.lits) (get_or_from_slice_get cs number c c at)
        (propagated number c (slice_get_within cs number c at))

    by : IsPropagated (take level_start lits) c.lits →
        (k : ℕ) × (l : Lit) × (level_start ≤ k) × (slice_get lits k ≡ Some l) × (assigned marks l.variable ≡ true)
    by (inl t) = absurd (clash lits t.lit consistent (contains-part lits level_start t.lit t.holds) (h t.lit t.stands))
    by (inr t) = place (cases_lt found.place level_start)
      where
        found : Stands lits (length lits) (opposite t.first)
        found = place_in lits (opposite t.first) (h t.first t.first_stands)

        place : (found.place < level_start) ⊎ (level_start ≤ found.place) →
            (k : ℕ) × (l : Lit) × (level_start ≤ k) × (slice_get lits k ≡ Some l) × (assigned marks l.variable ≡ true)
        place (inl b) =
            absurd
            (false≢true
            (sym t.first_not_false ∙ contains-from lits level_start (opposite t.first) found.place b found.at))
        place (inr b) = (
          found.place,
          opposite t.first,
          b,
          found.at,
          m t.first.variable
              ∙ contains_variable-from c.lits t.first t.first_stands,
        )

-- ---- the end at decision level 0

pub leads-empty : (cs : List Clause) (first : List Lit) (steps : List (Lit × ℕ)) (marks : List Bool) (lits : List Lit)
    (n : ℕ) →
    AreUnmarked marks lits 0 n → Leads cs first steps marks (take n lits) → after_steps cs first steps ≡ Some []
leads-empty cs first steps marks lits n u x = x.derived ∙ ap (λ c. Some c) (no_literal x.clause none)
  where
    none : (l : Lit) → contains x.clause l ≡ false
    none l = by (true-or-false (contains x.clause l))
      where
        by : (contains x.clause l ≡ true) ⊎ (contains x.clause l ≡ false) → contains x.clause l ≡ false
        by (inr f) = f
        by (inl t) =
            let both = sym (x.same l) ∙ t in
            let found =
            place_of lits n (opposite l)
            (and-left (contains (take n lits) (opposite l)) (assigned marks l.variable) both) in
            absurd
            (false≢true (sym (u found.place (opposite l) (omega arith) found.before found.at)
            ∙ and-right (contains (take n lits) (opposite l)) (assigned marks l.variable) both))

-- ---- the literals of the learnt clause

-- it is what the steps led to
pub collected-same : (cs : List Clause) (first : List Lit) (steps : List (Lit × ℕ)) (marks : List Bool)
    (lits : List Lit) (level_start place : ℕ) (x : Lit) (c : List Lit) →
    level_start ≤ place → slice_get lits place ≡ Some x → assigned marks x.variable ≡ true →
    AreUnmarked marks lits level_start place →
    (led : Leads cs first steps marks (take (place + 1) lits)) → IsCollected marks lits (opposite x) level_start c →
    AreSame led.clause c
collected-same cs first steps marks lits level_start place x c h at marked u led k l =
    same_test (contains led.clause l) (contains c l) forth back
  where
    forth : contains led.clause l ≡ true → contains c l ≡ true
    forth t = k l ∙ by (cases_lt found.place level_start)
      where
        both : (contains (take (place + 1) lits) (opposite l) && assigned marks l.variable) ≡ true
        both = sym (led.same l) ∙ t

        found : Stands lits (place + 1) (opposite l)
        found =
            place_of lits (place + 1) (opposite l)
            (and-left (contains (take (place + 1) lits) (opposite l)) (assigned marks l.variable) both)

        mark : assigned marks l.variable ≡ true
        mark = and-right (contains (take (place + 1) lits) (opposite l)) (assigned marks l.variable) both

        later : (found.place < place) ⊎ (place ≤ found.place) → level_start ≤ found.place →
            (same_lit l (opposite x) || (contains (take level_start lits) (opposite l) && assigned marks l.variable)) ≡
            true
        later (inl b) s = absurd (false≢true (sym (u found.place (opposite l) s b found.at) ∙ mark))
        later (inr b) s =
            let f = found.before in
            let here : found.place ≡ place = omega (arith, b, f) in
            let same : opposite l ≡ x = same_Some (opposite l) x (sym found.at ∙ ap (slice_get lits) here ∙ at) in
            or-left (same_lit l (opposite x))
            (contains (take level_start lits) (opposite l) && assigned marks l.variable)
            (same_lit-from l (opposite x) (sym (opposite-opposite l) ∙ ap opposite same))

        by : (found.place < level_start) ⊎ (level_start ≤ found.place) →
            (same_lit l (opposite x) || (contains (take level_start lits) (opposite l) && assigned marks l.variable)) ≡
            true
        by (inl b) =
            or-right (same_lit l (opposite x))
            (contains (take level_start lits) (opposite l) && assigned marks l.variable)
            (and-both (contains (take level_start lits) (opposite l)) (assigned marks l.variable)
            (contains-from lits level_start (opposite l) found.place b found.at) mark)
        by (inr b) = later (cases_lt found.place place) b

    back : contains c l ≡ true → contains led.clause l ≡ true
    back t =
        led.same l
        ∙ by
        (or-cases (same_lit l (opposite x)) (contains (take level_start lits) (opposite l) && assigned marks l.variable)
        (sym (k l) ∙ t))
      where
        by : (same_lit l (opposite x) ≡ true) ⊎
            ((contains (take level_start lits) (opposite l) && assigned marks l.variable) ≡ true) →
            (contains (take (place + 1) lits) (opposite l) && assigned marks l.variable) ≡ true
        by (inl e) =
            let same : opposite l ≡ x = ap opposite (same_lit-true l (opposite x) e) ∙ opposite-opposite x in
            and-both (contains (take (place + 1) lits) (opposite l)) (assigned marks l.variable)
            (contains-from lits (place + 1) (opposite l) place (omega arith) (at ∙ ap (λ y. Some y) (sym same)))
            (ap (λ (y : Lit). assigned marks y.variable) same ∙ marked)
        by (inr e) = and-both (contains (take (place + 1) lits) (opposite l)) (assigned marks l.variable)
            (contains-more lits level_start (place + 1) (opposite l) (omega (arith, h))
            (and-left (contains (take level_start lits) (opposite l)) (assigned marks l.variable) e))
            (and-right (contains (take level_start lits) (opposite l)) (assigned marks l.variable) e)

-- ---- what the learnt clause says

-- its literals are false
collected-false : (marks : List Bool) (lits : List Lit) (level_start place : ℕ) (x : Lit) (c : List Lit) →
    slice_get lits place ≡ Some x → IsCollected marks lits (opposite x) level_start c → IsFalsified lits c
collected-false marks lits level_start place x c at k l t =
    by (or-cases (same_lit l (opposite x)) (contains (take level_start lits) (opposite l) && assigned marks l.variable)
    (sym (k l) ∙ t))
  where
    by : (same_lit l (opposite x) ≡ true) ⊎
        ((contains (take level_start lits) (opposite l) && assigned marks l.variable) ≡ true) →
        contains lits (opposite l) ≡ true
    by (inl e) =
        let same : opposite l ≡ x = ap opposite (same_lit-true l (opposite x) e) ∙ opposite-opposite x in
        contains-part lits (place + 1) (opposite l)
        (contains-from lits (place + 1) (opposite l) place (omega arith) (at ∙ ap (λ y. Some y) (sym same)))
    by (inr e) =
        contains-part lits level_start (opposite l)
        (and-left (contains (take level_start lits) (opposite l)) (assigned marks l.variable) e)

-- none of the clauses is a subset of it, since each was propagated before the last decision
pub collected-new_clause : (cs : List Clause) (marks : List Bool) (lits : List Lit) (level_start place : ℕ) (x : Lit)
    (c : List Lit) → HasDistinctVariables lits → ArePropagated (take level_start lits) cs →
    slice_get lits place ≡ Some x → IsCollected marks lits (opposite x) level_start c → IsNewClause cs c
collected-new_clause cs marks lits level_start place x c consistent propagated at k =
    record { not_tautology = not_tautology; not_subsumed = λ j d h w. by (get_or cs j d).lits (propagated j d h) w }
  where
    false_all : IsFalsified lits c
    false_all = collected-false marks lits level_start place x c at k

    not_tautology : (l : Lit) → contains c l ≡ true → contains c (opposite l) ≡ false
    not_tautology l t = side (true-or-false (contains c (opposite l)))
      where
        side : (contains c (opposite l) ≡ true) ⊎ (contains c (opposite l) ≡ false) → contains c (opposite l) ≡ false
        side (inr f) = f
        side (inl s) = absurd (clash lits (opposite l) consistent (false_all l t) (false_all (opposite l) s))

    only : (l : Lit) → contains c l ≡ true → contains (take level_start lits) (opposite l) ≡ false → l ≡ opposite x
    only l t f =
        side
        (or-cases (same_lit l (opposite x)) (contains (take level_start lits) (opposite l) && assigned marks l.variable)
        (sym (k l) ∙ t))
      where
        side : (same_lit l (opposite x) ≡ true) ⊎
            ((contains (take level_start lits) (opposite l) && assigned marks l.variable) ≡ true) → l ≡ opposite x
        side (inl e) = same_lit-true l (opposite x) e
        side (inr e) =
            absurd
            (false≢true
            (sym f ∙ and-left (contains (take level_start lits) (opposite l)) (assigned marks l.variable) e))

    by : (d : List Lit) → IsPropagated (take level_start lits) d → IsSubset d c → ⊥
    by d (inl t) w =
        clash lits t.lit consistent (contains-part lits level_start t.lit t.holds) (false_all t.lit (w t.lit t.stands))
    by d (inr t) w =
        let one = only t.first (w t.first t.first_stands) t.first_not_false in
        let two = only t.second (w t.second t.second_stands) t.second_not_false in
        false≢true (sym t.differ ∙ same_lit-from t.first t.second (one ∙ sym two))

-- it forces its literal of the last level further back, and said nothing before
pub collected-asserting : (marks : List Bool) (lits : List Lit) (level_start place keep : ℕ) (x : Lit) (c : List Lit) →
    HasDistinctVariables lits → level_start ≤ place →
    slice_get lits place ≡ Some x → IsCollected marks lits (opposite x) level_start c →
    IsKeptLength marks lits level_start keep → IsAsserting lits c (opposite x) level_start keep
collected-asserting marks lits level_start place keep x c consistent h at k kept = record {
  kept = within keep kept;
  unassigned =
      λ n b. ((unassigned_at n b).1, ap (contains (take n lits)) (opposite-opposite x) ∙ (unassigned_at n b).0);
  forces =
      λ n b.
      record {
        stands = stands;
        others =
            λ l t.
            others keep kept n b l
            (or-cases (same_lit l (opposite x))
            (contains (take level_start lits) (opposite l) && assigned marks l.variable)
            (sym (k l) ∙ t));
      };
  propagated = λ n b. inr (two keep kept n b);
}
  where
    stands : contains c (opposite x) ≡ true
    stands =
        k (opposite x)
        ∙ or-left (same_lit (opposite x) (opposite x))
        (contains (take level_start lits) (opposite (opposite x)) && assigned marks x.variable)
        (same_lit-itself (opposite x))

    unassigned_at : (n : ℕ) → n ≤ level_start → IsUnassigned (take n lits) x
    unassigned_at n b =
        let o = consistent place x at in
        (not_yet lits n place x (omega (arith, b, h)) o.0, not_yet lits n place (opposite x) (omega (arith, b, h)) o.1)

    within : (m : ℕ) → IsKeptLength marks lits level_start m → m ≤ level_start
    within zero u = omega arith
    within (suc m) u = let b = u.before in omega (arith, b)

    others : (m : ℕ) → IsKeptLength marks lits level_start m → (n : ℕ) → m ≤ n → (l : Lit) →
        (same_lit l (opposite x) ≡ true) ⊎
        ((contains (take level_start lits) (opposite l) && assigned marks l.variable) ≡ true) →
        (l ≡ opposite x) ⊎ (contains (take n lits) (opposite l) ≡ true)
    others m u n b l (inl e) = inl (same_lit-true l (opposite x) e)
    others m u n b l (inr e) = inr (contains-from lits n (opposite l) found.place (earlier m u b) found.at)
      where
        found : Stands lits level_start (opposite l)
        found =
            place_of lits level_start (opposite l)
            (and-left (contains (take level_start lits) (opposite l)) (assigned marks l.variable) e)

        mark : assigned marks l.variable ≡ true
        mark = and-right (contains (take level_start lits) (opposite l)) (assigned marks l.variable) e

        earlier : (m : ℕ) → IsKeptLength marks lits level_start m → m ≤ n → found.place < n
        earlier zero u b =
            absurd (false≢true (sym (u found.place (opposite l) (omega arith) found.before found.at) ∙ mark))
        earlier (suc m) u b = side (cases_lt found.place (m + 1))
          where
            side : (found.place < m + 1) ⊎ (m + 1 ≤ found.place) → found.place < n
            side (inl s) = omega (arith, s, b)
            side (inr s) = absurd (false≢true (sym (u.last found.place (opposite l) s found.before found.at) ∙ mark))

    two : (m : ℕ) → IsKeptLength marks lits level_start m → (n : ℕ) → n < m → IsUnresolved (take n lits) c
    two zero u n b = absurd (omega (arith, b))
    two (suc m) u n b = record {
      first = opposite x;
      second = opposite u.lit;
      differ = different (opposite x) (opposite u.lit) (λ e. distinct (opposite-same x u.lit e));
      first_stands = stands;
      second_stands =
          k (opposite u.lit)
          ∙ or-right (same_lit (opposite u.lit) (opposite x))
          (contains (take level_start lits) (opposite (opposite u.lit)) && assigned marks u.lit.variable)
          (and-both (contains (take level_start lits) (opposite (opposite u.lit))) (assigned marks u.lit.variable)
          (ap (contains (take level_start lits)) (opposite-opposite u.lit)
          ∙ contains-from lits level_start u.lit m u.before u.stands) u.marked);
      first_not_false = ap (contains (take n lits)) (opposite-opposite x)
          ∙ (let s = u.before in not_yet lits n place x (omega (arith, b, s, h)) (consistent place x at).0);
      second_not_false = ap (contains (take n lits)) (opposite-opposite u.lit)
          ∙ not_yet lits n m u.lit (omega (arith, b)) (consistent m u.lit u.stands).0;
    }
      where
        distinct : x ≡ u.lit → ⊥
        distinct e = let s = u.before in
            false≢true (sym (consistent place x at).0 ∙ ap (contains (take place lits)) e
            ∙ contains-from lits place u.lit m (omega (arith, s, h)) u.stands)

-- the other literal that became false last
pub collected-last : (marks : List Bool) (lits : List Lit) (level_start place keep : ℕ) (x last : Lit)
    (c : List Lit) → HasDistinctVariables lits → level_start ≤ place →
    slice_get lits place ≡ Some x → IsCollected marks lits (opposite x) level_start c →
    IsKeptLength marks lits level_start keep → 0 < keep → slice_get lits (keep - 1) ≡ Some (opposite last) →
    IsLastFalse lits c (opposite x) keep last
collected-last marks lits level_start place zero x last c consistent h at k kept some there =
    absurd (omega (arith, some))
collected-last marks lits level_start place (suc m) x last c consistent h at k u some here = record {
  stands =
      k last
      ∙ or-right (same_lit last (opposite x))
      (contains (take level_start lits) (opposite last) && assigned marks last.variable)
      (and-both (contains (take level_start lits) (opposite last)) (assigned marks last.variable)
      (contains-from lits level_start (opposite last) m u.before there)
      (ap (λ (y : Lit). assigned marks y.variable) same ∙ u.marked));
  differs = different (opposite x) last (λ e. distinct (sym (opposite-opposite x) ∙ ap opposite e ∙ same));
  falsified = here;
  unassigned =
      λ n b.
      let free = consistent m (opposite last) there in (
        ap (contains (take n lits)) (sym (opposite-opposite last))
            ∙ not_yet lits n m (opposite (opposite last)) (omega (arith, b)) free.1,
        not_yet lits n m (opposite last) (omega (arith, b)) free.0,
      );
}
  where
    place_is : suc m - 1 ≡ m
    place_is = omega arith

    there : slice_get lits m ≡ Some (opposite last)
    there = ap (slice_get lits) (sym place_is) ∙ here

    same : opposite last ≡ u.lit
    same = same_Some (opposite last) u.lit (sym there ∙ u.stands)

    distinct : x ≡ u.lit → ⊥
    distinct e = let s = u.before in
        false≢true (sym (consistent place x at).0 ∙ ap (contains (take place lits)) e
        ∙ contains-from lits place u.lit m (omega (arith, s, h)) u.stands)

-- ---- over the same variables

pub over-from : (variables : ℕ) (c : List Lit) → ((l : Lit) → contains c l ≡ true → l.variable < variables) →
    IsOver variables c
over-from variables c h k d b = h (get_or c k d) (contains-at c (get_or c k d) k (slice_get-get_or c k d b))

pub collected-over : (variables : ℕ) (marks : List Bool) (lits : List Lit) (level_start place : ℕ) (x : Lit)
    (c : List Lit) → IsOver variables lits →
    slice_get lits place ≡ Some x → IsCollected marks lits (opposite x) level_start c → IsOver variables c
collected-over variables marks lits level_start place x c over at k =
    over-from variables c
    (λ l t. over-at variables lits (opposite l) over (collected-false marks lits level_start place x c at k l t))

-- what is said of no place, where there is none
pub where_none : (o : Option ℕ) (P : Type 0) → IfNone o P → is_some o ≡ false → P
where_none None P h e = h
where_none (Some k) P h e = absurd (false≢true (sym e))
