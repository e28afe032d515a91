-- What the marks and the list of added literals say of the set.
use Rattle.std.proofs.Common.{◌≡◌, ℕ, ◌<◌, ◌&&◌, ◌||◌, Bool, true, false, not, cond, List, [], ◌∷◌, ◌++◌}
use Rattle.std.proofs.Common.{refl, sym, ap, ◌∙◌, subst, filter, length, get_or, unwrap_or, slice_get}
use Rattle.std.proofs.Math.Bool.{and-false, or-false}
use Rattle.std.proofs.lemmas.Bool.{false≢true}
use Rattle.std.proofs.lemmas.List.Folds.{list_any_at}
use Rattle.cnf_core.specs.declared.clause.Lit.{Lit}
use Rattle.cnf_core.specs.Clause.{same_lit, contains, IsOver}
use Rattle.cnf_core.proofs.Sets.{same_lit-true, same_lit-itself, same_lit-sym, contains-append, contains-head}
use Rattle.cnf_core.proofs.Sets.{contains-left, contains-right}
use Rattle.proof_check.specs.declared.marks.Marks.{Marks}
use Rattle.proof_check.specs.Marks.{is_marked, KeepsMarks}
use Rattle.proof_check.specs.LitSet.{Literals, literals_of, IsLitSet, AreDistinct}
use Rattle.list_lemmas.proofs.Bools.{or-right}
use Rattle.list_lemmas.proofs.Lookups.{read-within}

-- the literals that pass a test
pub contains-filter : (p : Lit → Bool) (c : List Lit) (l : Lit) → contains (filter p c) l ≡ (p l && contains c l)
contains-filter p [] l = sym (and-false (p l))
contains-filter p (x ∷ xs) l =
    by (same_lit l x) (p x) (p l) (contains xs l) refl (λ s. ap p (same_lit-true l x s)) (contains-filter p xs l)
  where
    by : (b q r h : Bool) → same_lit l x ≡ b → (b ≡ true → r ≡ q) → contains (filter p xs) l ≡ (r && h) →
        contains (cond q (x ∷ filter p xs) (filter p xs)) l ≡ (r && (b || h))
    by true true r h e k ih = ap (λ z. z || contains (filter p xs) l) e ∙ ap (λ z. z && true) (sym (k refl))
    by true false r h e k ih = ih ∙ ap (λ z. z && h) (k refl) ∙ ap (λ z. z && true) (sym (k refl))
    by false true r h e k ih = ap (λ z. z || contains (filter p xs) l) e ∙ ih
    by false false r h e k ih = ih

-- the set has the literals that are marked
pub literals-marked : (variables : ℕ) (marks : Marks) (added : List Lit) → IsLitSet variables marks added → (l : Lit) →
    contains (filter (is_marked marks) added) l ≡ is_marked marks l
literals-marked variables marks added kept l = contains-filter (is_marked marks) added l ∙ by (is_marked marks l) refl
  where
    by : (b : Bool) → is_marked marks l ≡ b → (b && contains added l) ≡ b
    by true e = kept.listed l e
    by false e = refl

pub set-marked : (variables : ℕ) (marks : Marks) (added : List Lit) (s : Literals) → IsLitSet variables marks added →
    literals_of variables marks added ≡ s →
    (l : Lit) → contains s.lits l ≡ is_marked marks l
set-marked variables marks added s kept e l = ap (λ (t : Literals). contains t.lits l) (sym e)
    ∙ literals-marked variables marks added kept l

-- a marked literal's variable is there
pub marked-within : (variables : ℕ) (marks : Marks) (l : Lit) → length marks.positive.items ≡ variables →
    length marks.negative.items ≡ variables →
    is_marked marks l ≡ true → l.variable < variables
marked-within variables marks l p n e = by l.positive e
  where
    by : (b : Bool) → unwrap_or (slice_get (cond b marks.positive.items marks.negative.items) l.variable) false ≡ true →
        l.variable < variables
    by true h = subst (λ k. l.variable < k) p (read-within marks.positive.items l.variable h)
    by false h = subst (λ k. l.variable < k) n (read-within marks.negative.items l.variable h)

-- a literal that the clause contains adds nothing
pub contains-again : (c : List Lit) (lit l : Lit) → contains c lit ≡ true →
    contains c l ≡ (same_lit lit l || contains c l)
contains-again c lit l h = by (same_lit lit l) refl
  where
    by : (b : Bool) → same_lit lit l ≡ b → contains c l ≡ (b || contains c l)
    by true e = ap (contains c) (sym (same_lit-true lit l e)) ∙ h
    by false e = refl

-- a literal that does not stand in the clause takes nothing away
pub contains-still : (c : List Lit) (lit l : Lit) → contains c lit ≡ false →
    contains c l ≡ (not (same_lit lit l) && contains c l)
contains-still c lit l h = by (same_lit lit l) refl
  where
    by : (b : Bool) → same_lit lit l ≡ b → contains c l ≡ (not b && contains c l)
    by true e = ap (contains c) (sym (same_lit-true lit l e)) ∙ h
    by false e = refl

-- one more mark, and its literal in the list
pub set-added : (variables : ℕ) (old new : Marks) (added : List Lit) (lit : Lit) → IsLitSet variables old added →
    length new.positive.items ≡ length old.positive.items → length new.negative.items ≡ length old.negative.items →
    ((l : Lit) → is_marked new l ≡ cond (same_lit lit l) true (is_marked old l)) →
    IsLitSet variables new (added ++ lit ∷ [])
set-added variables old new added lit kept p n now = record {
  positive = p ∙ kept.positive;
  negative = n ∙ kept.negative;
  listed = λ l e. by l (same_lit lit l) refl (sym (now l) ∙ e);
}
  where
    by : (l : Lit) (b : Bool) → same_lit lit l ≡ b → cond b true (is_marked old l) ≡ true →
        contains (added ++ lit ∷ []) l ≡ true
    by l true e h =
        contains-right added (lit ∷ []) l (ap (contains (lit ∷ [])) (sym (same_lit-true lit l e))
        ∙ contains-head lit [])
    by l false e h = contains-left added (lit ∷ []) l (kept.listed l h)

pub added-marked : (old new : Marks) (lit : Lit) →
    ((l : Lit) → is_marked new l ≡ cond (same_lit lit l) true (is_marked old l)) →
    (l : Lit) → is_marked new l ≡ (same_lit lit l || is_marked old l)
added-marked old new lit now l = now l ∙ by (same_lit lit l)
  where
    by : (b : Bool) → cond b true (is_marked old l) ≡ (b || is_marked old l)
    by true = refl
    by false = refl

-- one mark less
pub set-removed : (variables : ℕ) (old new : Marks) (added : List Lit) (lit : Lit) → IsLitSet variables old added →
    length new.positive.items ≡ length old.positive.items → length new.negative.items ≡ length old.negative.items →
    ((l : Lit) → is_marked new l ≡ cond (same_lit lit l) false (is_marked old l)) → IsLitSet variables new added
set-removed variables old new added lit kept p n now = record {
  positive = p ∙ kept.positive;
  negative = n ∙ kept.negative;
  listed = λ l e. by l (same_lit lit l) (sym (now l) ∙ e);
}
  where
    by : (l : Lit) (b : Bool) → cond b false (is_marked old l) ≡ true → contains added l ≡ true
    by l true h = absurd (false≢true h)
    by l false h = kept.listed l h

pub removed-marked : (old new : Marks) (lit : Lit) →
    ((l : Lit) → is_marked new l ≡ cond (same_lit lit l) false (is_marked old l)) →
    (l : Lit) → is_marked new l ≡ (not (same_lit lit l) && is_marked old l)
removed-marked old new lit now l = now l ∙ by (same_lit lit l)
  where
    by : (b : Bool) → cond b false (is_marked old l) ≡ (not b && is_marked old l)
    by true = refl
    by false = refl

-- marks that are taken away: those left stand in the rest of the list, and those gone in the clause
pub record Unmarks (old new : Marks) (rest lits : List Lit) : Type 0 where
  pub kept : KeepsMarks old new
  pub listed : (l : Lit) → is_marked new l ≡ true → contains rest l ≡ true
  pub moved : (l : Lit) → (contains lits l || is_marked new l) ≡ is_marked old l
  pub apart : (l : Lit) → is_marked new l ≡ true → contains lits l ≡ false
  pub distinct : AreDistinct lits

-- a clause of marked literals is over the variables
pub marked-over : (variables : ℕ) (marks : Marks) (added c : List Lit) → IsLitSet variables marks added →
    ((l : Lit) → contains c l ≡ is_marked marks l) → IsOver variables c
marked-over variables marks added c kept same = λ k d within.
    let here = list_any_at (same_lit (get_or c k d)) c k d within (same_lit-itself (get_or c k d)) in
    marked-within variables marks (get_or c k d) kept.positive kept.negative (sym (same (get_or c k d)) ∙ here)

-- what `get_or` gives past the end
abbrev pub no_lit : Lit
no_lit = record { variable = 0; positive = false }

-- one more literal at the end
contains-push : (c : List Lit) (lit l : Lit) → contains (c ++ lit ∷ []) l ≡ (contains c l || same_lit l lit)
contains-push c lit l = contains-append c (lit ∷ []) l ∙ ap (λ b. contains c l || b) (or-false (same_lit l lit))

AreDistinct-push : (c : List Lit) (lit : Lit) → AreDistinct c → contains c lit ≡ false → AreDistinct (c ++ lit ∷ [])
AreDistinct-push [] lit d new = (refl, tt)
AreDistinct-push (x ∷ xs) lit d new = by (same_lit lit x) refl new (AreDistinct-push xs lit d.1)
  where
    by : (b : Bool) → same_lit lit x ≡ b → (b || contains xs lit) ≡ false →
        (contains xs lit ≡ false → AreDistinct (xs ++ lit ∷ [])) →
        (contains (xs ++ lit ∷ []) x ≡ false) × AreDistinct (xs ++ lit ∷ [])
    by true e f more = absurd (false≢true (sym f))
    by false e f more = (contains-push xs lit x ∙ ap (λ b. b || same_lit x lit) d.0 ∙ same_lit-sym x lit ∙ e, more f)

-- a literal that is not marked is passed over
pub Unmarks-pass : (old now : Marks) (lit : Lit) (rest lits : List Lit) → is_marked now lit ≡ false →
    Unmarks old now (lit ∷ rest) lits → Unmarks old now rest lits
Unmarks-pass old now lit rest lits unmarked u = record {
  kept = u.kept;
  listed = λ l e. by l e (same_lit l lit) refl (u.listed l e);
  moved = u.moved;
  apart = u.apart;
  distinct = u.distinct;
}
  where
    by : (l : Lit) → is_marked now l ≡ true → (b : Bool) → same_lit l lit ≡ b → (b || contains rest l) ≡ true →
        contains rest l ≡ true
    by l e true s h = absurd (false≢true (sym unmarked ∙ ap (is_marked now) (sym (same_lit-true l lit s)) ∙ e))
    by l e false s h = h

-- a literal that is marked moves into the clause
pub Unmarks-move : (old now new : Marks) (lit : Lit) (rest lits : List Lit) → is_marked now lit ≡ true →
    length new.positive.items ≡ length now.positive.items → length new.negative.items ≡ length now.negative.items →
    ((l : Lit) → is_marked new l ≡ cond (same_lit lit l) false (is_marked now l)) →
    Unmarks old now (lit ∷ rest) lits → Unmarks old new rest (lits ++ lit ∷ [])
Unmarks-move old now new lit rest lits marked p n is u = record {
  kept = record {
    positive = p ∙ u.kept.positive;
    negative = n ∙ u.kept.negative;
    no_more = λ l e. u.kept.no_more l (other l e).1;
  };
  listed = λ l e. ap (λ b. b || contains rest l) (sym (same_lit-sym l lit ∙ (other l e).0)) ∙ u.listed l (other l e).1;
  moved = λ l. move l (same_lit lit l) refl;
  apart = λ l e. contains-push lits lit l ∙ ap (λ b. b || same_lit l lit) (u.apart l (other l e).1) ∙ same_lit-sym l lit
      ∙ (other l e).0;
  distinct = AreDistinct-push lits lit u.distinct (u.apart lit marked);
}
  where
    other : (l : Lit) → is_marked new l ≡ true → (same_lit lit l ≡ false) × (is_marked now l ≡ true)
    other l e = by (same_lit lit l) refl (sym (is l) ∙ e)
      where
        by : (b : Bool) → same_lit lit l ≡ b → cond b false (is_marked now l) ≡ true →
            (same_lit lit l ≡ false) × (is_marked now l ≡ true)
        by true s h = absurd (false≢true h)
        by false s h = (s, h)

    move : (l : Lit) (b : Bool) → same_lit lit l ≡ b →
        (contains (lits ++ lit ∷ []) l || is_marked new l) ≡ is_marked old l
    move l true s =
        let here : contains (lits ++ lit ∷ []) l ≡ true =
        contains-right lits (lit ∷ []) l (ap (contains (lit ∷ [])) (sym (same_lit-true lit l s))
        ∙ contains-head lit []) in
        let was : is_marked old l ≡ true =
        sym (u.moved l)
        ∙ or-right (contains lits l) (is_marked now l) (ap (is_marked now) (sym (same_lit-true lit l s)) ∙ marked)
        in
        ap (λ b. b || is_marked new l) here ∙ sym was
    move l false s =
        let same : is_marked new l ≡ is_marked now l = is l ∙ ap (λ b. cond b false (is_marked now l)) s in
        let has_same : contains (lits ++ lit ∷ []) l ≡ contains lits l =
        contains-push lits lit l ∙ ap (λ b. contains lits l || b) (same_lit-sym l lit ∙ s)
        ∙ or-false (contains lits l) in
        (λ i. has_same i || same i) ∙ u.moved l
