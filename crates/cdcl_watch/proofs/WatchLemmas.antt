-- The watches of clauses, as the clauses of one list are visited one after another.
use Rattle.std.proofs.Common.{◌≡◌, ◌∙◌, ◌⊎◌, inl, inr, ℕ, ◌+◌, ◌<◌, ◌≤◌, ◌||◌, Bool, true, false, List, [], ◌∷◌}
use Rattle.std.proofs.Common.{◌++◌, Some, refl, sym, ap, subst, arith, slice_get, length, take, take_all, get_or}
use Rattle.std.proofs.Common.{slice_set, if◌then◌else◌}
use Rattle.std.proofs.lemmas.Bool.{false≢true}
use Rattle.std.proofs.lemmas.Option.{same_Some, slice_get_within, get_or_from_slice_get, slice_get-get_or}
use Rattle.std.proofs.lemmas.List.{take_more, take-append-le}
use Rattle.cnf_core.specs.declared.clause.Lit.{Lit}
use Rattle.cnf_core.specs.declared.clause.Clause.{Clause}
use Rattle.cnf_core.specs.Clause.{opposite, same_lit, contains}
use Rattle.cnf_core.proofs.Sets.{same_lit-true, same_lit-from, same_lit-itself, contains-append}
use Rattle.cnf_core.proofs.Sets.{contains-left, opposite-opposite}
use Rattle.list_lemmas.proofs.Bools.{true-or-false, false_unless}
use Rattle.list_lemmas.proofs.Lookups.{slice_get-set_same, slice_get-set_other, slice_get-left}
use Rattle.list_lemmas.proofs.Numbers.{equal-or-not}
use Rattle.cdcl_base.specs.Trail.{Trail, IsSatisfied, IsPropagated, ArePropagated}
use Rattle.cdcl_base.specs.Trail.{IsTrail, Forces}
use Rattle.cdcl_base.proofs.Places.{not_yet}
use Rattle.cdcl_base.proofs.TrailLemmas.{forced, AreReasons-forced}
use Rattle.cdcl_watch.specs.declared.lists.Watcher.{Watcher}
use Rattle.cdcl_watch.specs.declared.propagation.Pair.{Pair}
use Rattle.cdcl_watch.specs.Lists.{clause_number, watchers}
use Rattle.cdcl_watch.specs.Watches.{IsPair, IsWatched, AreWatched, IsWatcher, IsListed, AreLists, IsWatching}
use Rattle.cdcl_watch.specs.Watches.{IsPassed, with_list, IsVisiting}

-- ---- one clause

-- watches that are not false by all literals: the clause is propagated
pub watched-propagated : (lits c : List Lit) (p : Pair) → IsWatched lits lits c p → IsPropagated lits c
watched-propagated lits c p (inl h) = inl h
watched-propagated lits c p (inr h) = inr (record {
  first = p.first;
  second = p.second;
  differ = h.pair.differ;
  first_stands = h.pair.first;
  second_stands = h.pair.second;
  first_not_false = h.first;
  second_not_false = h.second;
})

-- more true literals, and the same at the front
pub watched-more : (lits more front c : List Lit) (p : Pair) → IsWatched lits front c p →
    IsWatched (lits ++ more) front c p
watched-more lits more front c p (inl h) =
    inl (record { lit = h.lit; stands = h.stands; holds = contains-left lits more h.lit h.holds })
watched-more lits more front c p (inr h) = inr h

-- a literal that is not the opposite of the next one is not false by it
not_false-more : (lits : List Lit) (n : ℕ) (untrue l : Lit) → slice_get lits n ≡ Some (opposite untrue) →
    contains (take n lits) (opposite l) ≡ false → same_lit l untrue ≡ false →
    contains (take (n + 1) lits) (opposite l) ≡ false
not_false-more lits n untrue l at free differs =
    ap (λ xs. contains xs (opposite l)) front ∙ contains-append (take n lits) (opposite untrue ∷ []) (opposite l)
    ∙ none (contains (take n lits) (opposite l)) (same_lit (opposite l) (opposite untrue)) free
    (false_unless (same_lit (opposite l) (opposite untrue)) (λ e. false≢true (sym differs ∙ same_lit-from l untrue
    (sym (opposite-opposite l) ∙ ap opposite (same_lit-true (opposite l) (opposite untrue) e)
    ∙ opposite-opposite untrue))))
  where
    within : n < length lits
    within = slice_get_within lits n (opposite untrue) at

    front : take (n + 1) lits ≡ take n lits ++ opposite untrue ∷ []
    front = take_more lits n (opposite untrue) within
        ∙ ap (λ (l : Lit). take n lits ++ l ∷ []) (get_or_from_slice_get lits n (opposite untrue) (opposite untrue) at)

    none : (a b : Bool) → a ≡ false → b ≡ false → (a || (b || false)) ≡ false
    none true b e f = absurd (false≢true (sym e))
    none false true e f = absurd (false≢true (sym f))
    none false false e f = refl

-- ---- the literal at the head

-- a clause that does not watch a literal is watched beyond its opposite
pub watched-beyond : (lits : List Lit) (n : ℕ) (untrue : Lit) (c : List Lit) (p : Pair) →
    slice_get lits n ≡ Some (opposite untrue) → IsWatched lits (take n lits) c p →
    (IsPair c p → same_lit p.first untrue ≡ false) → (IsPair c p → same_lit p.second untrue ≡ false) →
    IsWatched lits (take (n + 1) lits) c p
watched-beyond lits n untrue c p at (inl h) first second = inl h
watched-beyond lits n untrue c p at (inr h) first second = inr (record {
  pair = h.pair;
  first = not_false-more lits n untrue p.first at h.first (first h.pair);
  second = not_false-more lits n untrue p.second at h.second (second h.pair);
})

-- a new watch in place of the one that is false
pub watched-moved : (lits : List Lit) (n : ℕ) (untrue : Lit) (c : List Lit) (p : Pair) (l : Lit) (q : Pair) →
    slice_get lits n ≡ Some (opposite untrue) → IsWatched lits (take n lits) c p → IsPair c q →
    ((p.first ≡ q.first) ⊎ (p.second ≡ q.first)) → same_lit q.first untrue ≡ false →
    contains lits (opposite q.second) ≡ false →
    IsWatched lits (take (n + 1) lits) c q
watched-moved lits n untrue c p l q at (inl h) pair kept differs free = inl h
watched-moved lits n untrue c p l q at (inr h) pair kept differs free = inr (record {
  pair = pair;
  first = not_false-more lits n untrue q.first at (one kept) differs;
  second = not_yet lits (n + 1) (length lits) (opposite q.second) (omega (
    arith,
    slice_get_within lits n (opposite
        untrue) at,
  ))
      (ap (λ xs. contains xs (opposite q.second)) (take_all (length lits) lits (omega arith)) ∙ free);
})
  where
    one : (p.first ≡ q.first) ⊎ (p.second ≡ q.first) → contains (take n lits) (opposite q.first) ≡ false
    one (inl e) = subst (λ l. contains (take n lits) (opposite l) ≡ false) e h.first
    one (inr e) = subst (λ l. contains (take n lits) (opposite l) ≡ false) e h.second

-- the same at a front of the trail: one of the watches stays, and the other is not false
pub watched-stays : (lits front c : List Lit) (p q : Pair) → IsWatched lits front c p → IsPair c q →
    ((p.first ≡ q.first) ⊎ (p.second ≡ q.first)) → contains front (opposite q.second) ≡ false →
    IsWatched lits front c q
watched-stays lits front c p q (inl h) pair kept free = inl h
watched-stays lits front c p q (inr h) pair kept free =
    inr (record { pair = pair; first = one kept; second = free })
  where
    one : (p.first ≡ q.first) ⊎ (p.second ≡ q.first) → contains front (opposite q.first) ≡ false
    one (inl e) = subst (λ l. contains front (opposite l) ≡ false) e h.first
    one (inr e) = subst (λ l. contains front (opposite l) ≡ false) e h.second

-- ---- all clauses

pub are-propagated : (lits : List Lit) (cs : List Clause) (ps : List Pair) → length ps ≡ length cs →
    AreWatched lits lits cs ps → ArePropagated lits cs
are-propagated lits cs ps same h k d within =
    watched-propagated lits (get_or cs k d).lits (get_or ps k none)
    (h k (get_or cs k d) (get_or ps k none) (slice_get-get_or cs k d within)
    (slice_get-get_or ps k none (omega (arith, same, within))))
  where
    nothing : Lit
    nothing = record { variable = 0; positive = false }

    none : Pair
    none = record { first = nothing; second = nothing }

pub are-watched-more : (lits more front : List Lit) (cs : List Clause) (ps : List Pair) → AreWatched lits front cs ps →
    AreWatched (lits ++ more) front cs ps
are-watched-more lits more front cs ps h k c p at pair = watched-more lits more front c.lits p (h k c p at pair)

-- one pair changed
pub are-watched-set : (lits front : List Lit) (cs : List Clause) (ps : List Pair) (number : ℕ) (c : Clause) (q : Pair) →
    AreWatched lits front cs ps → slice_get cs number ≡ Some c → number < length ps → IsWatched lits front c.lits q →
    AreWatched lits front cs (slice_set ps number q)
are-watched-set lits front cs ps number c q h there within here k d p at pair = by (equal-or-not k number)
  where
    by : (k ≡ number) ⊎ (k ≡ number → ⊥) → IsWatched lits front d.lits p
    by (inl e) =
        subst (λ (x : Pair). IsWatched lits front d.lits x)
        (same_Some q p (sym (slice_get-set_same ps number q within) ∙ ap (slice_get (slice_set ps number q)) (sym e) ∙
        pair))
        (subst (λ (x : Clause). IsWatched lits front x.lits q)
        (same_Some c d (sym there ∙ ap (slice_get cs) (sym e) ∙ at)) here)
    by (inr ne) = h k d p at (sym (slice_get-set_other ps number k q ne) ∙ pair)

-- ---- the list of one literal is begun, and put back

pub lists-same : (cs : List Clause) (ps : List Pair) (f g : Lit → List Watcher) → ((l : Lit) → f l ≡ g l) →
    AreLists cs ps f → AreLists cs ps g
lists-same cs ps f g same h = record {
  watchers = λ l k w at. h.watchers l k w (ap (λ ws. slice_get ws k) (same l) ∙ at);
  first = λ k c p at pair is. subst (λ ws. IsListed ws k) (same p.first) (h.first k c p at pair is);
  second = λ k c p at pair is. subst (λ ws. IsListed ws k) (same p.second) (h.second k c p at pair is);
}

-- a clause that stands in the list of a literal is not passed at its beginning
not_passed : (of : Lit → List Watcher) (list : List Watcher) (untrue l : Lit) (k : ℕ) → of untrue ≡ list →
    IsPassed list 0 k → IsListed (of l) k → same_lit l untrue ≡ false
not_passed of list untrue l k same passed h =
    false_unless (same_lit l untrue) (λ e. passed h.place h.watcher (omega arith)
    (ap (λ ws. slice_get ws h.place) (sym same ∙ ap of (sym (same_lit-true l untrue e))) ∙ h.stands) h.same)

pub visiting-begins : (cs : List Clause) (ps : List Pair) (lists lists' : List (List Watcher)) (t : Trail) (head : ℕ)
    (untrue : Lit) (list : List Watcher) → IsWatching cs ps lists t head →
    slice_get t.lits head ≡ Some (opposite untrue) → list ≡ watchers lists untrue → length lists' ≡ length lists →
    ((l : Lit) → watchers lists' l ≡ (if same_lit l untrue then [] else watchers lists l)) →
    IsVisiting cs ps lists' t head untrue list 0
visiting-begins cs ps lists lists' t head untrue list h at taken size emptied = record {
  lengths = h.lengths;
  over = h.over;
  sized = size ∙ h.sized;
  listed = lists-same cs ps (watchers lists) (with_list lists' untrue list) (λ l. same l) h.listed;
  reasons = h.reasons;
  watched = h.watched;
  before = h.before;
  falsified = at;
  passed = λ k c p there pair passed. watched-beyond t.lits head untrue c.lits p at (h.watched k c p there pair)
      (λ is. not_passed (watchers lists) list untrue p.first k (sym taken) passed (h.listed.first k c p there pair is))
      (λ is. not_passed (watchers lists) list untrue p.second k (sym taken) passed (h.listed.second k c p there pair
      is));
}
  where
    same : (l : Lit) → watchers lists l ≡ with_list lists' untrue list l
    same l = by (true-or-false (same_lit l untrue))
      where
        by : (same_lit l untrue ≡ true) ⊎ (same_lit l untrue ≡ false) → watchers lists l ≡
            with_list lists' untrue list l
        by (inl e) =
            ap (watchers lists) (same_lit-true l untrue e) ∙ sym taken
            ∙ sym (ap (λ b. if b then list else watchers lists' l) e)
        by (inr e) =
            sym (emptied l ∙ ap (λ b. if b then [] else watchers lists l) e)
            ∙ sym (ap (λ b. if b then list else watchers lists' l) e)

-- the list is put back
put-back : (lists lists' : List (List Watcher)) (untrue : Lit) (list : List Watcher) →
    ((l : Lit) → watchers lists' l ≡ (if same_lit l untrue then list else watchers lists l)) →
    (cs : List Clause) (ps : List Pair) → AreLists cs ps (with_list lists untrue list) → AreLists cs ps (watchers
    lists')
put-back lists lists' untrue list put cs ps h =
    lists-same cs ps (with_list lists untrue list) (watchers lists') (λ l. sym (put l)) h

-- before the end the head stays
pub visiting-stops : (cs : List Clause) (ps : List Pair) (lists lists' : List (List Watcher)) (t : Trail) (head : ℕ)
    (untrue : Lit) (list : List Watcher) (cursor : ℕ) → IsVisiting cs ps lists t head untrue list cursor →
    length lists' ≡ length lists →
    ((l : Lit) → watchers lists' l ≡ (if same_lit l untrue then list else watchers lists l)) →
    IsWatching cs ps lists' t head
visiting-stops cs ps lists lists' t head untrue list cursor h size put = record {
  within = let within = slice_get_within t.lits head (opposite untrue) h.falsified in omega (arith, within);
  lengths = h.lengths;
  over = h.over;
  sized = size ∙ h.sized;
  listed = put-back lists lists' untrue list put cs ps h.listed;
  reasons = h.reasons;
  watched = h.watched;
  before = h.before;
}

-- at the end it goes on
pub visiting-ends : (cs : List Clause) (ps : List Pair) (lists lists' : List (List Watcher)) (t : Trail) (head : ℕ)
    (untrue : Lit) (list : List Watcher) (cursor : ℕ) → IsVisiting cs ps lists t head untrue list cursor →
    length list ≤ cursor → length lists' ≡ length lists →
    ((l : Lit) → watchers lists' l ≡ (if same_lit l untrue then list else watchers lists l)) →
    IsWatching cs ps lists' t (head + 1)
visiting-ends cs ps lists lists' t head untrue list cursor h done size put = record {
  within = let within = slice_get_within t.lits head (opposite untrue) h.falsified in omega (arith, within);
  lengths = h.lengths;
  over = h.over;
  sized = size ∙ h.sized;
  listed = put-back lists lists' untrue list put cs ps h.listed;
  reasons = h.reasons;
  watched = λ k c p at pair. h.passed k c p at pair
      (λ j w from there. let within = slice_get_within list j w there in absurd (omega (arith, within, from, done)));
  before = h.before;
}

-- ---- the clause at the cursor stays in the list

-- it is true
pub visiting-passes : (cs : List Clause) (ps : List Pair) (lists : List (List Watcher)) (t : Trail) (head : ℕ)
    (untrue : Lit) (list : List Watcher) (cursor : ℕ) (w : Watcher) (c : Clause) →
    IsVisiting cs ps lists t head untrue list cursor → slice_get list cursor ≡ Some w
    → slice_get cs (clause_number w) ≡ Some c →
    IsSatisfied t.lits c.lits → IsVisiting cs ps lists t head untrue list (cursor + 1)
visiting-passes cs ps lists t head untrue list cursor w c h here there holds = record {
  lengths = h.lengths;
  over = h.over;
  sized = h.sized;
  listed = h.listed;
  reasons = h.reasons;
  watched = h.watched;
  before = h.before;
  falsified = h.falsified;
  passed = λ k d p at pair passed. by k d p at pair passed (equal-or-not k (clause_number w));
}
  where
    by : (k : ℕ) (d : Clause) (p : Pair) → slice_get cs k ≡ Some d → slice_get ps k ≡ Some p →
        IsPassed list (cursor + 1) k → (k ≡ (clause_number w)) ⊎ (k ≡ (clause_number w) → ⊥) →
        IsWatched t.lits (take (head + 1) t.lits) d.lits p
    by k d p at pair passed (inl e) =
        inl (subst (λ (x : Clause). IsSatisfied t.lits x.lits)
        (same_Some c d (sym there ∙ ap (slice_get cs) (sym e) ∙ at)) holds)
    by k d p at pair passed (inr ne) = h.passed k d p at pair (λ j x from stands same. one j x from stands same
        (equal-or-not j cursor))
      where
        one : (j : ℕ) (x : Watcher) → cursor ≤ j → slice_get list j ≡ Some x → (clause_number x) ≡ k →
            (j ≡ cursor) ⊎ (j ≡ cursor → ⊥) → ⊥
        one j x from stands same (inl e) =
            ne (sym same ∙ ap (λ (y : Watcher). (clause_number y))
            (same_Some x w (sym stands ∙ ap (slice_get list) e ∙ here)))
        one j x from stands same (inr other) = passed j x (above from other) stands same
          where
            above : cursor ≤ j → (j ≡ cursor → ⊥) → cursor + 1 ≤ j
            above le differ = omega (arith, le, differ)

-- the list of one literal changed, and each clause in it stands in it still
with_list-changed : (cs : List Clause) (ps : List Pair) (lists : List (List Watcher)) (untrue : Lit)
    (old new : List Watcher) → AreLists cs ps (with_list lists untrue old) →
    ((k : ℕ) (w : Watcher) → slice_get new k ≡ Some w → IsWatcher cs ps untrue w) →
    ((k : ℕ) → IsListed old k → IsListed new k) → AreLists cs ps (with_list lists untrue new)
with_list-changed cs ps lists untrue old new h each stay = record {
  watchers = λ l k w at. whose l k w at (true-or-false (same_lit l untrue));
  first = λ k c p at pair is. listed (same_lit p.first untrue) (watchers lists p.first) k (h.first k c p at pair is);
  second = λ k c p at pair is. listed (same_lit p.second untrue) (watchers lists p.second) k (h.second k c p at pair
      is);
}
  where
    whose : (l : Lit) (k : ℕ) (w : Watcher) → slice_get (with_list lists untrue new l) k ≡ Some w →
        (same_lit l untrue ≡ true) ⊎ (same_lit l untrue ≡ false) → IsWatcher cs ps l w
    whose l k w at (inl e) =
        subst (λ m. IsWatcher cs ps m w) (sym (same_lit-true l untrue e))
        (each k w (sym (ap (λ b. slice_get (if b then new else watchers lists l) k) e) ∙ at))
    whose l k w at (inr e) =
        h.watchers l k w (ap (λ b. slice_get (if b then old else watchers lists l) k) e
        ∙ sym (ap (λ b. slice_get (if b then new else watchers lists l) k) e) ∙ at)

    listed : (b : Bool) (others : List Watcher) (k : ℕ) → IsListed (if b then old else others) k →
        IsListed (if b then new else others) k
    listed true others k h = stay k h
    listed false others k h = h

-- another blocker
pub visiting-blocked : (cs : List Clause) (ps : List Pair) (lists : List (List Watcher)) (t : Trail) (head : ℕ)
    (untrue : Lit) (list : List Watcher) (cursor place : ℕ) (w v : Watcher) →
    IsVisiting cs ps lists t head untrue list cursor → slice_get list place ≡ Some w
    → (clause_number v) ≡ (clause_number w) →
    IsWatcher cs ps untrue v → IsVisiting cs ps lists t head untrue (slice_set list place v) cursor
visiting-blocked cs ps lists t head untrue list cursor place w v h here same is = record {
  lengths = h.lengths;
  over = h.over;
  sized = h.sized;
  listed = with_list-changed cs ps lists untrue list (slice_set list place v) h.listed
      (λ k x at. each k x at (equal-or-not k place)) (λ k l. stay k l (equal-or-not l.place place));
  reasons = h.reasons;
  watched = h.watched;
  before = h.before;
  falsified = h.falsified;
  passed = λ k c p at pair passed. h.passed k c p at pair (λ j x from stands e. all j x from stands k e passed
      (equal-or-not j place));
}
  where
    within : place < length list
    within = slice_get_within list place w here

    set : slice_get (slice_set list place v) place ≡ Some v
    set = slice_get-set_same list place v within

    old_at : (j : ℕ) (x : Watcher) → slice_get list j ≡ Some x → (j ≡ place → ⊥) →
        slice_get (slice_set list place v) j ≡ Some x
    old_at j x at ne = slice_get-set_other list place j v ne ∙ at

    each : (k : ℕ) (x : Watcher) → slice_get (slice_set list place v) k ≡ Some x →
        (k ≡ place) ⊎ (k ≡ place → ⊥) → IsWatcher cs ps untrue x
    each k x at (inl e) =
        subst (IsWatcher cs ps untrue) (same_Some v x (sym set ∙ ap (slice_get (slice_set list place v)) (sym e) ∙ at))
        is
    each k x at (inr ne) =
        h.listed.watchers untrue k x (ap (λ b. slice_get (if b then list else watchers lists untrue) k)
        (same_lit-itself untrue) ∙ sym (slice_get-set_other list place k v ne) ∙ at)

    stay : (k : ℕ) (l : IsListed list k) → (l.place ≡ place) ⊎ (l.place ≡ place → ⊥) →
        IsListed (slice_set list place v) k
    stay k l (inl e) = record {
      place = place;
      watcher = v;
      stands = set;
      same = same ∙ ap (λ (y : Watcher). (clause_number y)) (same_Some w l.watcher (sym here ∙ ap (slice_get list) (sym
          e)
          ∙ l.stands)) ∙ l.same;
    }
    stay k l (inr ne) = record {
      place = l.place;
      watcher = l.watcher;
      stands = old_at l.place l.watcher l.stands ne;
      same = l.same;
    }

    all : (j : ℕ) (x : Watcher) → cursor ≤ j → slice_get list j ≡ Some x → (k : ℕ) → (clause_number x) ≡ k →
        IsPassed (slice_set list place v) cursor k → (j ≡ place) ⊎ (j ≡ place → ⊥) → ⊥
    all j x from stands k e passed (inl at) =
        passed j v from (ap (slice_get (slice_set list place v)) at ∙ set)
        (same ∙ ap (λ (y : Watcher). (clause_number y)) (same_Some w x (sym here ∙ ap (slice_get list) (sym at) ∙
        stands)) ∙ e)
    all j x from stands k e passed (inr ne) = passed j x from (old_at j x stands ne) e

-- ---- one true literal more

pub visiting-forced : (cs : List Clause) (ps : List Pair) (lists : List (List Watcher)) (t : Trail) (head : ℕ)
    (untrue : Lit) (list : List Watcher) (cursor : ℕ) (l : Lit) (reason : ℕ) (c : Clause) → IsTrail t →
    IsVisiting cs ps lists t head untrue list cursor → slice_get cs reason ≡ Some c → Forces t.lits c.lits l →
    IsVisiting cs ps lists (forced t l reason) head untrue list cursor
visiting-forced cs ps lists t head untrue list cursor l reason c it h there forces = record {
  lengths = h.lengths;
  over = h.over;
  sized = h.sized;
  listed = h.listed;
  reasons = AreReasons-forced cs t l reason c it h.reasons there forces;
  watched = subst (λ front. AreWatched (t.lits ++ l ∷ []) front cs ps) (sym (front head (omega (arith, within))))
      (are-watched-more t.lits (l ∷ []) (take head t.lits) cs ps h.watched);
  before = λ k d lt. let s = get_or t.level_starts k d in
      let early = it.within k d lt in
      let same = front s (omega (arith, early)) in
      subst (λ lits. AreWatched lits lits cs ps) (sym same) (h.before k d lt);
  falsified = slice_get-left t.lits (l ∷ []) head (opposite untrue) h.falsified;
  passed = λ k d p at pair passed.
      subst (λ front. IsWatched (t.lits ++ l ∷ []) front d.lits p) (sym (front (head + 1) (omega (arith, within))))
      (watched-more t.lits (l ∷ []) (take (head + 1) t.lits) d.lits p (h.passed k d p at pair passed));
}
  where
    within : head < length t.lits
    within = slice_get_within t.lits head (opposite untrue) h.falsified

    front : (n : ℕ) → n ≤ length t.lits → take n (t.lits ++ l ∷ []) ≡ take n t.lits
    front n le = take-append-le n t.lits (l ∷ []) le
