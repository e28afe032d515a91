-- A clause that watches another literal: it leaves one list and joins another.
use Rattle.std.proofs.Common.{◌≡◌, ◌∙◌, ◌⊎◌, inl, inr, ℕ, zero, suc, ◌+◌, ◌-◌, ◌<◌, ◌≤◌, Bool, true, false, List}
use Rattle.std.proofs.Common.{[], ◌∷◌, ◌++◌, Some, sym, ap, subst, arith, slice_get, length, take, get_or}
use Rattle.std.proofs.Common.{slice_set, if◌then◌else◌, length-set}
use Rattle.std.proofs.lemmas.Bool.{false≢true}
use Rattle.std.proofs.lemmas.Option.{same_Some, slice_get_within, slice_get-get_or}
use Rattle.cnf_core.specs.declared.clause.Lit.{Lit}
use Rattle.cnf_core.specs.declared.clause.Clause.{Clause}
use Rattle.cnf_core.specs.Clause.{opposite, same_lit, contains}
use Rattle.cnf_core.proofs.Sets.{same_lit-true, same_lit-itself}
use Rattle.list_lemmas.proofs.Bools.{true-or-false, false_unless}
use Rattle.list_lemmas.proofs.Lookups.{slice_get-set_same, slice_get-set_other, slice_get-left, slice_get-end}
use Rattle.list_lemmas.proofs.Lookups.{slice_get-push, slice_get-front}
use Rattle.list_lemmas.proofs.Numbers.{equal-or-not}
use Rattle.cdcl_base.specs.Trail.{Trail}
use Rattle.cdcl_base.proofs.Places.{contains-part, contains-at}
use Rattle.cdcl_watch.specs.declared.lists.Watcher.{Watcher}
use Rattle.cdcl_watch.specs.declared.propagation.Pair.{Pair}
use Rattle.cdcl_watch.specs.Lists.{clause_number, is_short, watchers, watcher_at, list_without, nobody}
use Rattle.cdcl_watch.specs.Watches.{IsPair, IsWatched, IsWatcher, IsListed}
use Rattle.cdcl_watch.specs.Watches.{IsPassed, with_list, IsVisiting}
use Rattle.cdcl_watch.proofs.WatchLemmas.{watched-moved, watched-stays, are-watched-set}

-- ---- a list without one of its watchers

slice_get-take : {A : Type 0} (n : ℕ) (xs : List A) (k : ℕ) (x : A) → k < n → slice_get xs k ≡ Some x →
    slice_get (take n xs) k ≡ Some x
slice_get-take zero xs k x lt at = absurd (omega (arith, lt))
slice_get-take (suc n) [] k x lt at = at
slice_get-take (suc n) (y ∷ ys) zero x lt at = at
slice_get-take (suc n) (y ∷ ys) (suc k) x lt at = slice_get-take n ys k x (omega (arith, lt)) at

-- what stands in the rest stood in the whole
pub of-whole : (ws : List Watcher) (cursor k : ℕ) (x : Watcher) → cursor < length ws →
    slice_get (list_without ws cursor) k ≡ Some x → (j : ℕ) × (slice_get ws j ≡ Some x)
of-whole ws cursor k x within at = by (equal-or-not k cursor)
  where
    last : Watcher
    last = watcher_at ws (length ws - 1)

    inside : slice_get (slice_set ws cursor (watcher_at ws (length ws - 1))) k ≡ Some x
    inside = (slice_get-front (length ws - 1) (slice_set ws cursor (watcher_at ws (length ws - 1))) k x at).1

    by : (k ≡ cursor) ⊎ (k ≡ cursor → ⊥) → (j : ℕ) × (slice_get ws j ≡ Some x)
    by (inl e) = (
      length ws - 1,
      slice_get-get_or ws (length ws - 1) nobody (omega (arith, within))
          ∙ sym (slice_get-set_same ws cursor (watcher_at ws (length ws - 1)) within)
          ∙ ap (slice_get (slice_set ws cursor (watcher_at ws (length ws - 1)))) (sym e) ∙ inside,
    )
    by (inr ne) = (k, sym (slice_get-set_other ws cursor k (watcher_at ws (length ws - 1)) ne) ∙ inside)

-- a watcher of the whole, not before a place
pub record IsLeft (ws : List Watcher) (from place : ℕ) (x : Watcher) : Type 0 where
  pub new_place : ℕ
  pub stands : slice_get ws new_place ≡ Some x
  pub later : from ≤ place → from ≤ new_place

-- what stood in another place of the whole stands in the rest
pub in-rest : (ws : List Watcher) (cursor k : ℕ) (x : Watcher) → cursor < length ws → slice_get ws k ≡ Some x →
    (k ≡ cursor → ⊥) → IsLeft (list_without ws cursor) cursor k x
in-rest ws cursor k x within at ne = by (equal-or-not k (length ws - 1))
  where
    there : k < length ws
    there = slice_get_within ws k x at

    by : (k ≡ length ws - 1) ⊎ (k ≡ length ws - 1 → ⊥) → IsLeft (list_without ws cursor) cursor k x
    by (inl e) = record {
      new_place = cursor;
      stands = slice_get-take (length ws - 1) (slice_set ws cursor (watcher_at ws (length ws - 1))) cursor x
          (omega (arith, within, there, e, ne))
          (slice_get-set_same ws cursor (watcher_at ws (length ws - 1)) within
          ∙ sym (slice_get-get_or ws (length ws - 1) nobody (omega (arith, within)))
          ∙ ap (slice_get ws) (sym e) ∙ at);
      later = λ le. omega arith;
    }
    by (inr other) = record {
      new_place = k;
      stands = slice_get-take (length ws - 1) (slice_set ws cursor (watcher_at ws (length ws - 1))) k x
          (omega (arith, there, other))
          (slice_get-set_other ws cursor k (watcher_at ws (length ws - 1)) ne ∙ at);
      later = λ le. le;
    }

-- ---- one pair changed

watcher-set : (cs : List Clause) (ps : List Pair) (number : ℕ) (c : Clause) (q : Pair) (l : Lit) (x : Watcher) →
    slice_get cs number ≡ Some c → number < length ps → IsPair c.lits q → IsWatcher cs ps l x →
    IsWatcher cs (slice_set ps number q) l x
watcher-set cs ps number c q l x there within is h = by (equal-or-not (clause_number x) number)
  where
    by : ((clause_number x) ≡ number) ⊎ ((clause_number x) ≡ number → ⊥) → IsWatcher cs (slice_set ps number q) l x
    by (inl e) = record {
      clause = h.clause;
      pair = q;
      clause_there = h.clause_there;
      pair_there = ap (slice_get (slice_set ps number q)) e ∙ slice_get-set_same ps number q within;
      is_pair = subst (λ (y : Clause). IsPair y.lits q)
          (same_Some c h.clause (sym there ∙ ap (slice_get cs) (sym e) ∙ h.clause_there)) is;
      blocker = h.blocker;
      short = h.short;
    }
    by (inr ne) = record {
      clause = h.clause;
      pair = h.pair;
      clause_there = h.clause_there;
      pair_there = slice_get-set_other ps number (clause_number x) q ne ∙ h.pair_there;
      is_pair = h.is_pair;
      blocker = h.blocker;
      short = h.short;
    }

-- a watcher more, in the list of one literal
abbrev pub pushed : List (List Watcher) → Lit → Watcher → Lit → List Watcher
pushed lists m v l = if same_lit l m then watchers lists l ++ v ∷ [] else watchers lists l

IsListed-pushed : (b : Bool) (ws : List Watcher) (v : Watcher) (k : ℕ) → IsListed ws k →
    IsListed (if b then ws ++ v ∷ [] else ws) k
IsListed-pushed true ws v k h = record {
  place = h.place;
  watcher = h.watcher;
  stands = slice_get-left ws (v ∷ []) h.place h.watcher h.stands;
  same = h.same;
}
IsListed-pushed false ws v k h = h

-- what a clause's move needs
pub record IsMove (cs : List Clause) (ps : List Pair) (lists lists' : List (List Watcher)) (t : Trail) (untrue : Lit)
    (list : List Watcher) (cursor : ℕ) (w v : Watcher) (c : Clause) (p q : Pair) : Type 0 where
  pub here : slice_get list cursor ≡ Some w
  pub there : slice_get cs (clause_number w) ≡ Some c
  pub pair : slice_get ps (clause_number w) ≡ Some p
  pub is_pair : IsPair c.lits q
  pub kept : (p.first ≡ q.first) ⊎ (p.second ≡ q.first)
  pub differs : same_lit q.first untrue ≡ false
  pub free : contains t.lits (opposite q.second) ≡ false
  pub same : (clause_number v) ≡ (clause_number w)
  pub long : is_short v ≡ false
  pub blocker : contains c.lits v.blocker ≡ true
  pub size : length lists' ≡ length lists
  pub joins : (l : Lit) → watchers lists' l ≡ pushed lists q.second v l

pub visiting-moves : (cs : List Clause) (ps : List Pair) (lists lists' : List (List Watcher)) (t : Trail) (head : ℕ)
    (untrue : Lit) (list : List Watcher) (cursor : ℕ) (w v : Watcher) (c : Clause) (p q : Pair) →
    IsVisiting cs ps lists t head untrue list cursor →
    IsMove cs ps lists lists' t untrue list cursor w v c p q →
    IsVisiting cs (slice_set ps (clause_number w) q) lists' t head untrue (list_without list cursor) cursor
visiting-moves cs ps lists lists' t head untrue list cursor w v c p q h m = record {
  lengths = length-set ps (clause_number w) q ∙ h.lengths;
  over = h.over;
  sized = m.size ∙ h.sized;
  listed = record {
    watchers = λ l k x at. whose l k x at (true-or-false (same_lit l untrue));
    first = λ k d r at pair is. first k d r at pair is (equal-or-not k (clause_number w));
    second = λ k d r at pair is. second k d r at pair is (equal-or-not k (clause_number w));
  };
  reasons = h.reasons;
  watched = are-watched-set t.lits (take head t.lits) cs ps (clause_number w) c q h.watched m.there within
      (watched-stays t.lits (take head t.lits) c.lits p q (h.watched (clause_number w) c p m.there m.pair) m.is_pair
      m.kept
      (free_before head));
  before = λ k d lt. let s = get_or t.level_starts k d in
      are-watched-set (take s t.lits) (take s t.lits) cs ps (clause_number w) c q (h.before k d lt) m.there within
      (watched-stays (take s t.lits) (take s t.lits) c.lits p q (h.before k d lt (clause_number w) c p m.there m.pair)
      m.is_pair
      m.kept (free_before s));
  falsified = h.falsified;
  passed = λ k d r at pair passed. passing k d r at pair passed (equal-or-not k (clause_number w));
}
  where
    ps' : List Pair
    ps' = slice_set ps (clause_number w) q

    inside : cursor < length list
    inside = slice_get_within list cursor w m.here

    within : (clause_number w) < length ps
    within = slice_get_within ps (clause_number w) p m.pair

    free_before : (n : ℕ) → contains (take n t.lits) (opposite q.second) ≡ false
    free_before n =
        false_unless (contains (take n t.lits) (opposite q.second))
        (λ e. false≢true (sym m.free ∙ contains-part t.lits n (opposite q.second) e))

    -- the new watch is not false
    other : same_lit q.second untrue ≡ false
    other =
        false_unless (same_lit q.second untrue)
        (λ e. false≢true (sym m.free ∙ ap (λ l. contains t.lits (opposite l)) (same_lit-true q.second untrue e)
        ∙ contains-at t.lits (opposite untrue) head h.falsified))

    -- the list of the false literal is the one that is gone over
    own : (k : ℕ) (x : Watcher) → slice_get list k ≡ Some x → IsWatcher cs ps untrue x
    own k x at =
        h.listed.watchers untrue k x
        (ap (λ b. slice_get (if b then list else watchers lists untrue) k) (same_lit-itself untrue) ∙ at)

    old_pair : IsPair c.lits p
    old_pair = let h = own cursor w m.here in
        subst (λ (y : Clause). IsPair y.lits p) (same_Some h.clause c (sym h.clause_there ∙ m.there))
        (subst (λ (y : Pair). IsPair h.clause.lits y) (same_Some h.pair p (sym h.pair_there ∙ m.pair)) h.is_pair)

    is_new : IsWatcher cs (slice_set ps (clause_number w) q) q.second v
    is_new = record {
      clause = c;
      pair = q;
      clause_there = ap (slice_get cs) m.same ∙ m.there;
      pair_there = ap (slice_get (slice_set ps (clause_number w) q)) m.same ∙ slice_get-set_same ps (clause_number w) q
          within;
      is_pair = m.is_pair;
      blocker = m.blocker;
      short = λ is. absurd (false≢true (sym m.long ∙ is));
    }

    changed : (l : Lit) (x : Watcher) → IsWatcher cs ps l x → IsWatcher cs (slice_set ps (clause_number w) q) l x
    changed l x is = watcher-set cs ps (clause_number w) c q l x m.there within m.is_pair is

    from_old : (l : Lit) (k : ℕ) (x : Watcher) → same_lit l untrue ≡ false →
        slice_get (watchers lists l) k ≡ Some x → IsWatcher cs (slice_set ps (clause_number w) q) l x
    from_old l k x e old =
        changed l x (h.listed.watchers l k x
        (ap (λ b. slice_get (if b then list else watchers lists l) k) e ∙ old))

    from_push : (l : Lit) (k : ℕ) (x : Watcher) → same_lit l untrue ≡ false → same_lit l q.second ≡ true →
        (slice_get (watchers lists l) k ≡ Some x) ⊎ ((k ≡ length (watchers lists l)) × (v ≡ x)) →
        IsWatcher cs (slice_set ps (clause_number w) q) l x
    from_push l k x e f (inl old) = from_old l k x e old
    from_push l k x e f (inr new) =
        subst (IsWatcher cs (slice_set ps (clause_number w) q) l) new.1
        (subst (λ m. IsWatcher cs (slice_set ps (clause_number w) q) m v) (sym (same_lit-true l q.second f)) is_new)

    joined : (l : Lit) (k : ℕ) (x : Watcher) → same_lit l untrue ≡ false → slice_get (watchers lists' l) k ≡ Some x →
        (same_lit l q.second ≡ true) ⊎ (same_lit l q.second ≡ false)
        → IsWatcher cs (slice_set ps (clause_number w) q) l x
    joined l k x e at (inl f) =
        from_push l k x e f (slice_get-push (watchers lists l) v k x
        (sym (ap (λ b. slice_get (if b then watchers lists l ++ v ∷ [] else watchers lists l) k) f)
        ∙ sym (ap (λ ws. slice_get ws k) (m.joins l)) ∙ at))
    joined l k x e at (inr f) =
        from_old l k x e
        (sym (ap (λ b. slice_get (if b then watchers lists l ++ v ∷ [] else watchers lists l) k) f)
        ∙ sym (ap (λ ws. slice_get ws k) (m.joins l)) ∙ at)

    whose : (l : Lit) (k : ℕ) (x : Watcher) →
        slice_get (with_list lists' untrue (list_without list cursor) l) k ≡ Some x →
        (same_lit l untrue ≡ true) ⊎ (same_lit l untrue ≡ false) → IsWatcher cs (slice_set ps (clause_number w) q) l x
    whose l k x at (inl e) =
        let found = of-whole list cursor k x inside
        (sym (ap (λ b. slice_get (if b then list_without list cursor else watchers lists' l) k) e) ∙ at) in
        subst (λ m. IsWatcher cs (slice_set ps (clause_number w) q) m x) (sym (same_lit-true l untrue e))
        (changed untrue x (own found.0 x found.1))
    whose l k x at (inr e) =
        joined l k x e (sym (ap (λ b. slice_get (if b then list_without list cursor else watchers lists' l) k) e) ∙ at)
        (true-or-false (same_lit l q.second))

    -- a clause stays in the list of a literal
    in_others : (l : Lit) (k : ℕ) → IsListed (watchers lists l) k → IsListed (watchers lists' l) k
    in_others l k is =
        subst (λ ws. IsListed ws k) (sym (m.joins l))
        (IsListed-pushed (same_lit l q.second) (watchers lists l) v k is)

    not_here : (k : ℕ) (x : Watcher) (j : ℕ) → (k ≡ (clause_number w) → ⊥) → slice_get list j ≡ Some x
        → (clause_number x) ≡ k →
        j ≡ cursor → ⊥
    not_here k x j ne at same e =
        ne (sym same ∙ ap (λ (y : Watcher). (clause_number y)) (same_Some x w (sym at ∙ ap (slice_get list) e ∙
        m.here)))

    in_list : (k : ℕ) → (k ≡ (clause_number w) → ⊥) → IsListed list k → IsListed (list_without list cursor) k
    in_list k ne is =
        let left = in-rest list cursor is.place is.watcher inside is.stands
        (not_here k is.watcher is.place ne is.stands is.same) in
        record { place = left.new_place; watcher = is.watcher; stands = left.stands; same = is.same }

    stays : (b : Bool) (l : Lit) (k : ℕ) → (k ≡ (clause_number w) → ⊥)
        → IsListed (if b then list else watchers lists l) k →
        IsListed (if b then list_without list cursor else watchers lists' l) k
    stays true l k ne is = in_list k ne is
    stays false l k ne is = in_others l k is

    kept_listed : (p.first ≡ q.first) ⊎ (p.second ≡ q.first)
        → IsListed (with_list lists untrue list q.first) (clause_number w)
    kept_listed (inl e) =
        subst (λ l. IsListed (with_list lists untrue list l) (clause_number w)) e
        (h.listed.first (clause_number w) c p m.there m.pair old_pair)
    kept_listed (inr e) =
        subst (λ l. IsListed (with_list lists untrue list l) (clause_number w)) e
        (h.listed.second (clause_number w) c p m.there m.pair old_pair)

    -- the list of a literal that is not the false one
    outside : (l : Lit) (k : ℕ) → same_lit l untrue ≡ false → IsListed (watchers lists' l) k →
        IsListed (with_list lists' untrue (list_without list cursor) l) k
    outside l k e is =
        subst (λ b. IsListed (if b then list_without list cursor else watchers lists' l) k) (sym e) is

    joined_listed : IsListed (watchers lists' q.second) (clause_number w)
    joined_listed = record {
      place = length (watchers lists q.second);
      watcher = v;
      stands = ap (λ ws. slice_get ws (length (watchers lists q.second))) (m.joins q.second)
          ∙ ap (λ b. slice_get (if b then watchers lists q.second ++ v ∷ [] else watchers lists q.second)
          (length (watchers lists q.second))) (same_lit-itself q.second)
          ∙ slice_get-end (watchers lists q.second) v;
      same = m.same;
    }

    new_pair : (k : ℕ) (r : Pair) → k ≡ (clause_number w) → slice_get (slice_set ps (clause_number w) q) k ≡ Some r
        → q ≡ r
    new_pair k r e pair =
        same_Some q r (sym (slice_get-set_same ps (clause_number w) q within)
        ∙ ap (slice_get (slice_set ps (clause_number w) q)) (sym e) ∙ pair)

    old_at : (k : ℕ) (r : Pair) → (k ≡ (clause_number w) → ⊥)
        → slice_get (slice_set ps (clause_number w) q) k ≡ Some r →
        slice_get ps k ≡ Some r
    old_at k r ne pair = sym (slice_get-set_other ps (clause_number w) k q ne) ∙ pair

    first : (k : ℕ) (d : Clause) (r : Pair) → slice_get cs k ≡ Some d
        → slice_get (slice_set ps (clause_number w) q) k ≡ Some r →
        IsPair d.lits r → (k ≡ (clause_number w)) ⊎ (k ≡ (clause_number w) → ⊥) →
        IsListed (with_list lists' untrue (list_without list cursor) r.first) k
    first k d r at pair is (inl e) =
        subst (λ (y : Pair). IsListed (with_list lists' untrue (list_without list cursor) y.first) k)
        (new_pair k r e pair)
        (subst (IsListed (with_list lists' untrue (list_without list cursor) q.first)) (sym e)
        (outside q.first (clause_number w) m.differs
        (in_others q.first (clause_number w)
        (subst (λ b. IsListed (if b then list else watchers lists q.first) (clause_number w)) m.differs (kept_listed
        m.kept)))))
    first k d r at pair is (inr ne) =
        stays (same_lit r.first untrue) r.first k ne (h.listed.first k d r at (old_at k r ne pair) is)

    second : (k : ℕ) (d : Clause) (r : Pair) → slice_get cs k ≡ Some d →
        slice_get (slice_set ps (clause_number w) q) k ≡ Some r → IsPair d.lits r
        → (k ≡ (clause_number w)) ⊎ (k ≡ (clause_number w) → ⊥) →
        IsListed (with_list lists' untrue (list_without list cursor) r.second) k
    second k d r at pair is (inl e) =
        subst (λ (y : Pair). IsListed (with_list lists' untrue (list_without list cursor) y.second) k)
        (new_pair k r e pair)
        (subst (IsListed (with_list lists' untrue (list_without list cursor) q.second)) (sym e)
        (outside q.second (clause_number w) other joined_listed))
    second k d r at pair is (inr ne) =
        stays (same_lit r.second untrue) r.second k ne (h.listed.second k d r at (old_at k r ne pair) is)

    passing : (k : ℕ) (d : Clause) (r : Pair) → slice_get cs k ≡ Some d →
        slice_get (slice_set ps (clause_number w) q) k ≡ Some r → IsPassed (list_without list cursor) cursor k →
        (k ≡ (clause_number w)) ⊎ (k ≡ (clause_number w) → ⊥) → IsWatched t.lits (take (head + 1) t.lits) d.lits r
    passing k d r at pair passed (inl e) =
        subst (λ (y : Pair). IsWatched t.lits (take (head + 1) t.lits) d.lits y) (new_pair k r e pair)
        (subst (λ (y : Clause). IsWatched t.lits (take (head + 1) t.lits) y.lits q)
        (same_Some c d (sym m.there ∙ ap (slice_get cs) (sym e) ∙ at))
        (watched-moved t.lits head untrue c.lits p q.first q h.falsified (h.watched (clause_number w) c p m.there
        m.pair)
        m.is_pair m.kept m.differs m.free))
    passing k d r at pair passed (inr ne) =
        h.passed k d r at (old_at k r ne pair)
        (λ j x from stands same. let left = in-rest list cursor j x inside stands (not_here k x j ne stands same) in
        passed left.new_place x (left.later from) left.stands same)
