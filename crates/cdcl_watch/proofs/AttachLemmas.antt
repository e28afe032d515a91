-- Clauses that get their watches.
use Rattle.std.proofs.Common.{◌≡◌, ◌∙◌, ◌⊎◌, inl, inr, ℕ, ◌≤◌, Bool, true, false, List, [], ◌∷◌, ◌++◌, Some}
use Rattle.std.proofs.Common.{refl, sym, ap, subst, arith, length, slice_get, take, All, get_or, if◌then◌else◌}
use Rattle.std.proofs.lemmas.Bool.{false≢true}
use Rattle.std.proofs.lemmas.Option.{slice_get_within}
use Rattle.std.proofs.lemmas.List.{length_push, take-append-le}
use Rattle.std.proofs.lemmas.List.Elements.{All-push}
use Rattle.cnf_core.specs.declared.clause.Lit.{Lit}
use Rattle.cnf_core.specs.declared.clause.Clause.{Clause}
use Rattle.cnf_core.specs.Clause.{same_lit, contains, IsOver}
use Rattle.cnf_core.proofs.Sets.{same_lit-true, same_lit-itself, contains-right, contains-head}
use Rattle.list_lemmas.proofs.Bools.{true-or-false}
use Rattle.list_lemmas.proofs.Lookups.{slice_get-left, slice_get-push, slice_get-end}
use Rattle.cdcl_base.specs.Trail.{Trail, IsTrail, Forces}
use Rattle.cdcl_base.proofs.TrailLemmas.{forced, AreReasons-more, AreReasons-forced}
use Rattle.cdcl_watch.specs.declared.lists.Watcher.{Watcher}
use Rattle.cdcl_watch.specs.declared.propagation.Pair.{Pair}
use Rattle.cdcl_watch.specs.Lists.{clause_number, is_short, watchers}
use Rattle.cdcl_watch.specs.Watches.{IsPair, IsWatched, AreWatched, IsWatcher, IsListed, AreLists, IsWatching}
use Rattle.cdcl_watch.specs.Attach.{IsNext, IsAttaching}
use Rattle.cdcl_watch.proofs.WatchLemmas.{watched-more}

-- ---- one clause more

-- what holds of a clause and its pair, at the old places and at the new one
pub at-places : (cs : List Clause) (ps : List Pair) (c : Clause) (p : Pair) (P : ℕ → Clause → Pair → Type 0) →
    length ps ≡ length cs →
    ((k : ℕ) (d : Clause) (q : Pair) → slice_get cs k ≡ Some d → slice_get ps k ≡ Some q → P k d q) →
    P (length cs) c p →
    (k : ℕ) (d : Clause) (q : Pair) → slice_get (cs ++ c ∷ []) k ≡ Some d → slice_get (ps ++ p ∷ []) k ≡ Some q →
    P k d q
at-places cs ps c p P same old new k d q at pair = by (slice_get-push cs c k d at) (slice_get-push ps p k q pair)
  where
    by : (slice_get cs k ≡ Some d) ⊎ ((k ≡ length cs) × (c ≡ d)) →
        (slice_get ps k ≡ Some q) ⊎ ((k ≡ length ps) × (p ≡ q)) → P k d q
    by (inl e) (inl f) = old k d q e f
    by (inr e) (inr f) =
        subst (λ (x : ℕ). P x d q) (sym e.0)
        (subst (λ (x : Clause). P (length cs) x q) e.1 (subst (λ (x : Pair). P (length cs) c x) f.1 new))
    by (inl e) (inr f) =
        let within = slice_get_within cs k d e in
        let end = f.0 in
        absurd (omega (arith, within, end, same))
    by (inr e) (inl f) =
        let within = slice_get_within ps k q f in
        let end = e.0 in
        absurd (omega (arith, within, end, same))

-- a clause that has no pair yet
pub AreLists-more : (cs : List Clause) (c : Clause) (ps : List Pair) (of : Lit → List Watcher) →
    length ps ≤ length cs → AreLists cs ps of → AreLists (cs ++ c ∷ []) ps of
AreLists-more cs c ps of few h = record {
  watchers = λ l k w at. more l w (h.watchers l k w at);
  first = λ k d p at pair is. h.first k d p (earlier k d p pair (slice_get-push cs c k d at)) pair is;
  second = λ k d p at pair is. h.second k d p (earlier k d p pair (slice_get-push cs c k d at)) pair is;
}
  where
    earlier : (k : ℕ) (d : Clause) (p : Pair) → slice_get ps k ≡ Some p →
        (slice_get cs k ≡ Some d) ⊎ ((k ≡ length cs) × (c ≡ d)) → slice_get cs k ≡ Some d
    earlier k d p pair (inl e) = e
    earlier k d p pair (inr e) =
        let within = slice_get_within ps k p pair in
        let end = e.0 in
        absurd (omega (arith, within, end, few))

    more : (l : Lit) (w : Watcher) → IsWatcher cs ps l w → IsWatcher (cs ++ c ∷ []) ps l w
    more l w is = record {
      clause = is.clause;
      pair = is.pair;
      clause_there = slice_get-left cs (c ∷ []) (clause_number w) is.clause is.clause_there;
      pair_there = is.pair_there;
      is_pair = is.is_pair;
      blocker = is.blocker;
      short = is.short;
    }

-- ---- one watcher more

-- the lists where that of one literal has a watcher more
abbrev pub IsPushed : (Lit → List Watcher) → Lit → Watcher → (Lit → List Watcher) → Type 0
IsPushed old m v new = (l : Lit) → new l ≡ (if same_lit l m then old l ++ v ∷ [] else old l)

pub pushed-whose : (old new : Lit → List Watcher) (m : Lit) (v : Watcher) → IsPushed old m v new →
    (l : Lit) (k : ℕ) (x : Watcher) → slice_get (new l) k ≡ Some x →
    (slice_get (old l) k ≡ Some x) ⊎ ((l ≡ m) × (v ≡ x))
pushed-whose old new m v joins l k x at = by (true-or-false (same_lit l m))
  where
    by : (same_lit l m ≡ true) ⊎ (same_lit l m ≡ false) → (slice_get (old l) k ≡ Some x) ⊎ ((l ≡ m) × (v ≡ x))
    by (inl e) =
        last (slice_get-push (old l) v k x (sym (ap (λ b. slice_get (if b then old l ++ v ∷ [] else old l) k) e)
        ∙ sym (ap (λ ws. slice_get ws k) (joins l)) ∙ at))
      where
        last : (slice_get (old l) k ≡ Some x) ⊎ ((k ≡ length (old l)) × (v ≡ x)) →
            (slice_get (old l) k ≡ Some x) ⊎ ((l ≡ m) × (v ≡ x))
        last (inl f) = inl f
        last (inr f) = inr (same_lit-true l m e, f.1)
    by (inr e) =
        inl (sym (ap (λ b. slice_get (if b then old l ++ v ∷ [] else old l) k) e)
        ∙ sym (ap (λ ws. slice_get ws k) (joins l)) ∙ at)

pub pushed-stay : (old new : Lit → List Watcher) (m : Lit) (v : Watcher) → IsPushed old m v new →
    (l : Lit) (k : ℕ) → IsListed (old l) k → IsListed (new l) k
pushed-stay old new m v joins l k h =
    subst (λ ws. IsListed ws k) (sym (joins l)) (by (same_lit l m))
  where
    by : (b : Bool) → IsListed (if b then old l ++ v ∷ [] else old l) k
    by true = record {
      place = h.place;
      watcher = h.watcher;
      stands = slice_get-left (old l) (v ∷ []) h.place h.watcher h.stands;
      same = h.same;
    }
    by false = h

pub pushed-listed : (old new : Lit → List Watcher) (m : Lit) (v : Watcher) (k : ℕ) → IsPushed old m v new →
    clause_number v ≡ k → IsListed (new m) k
pushed-listed old new m v k joins same = record {
  place = length (old m);
  watcher = v;
  stands = ap (λ ws. slice_get ws (length (old m))) (joins m)
      ∙ ap (λ b. slice_get (if b then old m ++ v ∷ [] else old m) (length (old m))) (same_lit-itself m)
      ∙ slice_get-end (old m) v;
  same = same;
}

-- ---- the pair of the next clause

pub record IsAdded (cs : List Clause) (ps : List Pair) (old new : Lit → List Watcher) (p : Pair) (c : Clause) : Type 0
  where
    pub there : slice_get cs (length ps) ≡ Some c
    pub whose : (l : Lit) (k : ℕ) (w : Watcher) → slice_get (new l) k ≡ Some w →
        (slice_get (old l) k ≡ Some w) ⊎ IsWatcher cs (ps ++ p ∷ []) l w
    pub stay : (l : Lit) (k : ℕ) → IsListed (old l) k → IsListed (new l) k
    pub first : IsPair c.lits p → IsListed (new p.first) (length ps)
    pub second : IsPair c.lits p → IsListed (new p.second) (length ps)

pub AreLists-added : (cs : List Clause) (ps : List Pair) (old new : Lit → List Watcher) (p : Pair) (c : Clause) →
    AreLists cs ps old → IsAdded cs ps old new p c → AreLists cs (ps ++ p ∷ []) new
AreLists-added cs ps old new p c h added = record {
  watchers = λ l k w at. one l k w (added.whose l k w at);
  first = λ k d q at pair is. first k d q at is (slice_get-push ps p k q pair);
  second = λ k d q at pair is. second k d q at is (slice_get-push ps p k q pair);
}
  where
    same : (k : ℕ) (d : Clause) → slice_get cs k ≡ Some d → k ≡ length ps → c ≡ d
    same k d at e = same_clause (sym added.there ∙ ap (slice_get cs) (sym e) ∙ at)
      where
        same_clause : Some c ≡ Some d → c ≡ d
        same_clause e = cc

    one : (l : Lit) (k : ℕ) (w : Watcher) →
        (slice_get (old l) k ≡ Some w) ⊎ IsWatcher cs (ps ++ p ∷ []) l w → IsWatcher cs (ps ++ p ∷ []) l w
    one l k w (inl e) =
        let is = h.watchers l k w e in
        record {
          clause = is.clause;
          pair = is.pair;
          clause_there = is.clause_there;
          pair_there = slice_get-left ps (p ∷ []) (clause_number w) is.pair is.pair_there;
          is_pair = is.is_pair;
          blocker = is.blocker;
          short = is.short;
        }
    one l k w (inr is) = is

    first : (k : ℕ) (d : Clause) (q : Pair) → slice_get cs k ≡ Some d → IsPair d.lits q →
        (slice_get ps k ≡ Some q) ⊎ ((k ≡ length ps) × (p ≡ q)) → IsListed (new q.first) k
    first k d q at is (inl e) = added.stay q.first k (h.first k d q at e is)
    first k d q at is (inr e) =
        subst (λ (x : Pair). IsListed (new x.first) k) e.1
        (subst (IsListed (new p.first)) (sym e.0)
        (added.first (subst (λ (x : Clause). IsPair x.lits p) (sym (same k d at e.0))
        (subst (λ (x : Pair). IsPair d.lits x) (sym e.1) is))))

    second : (k : ℕ) (d : Clause) (q : Pair) → slice_get cs k ≡ Some d → IsPair d.lits q →
        (slice_get ps k ≡ Some q) ⊎ ((k ≡ length ps) × (p ≡ q)) → IsListed (new q.second) k
    second k d q at is (inl e) = added.stay q.second k (h.second k d q at e is)
    second k d q at is (inr e) =
        subst (λ (x : Pair). IsListed (new x.second) k) e.1
        (subst (IsListed (new p.second)) (sym e.0)
        (added.second (subst (λ (x : Clause). IsPair x.lits p) (sym (same k d at e.0))
        (subst (λ (x : Pair). IsPair d.lits x) (sym e.1) is))))

-- a clause of one literal stands in no list
pub AreLists-single : (cs : List Clause) (ps : List Pair) (of : Lit → List Watcher) (p : Pair) (c : Clause) →
    slice_get cs (length ps) ≡ Some c → same_lit p.first p.second ≡ true → AreLists cs ps of →
    AreLists cs (ps ++ p ∷ []) of
AreLists-single cs ps of p c there same h =
    AreLists-added cs ps of of p c h (record {
      there = there;
      whose = λ l k w at. inl at;
      stay = λ l k is. is;
      first = λ is. absurd (false≢true (sym is.differ ∙ same));
      second = λ is. absurd (false≢true (sym is.differ ∙ same));
    })

-- a watcher for the next clause
pub record IsWatcherOf (place : ℕ) (two : Bool) (other : Lit) (w : Watcher) : Type 0 where
  pub number : clause_number w ≡ place
  pub short : is_short w ≡ two
  pub blocker : w.blocker ≡ other

-- two watchers for the next clause
pub AreLists-watched : (cs : List Clause) (ps : List Pair) (old mid new : Lit → List Watcher) (p : Pair) (short : Bool)
    (v w : Watcher) → IsNext cs ps p short →
    IsWatcherOf (length ps) short p.second v → IsWatcherOf (length ps) short p.first w →
    IsPushed old p.first v mid → IsPushed mid p.second w new →
    AreLists cs ps old → AreLists cs (ps ++ p ∷ []) new
AreLists-watched cs ps old mid new p short v w next is_v is_w joins_v joins_w h =
    AreLists-added cs ps old new p next.clause h (record {
      there = next.there;
      whose = λ l k x at. whose l k x (pushed-whose mid new p.second w joins_w l k x at);
      stay = λ l k is. pushed-stay mid new p.second w joins_w l k (pushed-stay old mid p.first v joins_v l k is);
      first = λ is. pushed-stay mid new p.second w joins_w p.first (length ps)
          (pushed-listed old mid p.first v (length ps) joins_v is_v.number);
      second = λ is. pushed-listed mid new p.second w (length ps) joins_w is_w.number;
    })
  where
    flip : (a b m : Lit) → (m ≡ a) ⊎ (m ≡ b) → (m ≡ b) ⊎ (m ≡ a)
    flip a b m (inl e) = inr e
    flip a b m (inr e) = inl e

    is_first : IsWatcher cs (ps ++ p ∷ []) p.first v
    is_first = record {
      clause = next.clause;
      pair = p;
      clause_there = ap (slice_get cs) is_v.number ∙ next.there;
      pair_there = ap (slice_get (ps ++ p ∷ [])) is_v.number ∙ slice_get-end ps p;
      is_pair = next.pair;
      blocker = ap (contains next.clause.lits) is_v.blocker ∙ next.pair.second;
      short = λ is m at. subst (λ b. (m ≡ b) ⊎ (m ≡ p.first)) (sym is_v.blocker)
          (flip p.first p.second m (next.only (sym is_v.short ∙ is) m at));
    }

    is_second : IsWatcher cs (ps ++ p ∷ []) p.second w
    is_second = record {
      clause = next.clause;
      pair = p;
      clause_there = ap (slice_get cs) is_w.number ∙ next.there;
      pair_there = ap (slice_get (ps ++ p ∷ [])) is_w.number ∙ slice_get-end ps p;
      is_pair = next.pair;
      blocker = ap (contains next.clause.lits) is_w.blocker ∙ next.pair.first;
      short = λ is m at. subst (λ b. (m ≡ b) ⊎ (m ≡ p.second)) (sym is_w.blocker)
          (next.only (sym is_w.short ∙ is) m at);
    }

    whose : (l : Lit) (k : ℕ) (x : Watcher) → (slice_get (mid l) k ≡ Some x) ⊎ ((l ≡ p.second) × (w ≡ x)) →
        (slice_get (old l) k ≡ Some x) ⊎ IsWatcher cs (ps ++ p ∷ []) l x
    whose l k x (inr e) =
        inr (subst (λ m. IsWatcher cs (ps ++ p ∷ []) m x) (sym e.0)
        (subst (IsWatcher cs (ps ++ p ∷ []) p.second) e.1 is_second))
    whose l k x (inl at) = earlier (pushed-whose old mid p.first v joins_v l k x at)
      where
        earlier : (slice_get (old l) k ≡ Some x) ⊎ ((l ≡ p.first) × (v ≡ x)) →
            (slice_get (old l) k ≡ Some x) ⊎ IsWatcher cs (ps ++ p ∷ []) l x
        earlier (inl e) = inl e
        earlier (inr e) =
            inr (subst (λ m. IsWatcher cs (ps ++ p ∷ []) m x) (sym e.0)
            (subst (IsWatcher cs (ps ++ p ∷ []) p.first) e.1 is_first))

-- ---- the first clauses, at the root

-- the next pair keeps what holds of the earlier ones
pub watched-next : (lits front : List Lit) (cs : List Clause) (ps : List Pair) (p : Pair) (c : Clause) →
    AreWatched lits front cs ps → slice_get cs (length ps) ≡ Some c → IsWatched lits front c.lits p →
    AreWatched lits front cs (ps ++ p ∷ [])
watched-next lits front cs ps p c h there is k d q at pair = by (slice_get-push ps p k q pair)
  where
    by : (slice_get ps k ≡ Some q) ⊎ ((k ≡ length ps) × (p ≡ q)) → IsWatched lits front d.lits q
    by (inl e) = h k d q at e
    by (inr e) =
        let same : c ≡ d = same_clause (sym there ∙ ap (slice_get cs) (sym e.0) ∙ at) in
        subst (λ (x : Pair). IsWatched lits front d.lits x) e.1
        (subst (λ (x : Clause). IsWatched lits front x.lits p) same is)
      where
        same_clause : Some c ≡ Some d → c ≡ d
        same_clause e = cc

-- no literal is false by none
pub pair-awake : (lits c : List Lit) (p : Pair) → IsPair c p → IsWatched lits [] c p
pair-awake lits c p is = inr (record { pair = is; first = refl; second = refl })

pub attached-watching : (cs : List Clause) (ps : List Pair) (lists : List (List Watcher)) (t : Trail) →
    IsAttaching cs ps lists t → length ps ≡ length cs → All (λ (c : Clause). IsOver t.variables c.lits) cs →
    IsWatching cs ps lists t 0
attached-watching cs ps lists t h all over = record {
  within = omega arith;
  lengths = all;
  over = over;
  sized = h.sized;
  listed = h.listed;
  reasons = h.reasons;
  watched = subst (λ front. AreWatched t.lits front cs ps) (sym (nothing t.lits)) h.watched;
  before = subst (All (λ s. AreWatched (take s t.lits) (take s t.lits) cs ps)) (sym h.root)
      (λ k d lt. absurd (omega (arith, lt)));
}
  where
    nothing : (lits : List Lit) → take 0 lits ≡ []
    nothing [] = refl
    nothing (l ∷ lits) = refl

-- ---- a learnt clause

-- what a learnt clause brings: its literal, which it forces; its pair; and the lists with the new watchers
pub record IsAttached (cs : List Clause) (ps : List Pair) (lists lists' : List (List Watcher)) (t : Trail) (c : Clause)
    (p : Pair) (l : Lit) : Type 0 where
  pub listed : AreLists (cs ++ c ∷ []) (ps ++ p ∷ []) (watchers lists')
  pub sized : length lists' ≡ length lists
  pub over : IsOver t.variables c.lits
  pub forces : Forces t.lits c.lits l
  pub before : All (λ s. IsWatched (take s t.lits) (take s t.lits) c.lits p) t.level_starts

pub watching-learnt : (cs : List Clause) (ps : List Pair) (lists lists' : List (List Watcher)) (t : Trail) (head : ℕ)
    (c : Clause) (p : Pair) (l : Lit) → IsTrail t → IsWatching cs ps lists t head →
    IsAttached cs ps lists lists' t c p l →
    IsWatching (cs ++ c ∷ []) (ps ++ p ∷ []) lists' (forced t l (length cs)) head
watching-learnt cs ps lists lists' t head c p l it h a = record {
  within = let within = h.within in omega (arith, within, length_push t.lits l);
  lengths = let same = h.lengths in omega (arith, same, length_push ps p, length_push cs c);
  over = All-push (λ (x : Clause). IsOver t.variables x.lits) cs c h.over a.over;
  sized = a.sized ∙ h.sized;
  listed = a.listed;
  reasons = AreReasons-forced (cs ++ c ∷ []) t l (length cs) c it (AreReasons-more cs c t h.reasons) (slice_get-end cs
      c)
      a.forces;
  watched = at-places cs ps c p (λ k d q. IsWatched (t.lits ++ l ∷ []) (take head (t.lits ++ l ∷ [])) d.lits q)
      h.lengths
      (λ k d q at pair. subst (λ front. IsWatched (t.lits ++ l ∷ []) front d.lits q)
      (sym (take-append-le head t.lits (l ∷ []) h.within))
      (watched-more t.lits (l ∷ []) (take head t.lits) d.lits q (h.watched k d q at pair)))
      (inl (record {
        lit = l;
        stands = a.forces.stands;
        holds = contains-right t.lits (l ∷ []) l (contains-head l []);
      }));
  before = λ k d lt. let s = get_or t.level_starts k d in
      let early = it.within k d lt in
      subst (λ lits. AreWatched lits lits (cs ++ c ∷ []) (ps ++ p ∷ []))
      (sym (take-append-le s t.lits (l ∷ []) (omega (arith, early))))
      (at-places cs ps c p (λ j x q. IsWatched (take s t.lits) (take s t.lits) x.lits q) h.lengths (h.before k d lt)
      (a.before k d lt));
}
