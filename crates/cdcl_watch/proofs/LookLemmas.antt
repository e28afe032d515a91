-- What each way leaves in which a look at one clause ends.
use Rattle.std.proofs.Common.{◌≡◌, ◌∙◌, ◌⊎◌, inl, inr, ℕ, ◌+◌, ◌-◌, ◌*◌, ◌<◌, Bool, true, false, List, [], ◌∷◌}
use Rattle.std.proofs.Common.{Some, refl, sym, ap, subst, arith, slice_get, slice_set, length, length-set, get_or}
use Rattle.std.proofs.Common.{length-take-le, if◌then◌else◌}
use Rattle.std.proofs.lemmas.Bool.{false≢true}
use Rattle.std.proofs.lemmas.Option.{slice_get_within, slice_get-get_or, same_Some, get_or_from_slice_get}
use Rattle.cnf_core.specs.declared.clause.Lit.{Lit}
use Rattle.cnf_core.specs.declared.clause.Clause.{Clause}
use Rattle.cnf_core.specs.Clause.{opposite, same_lit, contains, IsOver}
use Rattle.cnf_core.specs.Resolution.{clause}
use Rattle.cnf_core.proofs.Sets.{contains-right, contains-head}
use Rattle.cnf_core.proofs.Over.{over-at}
use Rattle.list_lemmas.proofs.Lookups.{All-slice_get}
use Rattle.cdcl_base.specs.Codes.{code}
use Rattle.cdcl_base.specs.Trail.{Trail, IsTrail, ExtendsTrail, IsFalsified}
use Rattle.cdcl_base.proofs.Places.{contains-at}
use Rattle.cdcl_base.proofs.TrailLemmas.{forced, ExtendsTrail-itself}
use Rattle.cdcl_watch.specs.declared.lists.Watcher.{Watcher}
use Rattle.cdcl_watch.specs.declared.propagation.Pair.{Pair}
use Rattle.cdcl_watch.specs.declared.propagation.Visit.{Visit}
use Rattle.cdcl_watch.specs.declared.propagation.Visit.TheVariants.{Kept, Moved, Falsified}
use Rattle.cdcl_watch.specs.Lists.{clause_number, is_short, watchers, watcher_at, list_without, nobody}
use Rattle.cdcl_watch.specs.Watches.{IsPair, IsWatcher, IsVisiting, IsOther, AreOthersFalse}
use Rattle.cdcl_watch.specs.Visit.{IsVisit, IsSettled}
use Rattle.cdcl_watch.proofs.WatchLemmas.{visiting-passes, visiting-blocked, visiting-forced}
use Rattle.cdcl_watch.proofs.MoveLemmas.{visiting-moves, pushed}
use Rattle.cdcl_watch.proofs.VisitLemmas.{visiting-watcher, IsOtherOf, other-of, all-false, all-but-one}

-- the number of a literal of these variables
pub code-within : (l : Lit) (n : ℕ) → l.variable < n → code l < 2 * n
code-within l n lt = by l.positive refl
  where
    by : (b : Bool) → l.positive ≡ b → 2 * l.variable + (if l.positive then 1 else 0) < 2 * n
    by true e = subst (λ b. 2 * l.variable + (if b then 1 else 0) < 2 * n) (sym e) (omega (arith, lt))
    by false e = subst (λ b. 2 * l.variable + (if b then 1 else 0) < 2 * n) (sym e) (omega (arith, lt))

-- the watcher at the cursor, and its clause
pub record IsSeen (cs : List Clause) (ps : List Pair) (t : Trail) (untrue : Lit) (list : List Watcher) (cursor : ℕ)
    (w : Watcher) : Type 0 where
  pub here : slice_get list cursor ≡ Some w
  pub is : IsWatcher cs ps untrue w
  pub over : IsOver t.variables is.clause.lits
  pub blocker : w.blocker.variable < t.variables
  pub clause_within : clause_number w < length cs
  pub pair_within : clause_number w < length ps

pub seen : (cs : List Clause) (ps : List Pair) (lists : List (List Watcher)) (t : Trail) (head : ℕ) (untrue : Lit)
    (list : List Watcher) (cursor : ℕ) (w : Watcher) → IsVisiting cs ps lists t head untrue list cursor →
    cursor < length list → w ≡ get_or list cursor w → IsSeen cs ps t untrue list cursor w
seen cs ps lists t head untrue list cursor w h within read = record {
  here = at;
  is = is;
  over = over;
  blocker = over-at t.variables is.clause.lits w.blocker over is.blocker;
  clause_within = slice_get_within cs (clause_number w) is.clause is.clause_there;
  pair_within = slice_get_within ps (clause_number w) is.pair is.pair_there;
}
  where
    at : slice_get list cursor ≡ Some w
    at = slice_get-get_or list cursor w within ∙ ap Some (sym read)

    is : IsWatcher cs ps untrue w
    is = visiting-watcher cs ps lists t head untrue list cursor cursor w h at

    over : IsOver t.variables is.clause.lits
    over = All-slice_get (λ (c : Clause). IsOver t.variables c.lits) cs (clause_number w) is.clause h.over
        is.clause_there

-- the same element, read twice
pub same-read : {X : Type 0} (xs : List X) (k : ℕ) (x y : X) → k < length xs → x ≡ get_or xs k x → y ≡ get_or xs k y →
    x ≡ y
same-read xs k x y within e f =
    same_Some x y (ap Some e ∙ sym (slice_get-get_or xs k x within) ∙ slice_get-get_or xs k y within ∙ ap Some (sym f))

pub seen-at : (cs : List Clause) (ps : List Pair) (t : Trail) (untrue : Lit) (list : List Watcher) (cursor : ℕ)
    (w : Watcher) → IsSeen cs ps t untrue list cursor w → watcher_at list cursor ≡ w
seen-at cs ps t untrue list cursor w s = get_or_from_slice_get list cursor w nobody s.here

pub seen-lits : (cs : List Clause) (ps : List Pair) (t : Trail) (untrue : Lit) (list : List Watcher) (cursor : ℕ)
    (w : Watcher) (number : ℕ) (lits : List Lit) → (s : IsSeen cs ps t untrue list cursor w) →
    number ≡ clause_number w → slice_get cs number ≡ Some (clause lits) → s.is.clause.lits ≡ lits
seen-lits cs ps t untrue list cursor w number lits s same at =
    ap (λ (c : Clause). c.lits)
    (same_Some s.is.clause (clause lits) (sym s.is.clause_there ∙ ap (slice_get cs) (sym same) ∙ at))

-- the other watch of the clause at the cursor
pub record IsLooked (cs : List Clause) (ps : List Pair) (t : Trail) (untrue : Lit) (list : List Watcher) (cursor : ℕ)
    (w : Watcher) (s : IsSeen cs ps t untrue list cursor w) (p : Pair) (other : Lit) : Type 0 where
  pub pair : slice_get ps (clause_number w) ≡ Some p
  pub of : IsOtherOf s.is.clause.lits p untrue other
  pub there : other.variable < t.variables

pub looked : (cs : List Clause) (ps : List Pair) (t : Trail) (untrue : Lit) (list : List Watcher) (cursor : ℕ)
    (w : Watcher) (s : IsSeen cs ps t untrue list cursor w) (number : ℕ) (p : Pair) (other : Lit) →
    number ≡ clause_number w → p ≡ get_or ps number p →
    other ≡ (if same_lit p.first untrue then p.second else p.first) →
    IsLooked cs ps t untrue list cursor w s p other
looked cs ps t untrue list cursor w s number p other same read e = record {
  pair = at;
  of = of;
  there = over-at t.variables s.is.clause.lits other s.over of.stands;
}
  where
    at : slice_get ps (clause_number w) ≡ Some p
    at = slice_get-get_or ps (clause_number w) p s.pair_within
        ∙ ap Some (ap (λ k. get_or ps k p) (sym same) ∙ sym read)

    of : IsOtherOf s.is.clause.lits p untrue other
    of = other-of s.is.clause.lits p untrue other
        (subst (λ (x : Pair). IsPair s.is.clause.lits x) (same_Some s.is.pair p (sym s.is.pair_there ∙ at))
        s.is.is_pair) e

-- a literal of the clause is true
pub look-true : (cs : List Clause) (ps : List Pair) (lists : List (List Watcher)) (t : Trail) (head : ℕ) (untrue : Lit)
    (list : List Watcher) (cursor : ℕ) (w : Watcher) (l : Lit) → IsTrail t →
    IsVisiting cs ps lists t head untrue list cursor → (s : IsSeen cs ps t untrue list cursor w) →
    contains s.is.clause.lits l ≡ true → contains t.lits l ≡ true →
    IsVisit cs ps lists t t head untrue list list cursor Kept
look-true cs ps lists t head untrue list cursor w l it h s stands holds = record {
  trail = it;
  extends = ExtendsTrail-itself t;
  passing = (
    visiting-passes cs ps lists t head untrue list cursor w s.is.clause h s.here s.is.clause_there
        (record { lit = l; stands = stands; holds = holds }),
    refl,
  );
}

-- it becomes the blocker
pub look-blocked : (cs : List Clause) (ps : List Pair) (lists : List (List Watcher)) (t : Trail) (head : ℕ)
    (untrue : Lit) (list : List Watcher) (cursor : ℕ) (w v : Watcher) (l : Lit) → IsTrail t →
    IsVisiting cs ps lists t head untrue list cursor → (s : IsSeen cs ps t untrue list cursor w) →
    contains s.is.clause.lits l ≡ true → contains t.lits l ≡ true → is_short w ≡ false →
    v ≡ (record { tag = w.tag; blocker = l }) →
    IsVisit cs ps lists t t head untrue list (slice_set list cursor v) cursor Kept
look-blocked cs ps lists t head untrue list cursor w v l it h s stands holds long e = record {
  trail = it;
  extends = ExtendsTrail-itself t;
  passing = (
    visiting-blocked cs ps lists t head untrue list (cursor + 1) cursor w v
        (visiting-passes cs ps lists t head untrue list cursor w s.is.clause h s.here s.is.clause_there
        (record { lit = l; stands = stands; holds = holds }))
        s.here (ap (λ (x : Watcher). clause_number x) e) new,
    length-set list cursor v,
  );
}
  where
    new : IsWatcher cs ps untrue v
    new = subst (IsWatcher cs ps untrue) (sym e) (record {
      clause = s.is.clause;
      pair = s.is.pair;
      clause_there = s.is.clause_there;
      pair_there = s.is.pair_there;
      is_pair = s.is.is_pair;
      blocker = stands;
      short = λ is. absurd (false≢true (sym long ∙ is));
    })

-- all other literals are false
pub look-settled : (cs : List Clause) (ps : List Pair) (lists : List (List Watcher)) (t t' : Trail) (head : ℕ)
    (untrue : Lit) (list : List Watcher) (cursor : ℕ) (w : Watcher) (l : Lit) (number : ℕ) (visit : Visit) →
    IsTrail t → IsTrail t' → IsVisiting cs ps lists t head untrue list cursor →
    (s : IsSeen cs ps t untrue list cursor w) → contains s.is.clause.lits l ≡ true →
    AreOthersFalse t.lits s.is.clause.lits l → number ≡ clause_number w → IsSettled t t' l number visit →
    IsVisit cs ps lists t t' head untrue list list cursor visit
look-settled cs ps lists t t' head untrue list cursor w l number Kept it it' h s stands others same settled = record {
  trail = it';
  extends = record {
    variables = ap (λ (x : Trail). x.variables) settled;
    level_starts = ap (λ (x : Trail). x.level_starts) settled;
    more_lits = l ∷ [];
    lits = ap (λ (x : Trail). x.lits) settled;
    more_reasons = Some number ∷ [];
    reasons = ap (λ (x : Trail). x.reasons) settled;
  };
  passing = (
    subst (λ x. IsVisiting cs ps lists x head untrue list (cursor + 1)) (sym settled)
        (visiting-passes cs ps lists (forced t l number) head untrue list cursor w s.is.clause
        (visiting-forced cs ps lists t head untrue list cursor l number s.is.clause it h
        (ap (slice_get cs) same ∙ s.is.clause_there) (all-but-one t.lits s.is.clause.lits l others stands))
        s.here s.is.clause_there
        (record { lit = l; stands = stands; holds = contains-right t.lits (l ∷ []) l (contains-head l []) })),
    refl,
  );
}
look-settled cs ps lists t t' head untrue list cursor w l number Moved it it' h s stands others same settled =
    absurd settled
look-settled cs ps lists t t' head untrue list cursor w l number (Falsified k) it it' h s stands others same settled =
    record {
      trail = it';
      extends = subst (ExtendsTrail t) (sym settled.1) (ExtendsTrail-itself t);
      passing = (
        subst (λ x. IsVisiting cs ps lists x head untrue list cursor) (sym settled.1) h,
        (
          s.is.clause,
          ap (slice_get cs) (settled.0 ∙ same) ∙ s.is.clause_there,
          subst (λ (x : Trail). IsFalsified x.lits s.is.clause.lits) (sym settled.1)
              (all-false t.lits s.is.clause.lits l others settled.2),
        ),
      );
    }

-- the only other literal of a short clause
pub short-others : (cs : List Clause) (ps : List Pair) (lists : List (List Watcher)) (t : Trail) (head : ℕ)
    (untrue : Lit) (list : List Watcher) (cursor : ℕ) (w : Watcher) →
    IsVisiting cs ps lists t head untrue list cursor → (s : IsSeen cs ps t untrue list cursor w) →
    is_short w ≡ true → AreOthersFalse t.lits s.is.clause.lits w.blocker
short-others cs ps lists t head untrue list cursor w h s short m stands = by (s.is.short short m stands)
  where
    by : (m ≡ w.blocker) ⊎ (m ≡ untrue) → (m ≡ w.blocker) ⊎ (contains t.lits (opposite m) ≡ true)
    by (inl e) = inl e
    by (inr e) =
        inr (subst (λ x. contains t.lits (opposite x) ≡ true) (sym e) (contains-at t.lits (opposite untrue) head
        h.falsified))

-- another literal is watched
pub look-moved : (cs : List Clause) (ps : List Pair) (lists lists' : List (List Watcher)) (t : Trail) (head : ℕ)
    (untrue : Lit) (list : List Watcher) (cursor : ℕ) (w : Watcher) (p : Pair) (other l : Lit) → IsTrail t →
    IsVisiting cs ps lists t head untrue list cursor → (s : IsSeen cs ps t untrue list cursor w) →
    is_short w ≡ false → IsLooked cs ps t untrue list cursor w s p other →
    IsOther t.lits s.is.clause.lits other l → length lists' ≡ length lists →
    ((m : Lit) → watchers lists' m ≡ pushed lists l (record { tag = w.tag; blocker = other }) m) →
    IsVisit cs (slice_set ps (clause_number w) (record { first = other; second = l })) lists' t t head untrue list
    (list_without list cursor) cursor Moved
look-moved cs ps lists lists' t head untrue list cursor w p other l it h s long looked is size joins = record {
  trail = it;
  extends = ExtendsTrail-itself t;
  passing = (
    visiting-moves cs ps lists lists' t head untrue list cursor w (record { tag = w.tag; blocker = other })
        s.is.clause p (record { first = other; second = l }) h (record {
          here = s.here;
          there = s.is.clause_there;
          pair = looked.pair;
          is_pair = record { first = looked.of.stands; second = is.stands; differ = is.differs };
          kept = looked.of.kept;
          differs = looked.of.differs;
          free = is.not_false;
          same = refl;
          long = long;
          blocker = looked.of.stands;
          size = size;
          joins = joins;
        }),
    (let within = slice_get_within list cursor w s.here in
        omega (
          arith,
          within,
          length-take-le (length list - 1) (slice_set list cursor (watcher_at list (length list - 1))),
          length-set list cursor (watcher_at list (length list - 1)),
        )),
  );
}

-- the same, as the parts of the move tell it
pub look-moves : (cs : List Clause) (ps ps' : List Pair) (lists lists' : List (List Watcher)) (t : Trail) (head : ℕ)
    (untrue : Lit) (list list' : List Watcher) (cursor : ℕ) (w : Watcher) (p : Pair) (other l : Lit) → IsTrail t →
    IsVisiting cs ps lists t head untrue list cursor → (s : IsSeen cs ps t untrue list cursor w) →
    is_short (watcher_at list cursor) ≡ false → IsLooked cs ps t untrue list cursor w s p other →
    IsOther t.lits s.is.clause.lits other l →
    ps' ≡ slice_set ps (clause_number (watcher_at list cursor)) (record { first = other; second = l }) →
    list' ≡ list_without list cursor → length lists' ≡ length lists →
    ((m : Lit) → watchers lists' m ≡ pushed lists l (record { tag = (watcher_at list cursor).tag; blocker = other }) m)
    →
    IsVisit cs ps' lists' t t head untrue list list' cursor Moved
look-moves cs ps ps' lists lists' t head untrue list list' cursor w p other l it h s long looked is pairs rest size
    joins =
    subst (λ x. IsVisit cs x lists' t t head untrue list list' cursor Moved)
    (sym (pairs ∙ ap (λ (x : Watcher). slice_set ps (clause_number x) (record { first = other; second = l })) same))
    (subst (λ x. IsVisit cs (slice_set ps (clause_number w) (record { first = other; second = l })) lists' t t head
    untrue list x cursor Moved) (sym rest)
    (look-moved cs ps lists lists' t head untrue list cursor w p other l it h s
    (subst (λ (x : Watcher). is_short x ≡ false) same long) looked is size
    (λ m. joins m ∙ ap (λ (x : Watcher). pushed lists l (record { tag = x.tag; blocker = other }) m) same)))
  where
    same : watcher_at list cursor ≡ w
    same = seen-at cs ps t untrue list cursor w s
