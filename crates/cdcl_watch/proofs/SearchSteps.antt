-- The steps of a search: a learnt clause that gets its watches, and what an answer says.
use Rattle.std.proofs.Common.{◌≡◌, ◌≢◌, ◌∙◌, ◌⊎◌, inl, inr, ℕ, zero, suc, ◌*◌, ◌<◌, ◌≤◌, true, false, List, []}
use Rattle.std.proofs.Common.{◌∷◌, ◌++◌, Some, None, refl, sym, ap, subst, arith, length, slice_get, take, take-take}
use Rattle.std.proofs.Common.{All, get_or, nat_eq, IfOk, OnOk, Option, Result, Ok, Err, IfNone, is_some, take_all}
use Rattle.std.proofs.lemmas.Bool.{false≢true}
use Rattle.std.proofs.lemmas.Bool.Decides.{Decides-eqb}
use Rattle.std.proofs.lemmas.Option.{none-some}
use Rattle.std.proofs.lemmas.List.Elements.{Contains-get_or, All-push}
use Rattle.cdcl_base.proofs.SearchLemmas.{filled_by}
use Rattle.cnf_core.specs.declared.clause.Lit.{Lit}
use Rattle.cnf_core.specs.declared.clause.Clause.{Clause}
use Rattle.cnf_core.specs.Clause.{same_lit, contains, IsOver}
use Rattle.cnf_core.specs.Resolution.{clause}
use Rattle.cnf_core.proofs.Sets.{same_lit-true, same_lit-from}
use Rattle.list_lemmas.proofs.Bools.{or-cases}
use Rattle.list_lemmas.proofs.Lookups.{slice_get-at_end}
use Rattle.cdcl_base.specs.Trail.{Trail, IsTrail, IsCancelled, Forces, ArePropagated, ArePropagatedBefore}
use Rattle.cdcl_base.specs.Trail.{AreReasons}
use Rattle.cdcl_watch.proofs.ListLemmas.{nobody-listed}
use Rattle.cdcl_base.specs.Analysis.{IsAsserting, IsLastFalse}
use Rattle.cdcl_watch.specs.declared.lists.Watcher.{Watcher}
use Rattle.cdcl_watch.specs.declared.propagation.Pair.{Pair}
use Rattle.cdcl_watch.specs.Lists.{watchers}
use Rattle.cdcl_watch.specs.Watches.{IsPair, IsWatched, IsWatching, AreLists, AreWatched}
use Rattle.cdcl_watch.specs.declared.search.Search.{Search}
use Rattle.cdcl_watch.specs.Search.{IsReady}
use Rattle.cdcl_watch.specs.Attach.{IsNext, IsAttaching, learnt_pair}
use Rattle.cdcl_watch.proofs.AttachLemmas.{AreLists-more, watching-learnt}
use Rattle.cdcl_watch.proofs.WatchLemmas.{are-propagated}
use Rattle.cdcl_watch.proofs.WatchingLemmas.{watching-cancelled}
use Rattle.cdcl_base.proofs.TrailLemmas.{forced}

-- ---- a clause of two literals

one-of : (a b x : Lit) → contains (a ∷ b ∷ []) x ≡ true → (x ≡ a) ⊎ (x ≡ b)
one-of a b x h = by (or-cases (same_lit x a) (contains (b ∷ []) x) h)
  where
    by : (same_lit x a ≡ true) ⊎ (contains (b ∷ []) x ≡ true) → (x ≡ a) ⊎ (x ≡ b)
    by (inl e) = inl (same_lit-true x a e)
    by (inr e) = last (or-cases (same_lit x b) false e)
      where
        last : (same_lit x b ≡ true) ⊎ (false ≡ true) → (x ≡ a) ⊎ (x ≡ b)
        last (inl f) = inr (same_lit-true x b f)
        last (inr f) = absurd (false≢true f)

-- its literals are those of a pair
pub two-only : (c : List Lit) (p : Pair) → IsPair c p → length c ≡ 2 → (m : Lit) → contains c m ≡ true →
    (m ≡ p.first) ⊎ (m ≡ p.second)
two-only [] p is size m h = absurd (false≢true h)
two-only (a ∷ []) p is size m h = absurd (omega (arith, size))
two-only (a ∷ b ∷ c ∷ cs) p is size m h = absurd (omega (arith, size))
two-only (a ∷ b ∷ []) p is size m h =
    by (one-of a b p.first is.first) (one-of a b p.second is.second) (one-of a b m h)
  where
    same : (x : Lit) → p.first ≡ x → p.second ≡ x → ⊥
    same x e f = false≢true (sym is.differ ∙ same_lit-from p.first p.second (e ∙ sym f))

    by : (p.first ≡ a) ⊎ (p.first ≡ b) → (p.second ≡ a) ⊎ (p.second ≡ b) → (m ≡ a) ⊎ (m ≡ b) →
        (m ≡ p.first) ⊎ (m ≡ p.second)
    by (inl e) (inl f) g = absurd (same a e f)
    by (inr e) (inr f) g = absurd (same b e f)
    by (inl e) (inr f) (inl g) = inl (g ∙ sym e)
    by (inl e) (inr f) (inr g) = inr (g ∙ sym f)
    by (inr e) (inl f) (inl g) = inr (g ∙ sym f)
    by (inr e) (inl f) (inr g) = inl (g ∙ sym e)

pub next-of : (cs : List Clause) (ps : List Pair) (c : List Lit) (p : Pair) (size : ℕ) →
    slice_get cs (length ps) ≡ Some (clause c) → IsPair c p → size ≡ length c → IsNext cs ps p (nat_eq size 2)
next-of cs ps c p size there is same = record {
  clause = clause c;
  there = there;
  pair = is;
  only = λ short. two-only c p is (sym same ∙ (Decides-eqb size 2).0 short);
}

-- ---- the watches of a learnt clause

-- they were not false before the decisions that stay
pub learnt-before : (old new : Trail) (c : List Lit) (l last : Lit) (level_start keep : ℕ) → IsCancelled old new keep →
    IsAsserting old.lits c l level_start keep → (0 < keep → IsLastFalse old.lits c l keep last) →
    All (λ s. IsWatched (take s new.lits) (take s new.lits) c (learnt_pair keep l last)) new.level_starts
learnt-before old new c l last level_start zero cancelled asserting false_last k d lt =
    let early = (cancelled.level_starts (get_or new.level_starts k d) (Contains-get_or new.level_starts k d lt)).1 in
    absurd (omega (arith, early))
learnt-before old new c l last level_start (suc n) cancelled asserting false_last k d lt =
    subst (λ lits. IsWatched lits lits c (learnt_pair (suc n) l last)) same
    (inr (record {
      pair = record {
        first = (asserting.forces (suc n) (omega arith)).stands;
        second = at.stands;
        differ = at.differs;
      };
      first = (asserting.unassigned s (omega (arith, early, kept))).1;
      second = (at.unassigned s early).1;
    }))
  where
    s : ℕ
    s = get_or new.level_starts k d

    at : IsLastFalse old.lits c l (suc n) last
    at = false_last (omega arith)

    kept : suc n ≤ level_start
    kept = asserting.kept

    early : get_or new.level_starts k d < suc n
    early = (cancelled.level_starts (get_or new.level_starts k d) (Contains-get_or new.level_starts k d lt)).1

    same : take (get_or new.level_starts k d) old.lits ≡ take (get_or new.level_starts k d) new.lits
    same = let later = cancelled.later in
        sym (ap (take (get_or new.level_starts k d)) cancelled.lits
        ∙ take-take (get_or new.level_starts k d) cancelled.place old.lits (omega (arith, early, later)))

-- after the backjump
pub backjumped : (cs : List Clause) (ps ps' : List Pair) (lists lists' : List (List Watcher)) (old new : Trail)
    (head : ℕ) (c : List Lit) (l last : Lit) (level_start keep : ℕ) → IsTrail old → IsTrail new →
    IsWatching cs ps lists old head → IsCancelled old new keep → IsOver old.variables c →
    IsAsserting old.lits c l level_start keep → (0 < keep → IsLastFalse old.lits c l keep last) →
    length lists' ≡ length lists → ps' ≡ ps ++ learnt_pair keep l last ∷ [] →
    ((cs' : List Clause) → slice_get cs' (length ps) ≡ Some (clause c) →
    (0 < keep → IsPair c (learnt_pair keep l last)) → AreLists cs' ps (watchers lists) →
    AreLists cs' ps' (watchers lists')) →
    IsWatching (cs ++ clause c ∷ []) ps' lists' (forced new l (length cs)) (length new.lits)
backjumped cs ps ps' lists lists' old new head c l last level_start keep it it' h cancelled over asserting false_last
    size pairs attach =
    subst (λ x. IsWatching (cs ++ clause c ∷ []) x lists' (forced new l (length cs)) (length new.lits)) (sym pairs)
    (watching-learnt cs ps lists lists' new (length new.lits) (clause c) (learnt_pair keep l last) l it'
    (watching-cancelled cs ps lists old new head keep it h cancelled) (record {
      listed = subst (λ x. AreLists (cs ++ clause c ∷ []) x (watchers lists')) pairs
          (attach (cs ++ clause c ∷ []) (slice_get-at_end cs (clause c) [] (length ps) h.lengths) pair
          (AreLists-more cs (clause c) ps (watchers lists) (let same = h.lengths in omega (arith, same)) h.listed));
      sized = size;
      over = subst (λ n. IsOver n c) (sym cancelled.variables) over;
      forces = subst (λ lits. Forces lits c l) (sym cancelled.lits)
          (asserting.forces cancelled.place cancelled.later);
      before = learnt-before old new c l last level_start keep cancelled asserting false_last;
    }))
  where
    is_pair : (n : ℕ) → n ≡ keep → 0 < n → IsPair c (learnt_pair n l last)
    is_pair zero e lt = absurd (omega (arith, lt))
    is_pair (suc n) e lt =
        let at = false_last (omega (arith, e)) in
        record {
          first = (asserting.forces keep (omega arith)).stands;
          second = at.stands;
          differ = at.differs;
        }

    pair : 0 < keep → IsPair c (learnt_pair keep l last)
    pair lt = is_pair keep refl lt

-- ---- what a search keeps

pub where_none : {X : Type 0} (o : Option X) (P : Type 0) → IfNone o P → is_some o ≡ false → P
where_none None P h e = h
where_none (Some x) P h e = absurd (false≢true (sym e))

pub ready-from : (old new : Search) → IsReady old → new.clauses ≡ old.clauses →
    length new.scores.scores ≡ length old.scores.scores → new.order ≡ old.order → new.analyzer ≡ old.analyzer →
    new.trail.variables ≡ old.trail.variables → IsTrail new.trail →
    IsWatching new.clauses new.pairs.items new.lists new.trail new.head → IsReady new
ready-from old new h clauses scores order analyzer variables it watching = record {
  trail = it;
  sizes = record {
    scored = scores ∙ h.sizes.scored ∙ sym variables;
    ordered = order ∙ h.sizes.ordered ∙ sym variables;
    analyzed = analyzer ∙ h.sizes.analyzed ∙ sym variables;
  };
  filled = subst (All (λ (c : Clause). c.lits ≢ [])) (sym clauses) h.filled;
  watching = watching;
}

pub propagated-before : (cs : List Clause) (ps : List Pair) (lists : List (List Watcher)) (t : Trail) (head : ℕ) →
    IsWatching cs ps lists t head → ArePropagatedBefore cs t
propagated-before cs ps lists t head h k d lt =
    are-propagated (take (get_or t.level_starts k d) t.lits) cs ps h.lengths (h.before k d lt)

-- at the end of the trail
pub propagated-now : (cs : List Clause) (ps : List Pair) (lists : List (List Watcher)) (t : Trail) (head : ℕ) →
    IsWatching cs ps lists t head → head ≡ length t.lits → ArePropagated t.lits cs
propagated-now cs ps lists t head h end =
    are-propagated t.lits cs ps h.lengths
    (subst (λ front. AreWatched t.lits front cs ps) (take_all head t.lits (omega (arith, end))) h.watched)

-- the same, as the parts of a backjump tell it
pub backjumped-to : (cs cs' : List Clause) (ps ps' : List Pair) (lists lists' : List (List Watcher))
    (old new t' : Trail) (head head' : ℕ) (c : List Lit) (l last : Lit) (level_start keep number : ℕ) → IsTrail old →
    IsTrail new → IsWatching cs ps lists old head → IsCancelled old new keep → IsOver old.variables c →
    IsAsserting old.lits c l level_start keep → (0 < keep → IsLastFalse old.lits c l keep last) →
    length lists' ≡ length lists → ps' ≡ ps ++ learnt_pair keep l last ∷ [] →
    ((cs' : List Clause) → slice_get cs' (length ps) ≡ Some (clause c) →
    (0 < keep → IsPair c (learnt_pair keep l last)) → AreLists cs' ps (watchers lists) →
    AreLists cs' ps' (watchers lists')) →
    cs' ≡ cs ++ clause c ∷ [] → number ≡ length cs → t' ≡ forced new l number → head' ≡ length new.lits →
    IsWatching cs' ps' lists' t' head'
backjumped-to cs cs' ps ps' lists lists' old new t' head head' c l last level_start keep number it it' h cancelled over
    asserting false_last size pairs attach clauses at now end =
    subst (λ n. IsWatching cs' ps' lists' t' n) (sym end)
    (subst (λ x. IsWatching cs' ps' lists' x (length new.lits)) (sym (now ∙ ap (forced new l) at))
    (subst (λ x. IsWatching x ps' lists' (forced new l (length cs)) (length new.lits)) (sym clauses)
    (backjumped cs ps ps' lists lists' old new head c l last level_start keep it it' h cancelled over asserting
    false_last size pairs attach)))

pub ready-learnt : (old new : Search) (c : List Lit) (l : Lit) → IsReady old →
    new.clauses ≡ old.clauses ++ clause c ∷ [] → contains c l ≡ true →
    length new.scores.scores ≡ length old.scores.scores → new.order ≡ old.order → new.analyzer ≡ old.analyzer →
    new.trail.variables ≡ old.trail.variables → IsTrail new.trail →
    IsWatching new.clauses new.pairs.items new.lists new.trail new.head → IsReady new
ready-learnt old new c l h clauses stands scores order analyzer variables it watching = record {
  trail = it;
  sizes = record {
    scored = scores ∙ h.sizes.scored ∙ sym variables;
    ordered = order ∙ h.sizes.ordered ∙ sym variables;
    analyzed = analyzer ∙ h.sizes.analyzed ∙ sym variables;
  };
  filled = subst (All (λ (x : Clause). x.lits ≢ [])) (sym clauses)
      (All-push (λ (x : Clause). x.lits ≢ []) old.clauses (clause c) h.filled (filled_by c l stands));
  watching = watching;
}

-- ---- the beginning

pub attaching-begins : (cs : List Clause) (lists : List (List Watcher)) (n : ℕ) (t : Trail) → IsTrail t →
    t ≡ (record { variables = n; lits = []; reasons = []; level_starts = [] }) →
    All (λ (ws : List Watcher). ws ≡ []) lists → length lists ≡ 2 * n → IsAttaching cs [] lists t
attaching-begins cs lists n t it e empty size = record {
  trail = it;
  root = ap (λ (x : Trail). x.level_starts) e;
  sized = size ∙ ap (λ (x : Trail). 2 * x.variables) (sym e);
  listed = record {
    watchers = λ l k w at. absurd (none-some w (ap (λ ws. slice_get ws k) (sym (nobody-listed lists empty l)) ∙ at));
    first = λ k c p at pair is. absurd (none-some p pair);
    second = λ k c p at pair is. absurd (none-some p pair);
  };
  reasons = subst (AreReasons cs) (sym e) (λ k reason l at why. absurd (none-some l at));
  watched = λ k c p at pair. absurd (none-some p pair);
}

pub begun : {E P Q W R : Type 0} (r : Result (Option ℕ) E) → OnOk r P → OnOk r Q → IfOk r (λ found. IfNone found W) →
    (P → Q → W → R) → IfOk r (λ found. IfNone found R)
begun (Ok None) p q w f = f p q w
begun (Ok (Some x)) p q w f = tt
begun (Err e) p q w f = tt

pub over-wider : (m n : ℕ) (cs : List Clause) → m ≤ n → All (λ (c : Clause). IsOver m c.lits) cs →
    All (λ (c : Clause). IsOver n c.lits) cs
over-wider m n cs le h k d lt j e within = let below = h k d lt j e within in omega (arith, below, le)

pub pair-none : (keep : ℕ) (l last : Lit) → keep ≡ 0 → learnt_pair keep l last ≡ (record { first = l; second = l })
pair-none zero l last e = refl
pair-none (suc keep) l last e = absurd (omega (arith, e))

pub pair-some : (keep : ℕ) (l last : Lit) → keep ≢ 0 → learnt_pair keep l last ≡ (record { first = l; second = last })
pair-some zero l last ne = absurd (ne refl)
pair-some (suc keep) l last ne = refl
