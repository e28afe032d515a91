-- What propagation keeps as decisions are made and cancelled.
use Rattle.std.proofs.Common.{◌≡◌, ◌∙◌, ℕ, ◌*◌, List, [], ◌∷◌, ◌++◌, Some, sym, ap, subst, arith, length}
use Rattle.std.proofs.Common.{take, take-take, take_all, get_or, slice_get, All, le_refl}
use Rattle.std.proofs.lemmas.List.{take-append-le, length_push}
use Rattle.std.proofs.lemmas.List.Elements.{All-push, All-contains, Contains-get_or}
use Rattle.std.proofs.Math.Seq.{take-append_seam}
use Rattle.cnf_core.specs.declared.clause.Lit.{Lit}
use Rattle.cnf_core.specs.declared.clause.Clause.{Clause}
use Rattle.cnf_core.specs.Clause.{IsOver}
use Rattle.cdcl_base.specs.Trail.{Trail, IsTrail, IsCancelled, Forces}
use Rattle.cdcl_base.proofs.TrailLemmas.{decided, forced, AreReasons-decided, AreReasons-forced, AreReasons-cancelled}
use Rattle.cdcl_watch.specs.declared.lists.Watcher.{Watcher}
use Rattle.cdcl_watch.specs.declared.propagation.Pair.{Pair}
use Rattle.cdcl_watch.specs.Watches.{AreWatched, AreWatchedBefore, IsWatching}
use Rattle.cdcl_watch.proofs.WatchLemmas.{are-watched-more}

-- the starts of levels that stay
before-kept : (cs : List Clause) (ps : List Pair) (t : Trail) (more : List Lit) → IsTrail t → AreWatchedBefore cs ps t →
    All (λ s. AreWatched (take s (t.lits ++ more)) (take s (t.lits ++ more)) cs ps) t.level_starts
before-kept cs ps t more it h k d lt =
    let early = it.within k d lt in
    subst (λ lits. AreWatched lits lits cs ps)
    (sym (take-append-le (get_or t.level_starts k d) t.lits more (omega (arith, early)))) (h k d lt)

-- a decision, where everything was propagated
pub watching-decided : (cs : List Clause) (ps : List Pair) (lists : List (List Watcher)) (t : Trail) (head : ℕ) (l :
    Lit) →
    IsTrail t → IsWatching cs ps lists t head → head ≡ length t.lits → IsWatching cs ps lists (decided t l) head
watching-decided cs ps lists t head l it h end = record {
  within = omega (arith, end, length_push t.lits l);
  lengths = h.lengths;
  over = h.over;
  sized = h.sized;
  listed = h.listed;
  reasons = AreReasons-decided cs t l it h.reasons;
  watched = subst (λ front. AreWatched (t.lits ++ l ∷ []) front cs ps)
      (sym (take-append-le head t.lits (l ∷ []) (omega (arith, end))))
      (are-watched-more t.lits (l ∷ []) (take head t.lits) cs ps h.watched);
  before = All-push (λ s. AreWatched (take s (t.lits ++ l ∷ [])) (take s (t.lits ++ l ∷ [])) cs ps) t.level_starts
      (length t.lits) (before-kept cs ps t (l ∷ []) it h.before)
      (subst (λ lits. AreWatched lits lits cs ps) (sym (take-append_seam t.lits (l ∷ []))) now);
}
  where
    now : AreWatched t.lits t.lits cs ps
    now = subst (λ front. AreWatched t.lits front cs ps) (take_all head t.lits (omega (arith, end))) h.watched

-- one true literal more
pub watching-forced : (cs : List Clause) (ps : List Pair) (lists : List (List Watcher)) (t : Trail) (head : ℕ) (l : Lit)
    (reason : ℕ) (c : Clause) → IsTrail t → IsWatching cs ps lists t head → slice_get cs reason ≡ Some c →
    Forces t.lits c.lits l → IsWatching cs ps lists (forced t l reason) head
watching-forced cs ps lists t head l reason c it h there forces = record {
  within = let within = h.within in omega (arith, within, length_push t.lits l);
  lengths = h.lengths;
  over = h.over;
  sized = h.sized;
  listed = h.listed;
  reasons = AreReasons-forced cs t l reason c it h.reasons there forces;
  watched = subst (λ front. AreWatched (t.lits ++ l ∷ []) front cs ps)
      (sym (take-append-le head t.lits (l ∷ []) h.within))
      (are-watched-more t.lits (l ∷ []) (take head t.lits) cs ps h.watched);
  before = before-kept cs ps t (l ∷ []) it h.before;
}

-- going back repairs nothing: the head is the end of what is left
pub watching-cancelled : (cs : List Clause) (ps : List Pair) (lists : List (List Watcher)) (old new : Trail)
    (head keep : ℕ) → IsTrail old → IsWatching cs ps lists old head → IsCancelled old new keep →
    IsWatching cs ps lists new (length new.lits)
watching-cancelled cs ps lists old new head keep it h e = record {
  within = le_refl (length new.lits);
  lengths = h.lengths;
  over = subst (λ n. All (λ (c : Clause). IsOver n c.lits) cs) (sym e.variables) h.over;
  sized = h.sized ∙ ap (λ n. 2 * n) (sym e.variables);
  listed = h.listed;
  reasons = AreReasons-cancelled cs old new keep it h.reasons e;
  watched = subst (λ front. AreWatched new.lits front cs ps)
      (sym (take_all (length new.lits) new.lits (le_refl (length new.lits))))
      (subst (λ lits. AreWatched lits lits cs ps) (sym e.lits)
      (All-contains (λ s. AreWatched (take s old.lits) (take s old.lits) cs ps) old.level_starts e.place h.before
      e.decision));
  before = λ k d lt. let kept = e.level_starts (get_or new.level_starts k d) (Contains-get_or new.level_starts k d lt)
      in
      let below = kept.1 in
      let later = e.later in
      subst (λ lits. AreWatched lits lits cs ps)
      (sym
      (ap (take (get_or new.level_starts k d)) e.lits
      ∙ take-take (get_or new.level_starts k d) e.place old.lits (omega arith)))
      (All-contains (λ s. AreWatched (take s old.lits) (take s old.lits) cs ps) old.level_starts
      (get_or new.level_starts k d) h.before kept.0);
}
