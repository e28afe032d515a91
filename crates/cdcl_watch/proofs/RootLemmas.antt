-- One clause more that is watched before any decision, or makes its only literal true.
use Rattle.std.proofs.Common.{◌≡◌, ◌∙◌, inl, ℕ, ◌*◌, Bool, true, false, not, refl, List, [], ◌∷◌, ◌++◌, Some, sym, ap}
use Rattle.std.proofs.Common.{subst}
use Rattle.std.proofs.Common.{length, slice_get}
use Rattle.std.proofs.lemmas.Bool.{false≢true}
use Rattle.cnf_core.specs.declared.clause.Clause.{Clause}
use Rattle.cnf_core.specs.Clause.{opposite, same_lit, contains}
use Rattle.cnf_core.proofs.Sets.{contains-right, contains-head}
use Rattle.cdcl_base.specs.Trail.{Trail, IsTrail, AreReasons}
use Rattle.cdcl_base.proofs.TrailLemmas.{forced, AreReasons-forced}
use Rattle.cdcl_watch.specs.declared.lists.Watcher.{Watcher}
use Rattle.cdcl_watch.specs.declared.propagation.Pair.{Pair}
use Rattle.cdcl_watch.specs.Lists.{watchers}
use Rattle.cdcl_watch.specs.Watches.{IsPair, AreLists, AreWatched}
use Rattle.cdcl_watch.specs.Attach.{IsPairOf, IsAttaching, IsRootConflict}
use Rattle.cdcl_watch.proofs.WatchLemmas.{are-watched-more}
use Rattle.cdcl_watch.proofs.AttachLemmas.{AreLists-single, watched-next, pair-awake}

pub not-true : (b : Bool) → not b ≡ true → b ≡ false
not-true true h = absurd (false≢true h)
not-true false h = refl

pub not-false : (b : Bool) → not b ≡ false → b ≡ true
not-false true h = refl
not-false false h = absurd (false≢true (sym h))

-- it watches two literals
pub attaching-pair : (cs : List Clause) (ps ps' : List Pair) (lists lists' : List (List Watcher)) (t : Trail) (p : Pair)
    (c : Clause) → IsAttaching cs ps lists t → slice_get cs (length ps) ≡ Some c → IsPair c.lits p →
    ps' ≡ ps ++ p ∷ [] → length lists' ≡ length lists → AreLists cs ps' (watchers lists') → IsAttaching cs ps' lists' t
attaching-pair cs ps ps' lists lists' t p c h there is pairs size listed = record {
  trail = h.trail;
  root = h.root;
  sized = size ∙ h.sized;
  listed = listed;
  reasons = h.reasons;
  watched = subst (λ x. AreWatched t.lits [] cs x) (sym pairs)
      (watched-next t.lits [] cs ps p c h.watched there (pair-awake t.lits c.lits p is));
}

-- its only literal is true
pub attaching-true : (cs : List Clause) (ps ps' : List Pair) (lists : List (List Watcher)) (t : Trail) (p : Pair)
    (c : Clause) → IsAttaching cs ps lists t → slice_get cs (length ps) ≡ Some c → IsPairOf c.lits p →
    same_lit p.first p.second ≡ true → ps' ≡ ps ++ p ∷ [] → contains t.lits p.first ≡ true → IsAttaching cs ps' lists t
attaching-true cs ps ps' lists t p c h there of same pairs holds = record {
  trail = h.trail;
  root = h.root;
  sized = h.sized;
  listed = subst (λ x. AreLists cs x (watchers lists)) (sym pairs)
      (AreLists-single cs ps (watchers lists) p c there same h.listed);
  reasons = h.reasons;
  watched = subst (λ x. AreWatched t.lits [] cs x) (sym pairs)
      (watched-next t.lits [] cs ps p c h.watched there
      (inl (record { lit = p.first; stands = of.stands; holds = holds })));
}

-- it is false
pub root-conflict : (cs : List Clause) (ps : List Pair) (lists : List (List Watcher)) (t : Trail) (p : Pair)
    (c : Clause) (number : ℕ) → IsAttaching cs ps lists t → slice_get cs number ≡ Some c → IsPairOf c.lits p →
    same_lit p.first p.second ≡ true → contains t.lits (opposite p.first) ≡ true → IsRootConflict cs t number
root-conflict cs ps lists t p c number h there of same untrue = record {
  trail = h.trail;
  root = h.root;
  reasons = h.reasons;
  conflict = (
    c,
    there,
    λ m stands. subst (λ l. contains t.lits (opposite l) ≡ true) (sym (of.one same m stands)) untrue,
  );
}

-- it is made true
pub attaching-forced : (cs : List Clause) (ps ps' : List Pair) (lists : List (List Watcher)) (t t' : Trail) (p : Pair)
    (c : Clause) (number : ℕ) → IsAttaching cs ps lists t → slice_get cs (length ps) ≡ Some c → IsPairOf c.lits p →
    same_lit p.first p.second ≡ true → ps' ≡ ps ++ p ∷ [] → number ≡ length ps → IsTrail t' →
    t' ≡ forced t p.first number → IsAttaching cs ps' lists t'
attaching-forced cs ps ps' lists t t' p c number h there of same pairs at it now = record {
  trail = it;
  root = ap (λ (x : Trail). x.level_starts) now ∙ h.root;
  sized = h.sized ∙ ap (λ (x : Trail). 2 * x.variables) (sym now);
  listed = subst (λ x. AreLists cs x (watchers lists)) (sym pairs)
      (AreLists-single cs ps (watchers lists) p c there same h.listed);
  reasons = subst (AreReasons cs) (sym now)
      (AreReasons-forced cs t p.first number c h.trail h.reasons (ap (slice_get cs) at ∙ there) (record {
        stands = of.stands;
        others = λ m stands. inl (of.one same m stands);
      }));
  watched = subst (λ x. AreWatched t'.lits [] cs x) (sym pairs)
      (subst (λ (x : Trail). AreWatched x.lits [] cs (ps ++ p ∷ [])) (sym now)
      (watched-next (t.lits ++ p.first ∷ []) [] cs ps p c (are-watched-more t.lits (p.first ∷ []) [] cs ps h.watched)
      there
      (inl (record {
        lit = p.first;
        stands = of.stands;
        holds = contains-right t.lits (p.first ∷ []) p.first (contains-head p.first []);
      }))));
}
