-- Clauses that are the same sets: chains over them derive the same sets.
use Rattle.std.proofs.Common.{◌≡◌, ℕ, zero, suc, ◌<◌, ◌&&◌, Bool, true, false, cond, List, [], ◌∷◌, ◌++◌, Option, Some}
use Rattle.std.proofs.Common.{None, refl, subst, sym, ap, ◌∙◌, ◌⊎◌, slice_get, option_and_then, length, get_or}
use Rattle.std.proofs.lemmas.Option.{none-some, same_Some}
use Rattle.cnf_core.specs.declared.clause.Lit.{Lit}
use Rattle.cnf_core.specs.declared.clause.Clause.{Clause}
use Rattle.cnf_core.specs.declared.log.Chain.{Chain}
pub use Rattle.cnf_core.specs.Clause.{AllSame}
use Rattle.cnf_core.specs.Clause.{opposite, contains, AreSame}
use Rattle.cnf_core.specs.Resolution.{without, resolvent, step, after_steps, derived, IsNewClause}
use Rattle.cnf_core.proofs.Sets.{without-same, append-same, AreSame-itself, AreSame-sym, IsSubset-from}
use Rattle.cnf_core.proofs.Sets.{IsSubset-trans}
use Rattle.list_lemmas.proofs.Bools.{true-or-false}

pub AllSame-itself : (cs : List Clause) → AllSame cs cs
AllSame-itself [] = tt
AllSame-itself (c ∷ cs) = (AreSame-itself c.lits, AllSame-itself cs)

pub AllSame-more : (cs ds : List Clause) (c d : Clause) → AllSame cs ds → AreSame c.lits d.lits →
    AllSame (cs ++ c ∷ []) (ds ++ d ∷ [])
AllSame-more [] [] c d h k = (k, tt)
AllSame-more [] (y ∷ ds) c d h k = absurd h
AllSame-more (x ∷ cs) [] c d h k = absurd h
AllSame-more (x ∷ cs) (y ∷ ds) c d h k = (h.0, AllSame-more cs ds c d h.1 k)

pub AllSame-length : (cs ds : List Clause) → AllSame cs ds → length cs ≡ length ds
AllSame-length [] [] h = refl
AllSame-length [] (y ∷ ds) h = absurd h
AllSame-length (x ∷ cs) [] h = absurd h
AllSame-length (x ∷ cs) (y ∷ ds) h = ap suc (AllSame-length cs ds h.1)

pub AllSame-sym : (cs ds : List Clause) → AllSame cs ds → AllSame ds cs
AllSame-sym [] [] h = tt
AllSame-sym [] (y ∷ ds) h = absurd h
AllSame-sym (x ∷ cs) [] h = absurd h
AllSame-sym (x ∷ cs) (y ∷ ds) h = (AreSame-sym x.lits y.lits h.0, AllSame-sym cs ds h.1)

-- none in either place, or the same sets
abbrev pub SameIfAny : Option (List Lit) → Option (List Lit) → Type 0
SameIfAny None None = Unit {0}
SameIfAny (Some c) (Some d) = AreSame c d
SameIfAny _ _ = ⊥

abbrev pub SameClauseIfAny : Option Clause → Option Clause → Type 0
SameClauseIfAny None None = Unit {0}
SameClauseIfAny (Some c) (Some d) = AreSame c.lits d.lits
SameClauseIfAny _ _ = ⊥

pub AllSame-at : (cs ds : List Clause) (k : ℕ) → AllSame cs ds → SameClauseIfAny (slice_get cs k) (slice_get ds k)
AllSame-at [] [] k h = tt
AllSame-at [] (y ∷ ds) k h = absurd h
AllSame-at (x ∷ cs) [] k h = absurd h
AllSame-at (x ∷ cs) (y ∷ ds) zero h = h.0
AllSame-at (x ∷ cs) (y ∷ ds) (suc k) h = AllSame-at cs ds k h.1

pub resolvent-same : (c d : List Lit) (l : Lit) (x y : List Lit) → AreSame c d → AreSame x y →
    SameIfAny (resolvent c l x) (resolvent d l y)
resolvent-same c d l x y h k = by (true-or-false (contains c l && contains x (opposite l)))
  where
    tests : (contains c l && contains x (opposite l)) ≡ (contains d l && contains y (opposite l))
    tests i = h l i && k (opposite l) i

    sides : AreSame (without l c ++ without (opposite l) x) (without l d ++ without (opposite l) y)
    sides =
        append-same (without l c) (without l d) (without (opposite l) x) (without (opposite l) y) (without-same l c d h)
        (without-same (opposite l) x y k)

    both : (b : Bool) →
        SameIfAny (cond b (Some (without l c ++ without (opposite l) x)) None)
        (cond b (Some (without l d ++ without (opposite l) y)) None)
    both true = sides
    both false = tt

    by : ((contains c l && contains x (opposite l)) ≡ true) ⊎ ((contains c l && contains x (opposite l)) ≡ false) →
        SameIfAny (resolvent c l x) (resolvent d l y)
    by r =
        subst
        (λ b.
        SameIfAny (cond (contains c l && contains x (opposite l)) (Some (without l c ++ without (opposite l) x)) None)
        (cond b (Some (without l d ++ without (opposite l) y)) None)) tests
        (both (contains c l && contains x (opposite l)))

bind-same : (a b : Option Clause) (f g : Clause → Option (List Lit)) → SameClauseIfAny a b →
    ((x y : Clause) → AreSame x.lits y.lits → SameIfAny (f x) (g y)) →
    SameIfAny (option_and_then f a) (option_and_then g b)
bind-same None None f g h k = tt
bind-same None (Some y) f g h k = absurd h
bind-same (Some x) None f g h k = absurd h
bind-same (Some x) (Some y) f g h k = k x y h

then-same : (a b : Option (List Lit)) (f g : List Lit → Option (List Lit)) → SameIfAny a b →
    ((x y : List Lit) → AreSame x y → SameIfAny (f x) (g y)) → SameIfAny (option_and_then f a) (option_and_then g b)
then-same None None f g h k = tt
then-same None (Some y) f g h k = absurd h
then-same (Some x) None f g h k = absurd h
then-same (Some x) (Some y) f g h k = k x y h

pub step-same : (cs ds : List Clause) (c d : List Lit) (s : Lit × ℕ) → AllSame cs ds → AreSame c d →
    SameIfAny (step cs c s) (step ds d s)
step-same cs ds c d s h k =
    bind-same (slice_get cs s.1) (slice_get ds s.1) (λ (x : Clause). resolvent c s.0 x.lits)
    (λ (y : Clause). resolvent d s.0 y.lits)
    (AllSame-at cs ds s.1 h) (λ x y same. resolvent-same c d s.0 x.lits y.lits k same)

pub after_steps-same : (cs ds : List Clause) (ss : List (Lit × ℕ)) (c d : List Lit) → AllSame cs ds → AreSame c d →
    SameIfAny (after_steps cs c ss) (after_steps ds d ss)
after_steps-same cs ds [] c d h k = k
after_steps-same cs ds (s ∷ ss) c d h k =
    then-same (step cs c s) (step ds d s) (λ x. after_steps cs x ss) (λ y. after_steps ds y ss)
    (step-same cs ds c d s h k) (λ x y same. after_steps-same cs ds ss x y h same)

pub derived-same : (cs ds : List Clause) (chain : Chain) → AllSame cs ds →
    SameIfAny (derived cs chain) (derived ds chain)
derived-same cs ds chain h =
    bind-same (slice_get cs chain.first) (slice_get ds chain.first) (λ (x : Clause). after_steps cs x.lits chain.steps)
    (λ (y : Clause). after_steps ds y.lits chain.steps)
    (AllSame-at cs ds chain.first h) (λ x y same. after_steps-same cs ds chain.steps x.lits y.lits h same)

-- what stands in the one place of SameIfAny, from the other
pub same-Some : (a b : Option (List Lit)) (d : List Lit) → SameIfAny a b → b ≡ Some d →
    (c : List Lit) × (a ≡ Some c) × AreSame c d
same-Some None None d h e = absurd (none-some d e)
same-Some None (Some y) d h e = absurd h
same-Some (Some x) None d h e = absurd h
same-Some (Some x) (Some y) d h e = (x, refl, λ l. h l ∙ ap (λ z. contains z l) (same_Some y d e))

pub same-None : (a b : Option (List Lit)) → SameIfAny a b → b ≡ None → a ≡ None
same-None None None h e = refl
same-None None (Some y) h e = absurd h
same-None (Some x) None h e = absurd h
same-None (Some x) (Some y) h e = absurd (none-some y (sym e))

pub AllSame-get : (cs ds : List Clause) (k : ℕ) (x : Clause) → AllSame cs ds →
    AreSame (get_or cs k x).lits (get_or ds k x).lits
AllSame-get [] [] k x h = AreSame-itself x.lits
AllSame-get [] (y ∷ ds) k x h = absurd h
AllSame-get (c ∷ cs) [] k x h = absurd h
AllSame-get (c ∷ cs) (y ∷ ds) zero x h = h.0
AllSame-get (c ∷ cs) (y ∷ ds) (suc k) x h = AllSame-get cs ds k x h.1

-- a set that says something new says it of the same sets
pub IsNewClause-same : (cs ds : List Clause) (c d : List Lit) → AllSame cs ds → AreSame c d → IsNewClause ds d →
    IsNewClause cs c
IsNewClause-same cs ds c d h k u = record {
  not_tautology = λ l x. k (opposite l) ∙ u.not_tautology l (sym (k l) ∙ x);
  not_subsumed =
      λ j x within inside. u.not_subsumed j x (subst (λ n. j < n) (AllSame-length cs ds h) within)
      (IsSubset-trans (get_or ds j x).lits (get_or cs j x).lits d
      (IsSubset-from (get_or ds j x).lits (get_or cs j x).lits
      (AreSame-sym (get_or cs j x).lits (get_or ds j x).lits (AllSame-get cs ds j x h)))
      (IsSubset-trans (get_or cs j x).lits c d inside (IsSubset-from c d k)));
}
