-- What trails keep as literals are assigned and cancelled.
use Rattle.std.proofs.Common.{◌≡◌, ℕ, ◌<◌, List, [], ◌∷◌, ◌++◌, append_assoc, append-nil, Option, Some, None, refl}
use Rattle.std.proofs.Common.{subst, sym, ap, ◌∙◌, ◌⊎◌, inl, inr, All, slice_get, length, get_or, take, take-take}
use Rattle.std.proofs.Common.{arith}
use Rattle.std.proofs.lemmas.Option.{none-some, same_Some, slice_get_within}
use Rattle.std.proofs.lemmas.List.{take-append-le}
use Rattle.std.proofs.lemmas.List.Elements.{All-push, All-contains, Contains-get_or}
use Rattle.std.proofs.Math.Seq.{take-append_seam}
use Rattle.cnf_core.specs.declared.clause.Lit.{Lit}
use Rattle.cnf_core.specs.declared.clause.Clause.{Clause}
use Rattle.cdcl_base.specs.Trail.{Trail, IsTrail, Forces, ArePropagated, AreReasons, ArePropagatedBefore, ExtendsTrail}
use Rattle.cdcl_base.specs.Trail.{IsCancelled}
use Rattle.list_lemmas.proofs.Lookups.{slice_get-front, slice_get-left, slice_get-push}

-- ---- more literals

pub ExtendsTrail-itself : (t : Trail) → ExtendsTrail t t
ExtendsTrail-itself t = record {
  variables = refl;
  level_starts = refl;
  more_lits = [];
  lits = sym (append-nil t.lits);
  more_reasons = [];
  reasons = sym (append-nil t.reasons);
}

pub ExtendsTrail-trans : (a b c : Trail) → ExtendsTrail a b → ExtendsTrail b c → ExtendsTrail a c
ExtendsTrail-trans a b c e f = record {
  variables = f.variables ∙ e.variables;
  level_starts = f.level_starts ∙ e.level_starts;
  more_lits = e.more_lits ++ f.more_lits;
  lits = f.lits ∙ ap (λ x. x ++ f.more_lits) e.lits ∙ append_assoc a.lits e.more_lits f.more_lits;
  more_reasons = e.more_reasons ++ f.more_reasons;
  reasons = f.reasons ∙ ap (λ x. x ++ f.more_reasons) e.reasons ∙ append_assoc a.reasons e.more_reasons f.more_reasons;
}

-- the literals at the front stay
front : (old new more : List Lit) (s : ℕ) → new ≡ old ++ more → s < length old → take s new ≡ take s old
front old new more s e lt = ap (take s) e ∙ take-append-le s old more (omega arith)

propagated-kept : (cs : List Clause) (old : Trail) (new more : List Lit) → IsTrail old → ArePropagatedBefore cs old →
    new ≡ old.lits ++ more → All (λ s. ArePropagated (take s new) cs) old.level_starts
propagated-kept cs old new more it h e k d lt =
    subst (λ lits. ArePropagated lits cs)
    (sym (front old.lits new more (get_or old.level_starts k d) e (it.within k d lt))) (h k d lt)

pub ArePropagatedBefore-extends : (cs : List Clause) (old new : Trail) → IsTrail old → ArePropagatedBefore cs old →
    ExtendsTrail old new → ArePropagatedBefore cs new
ArePropagatedBefore-extends cs old new it h e =
    subst (λ level_starts. All (λ s. ArePropagated (take s new.lits) cs) level_starts) (sym e.level_starts)
    (propagated-kept cs old new.lits e.more_lits it h e.lits)

-- ---- decisions

-- the trail that a decision leaves
abbrev pub decided : Trail → Lit → Trail
decided t l =
    record {
      variables = t.variables;
      lits = t.lits ++ l ∷ [];
      reasons = t.reasons ++ None ∷ [];
      level_starts = t.level_starts ++ length t.lits ∷ [];
    }

-- the trail in which a clause has forced a literal
abbrev pub forced : Trail → Lit → ℕ → Trail
forced t l reason =
    record {
      variables = t.variables;
      lits = t.lits ++ l ∷ [];
      reasons = t.reasons ++ Some reason ∷ [];
      level_starts = t.level_starts;
    }

pub ArePropagatedBefore-decided : (cs : List Clause) (old : Trail) (l : Lit) → IsTrail old →
    ArePropagatedBefore cs old → ArePropagated old.lits cs → ArePropagatedBefore cs (decided old l)
ArePropagatedBefore-decided cs old l it h propagated =
    All-push (λ s. ArePropagated (take s (old.lits ++ l ∷ [])) cs) old.level_starts (length old.lits)
    (propagated-kept cs old (old.lits ++ l ∷ []) (l ∷ []) it h refl)
    (subst (λ lits. ArePropagated lits cs) (sym (take-append_seam old.lits (l ∷ []))) propagated)

-- ---- reasons

-- a reason is kept where its literal stays, with the literals before it
reason-kept : (cs : List Clause) (reason : ℕ) (before after : List Lit) (l : Lit) → after ≡ before →
    (c : Clause) × (slice_get cs reason ≡ Some c) × Forces before c.lits l →
    (c : Clause) × (slice_get cs reason ≡ Some c) × Forces after c.lits l
reason-kept cs reason before after l e h = (h.0, h.1, subst (λ lits. Forces lits h.0.lits l) (sym e) h.2)

reasons-pushed : (cs : List Clause) (old : Trail) (l : Lit) (r : Option ℕ) → IsTrail old → AreReasons cs old →
    ((reason : ℕ) → r ≡ Some reason → (c : Clause) × (slice_get cs reason ≡ Some c) × Forces old.lits c.lits l) →
    (k reason : ℕ) (m : Lit) → slice_get (old.lits ++ l ∷ []) k ≡ Some m →
    slice_get (old.reasons ++ r ∷ []) k ≡ Some (Some reason) →
    (c : Clause) × (slice_get cs reason ≡ Some c) × Forces (take k (old.lits ++ l ∷ [])) c.lits m
reasons-pushed cs old l r it h new k reason m at why =
    by (slice_get-push old.lits l k m at) (slice_get-push old.reasons r k (Some reason) why)
  where
    by : (slice_get old.lits k ≡ Some m) ⊎ ((k ≡ length old.lits) × (l ≡ m)) →
        (slice_get old.reasons k ≡ Some (Some reason)) ⊎ ((k ≡ length old.reasons) × (r ≡ Some reason)) →
        (c : Clause) × (slice_get cs reason ≡ Some c) × Forces (take k (old.lits ++ l ∷ [])) c.lits m
    by (inl e) (inl f) =
        let within = slice_get_within old.lits k m e in
        reason-kept cs reason (take k old.lits) (take k (old.lits ++ l ∷ [])) m
        (take-append-le k old.lits (l ∷ []) (omega arith)) (h k reason m e f)
    by (inr e) (inr f) =
        let same : take k (old.lits ++ l ∷ []) ≡ old.lits = ap (λ n. take n (old.lits ++ l ∷ [])) e.0
        ∙ take-append_seam old.lits (l ∷ []) in
        subst (λ x. (c : Clause) × (slice_get cs reason ≡ Some c) × Forces (take k (old.lits ++ l ∷ [])) c.lits x) e.1
        (reason-kept cs reason old.lits (take k (old.lits ++ l ∷ [])) l same (new reason f.1))
    by (inl e) (inr f) =
        let within = slice_get_within old.lits k m e in
        let lengths = it.explained in
        let at_end = f.0 in
        absurd (omega arith)
    by (inr e) (inl f) =
        let within = slice_get_within old.reasons k (Some reason) f in
        let lengths = it.explained in
        let at_end = e.0 in
        absurd (omega arith)

pub AreReasons-decided : (cs : List Clause) (old : Trail) (l : Lit) → IsTrail old → AreReasons cs old →
    AreReasons cs (decided old l)
AreReasons-decided cs old l it h = reasons-pushed cs old l None it h (λ reason e. absurd (none-some reason e))

pub AreReasons-forced : (cs : List Clause) (old : Trail) (l : Lit) (reason : ℕ) (c : Clause) → IsTrail old →
    AreReasons cs old → slice_get cs reason ≡ Some c → Forces old.lits c.lits l → AreReasons cs (forced old l reason)
AreReasons-forced cs old l reason c it h stands forces =
    reasons-pushed cs old l (Some reason) it h
    (λ n e. subst (λ x. (c : Clause) × (slice_get cs x ≡ Some c) × Forces old.lits c.lits l) (same_Some reason n e)
    (c, stands, forces))

pub AreReasons-more : (cs : List Clause) (c : Clause) (t : Trail) → AreReasons cs t → AreReasons (cs ++ c ∷ []) t
AreReasons-more cs c t h k reason l at why =
    let old = h k reason l at why in
    (old.0, slice_get-left cs (c ∷ []) reason old.0 old.1, old.2)

-- ---- what a cancelled trail keeps

pub AreReasons-cancelled : (cs : List Clause) (old new : Trail) (keep : ℕ) → IsTrail old → AreReasons cs old →
    IsCancelled old new keep → AreReasons cs new
AreReasons-cancelled cs old new keep it h e k reason l at why =
    let lit = slice_get-front e.place old.lits k l (ap (λ lits. slice_get lits k) (sym e.lits) ∙ at) in
    let because =
    slice_get-front e.place old.reasons k (Some reason) (ap (λ reasons. slice_get reasons k) (sym e.reasons) ∙ why)
    in
    let within = lit.0 in
    reason-kept cs reason (take k old.lits) (take k new.lits) l
    (ap (take k) e.lits ∙ take-take k e.place old.lits (omega arith)) (h k reason l lit.1 because.1)

pub ArePropagatedBefore-cancelled : (cs : List Clause) (old new : Trail) (keep : ℕ) → ArePropagatedBefore cs old →
    IsCancelled old new keep → ArePropagatedBefore cs new
ArePropagatedBefore-cancelled cs old new keep h e k d lt =
    let kept = e.level_starts (get_or new.level_starts k d) (Contains-get_or new.level_starts k d lt) in
    let below = kept.1 in
    let later = e.later in
    subst (λ lits. ArePropagated lits cs)
    (sym
    (ap (take (get_or new.level_starts k d)) e.lits
    ∙ take-take (get_or new.level_starts k d) e.place old.lits (omega arith)))
    (All-contains (λ s. ArePropagated (take s old.lits) cs) old.level_starts (get_or new.level_starts k d) h kept.0)
