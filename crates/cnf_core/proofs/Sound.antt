-- A list of clauses with an accepted log has no model, since resolution keeps models.
use Rattle.std.proofs.Common.{◌≡◌, ℕ, ◌&&◌, ◌||◌, Bool, true, false, not, cond, List, [], ◌∷◌, ◌++◌, Some, None, refl}
use Rattle.std.proofs.Common.{sym, ap, ◌∙◌, ◌⊎◌, inl, inr, slice_get}
use Rattle.std.proofs.lemmas.Bool.{false≢true}
use Rattle.std.proofs.lemmas.List.Folds.{list_any-append, list_all-append}
use Rattle.std.proofs.lemmas.List.Sums.{AllPass-from_list_all}
use Rattle.std.proofs.lemmas.Option.{option_and_then_some, none-some, same_Some, slice_get_within}
use Rattle.std.proofs.lemmas.Option.{get_or_from_slice_get}
use Rattle.cnf_core.specs.declared.clause.Lit.{Lit}
use Rattle.cnf_core.specs.declared.clause.Clause.{Clause}
use Rattle.cnf_core.specs.declared.log.Chain.{Chain}
use Rattle.cnf_core.specs.Clause.{opposite, same_lit, contains, lit_true, clause_true, is_model, HasNoModel}
use Rattle.cnf_core.specs.Resolution.{without, resolvent, step, after_steps, derived, clause, with_chains, IsAccepted}
use Rattle.cnf_core.proofs.Sets.{same_lit-true}
use Rattle.list_lemmas.proofs.Bools.{and-both, or-left, or-right, true-or-false}

-- ---- clauses that are true

-- a literal that is not true may be left out
any-without : (v : ℕ → Bool) (l : Lit) (c : List Lit) → lit_true v l ≡ false →
    clause_true v (without l c) ≡ clause_true v c
any-without v l [] h = refl
any-without v l (x ∷ xs) h = by (true-or-false (same_lit l x)) (any-without v l xs h)
  where
    by : (same_lit l x ≡ true) ⊎ (same_lit l x ≡ false) → clause_true v (without l xs) ≡ clause_true v xs →
        clause_true v (cond (not (same_lit l x)) (x ∷ without l xs) (without l xs)) ≡ (lit_true v x || clause_true v xs)
    by (inl e) ih =
        let untrue : lit_true v x ≡ false = ap (lit_true v) (sym (same_lit-true l x e)) ∙ h in
        ap (λ b. clause_true v (cond (not b) (x ∷ without l xs) (without l xs))) e ∙ ih
        ∙ ap (λ b. b || clause_true v xs) (sym untrue)
    by (inr e) ih =
        ap (λ b. clause_true v (cond (not b) (x ∷ without l xs) (without l xs))) e ∙ ap (λ b. lit_true v x || b) ih

opposite-untrue : (v : ℕ → Bool) (l : Lit) → lit_true v l ≡ true → lit_true v (opposite l) ≡ false
opposite-untrue v l h = by l.positive (v l.variable) h
  where
    by : (p b : Bool) → cond p b (not b) ≡ true → cond (not p) b (not b) ≡ false
    by true true h = refl
    by true false h = absurd (false≢true h)
    by false true h = absurd (false≢true h)
    by false false h = refl

resolvent-true : (v : ℕ → Bool) (c : List Lit) (l : Lit) (d e : List Lit) → clause_true v c ≡ true →
    clause_true v d ≡ true → resolvent c l d ≡ Some e → clause_true v e ≡ true
resolvent-true v c l d e hc hd h = by (true-or-false (contains c l && contains d (opposite l)))
  where
    parts : clause_true v (without l c ++ without (opposite l) d) ≡ true
    parts = list_any-append (lit_true v) (without l c) (without (opposite l) d) ∙ side (true-or-false (lit_true v l))
      where
        side : (lit_true v l ≡ true) ⊎ (lit_true v l ≡ false) →
            (clause_true v (without l c) || clause_true v (without (opposite l) d)) ≡ true
        side (inl t) =
            or-right (clause_true v (without l c)) (clause_true v (without (opposite l) d))
            (any-without v (opposite l) d (opposite-untrue v l t) ∙ hd)
        side (inr f) =
            or-left (clause_true v (without l c)) (clause_true v (without (opposite l) d)) (any-without v l c f ∙ hc)

    by : ((contains c l && contains d (opposite l)) ≡ true) ⊎ ((contains c l && contains d (opposite l)) ≡ false) →
        clause_true v e ≡ true
    by (inl t) =
        let same =
        same_Some (without l c ++ without (opposite l) d) e
        (ap (λ b. cond b (Some (without l c ++ without (opposite l) d)) None) (sym t) ∙ h) in
        ap (clause_true v) (sym same) ∙ parts
    by (inr f) = absurd (none-some e (ap (λ b. cond b (Some (without l c ++ without (opposite l) d)) None) (sym f) ∙ h))

clause_at-true : (v : ℕ → Bool) (cs : List Clause) (k : ℕ) (c : Clause) → is_model v cs ≡ true →
    slice_get cs k ≡ Some c → clause_true v c.lits ≡ true
clause_at-true v cs k c h e =
    let holds = AllPass-from_list_all (λ (x : Clause). clause_true v x.lits) cs h k c (slice_get_within cs k c e) in
    ap (λ (x : Clause). clause_true v x.lits) (sym (get_or_from_slice_get cs k c c e)) ∙ holds

step-true : (v : ℕ → Bool) (cs : List Clause) (c : List Lit) (s : Lit × ℕ) (e : List Lit) → is_model v cs ≡ true →
    clause_true v c ≡ true → step cs c s ≡ Some e → clause_true v e ≡ true
step-true v cs c s e h hc k =
    option_and_then_some (λ (d : Clause). resolvent c s.0 d.lits) (slice_get cs s.1) e k
    (λ d at gives. resolvent-true v c s.0 d.lits e hc (clause_at-true v cs s.1 d h at) gives)

pub after_steps-true : (v : ℕ → Bool) (cs : List Clause) (ss : List (Lit × ℕ)) (c e : List Lit) → is_model v cs ≡ true →
    clause_true v c ≡ true → after_steps cs c ss ≡ Some e → clause_true v e ≡ true
after_steps-true v cs [] c e h hc k = ap (clause_true v) (sym (same_Some c e k)) ∙ hc
after_steps-true v cs (s ∷ ss) c e h hc k =
    option_and_then_some (λ d. after_steps cs d ss) (step cs c s) e k
    (λ d first rest. after_steps-true v cs ss d e h (step-true v cs c s d h hc first) rest)

pub derived-true : (v : ℕ → Bool) (cs : List Clause) (chain : Chain) (e : List Lit) → is_model v cs ≡ true →
    derived cs chain ≡ Some e → clause_true v e ≡ true
derived-true v cs chain e h k =
    option_and_then_some (λ (c : Clause). after_steps cs c.lits chain.steps) (slice_get cs chain.first) e k
    (λ c at rest. after_steps-true v cs chain.steps c.lits e h (clause_at-true v cs chain.first c h at) rest)

is_model-more : (v : ℕ → Bool) (cs : List Clause) (c : List Lit) → is_model v cs ≡ true → clause_true v c ≡ true →
    is_model v (cs ++ clause c ∷ []) ≡ true
is_model-more v cs c h k =
    list_all-append (λ (x : Clause). clause_true v x.lits) cs (clause c ∷ [])
    ∙ and-both (is_model v cs) (clause_true v c && true) h (and-both (clause_true v c) true k refl)

pub with_chains-true : (v : ℕ → Bool) (chains : List Chain) (cs all : List Clause) → is_model v cs ≡ true →
    with_chains cs chains ≡ Some all → is_model v all ≡ true
with_chains-true v [] cs all h k = ap (is_model v) (sym (same_Some cs all k)) ∙ h
with_chains-true v (chain ∷ chains) cs all h k =
    option_and_then_some (λ lits. with_chains (cs ++ clause lits ∷ []) chains) (derived cs chain) all k
    (λ lits first rest. with_chains-true v chains (cs ++ clause lits ∷ []) all
    (is_model-more v cs lits h (derived-true v cs chain lits h first)) rest)

pub accepted-no_model : (cs : List Clause) (chains : List Chain) → IsAccepted cs chains → HasNoModel cs
accepted-no_model cs chains a v = by (true-or-false (is_model v cs))
  where
    by : (is_model v cs ≡ true) ⊎ (is_model v cs ≡ false) → is_model v cs ≡ false
    by (inr f) = f
    by (inl t) =
        let all_true =
        AllPass-from_list_all (λ (x : Clause). clause_true v x.lits) a.0 (with_chains-true v chains cs a.0 t a.1) in
        let empty_true = all_true a.2.0 (clause []) a.2.1 in
        absurd (false≢true (ap (λ (x : Clause). clause_true v x.lits) (sym a.2.2) ∙ empty_true))
