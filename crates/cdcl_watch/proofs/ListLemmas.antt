-- The lists of watchers, at all literals.
use Rattle.std.proofs.Common.{◌≡◌, ◌∙◌, ◌⊎◌, inl, inr, ℕ, zero, suc, ◌+◌, ◌*◌, ◌<◌, Bool, true, false, List, []}
use Rattle.std.proofs.Common.{◌∷◌, ◌++◌, ◌≤◌, All}
use Rattle.std.proofs.Common.{refl, sym, ap, arith, length, map, get_or, slice_set, if◌then◌else◌, Vec, Global}
use Rattle.std.proofs.Common.{get_or-set_same, get_or-set_other}
use Rattle.std.proofs.lemmas.Bool.{false≢true, cases_lt}
use Rattle.cnf_core.specs.declared.clause.Lit.{Lit}
use Rattle.cnf_core.specs.Clause.{same_lit}
use Rattle.cnf_core.proofs.Sets.{same_lit-true, same_lit-from}
use Rattle.list_lemmas.proofs.Bools.{true-or-false}
use Rattle.cdcl_watch.specs.declared.lists.Watcher.{Watcher}
use Rattle.cdcl_base.specs.Codes.{code}
use Rattle.cdcl_watch.specs.Lists.{watchers}

same_numbers : (a b : ℕ) (p q : Bool) → 2 * a + (if p then 1 else 0) ≡ 2 * b + (if q then 1 else 0) →
    (a ≡ b) × (p ≡ q)
same_numbers a b true true e = (omega (arith, e), refl)
same_numbers a b true false e = absurd (omega (arith, e))
same_numbers a b false true e = absurd (omega (arith, e))
same_numbers a b false false e = (omega (arith, e), refl)

-- two literals have two numbers
pub code-differs : (l m : Lit) → same_lit l m ≡ false → code l ≡ code m → ⊥
code-differs l m differ e =
    let parts = same_numbers l.variable m.variable l.positive m.positive e in
    let same : l ≡ m = ap (λ (v : ℕ). let x : Lit = record { variable = v; positive = l.positive } in x) parts.0
    ∙ ap (λ (p : Bool). let x : Lit = record { variable = m.variable; positive = p } in x) parts.1 in
    false≢true (sym differ ∙ same_lit-from l m same)

-- the lists as contracts see them
abbrev pub seen : List (Vec Watcher Global) → List (List Watcher)
seen vs = map (λ (v : Vec Watcher Global). v.items) vs

pub seen-at : (vs : List (Vec Watcher Global)) (k : ℕ) (d : Vec Watcher Global) → k < length vs →
    get_or (seen vs) k [] ≡ (get_or vs k d).items
seen-at [] k d lt = absurd (omega (arith, lt))
seen-at (v ∷ vs) zero d lt = refl
seen-at (v ∷ vs) (suc k) d lt = seen-at vs k d (omega (arith, lt))

seen-length : (vs : List (Vec Watcher Global)) → length (seen vs) ≡ length vs
seen-length [] = refl
seen-length (v ∷ vs) = ap suc (seen-length vs)

seen-set : (vs : List (Vec Watcher Global)) (k : ℕ) (v : Vec Watcher Global) →
    seen (slice_set vs k v) ≡ slice_set (seen vs) k v.items
seen-set [] k v = refl
seen-set (x ∷ xs) zero v = refl
seen-set (x ∷ xs) (suc k) v = ap (λ ws. x.items ∷ ws) (seen-set xs k v)

-- one list changed
pub watchers-set : (vs : List (Vec Watcher Global)) (m : Lit) (v : Vec Watcher Global) → code m < length vs → (l :
    Lit) →
    watchers (seen (slice_set vs (code m) v)) l ≡ (if same_lit l m then v.items else watchers (seen vs) l)
watchers-set vs m v lt l = ap (λ ws. get_or ws (code l) []) (seen-set vs (code m) v) ∙ by (true-or-false (same_lit l m))
  where
    by : (same_lit l m ≡ true) ⊎ (same_lit l m ≡ false) →
        get_or (slice_set (seen vs) (code m) v.items) (code l) []
        ≡ (if same_lit l m then v.items else watchers (seen vs) l)
    by (inl e) =
        ap (λ (x : Lit). get_or (slice_set (seen vs) (code m) v.items) (code x) []) (same_lit-true l m e)
        ∙ get_or-set_same (seen vs) (code m) v.items [] (omega (arith, lt, seen-length vs))
        ∙ sym (ap (λ b. if b then v.items else watchers (seen vs) l) e)
    by (inr e) =
        get_or-set_other (seen vs) (code m) (code l) v.items [] (code-differs l m e)
        ∙ sym (ap (λ b. if b then v.items else watchers (seen vs) l) e)

-- a list in the place of that of a literal
pub put-lists : (vs : List (Vec Watcher Global)) (now : List (List Watcher)) (m : Lit) (place : ℕ)
    (v : Vec Watcher Global) (ws : List Watcher) → seen vs ≡ now → place ≡ code m → code m < length now →
    v.items ≡ ws → (l : Lit) →
    watchers (seen (slice_set vs place v)) l ≡ (if same_lit l m then ws else watchers now l)
put-lists vs now m place v ws same at lt is l =
    ap (λ k. watchers (seen (slice_set vs k v)) l) at
    ∙ watchers-set vs m v (omega (arith, lt, ap length same, seen-length vs)) l
    ∙ ap (λ xs. if same_lit l m then xs else watchers (seen vs) l) is
    ∙ ap (λ xs. if same_lit l m then ws else watchers xs l) same

-- a watcher more in the list of a literal
pub push-lists : (vs : List (Vec Watcher Global)) (now : List (List Watcher)) (m : Lit) (place : ℕ)
    (old v : Vec Watcher Global) (w : Watcher) → seen vs ≡ now → place ≡ code m → code m < length now →
    old ≡ get_or vs place old → v.items ≡ old.items ++ w ∷ [] → (l : Lit) →
    watchers (seen (slice_set vs place v)) l ≡ (if same_lit l m then watchers now l ++ w ∷ [] else watchers now l)
push-lists vs now m place old v w same at lt read is l =
    put-lists vs now m place v (watchers now m ++ w ∷ []) same at lt
    (is ∙ ap (λ xs. xs ++ w ∷ []) (here ∙ ap (λ xs. watchers xs m) same)) l
    ∙ by (true-or-false (same_lit l m))
  where
    within : code m < length vs
    within = omega (arith, lt, ap length same, seen-length vs)

    here : old.items ≡ watchers (seen vs) m
    here =
        ap (λ (x : Vec Watcher Global). x.items) (read ∙ ap (λ k. get_or vs k old) at)
        ∙ sym (seen-at vs (code m) old within)

    by : (same_lit l m ≡ true) ⊎ (same_lit l m ≡ false) →
        (if same_lit l m then watchers now m ++ w ∷ [] else watchers now l)
        ≡ (if same_lit l m then watchers now l ++ w ∷ [] else watchers now l)
    by (inl e) = ap (λ (x : Lit). if same_lit l m then watchers now x ++ w ∷ [] else watchers now l)
        (sym (same_lit-true l m e))
    by (inr e) =
        ap (λ b. if b then watchers now m ++ w ∷ [] else watchers now l) e
        ∙ sym (ap (λ b. if b then watchers now l ++ w ∷ [] else watchers now l) e)

-- lists that are all empty, as contracts see them
pub all-empty : (vs : List (Vec Watcher Global)) → All (λ (v : Vec Watcher Global). v.items ≡ []) vs →
    All (λ (ws : List Watcher). ws ≡ []) (seen vs)
all-empty [] h k d lt = absurd (omega (arith, lt))
all-empty (v ∷ vs) h zero d lt = h zero v (omega arith)
all-empty (v ∷ vs) h (suc k) d lt =
    all-empty vs (λ j e within. h (suc j) e (omega (arith, within))) k d (omega (arith, lt))

-- no watcher stands in lists that are all empty
pub nobody-listed : (lists : List (List Watcher)) → All (λ (ws : List Watcher). ws ≡ []) lists → (l : Lit) →
    watchers lists l ≡ []
nobody-listed lists h l = by (cases_lt (code l) (length lists))
  where
    beyond : (xs : List (List Watcher)) (k : ℕ) → length xs ≤ k → get_or xs k [] ≡ []
    beyond [] k le = refl
    beyond (x ∷ xs) zero le = absurd (omega (arith, le))
    beyond (x ∷ xs) (suc k) le = beyond xs k (omega (arith, le))

    by : (code l < length lists) ⊎ (length lists ≤ code l) → watchers lists l ≡ []
    by (inl lt) = h (code l) [] lt
    by (inr le) = beyond lists (code l) le
