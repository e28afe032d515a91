-- The search: from a trail to what conflict analysis asks for, and from the learnt clause to the next trail and a
-- longer log.
use Rattle.std.proofs.Common.{◌≡◌, ◌≢◌, ℕ, zero, suc, ◌-◌, ◌<◌, ◌≤◌, ◌||◌, Bool, true, false, not, cond, List, [], ◌∷◌}
use Rattle.std.proofs.Common.{◌++◌, refl, subst, sym, ap, ◌∙◌, arith, ◌⊎◌, inl, inr, take, take-take, length}
use Rattle.std.proofs.Common.{length-append, get_or, slice_get, Option, Some, None, All, Contains}
use Rattle.std.proofs.lemmas.Bool.{false≢true, cases_lt}
use Rattle.std.proofs.lemmas.Option.{option_and_then_some, same_Some, none-some, slice_get_within}
use Rattle.std.proofs.lemmas.Option.{get_or_from_slice_get, slice_get-get_or}
use Rattle.std.proofs.lemmas.List.Elements.{All-append}
use Rattle.std.proofs.lemmas.List.Sums.{list_all-from_AllPass}
use Rattle.std.proofs.lemmas.List.Folds.{list_all-append}
use Rattle.cnf_core.specs.declared.clause.Lit.{Lit}
use Rattle.cnf_core.specs.declared.clause.Clause.{Clause}
use Rattle.cnf_core.specs.declared.log.Chain.{Chain}
use Rattle.cnf_core.specs.Clause.{same_lit, contains, lit_true, clause_true, is_model, assigned, AreSame, AllSame}
use Rattle.cnf_core.specs.Clause.{IsOver, IsSubset}
use Rattle.cnf_core.specs.Resolution.{derived, clause, with_chains, IsAccepted, HasNoEmptyClause, IsNewClause}
use Rattle.cnf_core.specs.Resolution.{AreNewClauses}
use Rattle.cnf_core.proofs.Sets.{contains-tail}
use Rattle.cnf_core.proofs.Sets.{same_lit-true, no_literal, contains-head, AreSame-trans, AreSame-sym}
use Rattle.cnf_core.proofs.Same.{derived-same, same-Some, IsNewClause-same, AllSame-more, AllSame-get, AllSame-length}
use Rattle.cnf_core.proofs.Same.{AllSame-itself}
use Rattle.cnf_core.proofs.Chains.{with_chains-more, AreNewClauses-more}
use Rattle.cnf_core.proofs.Over.{over-at}
use Rattle.cdcl_base.specs.Trail.{Trail, IsTrail, Forces, IsPropagated, ArePropagated, AreReasons, ArePropagatedBefore}
use Rattle.cdcl_base.specs.Trail.{AreAllAssigned, IsCancelled}
use Rattle.cdcl_base.specs.Analysis.{HasReason, HaveReasons, IsAsserting}
use Rattle.cdcl_base.specs.Log.{IsLogOf}
use Rattle.cdcl_base.proofs.Places.{opposite_not_true}
use Rattle.cdcl_base.proofs.TrailLemmas.{ArePropagatedBefore-extends, AreReasons-forced, AreReasons-more}
use Rattle.cdcl_base.proofs.TrailLemmas.{AreReasons-cancelled, ArePropagatedBefore-cancelled, forced}
use Rattle.list_lemmas.proofs.Bools.{and-both, and_left as and-left, and_right as and-right, or-cases, or-left}
use Rattle.list_lemmas.proofs.Bools.{or-right, true-or-false}
use Rattle.list_lemmas.proofs.Lookups.{Contains-at}

-- ---- places of a list

-- ---- what is asked of a trail

-- each literal from the one after the last decision on has a reason
pub have_reasons : (cs : List Clause) (t : Trail) (from : ℕ) → IsTrail t → AreReasons cs t →
    ((s : ℕ) → Contains t.level_starts s → s < from) → HaveReasons cs t.lits t.reasons from (length t.lits)
have_reasons cs t from it reasons level_starts k later within = by (get_or t.reasons k None) refl
  where
    at : slice_get t.lits k ≡ Some (get_or t.lits k (record { variable = 0; positive = false }))
    at = slice_get-get_or t.lits k (record { variable = 0; positive = false }) within

    there : slice_get t.reasons k ≡ Some (get_or t.reasons k None)
    there = slice_get-get_or t.reasons k None (subst (λ n. k < n) (sym it.explained) within)

    by : (r : Option ℕ) → get_or t.reasons k None ≡ r → HasReason cs t.lits t.reasons k
    by None e =
        let early = level_starts k (it.decided k (there ∙ ap (λ x. Some x) e)) in
        absurd (omega (arith, early, later))
    by (Some number) e =
        let why =
        reasons k number (get_or t.lits k (record { variable = 0; positive = false })) at
        (there ∙ ap (λ x. Some x) e) in
        record {
          lit = get_or t.lits k (record { variable = 0; positive = false });
          stands = at;
          number = number;
          reason = there ∙ ap (λ x. Some x) e;
          clause = why.0;
          there = why.1;
          forces = why.2;
        }

-- no decision is later than the last
pub greatest_level_start : (t : Trail) (level_start s : ℕ) → IsTrail t →
    slice_get t.level_starts (length t.level_starts - 1) ≡ Some level_start → Contains t.level_starts s →
    s ≤ level_start
greatest_level_start t level_start s it last here = by (cases_lt here.0 (length t.level_starts - 1))
  where
    at : slice_get t.level_starts here.0 ≡ Some s
    at = slice_get-get_or t.level_starts here.0 s here.1 ∙ ap (λ x. Some x) here.2

    by : (here.0 < length t.level_starts - 1) ⊎ (length t.level_starts - 1 ≤ here.0) → s ≤ level_start
    by (inl b) = let r = it.rising here.0 (length t.level_starts - 1) s level_start b at last in omega (arith, r)
    by (inr b) =
        let w = here.1 in
        let same : here.0 ≡ length t.level_starts - 1 = omega (arith, b, w) in
        let e : s ≡ level_start = same_Some s level_start (sym at ∙ ap (slice_get t.level_starts) same ∙ last) in
        omega (arith, e)

pub no_level_start : (t : Trail) (s : ℕ) → slice_get t.level_starts (length t.level_starts - 1) ≡ None →
    Contains t.level_starts s → ⊥
no_level_start t s none here =
    let w = here.1 in
    none-some (get_or t.level_starts (length t.level_starts - 1) 0)
    (sym none ∙ slice_get-get_or t.level_starts (length t.level_starts - 1) 0 (omega (arith, w)))

pub level_start_within : (t : Trail) (level_start : ℕ) → IsTrail t →
    slice_get t.level_starts (length t.level_starts - 1) ≡ Some level_start → level_start < length t.lits
level_start_within t level_start it last =
    subst (λ s. s < length t.lits) (get_or_from_slice_get t.level_starts (length t.level_starts - 1) level_start 0 last)
    (it.within (length t.level_starts - 1) 0
    (slice_get_within t.level_starts (length t.level_starts - 1) level_start last))

pub propagated_at_level_start : (cs : List Clause) (t : Trail) (level_start : ℕ) → ArePropagatedBefore cs t →
    slice_get t.level_starts (length t.level_starts - 1) ≡ Some level_start → ArePropagated (take level_start t.lits) cs
propagated_at_level_start cs t level_start h last =
    subst (λ s. ArePropagated (take s t.lits) cs)
    (get_or_from_slice_get t.level_starts (length t.level_starts - 1) level_start 0 last)
    (h (length t.level_starts - 1) 0 (slice_get_within t.level_starts (length t.level_starts - 1) level_start last))

-- ---- back to where the learnt clause forces its literal

-- the number of the clause at the end
pub last_clause : (cs older : List Clause) (c : Clause) → cs ≡ older ++ c ∷ [] → slice_get cs (length cs - 1) ≡ Some c
last_clause cs older c e =
    subst (λ xs. slice_get xs (length xs - 1) ≡ Some c) (sym e)
    (let n = length-append older (c ∷ []) in
    let m : length (older ++ c ∷ []) - 1 ≡ length older = omega (arith, n) in
    ap (slice_get (older ++ c ∷ [])) m ∙ at_end older)
  where
    at_end : (xs : List Clause) → slice_get (xs ++ c ∷ []) (length xs) ≡ Some c
    at_end [] = refl
    at_end (x ∷ xs) = at_end xs

-- the learnt clause was propagated before each decision that stays
learnt-before : (older : List Clause) (c : Clause) (old new : Trail) (l : Lit) (level_start keep : ℕ) →
    ArePropagatedBefore older old → IsCancelled old new keep → IsAsserting old.lits c.lits l level_start keep →
    ArePropagatedBefore (older ++ c ∷ []) new
learnt-before older c old new l level_start keep h cancelled asserting k d b =
    All-append (λ (x : Clause). IsPropagated (take (get_or new.level_starts k d) new.lits) x.lits) older (c ∷ [])
    (ArePropagatedBefore-cancelled older old new keep h cancelled k d b)
    (λ j e w. one j e w)
  where
    early : get_or new.level_starts k d < keep
    early = (cancelled.level_starts (get_or new.level_starts k d) (Contains-at new.level_starts k d b)).1

    same : take (get_or new.level_starts k d) old.lits ≡ take (get_or new.level_starts k d) new.lits
    same = let later = cancelled.later in
        sym (ap (take (get_or new.level_starts k d)) cancelled.lits
        ∙ take-take (get_or new.level_starts k d) cancelled.place old.lits (omega (arith, early, later)))

    one : (j : ℕ) (e : Clause) → j < 1 →
        IsPropagated (take (get_or new.level_starts k d) new.lits) (get_or (c ∷ []) j e).lits
    one zero e w =
        subst (λ lits. IsPropagated lits c.lits) same (asserting.propagated (get_or new.level_starts k d) early)
    one (suc j) e w = absurd (omega (arith, w))

pub backjumped-reasons : (cs older : List Clause) (c : Clause) (old new : Trail) (l : Lit) (level_start keep : ℕ) →
    cs ≡ older ++ c ∷ [] → IsTrail old → IsTrail new →
    AreReasons older old → IsCancelled old new keep → IsAsserting old.lits c.lits l level_start keep →
    AreReasons cs (forced new l (length cs - 1))
backjumped-reasons cs older c old new l level_start keep e it it_new reasons cancelled asserting =
    AreReasons-forced cs new l (length cs - 1) c it_new
    (subst (λ xs. AreReasons xs new) (sym e)
    (AreReasons-more older c new (AreReasons-cancelled older old new keep it reasons cancelled)))
    (last_clause cs older c e)
    (subst (λ lits. Forces lits c.lits l) (sym cancelled.lits) (asserting.forces cancelled.place cancelled.later))

pub backjumped-before : (cs older : List Clause) (c : Clause) (old new : Trail) (l : Lit) (level_start keep : ℕ) →
    cs ≡ older ++ c ∷ [] → IsTrail new →
    ArePropagatedBefore older old → IsCancelled old new keep → IsAsserting old.lits c.lits l level_start keep →
    ArePropagatedBefore cs (forced new l (length cs - 1))
backjumped-before cs older c old new l level_start keep e it_new before cancelled asserting =
    ArePropagatedBefore-extends cs new (forced new l (length cs - 1)) it_new
    (subst (λ xs. ArePropagatedBefore xs new) (sym e)
    (learnt-before older c old new l level_start keep before cancelled asserting))
    (record {
      variables = refl;
      level_starts = refl;
      more_lits = l ∷ [];
      lits = refl;
      more_reasons = Some (length cs - 1) ∷ [];
      reasons = refl;
    })

-- ---- a longer log

pub log-begins : (cs : List Clause) → IsLogOf cs [] cs
log-begins cs = record { all = cs; resolve = refl; same = AllSame-itself cs; new_clauses = tt }

pub log-more : (given : List Clause) (chains : List Chain) (clauses : List Clause) (chain : Chain) (lits : List Lit)
    (c : Clause) →
    IsLogOf given chains clauses → derived clauses chain ≡ Some lits → AreSame lits c.lits →
    IsNewClause clauses c.lits → IsLogOf given (chains ++ chain ∷ []) (clauses ++ c ∷ [])
log-more given chains clauses chain lits c log derives same new_clause = record {
  all = log.all ++ clause found.0 ∷ [];
  resolve = with_chains-more given chains chain log.all found.0 log.resolve found.1;
  same = AllSame-more log.all clauses (clause found.0) c log.same sets;
  new_clauses =
      AreNewClauses-more chains given chain log.all found.0 log.new_clauses log.resolve found.1
      (IsNewClause-same log.all clauses found.0 c.lits log.same sets new_clause);
}
  where
    found : (d : List Lit) × (derived log.all chain ≡ Some d) × AreSame d lits
    found = same-Some (derived log.all chain) (derived clauses chain) lits (derived-same log.all clauses chain log.same)
        derives

    sets : AreSame found.0 c.lits
    sets = AreSame-trans found.0 lits c.lits found.2 same

-- a clause with a literal is not empty, and its set is not that of the empty clause
not_subset_of_empty : (c : List Lit) → c ≢ [] → IsSubset c [] → ⊥
not_subset_of_empty [] h w = h refl
not_subset_of_empty (x ∷ xs) h w = false≢true (w x (contains-head x xs))

pub nothing_subset_of_empty : (cs : List Clause) → All (λ (c : Clause). c.lits ≢ []) cs → IsNewClause cs []
nothing_subset_of_empty cs h = record {
  not_tautology = λ l e. refl;
  not_subsumed = λ k d b w. not_subset_of_empty (get_or cs k d).lits (h k d b) w;
}

pub log-closed : (given : List Clause) (chains : List Chain) (clauses : List Clause) (chain : Chain) →
    All (λ (c : Clause). c.lits ≢ []) clauses →
    IsLogOf given chains clauses → derived clauses chain ≡ Some [] →
    IsAccepted given (chains ++ chain ∷ []) × AreNewClauses given (chains ++ chain ∷ [])
log-closed given chains clauses chain filled log derives = (
  (longer.all, longer.resolve, at_end longer.all (AllSame-empty longer.all clauses longer.same)),
  longer.new_clauses,
)
  where
    longer : IsLogOf given (chains ++ chain ∷ []) (clauses ++ clause [] ∷ [])
    longer =
        log-more given chains clauses chain [] (clause []) log derives (λ l. refl)
        (nothing_subset_of_empty clauses filled)

    at_end : (all : List Clause) → slice_get all (length clauses) ≡ Some (clause []) → Contains all (clause [])
    at_end all e = (
      length clauses,
      slice_get_within all (length clauses) (clause []) e,
      get_or_from_slice_get all (length clauses) (clause []) (clause []) e,
    )

    AllSame-empty : (all cs : List Clause) → AllSame all (cs ++ clause [] ∷ []) →
        slice_get all (length cs) ≡ Some (clause [])
    AllSame-empty [] [] s = absurd s
    AllSame-empty (a ∷ all) [] s = ap (λ ls. Some (clause ls)) (no_literal a.lits s.0)
    AllSame-empty [] (x ∷ cs) s = absurd s
    AllSame-empty (a ∷ all) (x ∷ cs) s = AllSame-empty all cs s.1

-- no clause of a log is empty whose sets are not
pub log-filled : (given : List Clause) (chains : List Chain) (clauses : List Clause) →
    All (λ (c : Clause). c.lits ≢ []) clauses → IsLogOf given chains clauses → HasNoEmptyClause given chains
log-filled given chains clauses filled log = (log.all, log.resolve, λ here. empty here)
  where
    empty : Contains log.all (clause []) → ⊥
    empty here =
        filled here.0 (clause []) (subst (λ n. here.0 < n) (AllSame-length log.all clauses log.same) here.1)
        (no_literal (get_or clauses here.0 (clause [])).lits
        (λ l. AreSame-sym (get_or log.all here.0 (clause [])).lits (get_or clauses here.0 (clause [])).lits
        (AllSame-get log.all clauses here.0 (clause []) log.same) l
        ∙ ap (λ (c : Clause). contains c.lits l) here.2))

-- ---- a model

lit-true : (t : Trail) (values : List Bool) (l : Lit) → IsTrail t →
    ((x : ℕ) → x < t.variables → assigned values x ≡ contains t.lits (record { variable = x; positive = true })) →
    l.variable < t.variables → contains t.lits l ≡ true → lit_true (assigned values) l ≡ true
lit-true t values l it gives there holds = by l.positive refl
  where
    by : (p : Bool) → l.positive ≡ p →
        cond l.positive (assigned values l.variable) (not (assigned values l.variable)) ≡ true
    by true e =
        ap (λ p. cond p (assigned values l.variable) (not (assigned values l.variable))) e ∙ gives l.variable there
        ∙ ap (λ p. contains t.lits (record { variable = l.variable; positive = p })) (sym e) ∙ holds
    by false e =
        ap (λ p. cond p (assigned values l.variable) (not (assigned values l.variable))) e ∙ ap not (
        gives l.variable there
        ∙ ap (λ p. contains t.lits (record { variable = l.variable; positive = not p })) (sym e)
        ∙ opposite_not_true t.lits l it.distinct holds)

some-true : (v : ℕ → Bool) (c : List Lit) (l : Lit) → contains c l ≡ true → lit_true v l ≡ true → clause_true v c ≡ true
some-true v [] l h t = absurd (false≢true h)
some-true v (x ∷ xs) l h t = by (true-or-false (same_lit l x)) (some-true v xs l)
  where
    by : (same_lit l x ≡ true) ⊎ (same_lit l x ≡ false) →
        (contains xs l ≡ true → lit_true v l ≡ true → clause_true v xs ≡ true) →
        (lit_true v x || clause_true v xs) ≡ true
    by (inl e) ih = or-left (lit_true v x) (clause_true v xs) (ap (lit_true v) (sym (same_lit-true l x e)) ∙ t)
    by (inr e) ih = or-right (lit_true v x) (clause_true v xs) (ih (sym (ap (λ b. b || contains xs l) e) ∙ h) t)

pub propagated-model : (cs : List Clause) (t : Trail) (values : List Bool) → IsTrail t →
    All (λ (c : Clause). IsOver t.variables c.lits) cs →
    ArePropagated t.lits cs → AreAllAssigned t →
    ((x : ℕ) → x < t.variables → assigned values x ≡ contains t.lits (record { variable = x; positive = true })) →
    is_model (assigned values) cs ≡ true
propagated-model cs t values it over propagated all gives =
    list_all-from_AllPass (λ (c : Clause). clause_true (assigned values) c.lits) cs
    (λ k d b. each (get_or cs k d).lits (over k d b) (propagated k d b))
  where
    each : (c : List Lit) → IsOver t.variables c → IsPropagated t.lits c → clause_true (assigned values) c ≡ true
    each c o (inl h) =
        some-true (assigned values) c h.lit h.stands
        (lit-true t values h.lit it gives (over-at t.variables c h.lit o h.stands) h.holds)
    each c o (inr h) = by (true-or-false (contains t.lits h.first))
      where
        by : (contains t.lits h.first ≡ true) ⊎ (contains t.lits h.first ≡ false) →
            clause_true (assigned values) c ≡ true
        by (inl e) =
            some-true (assigned values) c h.first h.first_stands
            (lit-true t values h.first it gives (over-at t.variables c h.first o h.first_stands) e)
        by (inr e) =
            absurd (false≢true (sym h.first_not_false ∙ all h.first (over-at t.variables c h.first o h.first_stands) e))

-- a clause with a literal is not empty
pub filled_by : (c : List Lit) (l : Lit) → contains c l ≡ true → c ≢ []
filled_by c l h e = false≢true (ap (λ x. contains x l) (sym e) ∙ h)

-- ---- a model of the clauses that a search keeps is one of those that were given

true_lit : (v : ℕ → Bool) (c : List Lit) → clause_true v c ≡ true →
    (l : Lit) × (contains c l ≡ true) × (lit_true v l ≡ true)
true_lit v [] h = absurd (false≢true h)
true_lit v (x ∷ xs) h = by (or-cases (lit_true v x) (clause_true v xs) h) (true_lit v xs)
  where
    by : (lit_true v x ≡ true) ⊎ (clause_true v xs ≡ true) →
        (clause_true v xs ≡ true → (l : Lit) × (contains xs l ≡ true) × (lit_true v l ≡ true)) →
        (l : Lit) × (contains (x ∷ xs) l ≡ true) × (lit_true v l ≡ true)
    by (inl e) ih = (x, contains-head x xs, e)
    by (inr e) ih = let found = ih e in (found.0, contains-tail x xs found.0 found.1, found.2)

model-same : (v : ℕ → Bool) (all cs : List Clause) → AllSame all cs → is_model v cs ≡ true → is_model v all ≡ true
model-same v [] [] s h = refl
model-same v [] (y ∷ ys) s h = absurd s
model-same v (x ∷ xs) [] s h = absurd s
model-same v (x ∷ xs) (y ∷ ys) s h =
    let found = true_lit v y.lits (and-left (clause_true v y.lits) (is_model v ys) h) in
    and-both (clause_true v x.lits) (is_model v xs)
    (some-true v x.lits found.0 (s.0 found.0 ∙ found.1) found.2)
    (model-same v xs ys s.1 (and-right (clause_true v y.lits) (is_model v ys) h))

model-given : (v : ℕ → Bool) (chains : List Chain) (given all : List Clause) → with_chains given chains ≡ Some all →
    is_model v all ≡ true → is_model v given ≡ true
model-given v [] given all h m = ap (is_model v) (same_Some given all h) ∙ m
model-given v (chain ∷ chains) given all h m =
    option_and_then_some (λ lits. with_chains (given ++ clause lits ∷ []) chains) (derived given chain) all h
    (λ lits first rest. and-left (is_model v given) (is_model v (clause lits ∷ []))
    (sym (list_all-append (λ (x : Clause). clause_true v x.lits) given (clause lits ∷ []))
    ∙ model-given v chains (given ++ clause lits ∷ []) all rest m))

pub log-model : (v : ℕ → Bool) (given : List Clause) (chains : List Chain) (clauses : List Clause) →
    IsLogOf given chains clauses → is_model v clauses ≡ true → is_model v given ≡ true
log-model v given chains clauses log m =
    model-given v chains given log.all log.resolve (model-same v log.all clauses log.same m)
