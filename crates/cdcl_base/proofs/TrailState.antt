-- A trail with a literal assigned or cancelled keeps what each trail keeps, and so does what stands beside it.
use Rattle.std.proofs.Common.{◌≡◌, ℕ, suc, ◌-◌, ◌*◌, ◌^◌, ◌<◌, ◌≤◌, ◌||◌, Bool, true, false, List, [], ◌∷◌, ◌++◌}
use Rattle.std.proofs.Common.{Option, Some, None, refl, subst, subst₂, sym, ap, ◌∙◌, ◌⊎◌, inl, inr, All, Contains}
use Rattle.std.proofs.Common.{slice_get}
use Rattle.std.proofs.Common.{length, get_or, set, take, take-take, get_or-take, length-take-le, slice_set, map, eqb}
use Rattle.std.proofs.Common.{length-set, arith, unwrap_or}
use Rattle.std.specs.Bool.{beq}
use Rattle.std.specs.List.{list_any, IsDistinct}
use Rattle.std.proofs.lemmas.Bool.{false≢true, cases_lt, ne_eqb, eqb-true}
use Rattle.std.proofs.lemmas.Option.{none-some, same_Some, slice_get_within, get_or_from_slice_get, slice_get-get_or}
use Rattle.std.proofs.lemmas.List.{take-append-le, length_push, length-map}
use Rattle.std.proofs.lemmas.List.Elements.{All-push, All-take, All-weaker, Contains-append_left, Contains-push}
use Rattle.std.proofs.lemmas.Map.Steps.{length-le_from_distinct_below}
use Rattle.std.proofs.Math.Bool.{or-false}
use Rattle.std.proofs.Math.Seq.{take-append_seam}
use Rattle.cnf_core.specs.declared.clause.Lit.{Lit}
use Rattle.cnf_core.specs.Clause.{opposite, same_lit, contains, assigned, IsOver}
use Rattle.cnf_core.proofs.Sets.{same_variable, contains-append, contains-head, contains-tail, same_lit-true}
use Rattle.cnf_core.proofs.Sets.{same_lit-from}
use Rattle.cdcl_base.specs.Codes.{code}
use Rattle.cdcl_base.specs.Trail.{HasDistinctVariables, Trail, IsTrail, IsUnassigned, IsCancelled, ArePlaces}
use Rattle.cdcl_base.specs.Values.{trail_of, AreValues}
use Rattle.cdcl_base.proofs.CodeLemmas.{code-below, code-same, code-test}
use Rattle.cdcl_base.proofs.MarkLemmas.{assigned-set}
use Rattle.cdcl_base.proofs.Places.{contains-at}
use Rattle.cdcl_base.proofs.TrailLemmas.{decided, forced}
use Rattle.list_lemmas.proofs.Bools.{false_unless, or-cases, true-or-false}
use Rattle.list_lemmas.proofs.Lookups.{All-slice_get, slice_get-end, slice_get-front, slice_get-push, all-map}
use Rattle.list_lemmas.proofs.Lookups.{each_from_places, slice_get-set_same, slice_get-set_other}

-- ---- trails

distinct-pushed : (lits : List Lit) (l : Lit) → HasDistinctVariables lits → IsUnassigned lits l →
    HasDistinctVariables (lits ++ l ∷ [])
distinct-pushed lits l h free k m at = by (slice_get-push lits l k m at)
  where
    by : (slice_get lits k ≡ Some m) ⊎ ((k ≡ length lits) × (l ≡ m)) → IsUnassigned (take k (lits ++ l ∷ [])) m
    by (inl e) =
        let within = slice_get_within lits k m e in
        subst (λ front. IsUnassigned front m) (sym (take-append-le k lits (l ∷ []) (omega arith))) (h k m e)
    by (inr e) =
        let all : take k (lits ++ l ∷ []) ≡ lits = ap (λ n. take n (lits ++ l ∷ [])) e.0
        ∙ take-append_seam lits (l ∷ []) in
        subst (λ x. IsUnassigned (take k (lits ++ l ∷ [])) x) e.1 (subst (λ front. IsUnassigned front l) (sym all) free)

within-pushed : (lits : List Lit) (level_starts : List ℕ) (l : Lit) → All (λ s. s < length lits) level_starts →
    All (λ s. s < length (lits ++ l ∷ [])) level_starts
within-pushed lits level_starts l h =
    All-weaker (λ s. s < length lits) (λ s. s < length (lits ++ l ∷ [])) (λ s lt. omega (arith, length_push lits l))
    level_starts h

pub IsTrail-forced : (t : Trail) (l : Lit) (reason : ℕ) → IsTrail t → l.variable < t.variables → IsUnassigned t.lits l →
    length t.lits < t.variables → IsTrail (forced t l reason)
IsTrail-forced t l reason it there free room =
    let lengths = it.explained in
    record {
      over = All-push (λ m. m.variable < t.variables) t.lits l it.over there;
      distinct = distinct-pushed t.lits l it.distinct free;
      explained = omega (arith, length_push t.lits l, length_push t.reasons (Some reason));
      decided = λ k at. decision k (slice_get-push t.reasons (Some reason) k None at);
      rising = it.rising;
      within = within-pushed t.lits t.level_starts l it.within;
      fits = omega (arith, length_push t.lits l);
      small = it.small;
    }
  where
    decision : (k : ℕ) → (slice_get t.reasons k ≡ Some None) ⊎ ((k ≡ length t.reasons) × (Some reason ≡ None)) →
        Contains t.level_starts k
    decision k (inl e) = it.decided k e
    decision k (inr e) = absurd (none-some reason (sym e.1))

pub IsTrail-decided : (t : Trail) (l : Lit) → IsTrail t → l.variable < t.variables → IsUnassigned t.lits l →
    length t.lits < t.variables → IsTrail (decided t l)
IsTrail-decided t l it there free room =
    let lengths = it.explained in
    record {
      over = All-push (λ m. m.variable < t.variables) t.lits l it.over there;
      distinct = distinct-pushed t.lits l it.distinct free;
      explained = omega (arith, length_push t.lits l, length_push t.reasons None);
      decided = λ k at. decision k (slice_get-push t.reasons None k None at);
      rising =
          λ i j a b lt first second. rises i j a b lt (slice_get-push t.level_starts (length t.lits) i a first)
          (slice_get-push t.level_starts (length t.lits) j b second);
      within =
          All-push (λ s. s < length (t.lits ++ l ∷ [])) t.level_starts (length t.lits)
          (within-pushed t.lits t.level_starts l it.within) (omega (arith, length_push t.lits l));
      fits = omega (arith, length_push t.lits l);
      small = it.small;
    }
  where
    decision : (k : ℕ) →
        (slice_get t.reasons k ≡ Some None) ⊎ ((k ≡ length t.reasons) × (◌≡◌ {A = Option ℕ} None None)) →
        Contains (t.level_starts ++ length t.lits ∷ []) k
    decision k (inl e) = Contains-append_left t.level_starts (length t.lits ∷ []) k (it.decided k e)
    decision k (inr e) =
        subst (λ s. Contains (t.level_starts ++ length t.lits ∷ []) s) (sym (e.0 ∙ it.explained))
        (Contains-push t.level_starts (length t.lits))

    rises : (i j a b : ℕ) → i < j →
        (slice_get t.level_starts i ≡ Some a) ⊎ ((i ≡ length t.level_starts) × (length t.lits ≡ a)) →
        (slice_get t.level_starts j ≡ Some b) ⊎ ((j ≡ length t.level_starts) × (length t.lits ≡ b)) → a < b
    rises i j a b lt (inl e) (inl f) = it.rising i j a b lt e f
    rises i j a b lt (inl e) (inr f) =
        let early = it.within i a (slice_get_within t.level_starts i a e) in
        let same = get_or_from_slice_get t.level_starts i a a e in
        let last = f.1 in
        omega arith
    rises i j a b lt (inr e) (inl f) =
        let inside = slice_get_within t.level_starts j b f in
        let end = e.0 in
        absurd (omega arith)
    rises i j a b lt (inr e) (inr f) =
        let first = e.0 in
        let second = f.0 in
        absurd (omega arith)

-- ---- as many literals as variables at the most

others-differ : (l : Lit) (ls : List Lit) → HasDistinctVariables (l ∷ ls) → (k : ℕ) (m : Lit) →
    slice_get ls k ≡ Some m → eqb l.variable m.variable ≡ false
others-differ l ls distinct k m at = ne_eqb l.variable m.variable (λ e. by (same_variable l m e))
  where
    by : (l ≡ m) ⊎ (l ≡ opposite m) → ⊥
    by (inl e) =
        false≢true
        (sym (distinct (suc k) m at).0 ∙ ap (contains (l ∷ take k ls)) (sym e) ∙ contains-head l (take k ls))
    by (inr e) =
        false≢true
        (sym (distinct (suc k) m at).1 ∙ ap (contains (l ∷ take k ls)) (sym e) ∙ contains-head l (take k ls))

later-distinct : (l : Lit) (ls : List Lit) → HasDistinctVariables (l ∷ ls) → HasDistinctVariables ls
later-distinct l ls distinct k m at =
    (less m (distinct (suc k) m at).0, less (opposite m) (distinct (suc k) m at).1)
  where
    less : (x : Lit) → contains (l ∷ take k ls) x ≡ false → contains (take k ls) x ≡ false
    less x h = false_unless (contains (take k ls) x) (λ e. false≢true (sym h ∙ contains-tail l (take k ls) x e))

are-distinct : (lits : List Lit) → HasDistinctVariables lits → IsDistinct eqb (map (λ (l : Lit). l.variable) lits)
unfolding IsDistinct
are-distinct [] distinct = tt
are-distinct (l ∷ ls) distinct = (
  all-map (λ y. eqb l.variable y ≡ false) (λ (m : Lit). m.variable) ls
      (each_from_places (λ (m : Lit). eqb l.variable m.variable ≡ false) ls (others-differ l ls distinct)),
  are-distinct ls (later-distinct l ls distinct),
)

below-all : (n : ℕ) (lits : List Lit) → IsOver n lits → (q : ℕ) →
    list_any (eqb q) (map (λ (l : Lit). l.variable) lits) ≡ true → q < n
below-all n [] over q h = absurd (false≢true h)
below-all n (l ∷ ls) over q h =
    by (or-cases (eqb q l.variable) (list_any (eqb q) (map (λ (m : Lit). m.variable) ls)) h)
    (below-all n ls (λ k d lt. over (suc k) d (omega (arith, lt))) q)
  where
    by : (eqb q l.variable ≡ true) ⊎ (list_any (eqb q) (map (λ (m : Lit). m.variable) ls) ≡ true) →
        (list_any (eqb q) (map (λ (m : Lit). m.variable) ls) ≡ true → q < n) → q < n
    by (inl e) ih = subst (λ x. x < n) (sym (eqb-true q l.variable e)) (over 0 l (omega arith))
    by (inr e) ih = ih e

-- distinct variables below n are at most n
fits-distinct : (n : ℕ) (lits : List Lit) → IsOver n lits → HasDistinctVariables lits → length lits ≤ n
fits-distinct n lits over distinct =
    subst (λ k. k ≤ n) (length-map lits (λ (l : Lit). l.variable))
    (length-le_from_distinct_below (map (λ (l : Lit). l.variable) lits) n (are-distinct lits distinct)
    (below-all n lits over))

room_for : (t : Trail) (l : Lit) → IsTrail t → l.variable < t.variables → IsUnassigned t.lits l →
    length t.lits < t.variables
room_for t l it there free =
    let fits =
    fits-distinct t.variables (t.lits ++ l ∷ []) (All-push (λ m. m.variable < t.variables) t.lits l it.over there)
    (distinct-pushed t.lits l it.distinct free) in
    omega (arith, length_push t.lits l)

-- ---- values

own_value : (sign : Bool) → beq sign sign ≡ true
own_value true = refl
own_value false = refl

contains-pushed_other : (lits : List Lit) (l m : Lit) → same_lit m l ≡ false →
    contains (lits ++ l ∷ []) m ≡ contains lits m
contains-pushed_other lits l m h = contains-append lits (l ∷ []) m ∙ by (contains lits m) (same_lit m l) h
  where
    by : (a b : Bool) → b ≡ false → (a || (b || false)) ≡ a
    by true b e = refl
    by false b e = ap (λ x. x || false) e

-- a variable without a value has no place
unassigned-differs : (lits : List Lit) (l : Lit) → IsUnassigned lits l → (k : ℕ) (m : Lit) →
    slice_get lits k ≡ Some m → m.variable ≡ l.variable → ⊥
unassigned-differs lits l free k m at e = by (same_variable m l e)
  where
    by : (m ≡ l) ⊎ (m ≡ opposite l) → ⊥
    by (inl s) = false≢true (sym free.0 ∙ ap (contains lits) (sym s) ∙ contains-at lits m k at)
    by (inr s) = false≢true (sym free.1 ∙ ap (contains lits) (sym s) ∙ contains-at lits m k at)

placed-more : (lits : List Lit) (places : List ℕ) (l : Lit) → ArePlaces lits places → l.variable < length places →
    IsUnassigned lits l → ArePlaces (lits ++ l ∷ []) (slice_set places l.variable (length lits))
placed-more lits places l h there free k m at = by (slice_get-push lits l k m at)
  where
    by : (slice_get lits k ≡ Some m) ⊎ ((k ≡ length lits) × (l ≡ m)) →
        slice_get (slice_set places l.variable (length lits)) m.variable ≡ Some k
    by (inl e) =
        slice_get-set_other places l.variable m.variable (length lits) (unassigned-differs lits l free k m e)
        ∙ h k m e
    by (inr e) =
        ap (λ (x : Lit). slice_get (slice_set places l.variable (length lits)) x.variable) (sym e.1)
        ∙ slice_get-set_same places l.variable (length lits) there ∙ ap (λ n. Some n) (sym e.0)

pub AreValues-more : (variables : ℕ) (lits : List Lit) (truths : List Bool) (places : List ℕ) (phases : List Bool)
    (l : Lit) → AreValues variables lits truths places phases → l.variable < variables → IsUnassigned lits l →
    AreValues variables (lits ++ l ∷ []) (set truths (code l) true) (set places l.variable (length lits)) phases
AreValues-more variables lits truths places phases l h there free =
    let room = h.truths_room in
    let below = code-below l variables there in
    let places_room = h.places_room in
    record {
      agree =
          λ m. assigned-set truths (code l) (code m) (omega (arith, below, room))
          ∙ ap (λ b. assigned truths (code m) || b) (code-test l m)
          ∙ ap (λ b. b || same_lit m l) (h.agree m)
          ∙ ap (λ b. contains lits m || b) (sym (or-false (same_lit m l)))
          ∙ sym (contains-append lits (l ∷ []) m);
      placed = placed-more lits places l h.placed (omega (arith, places_room, there)) free;
      truths_room = omega (arith, room, length-set truths (code l) true);
      places_room = omega (arith, places_room, length-set places l.variable (length lits));
      phases_room = h.phases_room;
    }

-- the last literal's truth is taken away
pub agree-less : (lits : List Lit) (truths : List Bool) (l : Lit) →
    ((m : Lit) → assigned truths (code m) ≡ contains (lits ++ l ∷ []) m) → code l < length truths →
    IsUnassigned lits l → (m : Lit) → assigned (set truths (code l) false) (code m) ≡ contains lits m
agree-less lits truths l h there free m = by (true-or-false (same_lit m l))
  where
    by : (same_lit m l ≡ true) ⊎ (same_lit m l ≡ false) →
        assigned (set truths (code l) false) (code m) ≡ contains lits m
    by (inl e) =
        ap (λ x. assigned (set truths (code l) false) (code x)) (same_lit-true m l e)
        ∙ ap (λ o. unwrap_or o false) (slice_get-set_same truths (code l) false there)
        ∙ sym free.0 ∙ ap (contains lits) (sym (same_lit-true m l e))
    by (inr e) =
        ap (λ o. unwrap_or o false)
        (slice_get-set_other truths (code l) (code m) false
        (λ same. false≢true (sym e ∙ same_lit-from m l (code-same m l same))))
        ∙ h m ∙ contains-pushed_other lits l m e

-- ---- both

abbrev pub IsTrailState : ℕ → List Lit → List (Option ℕ) → List ℕ → List Bool → List ℕ → List Bool → Type 0
IsTrailState variables lits reasons level_starts truths places phases =
    IsTrail (trail_of variables lits reasons level_starts) × AreValues variables lits truths places phases

pub state-forced : (variables : ℕ) (lits : List Lit) (reasons : List (Option ℕ)) (level_starts : List ℕ)
    (truths : List Bool) (places : List ℕ) (phases : List Bool) (t : Trail) (l : Lit) (reason : ℕ)
    (lits' : List Lit) (reasons' : List (Option ℕ)) (truths' : List Bool) (places' : List ℕ) →
    IsTrailState variables lits reasons level_starts truths places phases →
    trail_of variables lits reasons level_starts ≡ t → l.variable < t.variables → IsUnassigned t.lits l →
    lits' ≡ lits ++ l ∷ [] → reasons' ≡ reasons ++ Some reason ∷ [] → truths' ≡ set truths (code l) true →
    places' ≡ set places l.variable (length lits) →
    IsTrailState variables lits' reasons' level_starts truths' places' phases
state-forced variables lits reasons level_starts truths places phases t l reason lits' reasons' truths' places' h is
    there free e f m n =
    subst₂ (λ ts ps. IsTrailState variables lits' reasons' level_starts ts ps phases) (sym m) (sym n) (by (subst (λ (x
    : Trail). l.variable < x.variables) (sym is) there)
    (subst (λ (x : Trail). IsUnassigned x.lits l) (sym is) free))
  where
    by : l.variable < variables → IsUnassigned lits l →
        IsTrailState variables lits' reasons' level_starts (set truths (code l) true)
        (set places l.variable (length lits)) phases
    by there free =
        let trail =
        IsTrail-forced (trail_of variables lits reasons level_starts) l reason h.0 there free
        (room_for (trail_of variables lits reasons level_starts) l h.0 there free) in
        let same : trail_of variables lits' reasons' level_starts ≡
        forced (trail_of variables lits reasons level_starts) l reason =
        λ i. record { variables = variables; lits = e i; reasons = f i; level_starts = level_starts } in (
          subst IsTrail (sym same) trail,
          subst (λ x. AreValues variables x (set truths (code l) true) (set places l.variable (length lits)) phases)
              (sym e) (AreValues-more variables lits truths places phases l h.1 there free),
        )

pub state-decided : (variables : ℕ) (lits : List Lit) (reasons : List (Option ℕ)) (level_starts : List ℕ)
    (truths : List Bool) (places : List ℕ) (phases : List Bool) (t : Trail) (l : Lit)
    (lits' : List Lit) (reasons' : List (Option ℕ)) (level_starts' : List ℕ) (truths' : List Bool)
    (places' : List ℕ) → IsTrailState variables lits reasons level_starts truths places phases →
    trail_of variables lits reasons level_starts ≡ t → l.variable < t.variables → IsUnassigned t.lits l →
    lits' ≡ lits ++ l ∷ [] → reasons' ≡ reasons ++ None ∷ [] → level_starts' ≡ level_starts ++ length lits ∷ [] →
    truths' ≡ set truths (code l) true → places' ≡ set places l.variable (length lits) →
    IsTrailState variables lits' reasons' level_starts' truths' places' phases
state-decided variables lits reasons level_starts truths places phases t l lits' reasons' level_starts' truths' places'
    h is there free e f g m n =
    subst₂ (λ ts ps. IsTrailState variables lits' reasons' level_starts' ts ps phases) (sym m) (sym n) (by (subst (λ (x
    : Trail). l.variable < x.variables) (sym is) there)
    (subst (λ (x : Trail). IsUnassigned x.lits l) (sym is) free))
  where
    by : l.variable < variables → IsUnassigned lits l →
        IsTrailState variables lits' reasons' level_starts' (set truths (code l) true)
        (set places l.variable (length lits)) phases
    by there free =
        let trail =
        IsTrail-decided (trail_of variables lits reasons level_starts) l h.0 there free
        (room_for (trail_of variables lits reasons level_starts) l h.0 there free) in
        let same : trail_of variables lits' reasons' level_starts' ≡
        decided (trail_of variables lits reasons level_starts) l =
        λ i. record { variables = variables; lits = e i; reasons = f i; level_starts = g i } in (
          subst IsTrail (sym same) trail,
          subst (λ x. AreValues variables x (set truths (code l) true) (set places l.variable (length lits)) phases)
              (sym e) (AreValues-more variables lits truths places phases l h.1 there free),
        )

-- ---- more variables

pub state-grown : (old variables : ℕ) (lits : List Lit) (reasons : List (Option ℕ)) (level_starts : List ℕ)
    (truths : List Bool) (places : List ℕ) (phases truths' : List Bool) (places' : List ℕ) (phases' : List Bool) →
    IsTrailState old lits reasons level_starts truths places phases → old ≤ variables → variables ≤ 2 ^ 31 →
    ((x : ℕ) → assigned truths' x ≡ assigned truths x) →
    ((x place : ℕ) → slice_get places x ≡ Some place → slice_get places' x ≡ Some place) →
    2 * variables ≤ length truths' → variables ≤ length places' → variables ≤ length phases' →
    IsTrailState variables lits reasons level_starts truths' places' phases'
state-grown old variables lits reasons level_starts truths places phases truths' places' phases' h more small same
    placed truths_room places_room phases_room = (
      record {
        over = All-weaker (λ (m : Lit). m.variable < old) (λ (m : Lit). m.variable < variables)
            (λ m lt. omega (arith, lt, more)) lits h.0.over;
        distinct = h.0.distinct;
        explained = h.0.explained;
        decided = h.0.decided;
        rising = h.0.rising;
        within = h.0.within;
        fits = (let fits = h.0.fits in omega (arith, fits, more));
        small = small;
      },
      record {
        agree = λ l. same (code l) ∙ h.1.agree l;
        placed = λ k l at. placed l.variable k (h.1.placed k l at);
        truths_room = truths_room;
        places_room = places_room;
        phases_room = phases_room;
      },
    )

-- ---- cancelled literals

pub unassign_from-step : (all lits left : List Lit) (truths : List Bool) (l : Lit) → HasDistinctVariables all →
    lits ≡ take (length lits) all → lits ≡ left ++ l ∷ [] →
    ((m : Lit) → assigned truths (code m) ≡ contains lits m) → code l < length truths →
    (left ≡ take (length left) all)
    × ((m : Lit) → assigned (set truths (code l) false) (code m) ≡ contains left m)
unassign_from-step all lits left truths l distinct front split h there =
    let shorter : length left ≤ length lits = omega (arith, ap length split, length_push left l) in
    let kept : left ≡ take (length left) all =
    sym (take-append_seam left (l ∷ [])) ∙ ap (take (length left)) (sym split ∙ front)
    ∙ take-take (length left) (length lits) all shorter in
    let last : slice_get (take (length lits) all) (length left) ≡ Some l =
    ap (λ xs. slice_get xs (length left)) (sym front ∙ split) ∙ slice_get-end left l in
    let stands = slice_get-front (length lits) all (length left) l last in
    let free = subst (λ xs. IsUnassigned xs l) (sym kept) (distinct (length left) l stands.1) in (
      kept,
      agree-less left truths l (λ m. h m ∙ ap (λ xs. contains xs m) split) there free,
    )

-- the last of the first literals has one of the variables
pub unassign_from-there : (n : ℕ) (all lits left : List Lit) (l : Lit) → IsOver n all →
    lits ≡ take (length lits) all → lits ≡ left ++ l ∷ [] → l.variable < n
unassign_from-there n all lits left l over front split =
    let last : slice_get (take (length lits) all) (length left) ≡ Some l =
    ap (λ xs. slice_get xs (length left)) (sym front ∙ split) ∙ slice_get-end left l in
    All-slice_get (λ (m : Lit). m.variable < n) all (length left) l over
    (slice_get-front (length lits) all (length left) l last).1

-- the trail as it was before the first decision at or after a place
abbrev cancelled : Trail → ℕ → List ℕ → Trail
cancelled t place level_starts =
    record {
      variables = t.variables;
      lits = take place t.lits;
      reasons = take place t.reasons;
      level_starts = level_starts;
    }

-- what is left of the level starts before one of them
record IsBefore (level_starts left : List ℕ) (place keep : ℕ) : Type 0 where
  front : left ≡ take (length left) level_starts
  first : slice_get level_starts (length left) ≡ Some place
  later : keep ≤ place
  before : (s : ℕ) → slice_get left (length left - 1) ≡ Some s → s < keep

left-at : (level_starts left : List ℕ) (place keep k s : ℕ) → IsBefore level_starts left place keep →
    slice_get left k ≡ Some s → (k < length left) × (slice_get level_starts k ≡ Some s)
left-at level_starts left place keep k s b at =
    slice_get-front (length left) level_starts k s (ap (λ xs. slice_get xs k) (sym b.front) ∙ at)

IsTrail-cancelled : (t : Trail) (left : List ℕ) (place keep : ℕ) → IsTrail t → IsBefore t.level_starts left place keep →
    IsTrail (cancelled t place left)
IsTrail-cancelled t left place keep it b =
    let inside : place < length t.lits =
    All-slice_get (λ s. s < length t.lits) t.level_starts (length left) place it.within b.first in
    let fits = it.fits in
    let lengths = it.explained in
    record {
      over = All-take (λ (m : Lit). m.variable < t.variables) place t.lits it.over;
      distinct = λ k l at.
          let old = slice_get-front place t.lits k l at in
          let lt = old.0 in
          subst (λ xs. IsUnassigned xs l) (sym (take-take k place t.lits (omega arith))) (it.distinct k l old.1);
      explained = omega (arith, length-take-le place t.lits, length-take-le place t.reasons);
      decided = λ k at. let old = slice_get-front place t.reasons k None at in stays k old.0 (it.decided k old.1);
      rising =
          λ i j a c lt first second. it.rising i j a c lt (left-at t.level_starts left place keep i a b first).1
          (left-at t.level_starts left place keep j c b second).1;
      within = λ k d lt.
          let old = left-at t.level_starts left place keep k (get_or left k d) b (slice_get-get_or left k d lt) in
          let rises = it.rising k (length left) (get_or left k d) place lt old.1 b.first in
          omega (arith, length-take-le place t.lits);
      fits = omega (arith, length-take-le place t.lits);
      small = it.small;
    }
  where
    stays : (k : ℕ) → k < place → Contains t.level_starts k → Contains left k
    stays k lt c = by (cases_lt c.0 (length left))
      where
        stands : slice_get t.level_starts c.0 ≡ Some k
        stands = slice_get-get_or t.level_starts c.0 k c.1 ∙ ap Some c.2

        by : (c.0 < length left) ⊎ (length left ≤ c.0) → Contains left k
        by (inl early) = (
          c.0,
          early,
          ap (λ xs. get_or xs c.0 k) b.front ∙ get_or-take (length left) t.level_starts c.0 k early
              ∙ c.2,
        )
        by (inr late) = absurd (clash (cases_lt (length left) c.0))
          where
            clash : (length left < c.0) ⊎ (c.0 ≤ length left) → ⊥
            clash (inl after) = let rises = it.rising (length left) c.0 place k after b.first stands in omega arith
            clash (inr same) =
                let equal : c.0 ≡ length left = omega arith in
                let here : k ≡ place = same_Some k place (sym stands ∙ ap (slice_get t.level_starts) equal ∙ b.first) in
                omega arith

IsCancelled-cancelled : (t : Trail) (left : List ℕ) (place keep : ℕ) → IsTrail t →
    IsBefore t.level_starts left place keep → IsCancelled t (cancelled t place left) keep
IsCancelled-cancelled t left place keep it b = record {
  variables = refl;
  place = place;
  later = b.later;
  decision = Contains-slice_get t.level_starts (length left) place b.first;
  lits = refl;
  reasons = refl;
  level_starts = λ s c. stays s c;
}
  where
    Contains-slice_get : (xs : List ℕ) (k x : ℕ) → slice_get xs k ≡ Some x → Contains xs x
    Contains-slice_get xs k x at = (k, slice_get_within xs k x at, get_or_from_slice_get xs k x x at)

    stays : (s : ℕ) → Contains left s → Contains t.level_starts s × (s < keep)
    stays s c = (Contains-slice_get t.level_starts c.0 s old.1, by (cases_lt c.0 (length left - 1)))
      where
        stands : slice_get left c.0 ≡ Some s
        stands = slice_get-get_or left c.0 s c.1 ∙ ap Some c.2

        old : (c.0 < length left) × (slice_get t.level_starts c.0 ≡ Some s)
        old = left-at t.level_starts left place keep c.0 s b stands

        by : (c.0 < length left - 1) ⊎ (length left - 1 ≤ c.0) → s < keep
        by (inl early) =
            let end : length left - 1 < length left = omega arith in
            let last = slice_get-get_or left (length left - 1) 0 end in
            let below = b.before (get_or left (length left - 1) 0) last in
            let rises =
            it.rising c.0 (length left - 1) s (get_or left (length left - 1) 0) early old.1
            (left-at t.level_starts left place keep (length left - 1) (get_or left (length left - 1) 0) b last).1 in
            omega arith
        by (inr late) =
            let inside = c.1 in
            let equal : c.0 ≡ length left - 1 = omega arith in
            b.before s (ap (slice_get left) (sym equal) ∙ stands)

pub state-cancelled : (variables : ℕ) (lits : List Lit) (reasons : List (Option ℕ)) (level_starts : List ℕ)
    (t : Trail) (keep place : ℕ) (lits' : List Lit) (reasons' : List (Option ℕ)) (level_starts' : List ℕ) →
    IsTrail (trail_of variables lits reasons level_starts) → trail_of variables lits reasons level_starts ≡ t →
    level_starts' ≡ take (length level_starts') level_starts →
    slice_get level_starts (length level_starts') ≡ Some place → keep ≤ place →
    ((s : ℕ) → slice_get level_starts' (length level_starts' - 1) ≡ Some s → s < keep) → lits' ≡ take place lits →
    reasons' ≡ take place reasons →
    IsTrail (trail_of variables lits' reasons' level_starts')
    × IsCancelled t (trail_of variables lits' reasons' level_starts') keep
state-cancelled variables lits reasons level_starts t keep place lits' reasons' level_starts' it is front first later
    before e f =
    let b : IsBefore level_starts level_starts' place keep =
    record { front = front; first = first; later = later; before = before } in
    let same : trail_of variables lits' reasons' level_starts' ≡
    cancelled (trail_of variables lits reasons level_starts) place level_starts' =
    λ i. record { variables = variables; lits = e i; reasons = f i; level_starts = level_starts' } in (
      subst IsTrail (sym same)
          (IsTrail-cancelled (trail_of variables lits reasons level_starts) level_starts' place keep it b),
      subst (λ new. IsCancelled t new keep) (sym same)
          (subst
          (λ old. IsCancelled old (cancelled (trail_of variables lits reasons level_starts) place level_starts') keep)
          is
          (IsCancelled-cancelled (trail_of variables lits reasons level_starts) level_starts' place keep it b)),
    )

-- what is left of the values
pub values-cancelled : (variables : ℕ) (lits : List Lit) (truths : List Bool) (places : List ℕ) (phases : List Bool)
    (place : ℕ) (lits' : List Lit) (truths' phases' : List Bool) →
    AreValues variables lits truths places phases → lits' ≡ take place lits →
    ((l : Lit) → assigned truths' (code l) ≡ contains lits' l) →
    length truths' ≡ length truths → length phases' ≡ length phases →
    AreValues variables lits' truths' places phases'
values-cancelled variables lits truths places phases place lits' truths' phases' h front agree same_truths same_phases =
    let truths_room = h.truths_room in
    let phases_room = h.phases_room in
    record {
      agree = agree;
      placed =
          λ k l at. h.placed k l (slice_get-front place lits k l (ap (λ xs. slice_get xs k) (sym front) ∙ at)).1;
      truths_room = omega (arith, truths_room, same_truths);
      places_room = h.places_room;
      phases_room = omega (arith, phases_room, same_phases);
    }

-- the empty trail
pub IsTrail-empty : (variables : ℕ) → variables ≤ 2 ^ 31 → IsTrail (trail_of variables [] [] [])
IsTrail-empty variables small = record {
  over = λ k d lt. absurd (omega (arith, lt));
  distinct = λ k l at. absurd (none-some l at);
  explained = refl;
  decided = λ k at. absurd (none-some None at);
  rising = λ i j a b lt first second. absurd (none-some a first);
  within = λ k d lt. absurd (omega (arith, lt));
  fits = omega arith;
  small = small;
}
