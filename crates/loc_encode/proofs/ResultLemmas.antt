-- That the results have their values, as one term.
use Rattle.std.proofs.Common.{◌≡◌, ℕ, ◌+◌, Bool, true, false, ◌&&◌, List, [], ◌∷◌, ◌++◌, Some}
use Rattle.std.proofs.Common.{refl, sym, ap, ◌∙◌, subst, arith, slice_get, length, map, unwrap_or, length-append}
use Rattle.std.specs.Prelude.{◌==◌}
use Rattle.std.specs.Bool.{beq}
use Rattle.std.specs.List.{AllByRecursion}
use Rattle.std.proofs.lemmas.Bool.{false≢true, eqb-true, eq-eqb}
use Rattle.bv_terms.specs.declared.value.Sort.{Sort}
use Rattle.bv_terms.specs.declared.value.Sort.TheVariants as sort
use Rattle.bv_terms.specs.declared.value.Value.{Value}
use Rattle.bv_terms.specs.declared.value.Value.TheVariants as val
use Rattle.bv_terms.specs.Term.{Term, value, same_value}
use Rattle.bv_terms.specs.WellSorted.{sort_of}
use Rattle.list_lemmas.proofs.Bools.{and_parts, and-both}
use Rattle.list_lemmas.proofs.Lists.{append-move}
use Rattle.list_lemmas.proofs.Lookups.{slice_get-middle}
use Rattle.pattern_core.specs.Claim.{Claim, IsPatternOf}
use Rattle.pattern_core.specs.declared.pattern.Pattern.{Pattern}
use Rattle.pattern_core.specs.declared.pattern.Src.{Src}
use Rattle.pattern_core.specs.Pattern.{source_sort}
use Rattle.loc_encode.specs.declared.taking.Taker.TheVariants as taker
use Rattle.loc_encode.specs.Standing.{StandsFor}
use Rattle.loc_encode.specs.Parts.{IsOver}
use Rattle.loc_encode.specs.Building.{constant_term, equal_term, both_term}
use Rattle.loc_encode.specs.Lines.{Sourced, the_sort, taken_term, all_equal}
use Rattle.loc_encode.specs.Meaning.{value_of, chosen_at, HasSlots, IsListed, AreMeant}
use Rattle.loc_encode.proofs.BuildingLemmas.{value-equal, value-both, value-constant, over-equal, over-both}
use Rattle.loc_encode.proofs.BuildingLemmas.{over-constant}
use Rattle.loc_encode.proofs.ChainLemmas.{taken-meant}

-- ---- equal values

beq-same : (a : Bool) → beq a a ≡ true
beq-same true = refl
beq-same false = refl

beq-true : (a b : Bool) → beq a b ≡ true → a ≡ b
beq-true true true h = refl
beq-true true false h = absurd (false≢true h)
beq-true false true h = absurd (false≢true h)
beq-true false false h = refl

same_value-same : (v : Value) → same_value v v ≡ true
same_value-same (val.Bool b) = beq-same b
same_value-same (val.Bits w n) = and-both (w == w) (n == n) (eq-eqb w w refl) (eq-eqb n n refl)

same_value-true : (u v : Value) → same_value u v ≡ true → u ≡ v
same_value-true (val.Bool a) (val.Bool b) h = ap (λ x. val.Bool x) (beq-true a b h)
same_value-true (val.Bool a) (val.Bits w n) h = absurd (false≢true h)
same_value-true (val.Bits w n) (val.Bool b) h = absurd (false≢true h)
same_value-true (val.Bits w n) (val.Bits v m) h =
    let parts = and_parts (w == v) (n == m) h in
    λ i. val.Bits (eqb-true w v parts.0 i) (eqb-true n m parts.1 i)

abbrev pub all_same : List Value → List Value → Bool
all_same [] [] = true
all_same (u ∷ us) (v ∷ vs) = same_value u v && all_same us vs
all_same _ _ = false

pub all_same-same : (us vs : List Value) → us ≡ vs → all_same us vs ≡ true
all_same-same us vs e = subst (λ ws. all_same us ws ≡ true) e (itself us)
  where
    itself : (ws : List Value) → all_same ws ws ≡ true
    itself [] = refl
    itself (w ∷ ws) = and-both (same_value w w) (all_same ws ws) (same_value-same w) (itself ws)

pub all_same-true : (us vs : List Value) → all_same us vs ≡ true → us ≡ vs
all_same-true [] [] h = refl
all_same-true [] (v ∷ vs) h = absurd (false≢true h)
all_same-true (u ∷ us) [] h = absurd (false≢true h)
all_same-true (u ∷ us) (v ∷ vs) h =
    let parts = and_parts (same_value u v) (all_same us vs) h in
    λ i. same_value-true u v parts.0 i ∷ all_same-true us vs parts.1 i

and-assoc : (a b d : Bool) → (a && b && d) ≡ (a && (b && d))
and-assoc true b d = refl
and-assoc false b d = refl

and-true : (a : Bool) → (a && true) ≡ a
and-true true = refl
and-true false = refl

-- ---- the results, from a place on

result-slots : (c : Claim) (place : ℕ) (t : Term) (s : Sort) → slice_get c.goal.results place ≡ Some t
    → sort_of c.file.pointer t ≡ Some s → HasSlots c (length c.ops) (taker.Result place) s
result-slots c place t s at sorted source before = ((t, s, at, sorted, before), refl)

sort-is : (p : ℕ) (t : Term) (s : Sort) → sort_of p t ≡ Some s → the_sort p t ≡ s
sort-is p t s e = ap (λ x. unwrap_or x sort.Bool) e

pub equal-over : (c : Claim) (inputs : List Value) (sources : List Sourced)
    → AreMeant c inputs (length c.ops) sources
    → AllByRecursion (λ (t : Term). (s : Sort) × (sort_of c.file.pointer t ≡ Some s)) c.goal.results
    → (front ts : List Term) (place : ℕ) → length front ≡ place → c.goal.results ≡ front ++ ts
    → AllByRecursion (λ (t : Term). (s : Sort) × (sort_of c.file.pointer t ≡ Some s)) ts → (so_far : Term)
    → IsOver c so_far → (vs : List Value) → IsOver c (all_equal c.file.pointer sources so_far place ts vs)
equal-over c inputs sources meant all front [] place long whole sorted so_far over vs = over
equal-over c inputs sources meant all front (t ∷ ts) place long whole sorted so_far over [] = over
equal-over c inputs sources meant all front (t ∷ ts) place long whole sorted so_far over (v ∷ vs) =
    let s : Sort = the_sort c.file.pointer t in
    let at : slice_get c.goal.results place ≡ Some t =
    ap (λ (xs : List Term). slice_get xs place) whole ∙ slice_get-middle front t ts place long in
    let is : sort_of c.file.pointer t ≡ Some s =
    sorted.0.1 ∙ ap Some (sym (sort-is c.file.pointer t sorted.0.0 sorted.0.1)) in
    let chain = taken-meant c inputs (length c.ops) (taker.Result place) s (result-slots c place t s at is) sources
    meant.each in
    let one = equal_term (taken_term (taker.Result place) s sources) (constant_term v) in
    equal-over c inputs sources meant all (front ++ t ∷ []) ts (place + 1)
    (omega (arith, long, length-append front (t ∷ []))) (whole ∙ append-move front t ts) sorted.1
    (both_term so_far one)
    (over-both c so_far one over
    (over-equal c (taken_term (taker.Result place) s sources) (constant_term v) chain.over (over-constant c v))) vs

pub equal-value : (c : Claim) (inputs : List Value) (sources : List Sourced)
    → AreMeant c inputs (length c.ops) sources → (env : List Value) (q : Pattern) → IsPatternOf c q
    → StandsFor c env q → (front ts : List Term) (back xs : List Src) (place : ℕ) → length front ≡ place
    → length back ≡ place → c.goal.results ≡ front ++ ts → q.results ≡ back ++ xs
    → map (source_sort c.file c.goal q.nodes (length q.nodes)) xs ≡ map (sort_of c.file.pointer) ts
    → AllByRecursion (λ (t : Term). (s : Sort) × (sort_of c.file.pointer t ≡ Some s)) ts → (so_far : Term) (b : Bool)
    → value env so_far ≡ val.Bool b → (vs : List Value) → length vs ≡ length ts
    → value env (all_equal c.file.pointer sources so_far place ts vs)
    ≡ val.Bool (b && all_same (map (value_of c inputs q) xs) vs)
equal-value c inputs sources meant env q wf stands front [] back [] place l m whole all e sorted so_far b is [] n =
    is ∙ ap (λ x. val.Bool x) (sym (and-true b))
equal-value c inputs sources meant env q wf stands front [] back [] place l m whole all e sorted so_far b is (v ∷ vs) n
    = absurd (omega (arith, n))
equal-value c inputs sources meant env q wf stands front [] back (x ∷ xs) place l m whole all e sorted so_far b is vs n
    = absurd (cc)
equal-value c inputs sources meant env q wf stands front (t ∷ ts) back [] place l m whole all e sorted so_far b is vs n
    = absurd (cc)
equal-value c inputs sources meant env q wf stands front (t ∷ ts) back (x ∷ xs) place l m whole all e sorted so_far b
    is [] n = absurd (omega (arith, n))
equal-value c inputs sources meant env q wf stands front (t ∷ ts) back (x ∷ xs) place l m whole all e sorted so_far b
    is (v ∷ vs) n =
    let p : ℕ = c.file.pointer in
    let s : Sort = the_sort p t in
    let at : slice_get c.goal.results place ≡ Some t =
    ap (λ (xs : List Term). slice_get xs place) whole ∙ slice_get-middle front t ts place l in
    let of_t : sort_of p t ≡ Some s = sorted.0.1 ∙ ap Some (sym (sort-is p t sorted.0.0 sorted.0.1)) in
    let first : source_sort c.file c.goal q.nodes (length q.nodes) x ≡ sort_of p t = cc in
    let rest : map (source_sort c.file c.goal q.nodes (length q.nodes)) xs ≡ map (sort_of p) ts = cc in
    let chosen : chosen_at q (taker.Result place) ≡ Some x =
    ap (λ (xs : List Src). slice_get xs place) all ∙ slice_get-middle back x xs place m in
    let chain = taken-meant c inputs (length c.ops) (taker.Result place) s (result-slots c place t s at of_t) sources
    meant.each in
    let listed : IsListed sources x s =
    meant.all q wf x s (subst (λ k. source_sort c.file c.goal q.nodes k x ≡ Some s) stands.size (first ∙ of_t)) in
    let taken : Term = taken_term (taker.Result place) s sources in
    let given : value env taken ≡ value_of c inputs q x =
    chain.gives env q x wf stands chosen (first ∙ of_t) listed in
    let same : Bool = same_value (value_of c inputs q x) v in
    let one : value env (equal_term taken (constant_term v)) ≡ val.Bool same =
    value-equal env taken (constant_term v)
    ∙ (λ i. val.Bool (same_value (given i) (value-constant env v i))) in
    let more = equal-value c inputs sources meant env q wf stands (front ++ t ∷ []) ts (back ++ x ∷ []) xs (place + 1)
    (omega (arith, l, length-append front (t ∷ []))) (omega (arith, m, length-append back (x ∷ [])))
    (whole ∙ append-move front t ts) (all ∙ append-move back x xs) rest sorted.1
    (both_term so_far (equal_term taken (constant_term v))) (b && same)
    (value-both env so_far (equal_term taken (constant_term v)) b same is one) vs (omega (arith, n)) in
    more ∙ ap (λ x. val.Bool x) (and-assoc b same (all_same (map (value_of c inputs q) xs) vs))
