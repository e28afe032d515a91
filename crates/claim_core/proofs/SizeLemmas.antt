-- The least size that a longer and longer book tells.
use Rattle.std.proofs.Common.{◌≡◌, ℕ, ◌+◌, ◌<◌, ◌≤◌, List, [], ◌∷◌, ◌++◌, length, Some, None, slice_get, refl, sym, ap}
use Rattle.std.proofs.Common.{◌∙◌, arith, subst, min, ◌⊎◌, inl, inr, ⊎_elim, take, get_or, Bool, true, false}
use Rattle.std.proofs.Common.{if◌then◌else◌, ◌==◌}
use Rattle.std.proofs.lemmas.Bool.{cases_lt}
use Rattle.std.proofs.lemmas.Option.{same_Some, slice_get-get_or}
use Rattle.std.proofs.lemmas.Bool.Decides.{nat_tests}
use Rattle.list_lemmas.proofs.Lookups.{map-take-more}
use Rattle.std.specs.Prelude.{Option}
use Rattle.std.proofs.lemmas.List.Elements.{Contains-append_left, Contains-append_right, Contains-append_cases}
use Rattle.list_lemmas.proofs.Lookups.{Contains-first, only_one}
use Rattle.multiset_rank.specs.Claims.{Plan, claims}
use Rattle.claim_core.specs.Sizes.{IsOfGoal, IsFound, TellsLeast, told, lesser}

pub tells-none : (plan : Plan) (goal : ℕ) → TellsLeast plan [] goal None
tells-none plan goal size found = absurd (omega (arith, found.published.1))

-- a size that was found before, or with the last claim
found-cases : (plan : Plan) (pairs : List (ℕ × Option ℕ)) (goal number : ℕ) (size : Option ℕ) (s : ℕ)
    → IsFound plan (pairs ++ (number, size) ∷ []) goal s
    → IsFound plan pairs goal s ⊎ ((size ≡ Some s) × IsOfGoal plan goal number)
found-cases plan pairs goal number size s f =
    ⊎_elim (λ old. inl (record { number = f.number; published = old; of_goal = f.of_goal }))
    (λ new. let is = only_one (number, size) (f.number, Some s) new in
    inr (ap (λ (p : ℕ × Option ℕ). p.1) is, subst (λ (p : ℕ × Option ℕ). IsOfGoal plan goal p.0) (sym is) f.of_goal))
    (Contains-append_cases pairs ((number, size) ∷ []) (f.number, Some s) f.published)

found-before : (plan : Plan) (pairs : List (ℕ × Option ℕ)) (goal number : ℕ) (size : Option ℕ) (s : ℕ)
    → IsFound plan pairs goal s → IsFound plan (pairs ++ (number, size) ∷ []) goal s
found-before plan pairs goal number size s f = record {
  number = f.number;
  published = Contains-append_left pairs ((number, size) ∷ []) (f.number, Some s) f.published;
  of_goal = f.of_goal;
}

found-last : (plan : Plan) (pairs : List (ℕ × Option ℕ)) (goal number : ℕ) (s : ℕ)
    → IsOfGoal plan goal number → IsFound plan (pairs ++ (number, Some s) ∷ []) goal s
found-last plan pairs goal number s of_goal = record {
  number = number;
  published = Contains-append_right pairs ((number, Some s) ∷ []) (number, Some s) (Contains-first (number, Some s) []);
  of_goal = of_goal;
}

-- a claim of another goal changes nothing
pub tells-other : (plan : Plan) (pairs : List (ℕ × Option ℕ)) (goal number : ℕ) (size answer : Option ℕ)
    → ¬ (IsOfGoal plan goal number) → TellsLeast plan pairs goal answer
    → TellsLeast plan (pairs ++ (number, size) ∷ []) goal answer
tells-other plan pairs goal number size None other tells = λ s f.
    ⊎_elim (tells s) (λ new. other new.1) (found-cases plan pairs goal number size s f)
tells-other plan pairs goal number size (Some a) other tells = record {
  found = found-before plan pairs goal number size a tells.found;
  least = λ s f. ⊎_elim (tells.least s) (λ new. absurd (other new.1)) (found-cases plan pairs goal number size s f);
}

same-size : (a b : ℕ) → Some a ≡ Some b → a ≡ b
same-size a b same = cc

lesser-found : (plan : Plan) (pairs : List (ℕ × Option ℕ)) (goal number a b : ℕ) → IsOfGoal plan goal number
    → IsFound plan pairs goal a → (a < b) ⊎ (b ≤ a) → IsFound plan (pairs ++ (number, Some b) ∷ []) goal (min a b)
lesser-found plan pairs goal number a b of_goal found (inl less) =
    let is : min a b ≡ a = omega (arith, less) in
    subst (λ s. IsFound plan (pairs ++ (number, Some b) ∷ []) goal s) (sym is)
    (found-before plan pairs goal number (Some b) a found)
lesser-found plan pairs goal number a b of_goal found (inr more) =
    let is : min a b ≡ b = omega (arith, more) in
    subst (λ s. IsFound plan (pairs ++ (number, Some b) ∷ []) goal s) (sym is)
    (found-last plan pairs goal number b of_goal)

-- a claim of the goal
pub tells-more : (plan : Plan) (pairs : List (ℕ × Option ℕ)) (goal number : ℕ) (size answer : Option ℕ)
    → IsOfGoal plan goal number → TellsLeast plan pairs goal answer
    → TellsLeast plan (pairs ++ (number, size) ∷ []) goal (lesser answer size)
tells-more plan pairs goal number None None of_goal tells = λ s f.
    ⊎_elim (tells s) (λ new. cc) (found-cases plan pairs goal number None s f)
tells-more plan pairs goal number (Some b) None of_goal tells = record {
  found = found-last plan pairs goal number b of_goal;
  least = λ s f. ⊎_elim (λ old. absurd (tells s old)) (λ new. let is = same-size b s new.0 in omega (arith, is))
      (found-cases plan pairs goal number (Some b) s f);
}
tells-more plan pairs goal number None (Some a) of_goal tells = record {
  found = found-before plan pairs goal number None a tells.found;
  least = λ s f. ⊎_elim (tells.least s) (λ new. absurd (cc)) (found-cases plan pairs goal number None s f);
}
tells-more plan pairs goal number (Some b) (Some a) of_goal tells = record {
  found = lesser-found plan pairs goal number a b of_goal tells.found (cases_lt a b);
  least = λ s f. ⊎_elim (λ old. let most = tells.least s old in omega (arith, most))
      (λ new. let is = same-size b s new.0 in omega (arith, is))
      (found-cases plan pairs goal number (Some b) s f);
}

-- the claim that stands at a number is of its own goal and of no other
of_goal-only : (plan : Plan) (goal other number : ℕ) (ops : List ℕ) → slice_get (claims plan) number ≡ Some (other, ops)
    → IsOfGoal plan goal number → other ≡ goal
of_goal-only plan goal other number ops at of = ap (λ (p : ℕ × List ℕ). p.0) (same_Some _ _ (sym at ∙ of.1))

-- one claim more
pub tells-next : (plan : Plan) (pairs : List (ℕ × Option ℕ)) (goal other number : ℕ) (ops : List ℕ)
    (size answer : Option ℕ) → slice_get (claims plan) number ≡ Some (other, ops) → TellsLeast plan pairs goal answer
    → TellsLeast plan (pairs ++ (number, size) ∷ []) goal (if other == goal then lesser answer size else answer)
tells-next plan pairs goal other number ops size answer at tells = tells-by (other == goal) refl
  where
    tells-by : (b : Bool) → (other == goal) ≡ b
        → TellsLeast plan (pairs ++ (number, size) ∷ []) goal (if b then lesser answer size else answer)
    tells-by true test = tells-more plan pairs goal number size answer
        (ops, subst (λ (g : ℕ). slice_get (claims plan) number ≡ Some (g, ops)) (grind (arith, nat_tests)) at) tells
    tells-by false test = tells-other plan pairs goal number size answer
        (λ of. let is = of_goal-only plan goal other number ops at of in grind (arith, nat_tests)) tells

-- a book that is read one claim further
pub told-more : {E : Type 0} (least : E → Option ℕ) (book : List (ℕ × E)) (place number : ℕ) (e : E)
    → slice_get book place ≡ Some (number, e)
    → told least (take (place + 1) book) ≡ told least (take place book) ++ (number, least e) ∷ []
told-more least book place number e at =
    map-take-more (λ (pair : ℕ × _). (pair.0, least pair.1)) book place (number, e) at

-- what was read at a place
pub read-at : {X : Type 0} (xs : List X) (place : ℕ) (x : X) → place < length xs → x ≡ get_or xs place x
    → slice_get xs place ≡ Some x
read-at xs place x there read = slice_get-get_or xs place x there ∙ ap Some (sym read)
