-- What a library knows after each of its steps.
use Rattle.std.proofs.Common.{◌≡◌, ◌≢◌, ℕ, ◌+◌, ◌-◌, ◌<◌, ◌≤◌, List, [], ◌∷◌, ◌++◌, length, set, Some, slice_get}
use Rattle.std.proofs.Common.{refl, sym, ap, ◌∙◌, arith, subst, Bool, true, false, if◌then◌else◌, length-append}
use Rattle.std.specs.Prelude.{All, Option, ◌==◌}
use Rattle.std.proofs.lemmas.List.{map-append, length-map, length-set}
use Rattle.std.proofs.lemmas.List.Elements.{All-push}
use Rattle.std.proofs.lemmas.Option.{same_Some, slice_get_within}
use Rattle.std.proofs.lemmas.Bool.Decides.{nat_tests}
use Rattle.list_lemmas.proofs.Lookups.{slice_get-end, All-slice_get, slice_get-set_same, slice_get-set_other}
use Rattle.list_lemmas.proofs.Lookups.{Contains-slice_get, mapped_at}
use Rattle.multiset_rank.specs.Claims.{Plan, claims}
use Rattle.atomic_table.specs.Table.{Me}
use Rattle.claim_core.specs.Laws.{numbers}
use Rattle.claim_core.specs.Sizes.{TellsLeast, told, lesser}
use Rattle.claim_core.proofs.SizeLemmas.{tells-next}
use Rattle.claim_board.specs.declared.view.Ledger.{Ledger}
use Rattle.claim_board.specs.declared.view.View.{View}
use Rattle.claim_board.specs.declared.view.View.TheVariants.{Idle, Claim, Book}
use Rattle.claim_board.specs.Steps.{after_enter, after_give_in}
use Rattle.claim_board.specs.Entries.{AreRight, AreLeast, AreTold}

-- the library's seat

-- the ledger after a claim is entered, and after a worker is given in
abbrev pub entered : Option ℕ → Ledger → ℕ → List (ℕ × Option ℕ) → Ledger
entered size l number claims = record {
  book = l.book ++ (number, size) ∷ [];
  free = l.free + 1;
  ended = l.ended;
  last = claims;
}

abbrev pub given_in : Ledger → List (ℕ × Option ℕ) → Ledger
given_in l claims = record { book = l.book; free = l.free + 1; ended = l.ended; last = claims }

-- the ledger after a pass is handed out
abbrev pub less_one : Ledger → Ledger
less_one l = record { book = l.book; free = l.free - 1; ended = l.ended; last = l.last }

pub seat-entered : (size : Option ℕ) (me w after : Me ℕ View) (l : Ledger) (number : ℕ) (claims : List (ℕ × Option ℕ))
    → me ≡ (Book l, []) → w ≡ (Claim number claims, []) → after ≡ (after_enter size me.0 w.0, [])
    → after ≡ (Book (entered size l number claims), [])
seat-entered size me w after l number claims left right is =
    is ∙ ap (λ (m : Me ℕ View). (after_enter size m.0 w.0, [])) left
    ∙ ap (λ (m : Me ℕ View). (after_enter size (Book l) m.0, [])) right

pub seat-given : (me w after : Me ℕ View) (l : Ledger) (claims : List (ℕ × Option ℕ))
    → me ≡ (Book l, []) → w ≡ (Idle claims, []) → after ≡ (after_give_in me.0 w.0, [])
    → after ≡ (Book (given_in l claims), [])
seat-given me w after l claims left right is =
    is ∙ ap (λ (m : Me ℕ View). (after_give_in m.0 w.0, [])) left
    ∙ ap (λ (m : Me ℕ View). (after_give_in (Book l) m.0, [])) right

-- the numbers of a book

pub numbers-told : {E : Type 0} (least : E → Option ℕ) (book : List (ℕ × E)) → numbers (told least book) ≡ numbers book
numbers-told least [] = refl
numbers-told least (pair ∷ pairs) = ap (λ xs. pair.0 ∷ xs) (numbers-told least pairs)

pub last-below : (n : ℕ) (book : List (ℕ × Option ℕ)) (number : ℕ) (size : Option ℕ)
    → All (λ c. c < n) (numbers (book ++ (number, size) ∷ [])) → number < n
last-below n book number size all =
    All-slice_get (λ c. c < n) (numbers book ++ number ∷ []) (length (numbers book)) number
    (subst (λ xs. All (λ c. c < n) xs) (map-append (λ (pair : ℕ × Option ℕ). pair.0) book ((number, size) ∷ [])) all)
    (slice_get-end (numbers book) number)

pub room-left : {E : Type 0} (n : ℕ) (least : E → Option ℕ) (book : List (ℕ × Option ℕ)) (number : ℕ)
    (size : Option ℕ) (entries : List (ℕ × E)) → length (book ++ (number, size) ∷ []) ≤ n → book ≡ told least entries
    → length entries < n
room-left {E = E} n least book number size entries room same =
    let longer = length-append book ((number, size) ∷ []) in
    let as_long = ap length same ∙ length-map entries (λ (pair : ℕ × E). (pair.0, least pair.1)) in
    omega (arith, room, longer, as_long)

pub told-longer : {E : Type 0} (least : E → Option ℕ) (book : List (ℕ × Option ℕ)) (entries after : List (ℕ × E))
    (number : ℕ) (entry : E) (size : Option ℕ) → book ≡ told least entries → size ≡ least entry
    → after ≡ entries ++ (number, entry) ∷ [] → book ++ (number, size) ∷ [] ≡ told least after
told-longer {E = E} least book entries after number entry size same tells is =
    ap (λ b. b ++ (number, size) ∷ []) same ∙ ap (λ s. told least entries ++ (number, s) ∷ []) tells
    ∙ sym (map-append (λ (pair : ℕ × E). (pair.0, least pair.1)) entries ((number, entry) ∷ []))
    ∙ ap (told least) (sym is)

pub right-longer : {E : Type 0} (right : ℕ → E → Type 0) (entries after : List (ℕ × E)) (number : ℕ) (entry : E)
    → AreRight right entries → right number entry → after ≡ entries ++ (number, entry) ∷ [] → AreRight right after
right-longer {E = E} right entries after number entry all new is =
    subst (λ xs. AreRight right xs) (sym is)
    (All-push (λ (pair : ℕ × E). right pair.0 pair.1) entries (number, entry) all new)

-- the least sizes

pub least-longer : (plan : Plan) (pairs : List (ℕ × Option ℕ)) (sizes : List (Option ℕ)) (goal number : ℕ)
    (ops : List ℕ) (old size : Option ℕ) → AreLeast plan pairs sizes
    → slice_get (claims plan) number ≡ Some (goal, ops) → slice_get sizes goal ≡ Some old
    → AreLeast plan (pairs ++ (number, size) ∷ []) (set sizes goal (lesser old size))
least-longer plan pairs sizes goal number ops old size least claim at = record {
  places = length-set sizes goal (lesser old size) ∙ least.places;
  each = λ g answer e. each-by g answer (goal == g) refl e;
}
  where
    each-by : (g : ℕ) (answer : Option ℕ) (b : Bool) → (goal == g) ≡ b
        → slice_get (set sizes goal (lesser old size)) g ≡ Some answer
        → TellsLeast plan (pairs ++ (number, size) ∷ []) g answer
    each-by g answer true test e =
        let here : goal ≡ g = grind (arith, nat_tests) in
        let new : slice_get (set sizes goal (lesser old size)) g ≡ Some (lesser old size) =
        subst (λ k. slice_get (set sizes goal (lesser old size)) k ≡ Some (lesser old size)) here
        (slice_get-set_same sizes goal (lesser old size) (slice_get_within sizes goal old at)) in
        let is : lesser old size ≡ answer = same_Some _ _ (sym new ∙ e) in
        let was = subst (λ k. slice_get sizes k ≡ Some old) here at in
        let next = tells-next plan pairs g goal number ops size old claim (least.each g old was) in
        subst (λ a. TellsLeast plan (pairs ++ (number, size) ∷ []) g a) is
        (subst (λ b. TellsLeast plan (pairs ++ (number, size) ∷ []) g (if b then lesser old size else old)) test next)
    each-by g answer false test e =
        let apart : g ≢ goal = λ same. grind (arith, nat_tests) in
        let was = sym (slice_get-set_other sizes goal g (lesser old size) apart) ∙ e in
        let next = tells-next plan pairs g goal number ops size answer claim (least.each g answer was) in
        subst (λ b. TellsLeast plan (pairs ++ (number, size) ∷ []) g (if b then lesser answer size else answer)) test
        next

-- a size is told by an entry that is right
pub told-right : {E : Type 0} (plan : Plan) (least : E → Option ℕ) (right : ℕ → E → Type 0)
    (pairs : List (ℕ × Option ℕ)) (entries : List (ℕ × E)) (sizes : List (Option ℕ)) → AreLeast plan pairs sizes
    → pairs ≡ told least entries → AreRight right entries → AreTold plan least right sizes
told-right {E = E} plan least right pairs entries sizes are_least same are_right goal size at =
    let found = (are_least.each goal (Some size) at).found in
    let place = Contains-slice_get pairs (found.number, Some size) found.published in
    let there = subst (λ ps. slice_get ps place.0 ≡ Some (found.number, Some size)) same place.1 in
    let entry = mapped_at (λ (pair : ℕ × E). (pair.0, least pair.1)) entries place.0 (found.number, Some size) there in
    let is_right = All-slice_get (λ (pair : ℕ × E). right pair.0 pair.1) entries place.0 entry.0 are_right entry.1 in
    record {
      number = found.number;
      entry = entry.0.1;
      tells = ap (λ (p : ℕ × Option ℕ). p.1) entry.2;
      is_right = subst (λ (k : ℕ). right k entry.0.1) (ap (λ (p : ℕ × Option ℕ). p.0) entry.2) is_right;
      of_goal = found.of_goal;
    }
