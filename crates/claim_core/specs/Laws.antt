-- What holds of the claims in each state that a run reaches.
use Rattle.std.specs.Prelude.{◌≡◌, ℕ, ◌≤◌, List, [], ◌∷◌, ◌++◌, All, map, min, nat_lt, ◌==◌, if◌then◌else◌}
use Rattle.std.specs.List.{flat_map, sum_by}
use Rattle.claim_core.specs.declared.event.Event.{Event}
use Rattle.claim_core.specs.declared.event.Held.{Held}
use Rattle.claim_core.specs.declared.event.Held.TheVariants.{Idle, Claim, Over}
use Rattle.claim_core.specs.Machine.{State, opening, IsRun}

-- how often a number stands in a list
abbrev pub times : ℕ → List ℕ → ℕ
times x numbers = sum_by (λ y. if y == x then 1 else 0) numbers

-- 1 for a number below n, and else 0
abbrev pub once_below : ℕ → ℕ → ℕ
once_below n x = if nat_lt x n then 1 else 0

-- each number below n stands in the list once, and no other number does
abbrev pub AreOnceBelow : ℕ → List ℕ → Type 0
AreOnceBelow n numbers = (x : ℕ) → times x numbers ≡ once_below n x

-- the claim of a worker that holds one
abbrev pub claim_of : Held → List ℕ
claim_of Idle = []
claim_of (Claim c) = c ∷ []
claim_of Over = []

-- the claims that workers hold
abbrev pub claims_held : List Held → List ℕ
claims_held held = flat_map claim_of held

-- the numbers of the claims of a book
abbrev pub numbers : {E : Type 0} → List (ℕ × E) → List ℕ
numbers book = map (λ pair. pair.0) book

-- each claim that was drawn is published or held, once
abbrev pub AreDealtOnce : {E : Type 0} → ℕ → State E → Type 0
AreDealtOnce n s = AreOnceBelow (min s.next n) (numbers s.book ++ claims_held s.held)

-- no worker goes on
abbrev pub AllOver : List Held → Type 0
AllOver held = All (λ h. h ≡ Over) held

-- however the workers take turns, each claim that was drawn is published or held, once
abbrev pub ClaimsAreDealtOnce : Type 0 → Type 0
ClaimsAreDealtOnce E = (n workers : ℕ) (events : List (Event E)) (s : State E)
    → IsRun n (opening workers) events s → AreDealtOnce n s

-- however the workers take turns, once all are over each claim stands in the book once, and nothing else does
abbrev pub ClaimsEndInTheBook : Type 0 → Type 0
ClaimsEndInTheBook E = (n workers : ℕ) (events : List (Event E)) (s : State E)
    → 1 ≤ workers → IsRun n (opening workers) events s → AllOver s.held → AreOnceBelow n (numbers s.book)
