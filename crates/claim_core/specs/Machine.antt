-- Workers that draw claims and publish them: the states of the machine, and what each event does.
-- The claims are the numbers from 0 on, in the order in which they are drawn.
use Rattle.std.specs.Prelude.{◌≡◌, ℕ, ◌+◌, ◌≤◌, List, [], ◌∷◌, ◌++◌, replicate, Some, slice_get, slice_set}
use Rattle.std.specs.Prelude.{nat_lt, if◌then◌else◌}
use Rattle.multiset_rank.specs.Claims.{Plan}
use Rattle.claim_core.specs.declared.event.Event.{Event}
use Rattle.claim_core.specs.declared.event.Event.TheVariants.{Look, Draw, Publish}
use Rattle.claim_core.specs.declared.event.Held.{Held}
use Rattle.claim_core.specs.declared.event.Held.TheVariants.{Idle, Claim, Over}

-- a state of the machine, whose entries are of a type E
pub record State (E : Type 0) : Type 0 where
  -- how often a worker drew
  pub next : ℕ
  -- what each worker has
  pub held : List Held
  -- the published claims with their entries, in the order in which they came
  pub book : List (ℕ × E)

-- nothing is drawn, and each worker is idle
abbrev pub opening : {E : Type 0} → ℕ → State E
opening workers = record { next = 0; held = replicate workers Idle; book = [] }

-- what the next draw gives, where there are n claims
abbrev pub drawn : ℕ → ℕ → Held
drawn n next = if nat_lt next n then Claim next else Over

-- the event may come: a worker looks and draws while it is idle, and publishes while it holds a claim
abbrev pub MayCome : {E : Type 0} → State E → Event E → Type 0
MayCome s (Look w) = slice_get s.held w ≡ Some Idle
MayCome s (Draw w) = slice_get s.held w ≡ Some Idle
MayCome s (Publish w e) = (c : ℕ) × (slice_get s.held w ≡ Some (Claim c))

-- the event may come in the first state, where there are n claims, and leads to the second
abbrev pub Leads : {E : Type 0} → ℕ → State E → Event E → State E → Type 0
Leads n s (Look w) t = (slice_get s.held w ≡ Some Idle) × (t ≡ s)
Leads n s (Draw w) t = (slice_get s.held w ≡ Some Idle)
    × (t ≡ record { next = s.next + 1; held = slice_set s.held w (drawn n s.next); book = s.book })
Leads n s (Publish w e) t = (c : ℕ) × (slice_get s.held w ≡ Some (Claim c))
    × (t ≡ record { next = s.next; held = slice_set s.held w Idle; book = s.book ++ (c, e) ∷ [] })

-- the events may come one after the other, and lead from the first state to the last
abbrev pub IsRun : {E : Type 0} → ℕ → State E → List (Event E) → State E → Type 0
IsRun n s [] t = t ≡ s
IsRun n s (e ∷ es) t = (mid : _) × Leads n s e mid × IsRun n mid es t

-- what a machine tells: the claims' plan, and its state
pub record Machine (E : Type 0) : Type 0 where
  pub plan : Plan
  pub state : State E

-- the state was reached by a run of 1 to 64 workers
pub record IsReached {E : Type 0} (n : ℕ) (s : State E) : Type 0 where
  pub workers : ℕ
  pub some : 1 ≤ workers
  pub most : workers ≤ 64
  pub events : List (Event E)
  pub run : IsRun n (opening workers) events s
