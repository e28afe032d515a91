-- What each run keeps: each claim that was drawn is published or held, once, and a worker is over only after the last.
use Rattle.std.proofs.Common.{◌≡◌, ℕ, suc, ◌+◌, ◌-◌, ◌<◌, ◌≤◌, List, [], ◌∷◌, ◌++◌, length, set, Some, slice_get, refl}
use Rattle.std.proofs.Common.{sym, ap}
use Rattle.std.proofs.Common.{◌∙◌, arith, subst, min, replicate, length-append, Bool, true, false, if◌then◌else◌}
use Rattle.std.proofs.Common.{option_map, get_or}
use Rattle.std.specs.Prelude.{nat_lt}
use Rattle.std.specs.List.{sum_by}
use Rattle.std.proofs.lemmas.List.{map-append, length-set}
use Rattle.std.proofs.lemmas.List.Folds.{sum_by-replicate}
use Rattle.std.proofs.lemmas.Bool.{ltb-true, ltb-false}
use Rattle.std.proofs.lemmas.Bool.Decides.{nat_tests}
use Rattle.claim_core.specs.declared.event.Event.{Event}
use Rattle.claim_core.specs.declared.event.Event.TheVariants.{Look, Draw, Publish}
use Rattle.claim_core.specs.declared.event.Held.{Held}
use Rattle.claim_core.specs.declared.event.Held.TheVariants.{Idle, Claim, Over}
use Rattle.claim_core.specs.Machine.{State, opening, Leads, IsRun, IsReached}
use Rattle.claim_core.specs.Laws.{times, once_below, AreOnceBelow, claim_of, claims_held, numbers, AreDealtOnce}
use Rattle.claim_core.specs.Laws.{AllOver}
use Rattle.claim_core.specs.Laws.{ClaimsAreDealtOnce, ClaimsEndInTheBook}
use Rattle.claim_core.proofs.Totals.{sum_by-changed, sum_by-member, sum_by-most, times-append, times-flat_map}
use Rattle.claim_core.proofs.Totals.{once_below-more}
use Rattle.claim_core.proofs.Totals.{times-there, below-counted}
use Rattle.std.proofs.lemmas.Option.{slice_get-map, slice_get-get_or}
use Rattle.std.proofs.lemmas.List.{length-replicate}

-- 1 for a worker that is over
abbrev pub overs : Held → ℕ
overs Idle = 0
overs (Claim c) = 0
overs Over = 1

-- how many claims a worker holds
abbrev pub holds : Held → ℕ
holds h = length (claim_of h)

-- what a run of so many workers keeps
pub record IsKept {E : Type 0} (n workers : ℕ) (s : State E) : Type 0 where
  pub workers_stay : length s.held ≡ workers
  pub dealt : (x : ℕ)
      → times x (numbers s.book) + sum_by (λ h. times x (claim_of h)) s.held ≡ once_below (min s.next n) x
  pub drawn_all : length s.book + sum_by holds s.held ≡ min s.next n
  pub over_last : sum_by overs s.held ≡ s.next - n

none-below : (n x : ℕ) → n ≡ 0 → once_below n x ≡ 0
none-below n x none = grind (arith, nat_tests)

no_claims : (x : ℕ) (workers : ℕ) → sum_by (λ h. times x (claim_of h)) (replicate workers Idle) ≡ 0
no_claims x workers = let e = sum_by-replicate (λ h. times x (claim_of h)) workers Idle in omega (arith, e)

pub kept-opening : {E : Type 0} (n workers : ℕ) → IsKept {E = E} n workers (opening workers)
kept-opening n workers = record {
  workers_stay = length-replicate workers Idle;
  dealt = λ x.
      let none = no_claims x workers in
      let empty = none-below (min 0 n) x (omega arith) in omega (arith, none, empty);
  drawn_all = let none = sum_by-replicate holds workers Idle in omega (arith, none);
  over_last = let none = sum_by-replicate overs workers Idle in omega (arith, none);
}

-- a draw that finds a claim
pub kept-claim : {E : Type 0} (n workers next w : ℕ) (held : List Held) (book : List (ℕ × E))
    → next < n → slice_get held w ≡ Some Idle → IsKept n workers (record { next = next; held = held; book = book })
    → IsKept n workers (record { next = next + 1; held = set held w (Claim next); book = book })
kept-claim n workers next w held book more idle old = record {
  workers_stay = length-set held w (Claim next) ∙ old.workers_stay;
  dealt = λ x.
      let all = old.dealt x in
      let moved = sum_by-changed (λ h. times x (claim_of h)) held w Idle (Claim next) idle in
      let before : min next n ≡ next = omega arith in
      let after : min (next + 1) n ≡ next + 1 = omega arith in
      let was = ap (λ k. once_below k x) before in
      let is = ap (λ k. once_below k x) after in
      let one = once_below-more next x in
      omega (arith, all, moved, was, is, one);
  drawn_all = let all = old.drawn_all in
      let moved = sum_by-changed holds held w Idle (Claim next) idle in omega (arith, all, moved);
  over_last = let all = old.over_last in
      let moved = sum_by-changed overs held w Idle (Claim next) idle in omega (arith, all, moved);
}

-- a draw that finds none
pub kept-over : {E : Type 0} (n workers next w : ℕ) (held : List Held) (book : List (ℕ × E))
    → n ≤ next → slice_get held w ≡ Some Idle → IsKept n workers (record { next = next; held = held; book = book })
    → IsKept n workers (record { next = next + 1; held = set held w Over; book = book })
kept-over n workers next w held book none idle old = record {
  workers_stay = length-set held w Over ∙ old.workers_stay;
  dealt = λ x.
      let all = old.dealt x in
      let moved = sum_by-changed (λ h. times x (claim_of h)) held w Idle Over idle in
      let same : min (next + 1) n ≡ min next n = omega arith in
      let is = ap (λ k. once_below k x) same in
      omega (arith, all, moved, is);
  drawn_all = let all = old.drawn_all in
      let moved = sum_by-changed holds held w Idle Over idle in omega (arith, all, moved);
  over_last = let all = old.over_last in
      let moved = sum_by-changed overs held w Idle Over idle in omega (arith, all, moved);
}

-- a claim that is published
pub kept-publish : {E : Type 0} (n workers next w c : ℕ) (held : List Held) (book : List (ℕ × E)) (e : E)
    → slice_get held w ≡ Some (Claim c) → IsKept n workers (record { next = next; held = held; book = book })
    → IsKept n workers (record { next = next; held = set held w Idle; book = book ++ (c, e) ∷ [] })
kept-publish {E = E} n workers next w c held book e holder old = record {
  workers_stay = length-set held w Idle ∙ old.workers_stay;
  dealt = λ x.
      let all = old.dealt x in
      let moved = sum_by-changed (λ h. times x (claim_of h)) held w (Claim c) Idle holder in
      let longer = ap (times x) (map-append (λ (pair : ℕ × E). pair.0) book ((c, e) ∷ []))
      ∙ times-append x (numbers book) (c ∷ []) in
      omega (arith, all, moved, longer);
  drawn_all = let all = old.drawn_all in
      let longer = length-append book ((c, e) ∷ []) in
      let moved = sum_by-changed holds held w (Claim c) Idle holder in omega (arith, all, moved, longer);
  over_last = let all = old.over_last in
      let moved = sum_by-changed overs held w (Claim c) Idle holder in omega (arith, all, moved);
}

kept-drawn : {E : Type 0} (n workers next w : ℕ) (held : List Held) (book : List (ℕ × E)) (b : Bool)
    → nat_lt next n ≡ b → slice_get held w ≡ Some Idle
    → IsKept n workers (record { next = next; held = held; book = book })
    → IsKept n workers (record { next = next + 1; held = set held w (if b then Claim next else Over); book = book })
kept-drawn n workers next w held book true test idle old =
    kept-claim n workers next w held book (ltb-true next n test) idle old
kept-drawn n workers next w held book false test idle old =
    kept-over n workers next w held book (ltb-false next n test) idle old

pub kept-step : {E : Type 0} (n workers : ℕ) (s : State E) (event : Event E) (t : State E)
    → Leads n s event t → IsKept n workers s → IsKept n workers t
kept-step n workers s (Look w) t leads old = subst (λ u. IsKept n workers u) (sym leads.1) old
kept-step n workers s (Draw w) t leads old = subst (λ u. IsKept n workers u) (sym leads.1)
    (kept-drawn n workers s.next w s.held s.book (nat_lt s.next n) refl leads.0 old)
kept-step n workers s (Publish w e) t leads old = subst (λ u. IsKept n workers u) (sym leads.2)
    (kept-publish n workers s.next w leads.0 s.held s.book e leads.1 old)

pub kept-run : {E : Type 0} (n workers : ℕ) (s : State E) (events : List (Event E)) (t : State E)
    → IsRun n s events t → IsKept n workers s → IsKept n workers t
kept-run n workers s [] t run old = subst (λ u. IsKept n workers u) (sym run) old
kept-run n workers s (e ∷ es) t run old = kept-run n workers run.0 es t run.2 (kept-step n workers s e run.0 run.1 old)

pub kept-reached : {E : Type 0} (n : ℕ) (s : State E) (r : IsReached n s) → IsKept n r.workers s
kept-reached n s r = kept-run n r.workers (opening r.workers) r.events s r.run (kept-opening n r.workers)

-- a run goes on by one event
pub run-longer : {E : Type 0} (n : ℕ) (s : State E) (events : List (Event E)) (t : State E) (e : Event E) (u : State E)
    → IsRun n s events t → Leads n t e u → IsRun n s (events ++ e ∷ []) u
run-longer n s [] t e u run leads = (u, subst (λ v. Leads n v e u) run leads, refl)
run-longer n s (f ∷ es) t e u run leads = (run.0, run.1, run-longer n run.0 es t e u run.2 leads)

pub reached-next : {E : Type 0} (n : ℕ) (s : State E) (e : Event E) (t : State E)
    → IsReached n s → Leads n s e t → IsReached n t
reached-next n s e t r leads = record {
  workers = r.workers;
  some = r.some;
  most = r.most;
  events = r.events ++ e ∷ [];
  run = run-longer n (opening r.workers) r.events s e t r.run leads;
}

-- how far the draws can go
pub reached-most : {E : Type 0} (n : ℕ) (s : State E) → IsReached n s → s.next ≤ n + 64
reached-most n s r =
    let old = kept-reached n s r in
    let all = old.over_last in
    let count = sum_by-most overs (elim [ Idle ↦ omega arith | Claim c ↦ omega arith | Over ↦ omega arith ]) s.held in
    let size = old.workers_stay in
    let few = r.most in
    omega (arith, all, count, size, few)

-- there is a place in the book for each claim that is held
pub reached-room : {E : Type 0} (n : ℕ) (s : State E) (w c : ℕ) → IsReached n s → slice_get s.held w ≡ Some (Claim c)
    → length s.book < n
reached-room n s w c r holder =
    let all = (kept-reached n s r).drawn_all in
    let one = sum_by-member holds s.held w (Claim c) holder in
    omega (arith, all, one)

dealt-once : {E : Type 0} (n workers : ℕ) (s : State E) → IsKept n workers s → AreDealtOnce n s
dealt-once n workers s k x =
    let all = k.dealt x in
    let parts = times-append x (numbers s.book) (claims_held s.held) in
    let held = times-flat_map claim_of x s.held in
    omega (arith, all, parts, held)

pub reached-dealt : {E : Type 0} (n : ℕ) (s : State E) → IsReached n s → AreDealtOnce n s
reached-dealt n s r = dealt-once n r.workers s (kept-reached n s r)

-- the number of a claim in the book
pub reached-below : {E : Type 0} (n : ℕ) (s : State E) (place number : ℕ) (e : E) → IsReached n s
    → slice_get s.book place ≡ Some (number, e) → number < n
reached-below {E = E} n s place number e r at =
    let all = (kept-reached n s r).dealt number in
    let there = times-there number (numbers s.book) place
    (slice_get-map (λ (pair : ℕ × E). pair.0) s.book place ∙ ap (option_map (λ (pair : ℕ × E). pair.0)) at) in
    let below = below-counted (min s.next n) number (omega (arith, all, there)) in
    omega (arith, below)

all-over : (held : List Held) → AllOver held → held ≡ replicate (length held) Over
all-over [] over = refl
all-over (h ∷ hs) over =
    let first : h ≡ Over = over 0 Over (omega arith) in
    let rest = all-over hs (λ k d less. over (suc k) d (omega (arith, less))) in
    ap (λ x. x ∷ hs) first ∙ ap (λ xs. Over ∷ xs) rest

ended-once : {E : Type 0} (n workers : ℕ) (s : State E) → 1 ≤ workers → IsKept n workers s → AllOver s.held
    → AreOnceBelow n (numbers s.book)
ended-once n workers s some k over x =
    let same = all-over s.held over in
    let size = k.workers_stay in
    let all = k.dealt x in
    let last = k.over_last in
    let none = ap (sum_by (λ h. times x (claim_of h))) same
    ∙ sum_by-replicate (λ h. times x (claim_of h)) (length s.held) Over in
    let gone = ap (sum_by overs) same ∙ sum_by-replicate overs (length s.held) Over in
    let full : min s.next n ≡ n = omega (arith, size, last, gone, some) in
    let is = ap (λ k. once_below k x) full in
    omega (arith, all, none, is)

pub reached-ended : {E : Type 0} (n : ℕ) (s : State E) → IsReached n s → AllOver s.held
    → AreOnceBelow n (numbers s.book)
reached-ended n s r over = ended-once n r.workers s r.some (kept-reached n s r) over

pub claims_dealt_once : (E : Type 0) → ClaimsAreDealtOnce E
claims_dealt_once E n workers events s run =
    dealt-once n workers s (kept-run n workers (opening workers) events s run (kept-opening n workers))

pub claims_end : (E : Type 0) → ClaimsEndInTheBook E
claims_end E n workers events s some run over =
    ended-once n workers s some (kept-run n workers (opening workers) events s run (kept-opening n workers)) over

-- what a worker has, read by its place
pub holds-claim : (held : List Held) (w number : ℕ) (h : Held) → w < length held → h ≡ get_or held w h
    → h ≡ Claim number → slice_get held w ≡ Some (Claim number)
holds-claim held w number h there read is =
    slice_get-get_or held w h there ∙ ap Some (sym read ∙ is)
