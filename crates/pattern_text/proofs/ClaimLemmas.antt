-- One claim more.
use Rattle.std.proofs.Common.{◌≡◌, ◌∙◌, ℕ, ◌+◌, ◌<◌, ◌≤◌, List, [], ◌∷◌, ◌++◌, length, map, drop, get_or, Result, Ok}
use Rattle.std.proofs.Common.{Err, refl, sym, ap, subst, arith, inl, inr, ◌⊎◌, zero-add}
use Rattle.std.specs.Prelude.{IfOk}
use Rattle.std.proofs.lemmas.List.Sums.{sum_by-append}
use Rattle.sexp_read.specs.Tree.{Tree, from_of}
use Rattle.isel_spec.specs.File.{File}
use Rattle.pattern_core.specs.declared.pattern.Pattern.{Pattern}
use Rattle.pattern_text.specs.declared.claimed.Claimed.{Claimed}
use Rattle.pattern_text.specs.declared.fault.LibFault.{LibFault}
use Rattle.pattern_text.specs.declared.fault.LibKind.TheVariants as fault
use Rattle.pattern_text.specs.Items.{ClaimForm}
use Rattle.pattern_text.specs.Rules.{AreRules, opens_read}
use Rattle.pattern_text.specs.Reading.{size_of, rule_count, claimed, claim_read, IsClaimOf, IsClaim, AreClaims}
use Rattle.pattern_text.specs.Steps.{and_then, IsThat}
use Rattle.pattern_text.specs.Outcomes.{IsOutcomeOr}
use Rattle.pattern_text.proofs.RuleLemmas.{left-at}

-- ---- what a form claims

abbrev Rules : File → List Claimed → ClaimForm → ℕ → Result (List Pattern) LibFault → Type 0
Rules f claims form place outcome = AreRules f place (size_of form.state) (rule_count claims) [] form.rules outcome

-- rules by a number of those before
pub counted-rules : (f : File) (claims : List Claimed) (form : ClaimForm) (place before size : ℕ)
    (outcome : Result (List Pattern) LibFault) → rule_count claims ≡ before → size ≡ size_of form.state
    → AreRules f place size before [] form.rules outcome → Rules f claims form place outcome
counted-rules f claims form place before size outcome e s h =
    subst (λ k. AreRules f place k (rule_count claims) [] form.rules outcome) s
    (subst (λ n. AreRules f place size n [] form.rules outcome) (sym e) h)

pub rules-fault : (f : File) (claims : List Claimed) (form : ClaimForm) (place before size : ℕ) (e : LibFault)
    → rule_count claims ≡ before → size ≡ size_of form.state
    → (e.kind ≡ fault.NoMemory) ⊎ AreRules f place size before [] form.rules (Err e)
    → (e.kind ≡ fault.NoMemory) ⊎ IsClaimOf f claims form place (Err e)
rules-fault f claims form place before size e c s (inl n) = inl n
rules-fault f claims form place before size e c s (inr h) =
    inr (inr (e, counted-rules f claims form place before size (Err e) c s h, refl))

abbrev after_opens : File → ClaimForm → ℕ → List Pattern → Result (List (List ℕ)) LibFault → Result Claimed LibFault
after_opens f form place rules r = and_then r (λ undecided. Ok (claimed form place rules undecided))

pub opens-stopped : (f : File) (form : ClaimForm) (place : ℕ) (rules : List Pattern) (e : LibFault)
    → (e.kind ≡ fault.NoMemory) ⊎ (Err e ≡ opens_read f form.opens)
    → (e.kind ≡ fault.NoMemory) ⊎ (Err e ≡ after_opens f form place rules (opens_read f form.opens))
opens-stopped f form place rules e (inl n) = inl n
opens-stopped f form place rules e (inr h) = inr (ap (after_opens f form place rules) h)

pub opens-told : (f : File) (form : ClaimForm) (place : ℕ) (rules : List Pattern) (undecided : List (List ℕ))
    (claim : Claimed) → Ok undecided ≡ opens_read f form.opens → claim ≡ claimed form place rules undecided
    → Ok claim ≡ after_opens f form place rules (opens_read f form.opens)
opens-told f form place rules undecided claim h e = ap Ok e ∙ ap (after_opens f form place rules) h

-- a claim by its parts
pub made : (form : ClaimForm) (place : ℕ) (rules rs : List Pattern) (undecided us : List (List ℕ)) (places : List ℕ)
    → rs ≡ rules → us ≡ undecided → places ≡ map from_of form.rules
    → record { goal = place; state = form.state; rules = rs; undecided = us; places = places }
    ≡ claimed form place rules undecided
made form place rules rs undecided us places r u p =
    λ i. record { goal = place; state = form.state; rules = r i; undecided = u i; places = p i }

pub rules-told : (f : File) (claims : List Claimed) (form : ClaimForm) (place before size : ℕ) (rules : List Pattern)
    (r : Result Claimed LibFault) → rule_count claims ≡ before → size ≡ size_of form.state
    → AreRules f place size before [] form.rules (Ok rules)
    → IsOutcomeOr (IsThat (after_opens f form place rules (opens_read f form.opens))) r
    → IsOutcomeOr (IsClaimOf f claims form place) r
rules-told f claims form place before size rules (Ok claim) c s h told =
    inl (rules, counted-rules f claims form place before size (Ok rules) c s h, told)
rules-told f claims form place before size rules (Err e) c s h (inl n) = inl n
rules-told f claims form place before size rules (Err e) c s h (inr told) =
    inr (inl (rules, counted-rules f claims form place before size (Ok rules) c s h, told))

pub few-told : (before : ℕ) (rules : List Pattern) (r : Result Claimed LibFault)
    → IfOk r (λ claim. claim.rules ≡ rules) → before + length rules ≤ 65536
    → IfOk r (λ claim. before + length claim.rules ≤ 65536)
few-told before rules (Ok claim) e few = omega (arith, few, ap length e)
few-told before rules (Err e) h few = tt

-- ---- what an item claims

pub item-fault : (f : File) (claims : List Claimed) (t : Tree) (e : LibFault) → claim_read f claims t ≡ Err e
    → IsClaim f claims t (Err e)
item-fault f claims t e h = inr (e, sym h, refl)

pub item-claims : (f : File) (claims : List Claimed) (t : Tree) (form : ClaimForm) (place : ℕ)
    (r : Result Claimed LibFault) → claim_read f claims t ≡ Ok (form, place)
    → IsOutcomeOr (IsClaimOf f claims form place) r → IsOutcomeOr (IsClaim f claims t) r
item-claims f claims t form place (Ok claim) h is = inl ((form, place), sym h, is)
item-claims f claims t form place (Err e) h (inl n) = inl n
item-claims f claims t form place (Err e) h (inr is) = inr (inl ((form, place), sym h, is))

-- ---- the claims so far

-- The claims so far, which have so many rules: with them the walk over all items goes on as it does with those that are
-- left.
pub record AreSoFar (f : File) (done : List Claimed) (count : ℕ) (left all : List Tree) : Type 0 where
  pub goes_on : (outcome : Result (List Claimed) LibFault) → AreClaims f done left outcome
      → AreClaims f [] all outcome
  pub counted : rule_count done ≡ count
  pub few : count ≤ 65536

pub none-so-far : (f : File) (all : List Tree) → AreSoFar f [] 0 all all
none-so-far f all = record { goes_on = λ outcome h. h; counted = refl; few = omega arith }

goes-on : (f : File) (done : List Claimed) (count : ℕ) (t : Tree) (ts all : List Tree) (claim : Claimed)
    → AreSoFar f done count (t ∷ ts) all → IsClaim f done t (Ok claim)
    → (outcome : Result (List Claimed) LibFault) → AreClaims f (done ++ claim ∷ []) ts outcome
    → AreClaims f [] all outcome
goes-on f done count t ts all claim so is outcome rest = so.goes_on outcome (inl (claim, is, rest))

-- rules of one claim more
count-more : (done : List Claimed) (claim : Claimed)
    → rule_count (done ++ claim ∷ []) ≡ rule_count done + length claim.rules
count-more done claim =
    sum_by-append (λ (c : Claimed). length c.rules) done (claim ∷ [])
    ∙ ap (λ n. rule_count done + n) (zero-add (length claim.rules))

at-item : (f : File) (done : List Claimed) (count : ℕ) (tree : ℕ → Tree) (items : List ℕ) (i : ℕ) → i < length items
    → AreSoFar f done count (map tree (drop i items)) (map tree items)
    → AreSoFar f done count (tree (get_or items i 0) ∷ map tree (drop (i + 1) items)) (map tree items)
at-item f done count tree items i l so =
    subst (λ ts. AreSoFar f done count ts (map tree items)) (left-at tree items i l) so

pub one-claim-more : (f : File) (tree : ℕ → Tree) (items : List ℕ) (i count next : ℕ) (done new : List Claimed)
    (claim : Claimed) → i < length items → AreSoFar f done count (map tree (drop i items)) (map tree items)
    → IsClaim f done (tree (get_or items i 0)) (Ok claim) → count + length claim.rules ≤ 65536
    → next ≡ count + length claim.rules → new ≡ done ++ claim ∷ []
    → AreSoFar f new next (map tree (drop (i + 1) items)) (map tree items)
one-claim-more f tree items i count next done new claim l so is few n e =
    let all : List Tree = map tree items in
    let here : AreSoFar f done count (tree (get_or items i 0) ∷ map tree (drop (i + 1) items)) all =
    at-item f done count tree items i l so in
    let more : rule_count (done ++ claim ∷ []) ≡ rule_count done + length claim.rules = count-more done claim in
    let before : rule_count done ≡ count = so.counted in
    subst (λ claims. AreSoFar f claims next (map tree (drop (i + 1) items)) all) (sym e) (record {
      goes_on = goes-on f done count (tree (get_or items i 0)) (map tree (drop (i + 1) items)) all claim here is;
      counted = omega (arith, more, before, n);
      few = omega (arith, few, n);
    })

pub claims-fault : (f : File) (tree : ℕ → Tree) (items : List ℕ) (i count : ℕ) (done : List Claimed) (e : LibFault)
    → i < length items → AreSoFar f done count (map tree (drop i items)) (map tree items)
    → (e.kind ≡ fault.NoMemory) ⊎ IsClaim f done (tree (get_or items i 0)) (Err e)
    → (e.kind ≡ fault.NoMemory) ⊎ AreClaims f [] (map tree items) (Err e)
claims-fault f tree items i count done e l so (inl n) = inl n
claims-fault f tree items i count done e l so (inr h) =
    let here : AreSoFar f done count (tree (get_or items i 0) ∷ map tree (drop (i + 1) items)) (map tree items) =
    at-item f done count tree items i l so in
    inr (here.goes_on (Err e) (inr (e, h, refl)))

-- what a call says of the slice that the claims so far are
pub claims-at : (f : File) (slice done : List Claimed) (t : Tree) (r : Result Claimed LibFault) → slice ≡ done
    → IsOutcomeOr (IsClaim f slice t) r → IsOutcomeOr (IsClaim f done t) r
claims-at f slice done t r e h = subst (λ xs. IsOutcomeOr (IsClaim f xs t) r) e h
