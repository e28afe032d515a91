-- The entries of claims in a book: each claim of the plan has one, and no other.
use Rattle.std.proofs.Common.{◌≡◌, ◌≢◌, ℕ, ◌+◌, ◌<◌, ◌≤◌, List, [], ◌∷◌, length, sym, ap, subst, ◌∙◌, arith, inl, inr}
use Rattle.std.proofs.Common.{Some, slice_get, get_or, Bool}
use Rattle.std.specs.Prelude.{IsTrue, slice_set}
use Rattle.std.specs.Prelude.{true, false}
use Rattle.std.specs.List.{list_any}
use Rattle.std.proofs.lemmas.Bool.{cases_lt, false≢true}
use Rattle.std.proofs.lemmas.List.{length-set}
use Rattle.std.proofs.lemmas.Option.{same_Some, slice_get_within, get_or_from_slice_get}
use Rattle.isel_spec.specs.File.{File, Goal}
use Rattle.list_lemmas.proofs.Bools.{false_unless, or-left, or-right}
use Rattle.list_lemmas.proofs.Lookups.{Contains-slice_get, Contains-from_slice_get, some_at}
use Rattle.list_lemmas.proofs.Lookups.{slice_get-set_same, slice_get-set_other}
use Rattle.list_lemmas.proofs.Members.{In, In-slice_get}
use Rattle.multiset_rank.specs.Multisets.{never_falls}
use Rattle.multiset_rank.specs.Claims.{Plan, claims, IsInPlan}
use Rattle.multiset_rank.proofs.ClaimLemmas.{claims_law, claim_once}
use Rattle.claim_outcome.specs.declared.outcome.Outcome.{Outcome}
use Rattle.rule_library.specs.Book.{IsBook, IsEntry, AreRight, ran_out}
use Rattle.rule_library.specs.Steps.{ArePlaces, StandsIn, AreSorted}

-- ---- entries

pub entry_once : (p : Plan) (book : List (ℕ × Outcome)) (goal : ℕ) (ops : List ℕ) (a b : Outcome)
    → IsBook (length (claims p)) book → IsEntry p book goal ops a → IsEntry p book goal ops b → a ≡ b
entry_once p book goal ops a b whole e f =
    let number : f.number ≡ e.number = (claim_once p e.number (goal, ops) e.claim).once f.number f.claim in
    let again : slice_get book f.place ≡ Some (e.number, b) =
    subst (λ n. slice_get book f.place ≡ Some (n, b)) number f.written in
    let place : e.place ≡ f.place = whole.once e.place f.place e.number a b e.written again in
    let both : Some (e.number, a) ≡ Some (e.number, b) =
    sym e.written ∙ ap (λ k. slice_get book k) place ∙ again in
    ap (λ (u : ℕ × Outcome). u.1) (same_Some (e.number, a) (e.number, b) both)

pub some_entry : (p : Plan) (book : List (ℕ × Outcome)) (goal : ℕ) (ops : List ℕ) → IsBook (length (claims p)) book
    → IsInPlan p goal ops → IsTrue (never_falls ops) → (o : Outcome) × IsEntry p book goal ops o
some_entry p book goal ops whole plan falls =
    let at = Contains-slice_get (claims p) (goal, ops) (((claims_law p).members goal ops).1 (plan, falls)) in
    let here = whole.there at.0 (slice_get_within (claims p) at.0 (goal, ops) at.1) in
    (here.1, record { number = at.0; claim = at.1; place = here.0; written = here.2 })

-- the claim of an entry is in the plan
pub entry_in_plan : (p : Plan) (book : List (ℕ × Outcome)) (goal : ℕ) (ops : List ℕ) (o : Outcome)
    → IsEntry p book goal ops o → IsInPlan p goal ops × IsTrue (never_falls ops)
entry_in_plan p book goal ops o e =
    ((claims_law p).members goal ops).0 (Contains-from_slice_get (claims p) e.number (goal, ops) e.claim)

-- the patterns of right entries have their claims' operations, and rise
pub AreSorted-from_right : (f : File) (p : Plan) (budget : ℕ) (book : List (ℕ × Outcome)) → p.goals ≡ length f.goals
    → AreRight f p budget book → AreSorted p book
AreSorted-from_right f p budget book size right = record {
  ops = λ goal ops o e. let g = some_goal goal ops o e in
      λ k d l. ((right goal g.0 ops o g.1 e).rules k d l).pattern.ops;
  rising = λ goal ops o e. let g = some_goal goal ops o e in (right goal g.0 ops o g.1 e).rising;
}
  where
    some_goal : (goal : ℕ) (ops : List ℕ) (o : Outcome) → IsEntry p book goal ops o
        → (g : Goal) × (slice_get f.goals goal ≡ Some g)
    some_goal goal ops o e =
        let there = (entry_in_plan p book goal ops o e).0.goal_below in
        some_at f.goals goal (omega (arith, there, size))

-- ---- places

-- the places of those claims that stand below a place of the book
pub record ArePlacesTo (count to : ℕ) (book : List (ℕ × Outcome)) (places : List ℕ) : Type 0 where
  pub as_many : length places ≡ count
  pub at : (place number : ℕ) (o : Outcome) → place < to → slice_get book place ≡ Some (number, o)
      → slice_get places number ≡ Some place

pub places-more : (count to number : ℕ) (o : Outcome) (book : List (ℕ × Outcome)) (places : List ℕ)
    → IsBook count book → slice_get book to ≡ Some (number, o) → ArePlacesTo count to book places
    → ArePlacesTo count (to + 1) book (slice_set places number to)
places-more count to number o book places whole here are = record {
  as_many = length-set places number to ∙ are.as_many;
  at = at;
}
  where
    last : (place n : ℕ) (q : Outcome) → place ≡ to → slice_get book place ≡ Some (n, q)
        → slice_get (slice_set places number to) n ≡ Some place
    last place n q same there =
        let within = whole.within to number o here in
        let size = are.as_many in
        let stands : number < length places = omega (arith, within, size) in
        let both : Some (number, o) ≡ Some (n, q) = sym here ∙ ap (λ k. slice_get book k) (sym same) ∙ there in
        let is : number ≡ n = ap (λ (u : ℕ × Outcome). u.0) (same_Some (number, o) (n, q) both) in
        subst (λ m. slice_get (slice_set places number to) m ≡ Some place) is
        (slice_get-set_same places number to stands ∙ ap (λ k. Some k) (sym same))

    before : (place n : ℕ) (q : Outcome) → place < to → slice_get book place ≡ Some (n, q)
        → slice_get (slice_set places number to) n ≡ Some place
    before place n q l there =
        let differs : n ≢ number = λ e.
        let again : slice_get book place ≡ Some (number, q) =
        subst (λ m. slice_get book place ≡ Some (m, q)) e there in
        let same : place ≡ to = whole.once place to number q o again here in
        absurd (omega (arith, l, same)) in
        slice_get-set_other places number n to differs ∙ are.at place n q l there

    at : (place n : ℕ) (q : Outcome) → place < to + 1 → slice_get book place ≡ Some (n, q)
        → slice_get (slice_set places number to) n ≡ Some place
    at place n q l there =
        elim (cases_lt place to) [
          | inl a ↦ before place n q a there
          | inr b ↦ last place n q (omega (arith, l, b)) there
        ]

pub places-all : (count to : ℕ) (book : List (ℕ × Outcome)) (places : List ℕ) → length book ≤ to
    → ArePlacesTo count to book places → ArePlaces count book places
places-all count to book places all are = record {
  as_many = are.as_many;
  at = λ place number o e.
      let l = slice_get_within book place (number, o) e in
      are.at place number o (omega (arith, l, all)) e;
}

-- the place under the number of a claim is that of its entry
pub stands-in : (p : Plan) (book : List (ℕ × Outcome)) (places : List ℕ) (goal number d : ℕ) (ops : List ℕ)
    → IsBook (length (claims p)) book → ArePlaces (length (claims p)) book places
    → slice_get (claims p) number ≡ Some (goal, ops) → StandsIn p book goal ops (get_or places number d)
stands-in p book places goal number d ops whole are claim =
    let here = whole.there number (slice_get_within (claims p) number (goal, ops) claim) in
    let at : get_or places number d ≡ here.0 =
    get_or_from_slice_get places number here.0 d (are.at here.0 number here.1 here.2) in
    subst (StandsIn p book goal ops) (sym at) (record {
      there = slice_get_within book here.0 (number, here.1) here.2;
      entry = λ n o e. let both : Some (number, here.1) ≡ Some (n, o) = sym here.2 ∙ e in
          let is : (number, here.1) ≡ (n, o) = same_Some (number, here.1) (n, o) both in
          subst (λ (u : ℕ × Outcome). IsEntry p book goal ops u.1) is
          (record { number = number; claim = claim; place = here.0; written = here.2 });
    })

-- ---- memory

-- where memory ran out at no claim, it did at none that has an entry
pub done_at : (book : List (ℕ × Outcome)) → list_any (λ (e : ℕ × Outcome). ran_out e.1.end) book ≡ false
    → (place number : ℕ) (o : Outcome) → slice_get book place ≡ Some (number, o) → ran_out o.end ≡ false
done_at book none place number o e =
    false_unless (ran_out o.end) (λ out. false≢true (sym none ∙
    any_in (λ (e : ℕ × Outcome). ran_out e.1.end) book (number, o) (In-slice_get book place (number, o) e) out))
  where
    any_in : {X : Type 0} (p : X → Bool) (xs : List X) (x : X) → In xs x → p x ≡ true → list_any p xs ≡ true
    any_in p [] x i t = absurd i
    any_in p (y ∷ ys) x (inl e) t = or-left (p y) (list_any p ys) (ap p e ∙ t)
    any_in p (y ∷ ys) x (inr i) t = or-right (p y) (list_any p ys) (any_in p ys x i t)
