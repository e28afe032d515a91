-- A book whose entries are those of the first claims, in order.
use Rattle.std.proofs.Common.{◌≡◌, ℕ, ◌+◌, ◌<◌, ◌⊎◌, List, [], ◌∷◌, ◌++◌, length, sym, ap, ◌∙◌, subst, arith}
use Rattle.std.proofs.Common.{Some, slice_get, ⊎_elim}
use Rattle.std.proofs.lemmas.List.{length-append}
use Rattle.std.proofs.lemmas.Option.{same_Some}
use Rattle.isel_spec.specs.File.{File, Goal}
use Rattle.list_lemmas.proofs.Lookups.{push_cases}
use Rattle.multiset_rank.specs.Claims.{Plan, claims}
use Rattle.claim_outcome.specs.declared.outcome.Outcome.{Outcome}
use Rattle.claim_outcome.specs.Outcome.{IsRight}
use Rattle.rule_library.specs.Book.{IsBook, AreRight}
use Rattle.rule_library.proofs.BookLemmas.{IsBook-in_order}

-- the outcome is right for the claim of that number
abbrev pub IsRightAt : File → Plan → ℕ → ℕ → Outcome → Type 0
IsRightAt f p budget number o =
    (goal : ℕ) (g : Goal) (ops : List ℕ) → slice_get f.goals goal ≡ Some g
    → slice_get (claims p) number ≡ Some (goal, ops)
    → IsRight (record { file = f; goal = g; ops = ops }) budget o

abbrev IsSame : ℕ × Outcome → ℕ × Outcome → Type 0
IsSame u v = u ≡ v

-- the first entries are those of the first claims, and right
pub record AreFirst (f : File) (p : Plan) (budget count : ℕ) (book : List (ℕ × Outcome)) : Type 0 where
  pub as_many : length book ≡ count
  pub order : (place number : ℕ) (o : Outcome) → slice_get book place ≡ Some (number, o) → number ≡ place
  pub right : (place number : ℕ) (o : Outcome) → slice_get book place ≡ Some (number, o)
      → IsRightAt f p budget number o

pub first-more : (f : File) (p : Plan) (budget count goal : ℕ) (ops : List ℕ) (o : Outcome)
    (book added : List (ℕ × Outcome)) → added ≡ book ++ (count, o) ∷ [] → slice_get (claims p) count ≡ Some (goal, ops)
    → ((g : Goal) → slice_get f.goals goal ≡ Some g → IsRight (record { file = f; goal = g; ops = ops }) budget o)
    → AreFirst f p budget count book → AreFirst f p budget (count + 1) added
first-more f p budget count goal ops o book added all claim is are = record {
  as_many =
      (let long : length (book ++ (count, o) ∷ []) ≡ length book + 1 = length-append book ((count, o) ∷ []) in
      let size = are.as_many in
      let same = ap length all in omega (arith, long, size, same));
  order = λ place number q at.
      ⊎_elim (λ early. are.order place number q early.1)
      (λ last. let size = are.as_many in
      let place_is = last.0 in
      let number_is = ap (λ (u : ℕ × Outcome). u.0) last.1 in omega (arith, size, place_is, number_is))
      (cases place number q at);
  right = λ place number q at.
      ⊎_elim (λ early. are.right place number q early.1)
      (λ last. subst (λ (u : ℕ × Outcome). IsRightAt f p budget u.0 u.1) last.1 here) (cases place number q at);
}
  where
    cases : (place number : ℕ) (q : Outcome) → slice_get added place ≡ Some (number, q)
        → ((place < length book) × (slice_get book place ≡ Some (number, q)))
        ⊎ ((place ≡ length book) × IsSame (count, o) (number, q))
    cases place number q at =
        push_cases book (count, o) place (number, q)
        (subst (λ (xs : List (ℕ × Outcome)). slice_get xs place ≡ Some (number, q)) all at)

    here : IsRightAt f p budget count o
    here other g xs there at =
        let one : ℕ × List ℕ = (goal, ops) in
        let two : ℕ × List ℕ = (other, xs) in
        let same : one ≡ two = same_Some one two (sym claim ∙ at) in
        let goal_is : goal ≡ other = ap (λ (u : ℕ × List ℕ). u.0) same in
        let ops_are : ops ≡ xs = ap (λ (u : ℕ × List ℕ). u.1) same in
        subst (λ (ys : List ℕ). IsRight (record { file = f; goal = g; ops = ys }) budget o) ops_are
        (is g (subst (λ k. slice_get f.goals k ≡ Some g) (sym goal_is) there))

pub book-of_first : (f : File) (p : Plan) (budget count : ℕ) (book : List (ℕ × Outcome))
    → count ≡ length (claims p) → AreFirst f p budget count book → IsBook (length (claims p)) book
book-of_first f p budget count book all are = IsBook-in_order (length (claims p)) book (are.as_many ∙ all) are.order

pub right-of_first : (f : File) (p : Plan) (budget count : ℕ) (book : List (ℕ × Outcome))
    → AreFirst f p budget count book → AreRight f p budget book
right-of_first f p budget count book are goal g ops o there e =
    are.right e.place e.number o e.written goal g ops there e.claim
