-- When a list of entries is a book of claims: where their numbers are counted once each, and where they stand in order.
use Rattle.std.proofs.Common.{◌≡◌, ℕ, zero, suc, ◌<◌, ◌≤◌, List, [], ◌∷◌, length, map, ap, sym, ◌∙◌, arith, refl}
use Rattle.std.proofs.Common.{Some, slice_get, option_map, inl, inr, if◌then◌else◌}
use Rattle.std.specs.Prelude.{◌==◌, nat_lt}
use Rattle.std.specs.List.{sum_by}
use Rattle.std.proofs.lemmas.Bool.{cases_lt}
use Rattle.std.proofs.lemmas.Bool.Decides.{nat_tests}
use Rattle.std.proofs.lemmas.List.{length-map}
use Rattle.std.proofs.lemmas.List.Sums.{sum_by-cons}
use Rattle.std.proofs.lemmas.Option.{same_Some, slice_get_within, slice_get-map}
use Rattle.list_lemmas.proofs.Lookups.{some_at}
use Rattle.claim_outcome.specs.declared.outcome.Outcome.{Outcome}
use Rattle.rule_library.specs.Book.{IsBook}

-- ---- numbers that are counted

-- 1 for the number itself, and 0 for others
abbrev pub counts : ℕ → ℕ → ℕ
counts x y = if y == x then 1 else 0

-- how often a number stands in a list
abbrev pub times : ℕ → List ℕ → ℕ
times x numbers = sum_by (λ y. if y == x then 1 else 0) numbers

-- 1 for a number below n, and else 0
abbrev pub once_below : ℕ → ℕ → ℕ
once_below n x = if nat_lt x n then 1 else 0

counts-itself : (x y : ℕ) → y ≡ x → 1 ≤ counts x y
counts-itself x y same = grind (arith, nat_tests)

counted-itself : (x y : ℕ) → 1 ≤ counts x y → y ≡ x
counted-itself x y h = grind (arith, nat_tests)

below-counted : (n x : ℕ) → 1 ≤ once_below n x → x < n
below-counted n x h = grind (arith, nat_tests)

counts-below : (n x : ℕ) → x < n → 1 ≤ once_below n x
counts-below n x l = grind (arith, nat_tests)

at_most_once : (n x : ℕ) → once_below n x ≤ 1
at_most_once n x = grind (arith, nat_tests)

-- a number that stands in a list is counted there
times-there : (x : ℕ) (xs : List ℕ) (i : ℕ) → slice_get xs i ≡ Some x → 1 ≤ times x xs
times-there x [] i at = absurd (cc)
times-there x (y ∷ ys) zero at =
    let one = counts-itself x y (same_Some y x at) in
    let all = sum_by-cons (λ z. if z == x then 1 else 0) y ys in omega (arith, one, all)
times-there x (y ∷ ys) (suc i) at =
    let rest = times-there x ys i at in
    let all = sum_by-cons (λ z. if z == x then 1 else 0) y ys in omega (arith, rest, all)

-- one that is counted stands there
place_of_counted : (x : ℕ) (xs : List ℕ) → 1 ≤ times x xs → (i : ℕ) × (slice_get xs i ≡ Some x)
place_of_counted x [] h = absurd (omega (arith, h))
place_of_counted x (y ∷ ys) h =
    let all = sum_by-cons (λ z. if z == x then 1 else 0) y ys in
    elim (cases_lt 0 (counts x y)) [
      | inl one ↦ (0, ap (λ z. Some z) (counted-itself x y (omega (arith, one))))
      | inr none ↦ (let rest = place_of_counted x ys (omega (arith, h, all, none)) in (suc rest.0, rest.1))
    ]

-- and nowhere else, where it is counted once
same_place : (x : ℕ) (xs : List ℕ) (j k : ℕ) → times x xs ≤ 1 → slice_get xs j ≡ Some x → slice_get xs k ≡ Some x
    → j ≡ k
same_place x [] j k once a b = absurd (cc)
same_place x (y ∷ ys) zero zero once a b = refl
same_place x (y ∷ ys) zero (suc k) once a b =
    let one = counts-itself x y (same_Some y x a) in
    let other = times-there x ys k b in
    let all = sum_by-cons (λ z. if z == x then 1 else 0) y ys in absurd (omega (arith, one, other, all, once))
same_place x (y ∷ ys) (suc j) zero once a b =
    let one = counts-itself x y (same_Some y x b) in
    let other = times-there x ys j a in
    let all = sum_by-cons (λ z. if z == x then 1 else 0) y ys in absurd (omega (arith, one, other, all, once))
same_place x (y ∷ ys) (suc j) (suc k) once a b =
    let all = sum_by-cons (λ z. if z == x then 1 else 0) y ys in
    ap suc (same_place x ys j k (omega (arith, all, once)) a b)

-- each number below n is counted once, and no other is
pub IsBook-from_times : (n : ℕ) (book : List (ℕ × Outcome))
    → ((x : ℕ) → times x (map (λ (e : ℕ × Outcome). e.0) book) ≡ once_below n x) → IsBook n book
IsBook-from_times n book counted = record {
  within = λ place number o at.
      let there = times-there number numbers place (number_at place number o at) in
      let same = counted number in
      below-counted n number (omega (arith, there, same));
  there = λ number l.
      let one = counts-below n number l in
      let same = counted number in
      let at = place_of_counted number numbers (omega (arith, one, same)) in
      entry_at at.0 number at.1;
  once = λ j k number a b at bt.
      let most = at_most_once n number in
      let same = counted number in
      same_place number numbers j k (omega (arith, most, same)) (number_at j number a at) (number_at k number b bt);
}
  where
    numbers : List ℕ
    numbers = map (λ (e : ℕ × Outcome). e.0) book

    number_at : (place number : ℕ) (o : Outcome) → slice_get book place ≡ Some (number, o)
        → slice_get numbers place ≡ Some number
    number_at place number o at =
        slice_get-map (λ (e : ℕ × Outcome). e.0) book place ∙ ap (option_map (λ (e : ℕ × Outcome). e.0)) at

    entry_at : (place number : ℕ) → slice_get numbers place ≡ Some number
        → (k : ℕ) × (o : Outcome) × (slice_get book k ≡ Some (number, o))
    entry_at place number at =
        let l = slice_get_within numbers place number at in
        let size = length-map book (λ (e : ℕ × Outcome). e.0) in
        let e = some_at book place (omega (arith, l, size)) in
        let same : e.0.0 ≡ number =
        same_Some e.0.0 number (sym (number_at place e.0.0 e.0.1 e.1) ∙ at) in
        (place, e.0.1, e.1 ∙ ap (λ m. Some (m, e.0.1)) same)

-- ---- numbers in order

-- the number of each entry is its place, and there are n
pub IsBook-in_order : (n : ℕ) (book : List (ℕ × Outcome)) → length book ≡ n
    → ((place number : ℕ) (o : Outcome) → slice_get book place ≡ Some (number, o) → number ≡ place) → IsBook n book
IsBook-in_order n book size in_order = record {
  within = λ place number o at.
      let l = slice_get_within book place (number, o) at in
      let same = in_order place number o at in omega (arith, l, same, size);
  there = λ number l.
      let e = some_at book number (omega (arith, l, size)) in
      let same : e.0.0 ≡ number = in_order number e.0.0 e.0.1 e.1 in
      (number, e.0.1, e.1 ∙ ap (λ m. Some (m, e.0.1)) same);
  once = λ j k number a b at bt.
      let left = in_order j number a at in
      let right = in_order k number b bt in omega (arith, left, right);
}
