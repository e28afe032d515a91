-- Sums over the members of a list of which one changes, and how often numbers stand in lists.
use Rattle.std.proofs.Common.{◌≡◌, ℕ, zero, suc, ◌+◌, ◌<◌, ◌≤◌, List, [], ◌∷◌, ◌++◌, length, set, Some, slice_get, refl}
use Rattle.std.proofs.Common.{sym, ap}
use Rattle.std.proofs.Common.{◌∙◌, arith, if◌then◌else◌}
use Rattle.std.specs.Prelude.{◌==◌}
use Rattle.std.specs.List.{flat_map, sum_by}
use Rattle.std.proofs.lemmas.List.Sums.{sum_by-set, sum_by-cons, sum_by-append}
use Rattle.std.proofs.lemmas.Option.{get_or_from_slice_get, slice_get_within}
use Rattle.std.proofs.lemmas.Bool.Decides.{nat_tests}
use Rattle.claim_core.specs.Laws.{times, once_below}

-- the sum after a change of one member
pub sum_by-changed : {X : Type 0} (f : X → ℕ) (xs : List X) (i : ℕ) (x y : X) → slice_get xs i ≡ Some x
    → sum_by f (set xs i y) + f x ≡ sum_by f xs + f y
sum_by-changed f xs i x y at =
    let there = slice_get_within xs i x at in
    let same = ap f (get_or_from_slice_get xs i x x at) in
    let moved = sum_by-set f xs i y x there in
    omega (arith, same, moved)

-- one member counts no more than all
pub sum_by-member : {X : Type 0} (f : X → ℕ) (xs : List X) (i : ℕ) (x : X) → slice_get xs i ≡ Some x → f x ≤ sum_by f xs
sum_by-member f [] i x at = absurd (cc)
sum_by-member f (y ∷ ys) zero x at =
    let all = sum_by-cons f y ys in
    let is : y ≡ x = cc in
    let same = ap f is in omega (arith, all, same)
sum_by-member f (y ∷ ys) (suc i) x at =
    let all = sum_by-cons f y ys in
    let rest = sum_by-member f ys i x at in omega (arith, all, rest)

-- numbers that are at most 1 add up to no more than there are of them
pub sum_by-most : {X : Type 0} (f : X → ℕ) → ((x : X) → f x ≤ 1) → (xs : List X) → sum_by f xs ≤ length xs
sum_by-most f one [] = omega arith
sum_by-most f one (x ∷ xs) =
    let all = sum_by-cons f x xs in
    let rest = sum_by-most f one xs in
    let this = one x in omega (arith, all, rest, this)

pub times-append : (x : ℕ) (xs ys : List ℕ) → times x (xs ++ ys) ≡ times x xs + times x ys
times-append x xs ys = sum_by-append (λ y. if y == x then 1 else 0) xs ys

-- how often a number stands in lists one after the other
pub times-flat_map : {X : Type 0} (f : X → List ℕ) (x : ℕ) (xs : List X)
    → times x (flat_map f xs) ≡ sum_by (λ y. times x (f y)) xs
times-flat_map f x [] = refl
times-flat_map f x (y ∷ ys) =
    times-append x (f y) (flat_map f ys) ∙ ap (λ k. times x (f y) + k) (times-flat_map f x ys)
    ∙ sym (sum_by-cons (λ z. times x (f z)) y ys)

counts-itself : (x y : ℕ) → y ≡ x → 1 ≤ (if y == x then 1 else 0)
counts-itself x y same = grind (arith, nat_tests)

-- a number that stands in a list stands there once at least
pub times-there : (x : ℕ) (xs : List ℕ) (i : ℕ) → slice_get xs i ≡ Some x → 1 ≤ times x xs
times-there x [] i at = absurd (cc)
times-there x (y ∷ ys) zero at =
    let is : y ≡ x = cc in
    let one = counts-itself x y is in
    let all = sum_by-cons (λ z. if z == x then 1 else 0) y ys in omega (arith, one, all)
times-there x (y ∷ ys) (suc i) at =
    let rest = times-there x ys i at in
    let all = sum_by-cons (λ z. if z == x then 1 else 0) y ys in omega (arith, rest, all)

-- one number more
pub once_below-more : (n x : ℕ) → once_below (n + 1) x ≡ once_below n x + times x (n ∷ [])
once_below-more n x = grind (arith, nat_tests)

pub below-counted : (n x : ℕ) → 1 ≤ once_below n x → x < n
below-counted n x counts = grind (arith, nat_tests)
