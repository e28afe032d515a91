-- Lists that never fall, and numbers in six places.
use Rattle.std.proofs.Common.{◌≡◌, ℕ, zero, suc, ◌-◌, ◌<◌, ◌≤◌, true, false, List, [], ◌∷◌, ◌++◌, length, take, drop}
use Rattle.std.proofs.Common.{get_or, set, replicate, refl, sym, ap, ◌∙◌, arith, length-append}
use Rattle.std.proofs.lemmas.List.{take_at}
use Rattle.multiset_rank.specs.Multisets.{never_falls}
use Rattle.multiset_rank.specs.Rising.{padded}
use Rattle.list_lemmas.proofs.Bools.{le_true}
use Rattle.list_lemmas.proofs.Numbers.{le_false}

pub falls_at : (xs : List ℕ) (i d : ℕ) → suc i < length xs → get_or xs (suc i) d < get_or xs i d
    → never_falls (drop i xs) ≡ false
falls_at [] i d l h = absurd (omega (arith, l))
falls_at (x ∷ []) i d l h = absurd (omega (arith, l))
falls_at (x ∷ (y ∷ ys)) zero d l h = rw (le_false x y h) refl
falls_at (x ∷ (y ∷ ys)) (suc i) d l h = falls_at (y ∷ ys) i d (omega (arith, l)) h

pub goes_on : (xs : List ℕ) (i d : ℕ) → suc i < length xs → get_or xs i d ≤ get_or xs (suc i) d
    → never_falls (drop i xs) ≡ never_falls (drop (suc i) xs)
goes_on [] i d l h = absurd (omega (arith, l))
goes_on (x ∷ []) i d l h = absurd (omega (arith, l))
goes_on (x ∷ (y ∷ ys)) zero d l h = rw (le_true x y h) refl
goes_on (x ∷ (y ∷ ys)) (suc i) d l h = goes_on (y ∷ ys) i d (omega (arith, l)) h

pub ends_rising : (xs : List ℕ) (i : ℕ) → length xs ≤ suc i → never_falls (drop i xs) ≡ true
ends_rising [] zero l = refl
ends_rising [] (suc i) l = refl
ends_rising (x ∷ []) zero l = refl
ends_rising (x ∷ []) (suc zero) l = refl
ends_rising (x ∷ []) (suc (suc i)) l = refl
ends_rising (x ∷ (y ∷ ys)) zero l = absurd (omega (arith, l))
ends_rising (x ∷ (y ∷ ys)) (suc i) l = ends_rising (y ∷ ys) i (omega (arith, l))

set_next : (xs : List ℕ) (n x : ℕ) → set (xs ++ replicate (suc n) 0) (length xs) x ≡ (xs ++ x ∷ []) ++ replicate n 0
set_next [] n x = refl
set_next (y ∷ ys) n x = ap (λ zs. y ∷ zs) (set_next ys n x)

-- one more number in its place
pub padded-push : (xs : List ℕ) (i x : ℕ) → i ≡ length xs → i < 6 → set (padded xs) i x ≡ padded (xs ++ x ∷ [])
padded-push xs i x e l =
    let a : 6 - length xs ≡ suc (5 - length xs) = omega arith in
    let b : 6 - length (xs ++ x ∷ []) ≡ 5 - length xs = omega (arith, length-append xs (x ∷ [])) in
    (λ j. set (xs ++ replicate (a j) 0) (e j) x) ∙ set_next xs (5 - length xs) x
    ∙ sym (λ j. (xs ++ x ∷ []) ++ replicate (b j) 0)

pub take-padded : (xs : List ℕ) (i : ℕ) → i ≡ length xs → take i (padded xs) ≡ xs
take-padded xs i e = take_at xs (replicate (6 - length xs) 0) i (sym e)
