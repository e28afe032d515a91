-- Those of the first numbers that pass a test, one by one.
use Rattle.std.proofs.Common.{◌≡◌, ℕ, zero, suc, ◌+◌, Bool, true, false, cond, List, [], ◌∷◌, ◌++◌, map, filter}
use Rattle.std.proofs.Common.{sym, ap, ◌∙◌, arith, append_assoc}
use Rattle.std.specs.List.{range_with_len}
use Rattle.std.proofs.lemmas.List.{append-nil, map-append}
use Rattle.std.proofs.lemmas.List.Elements.{filter-append}

range-suc : (a n : ℕ) → range_with_len a (suc n) ≡ range_with_len a n ++ (a + n) ∷ []
range-suc a zero = let last : a ≡ a + 0 = omega arith in ap (λ k. k ∷ []) last
range-suc a (suc n) =
    let last : (a + 1) + n ≡ a + suc n = omega arith in
    ap (λ ks. a ∷ ks) (range-suc (a + 1) n ∙ ap (λ k. range_with_len (a + 1) n ++ k ∷ []) last)

-- one more number
pub range-more : (n : ℕ) → range_with_len 0 (n + 1) ≡ range_with_len 0 n ++ n ∷ []
range-more n =
    let next : n + 1 ≡ suc n = omega arith in
    let last : 0 + n ≡ n = omega arith in
    ap (range_with_len 0) next ∙ range-suc 0 n ∙ ap (λ k. range_with_len 0 n ++ k ∷ []) last

-- what of the first numbers passes a test, each by its image
abbrev pub kept : {A : Type 0} → (ℕ → A) → (ℕ → Bool) → ℕ → List A
kept f p n = map f (filter p (range_with_len 0 n))

kept-more : {A : Type 0} (f : ℕ → A) (p : ℕ → Bool) (n : ℕ) (b : Bool) → p n ≡ b
    → kept f p (n + 1) ≡ kept f p n ++ map f (cond b (n ∷ []) [])
kept-more f p n b e =
    ap (λ ks. map f (filter p ks)) (range-more n)
    ∙ ap (map f) (filter-append p (range_with_len 0 n) (n ∷ []))
    ∙ map-append f (filter p (range_with_len 0 n)) (filter p (n ∷ []))
    ∙ ap (λ c. kept f p n ++ map f (cond c (n ∷ []) [])) e

-- the next number passes
pub kept-yes : {A : Type 0} (f : ℕ → A) (p : ℕ → Bool) (n : ℕ) (old now : List A) → p n ≡ true
    → now ≡ old ++ kept f p n → now ++ f n ∷ [] ≡ old ++ kept f p (n + 1)
kept-yes f p n old now e h =
    ap (λ xs. xs ++ f n ∷ []) h ∙ append_assoc old (kept f p n) (f n ∷ [])
    ∙ ap (λ xs. old ++ xs) (sym (kept-more f p n true e))

-- it does not
pub kept-no : {A : Type 0} (f : ℕ → A) (p : ℕ → Bool) (n : ℕ) (old now : List A) → p n ≡ false
    → now ≡ old ++ kept f p n → now ≡ old ++ kept f p (n + 1)
kept-no f p n old now e h =
    h ∙ ap (λ xs. old ++ xs) (sym (kept-more f p n false e ∙ append-nil (kept f p n)))
