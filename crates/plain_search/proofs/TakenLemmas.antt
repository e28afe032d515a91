-- A number put into a list that never falls, and taken out of it; each number of a list once.
use Rattle.std.proofs.Common.{◌≡◌, ℕ, suc, ◌<◌, ◌≤◌, Bool, true, false, List, [], ◌∷◌, length, refl, sym, ap, ◌∙◌, inl}
use Rattle.std.proofs.Common.{inr, arith, subst, ◌||◌}
use Rattle.std.specs.Prelude.{nat_eq, nat_le, if◌then◌else◌}
use Rattle.std.specs.List.{list_any}
use Rattle.std.proofs.lemmas.Bool.{cases_lt, false≢true}
use Rattle.std.proofs.lemmas.Bool.Decides.{nat_tests}
use Rattle.list_lemmas.proofs.Members.{In}
use Rattle.list_lemmas.proofs.Numbers.{equal-or-not}
use Rattle.list_lemmas.proofs.Orders.{IsOrdered}
use Rattle.pattern_core.specs.Order.{put}
use Rattle.plain_search.specs.Patterns.{without, different}

-- no number is less than one before it
abbrev pub NeverFalls : List ℕ → Type 0
NeverFalls xs = IsOrdered (λ (x y : ℕ). x ≤ y) xs

same_number : (x y : ℕ) → nat_eq x y ≡ true → x ≡ y
same_number x y h = grind (arith, nat_tests)

equal_test : (x : ℕ) → nat_eq x x ≡ true
equal_test x = grind (arith, nat_tests)

other_test : (x y : ℕ) → (x ≡ y → ⊥) → nat_eq x y ≡ false
other_test x y h = grind (arith, nat_tests, h)

-- ---- put in

pub put_after : (x y : ℕ) (ys : List ℕ) → y < x → put x (y ∷ ys) ≡ y ∷ put x ys
put_after x y ys l = let t : nat_le x y ≡ false = grind (arith, nat_tests) in rw t refl

pub put_before : (x y : ℕ) (ys : List ℕ) → x ≤ y → put x (y ∷ ys) ≡ x ∷ (y ∷ ys)
put_before x y ys l = let t : nat_le x y ≡ true = grind (arith, nat_tests) in rw t refl

put_least : (x : ℕ) (ys : List ℕ) → ((y : ℕ) → In ys y → x ≤ y) → put x ys ≡ x ∷ ys
put_least x [] h = refl
put_least x (y ∷ ys) h = put_before x y ys (h y (inl refl))

pub In-put : (x : ℕ) (ys : List ℕ) → In (put x ys) x
In-put x [] = inl refl
In-put x (y ∷ ys) =
    elim (cases_lt y x) [
      | inl l ↦ subst (λ zs. In zs x) (sym (put_after x y ys l)) (inr (In-put x ys))
      | inr l ↦ subst (λ zs. In zs x) (sym (put_before x y ys l)) (inl refl)
    ]

pub length-put : (x : ℕ) (ys : List ℕ) → length (put x ys) ≡ suc (length ys)
length-put x [] = refl
length-put x (y ∷ ys) =
    elim (cases_lt y x) [
      | inl l ↦ ap length (put_after x y ys l) ∙ ap suc (length-put x ys)
      | inr l ↦ ap length (put_before x y ys l)
    ]

-- ---- taken out

without_here : (x : ℕ) (ys : List ℕ) → without x (x ∷ ys) ≡ ys
without_here x ys = rw (equal_test x) refl

without_later : (x y : ℕ) (ys : List ℕ) → (x ≡ y → ⊥) → without x (y ∷ ys) ≡ y ∷ without x ys
without_later x y ys n = rw (other_test x y n) refl

pub without-put : (x : ℕ) (ys : List ℕ) → without x (put x ys) ≡ ys
without-put x [] = without_here x []
without-put x (y ∷ ys) =
    elim (cases_lt y x) [
      | inl l ↦ ap (without x) (put_after x y ys l) ∙ without_later x y (put x ys) (λ e. omega (arith, l, e))
          ∙ ap (λ zs. y ∷ zs) (without-put x ys)
      | inr l ↦ ap (without x) (put_before x y ys l) ∙ without_here x (y ∷ ys)
    ]

pub put-without : (x : ℕ) (ys : List ℕ) → NeverFalls ys → In ys x → put x (without x ys) ≡ ys
put-without x [] h i = absurd i
put-without x (y ∷ ys) h i =
    elim (equal-or-not x y) [
      | inl e ↦ ap (put x) (ap (λ z. without x (z ∷ ys)) (sym e) ∙ without_here x ys)
          ∙ put_least x ys (λ z j. subst (λ n. n ≤ z) (sym e) (h.0 z j)) ∙ ap (λ z. z ∷ ys) e
      | inr n ↦ (let j : In ys x = elim i [ inl e ↦ absurd (n (sym e)) | inr j ↦ j ] in
          let l : y ≤ x = h.0 x j in
          let less : y < x = strictly x y n l in
          ap (put x) (without_later x y ys n) ∙ put_after x y (without x ys) less
          ∙ ap (λ zs. y ∷ zs) (put-without x ys h.1 j))
    ]
  where
    strictly : (x y : ℕ) → (x ≡ y → ⊥) → y ≤ x → y < x
    strictly x y n l = elim (cases_lt y x) [ inl less ↦ less | inr more ↦ absurd (n (omega (arith, l, more))) ]

-- what is left stood there before
pub In_of_without : (x : ℕ) (ys : List ℕ) (z : ℕ) → In (without x ys) z → In ys z
In_of_without x [] z i = absurd i
In_of_without x (y ∷ ys) z i = by (nat_eq x y) (In_of_without x ys z) i
  where
    by : (b : Bool) → (In (without x ys) z → In ys z) → In (if b then ys else y ∷ without x ys) z → In (y ∷ ys) z
    by true rest i = inr i
    by false rest (inl e) = inl e
    by false rest (inr i) = inr (rest i)

pub NeverFalls-without : (x : ℕ) (ys : List ℕ) → NeverFalls ys → NeverFalls (without x ys)
NeverFalls-without x [] h = tt
NeverFalls-without x (y ∷ ys) h = by (nat_eq x y) (NeverFalls-without x ys h.1)
  where
    by : (b : Bool) → NeverFalls (without x ys) → NeverFalls (if b then ys else y ∷ without x ys)
    by true rest = h.1
    by false rest = (λ z i. h.0 z (In_of_without x ys z i), rest)

pub length-without : (x : ℕ) (ys : List ℕ) → In ys x → suc (length (without x ys)) ≡ length ys
length-without x [] i = absurd i
length-without x (y ∷ ys) i = by (nat_eq x y) (λ e. same_number x y e) refl (length-without x ys) i
  where
    by : (b : Bool) → (nat_eq x y ≡ true → x ≡ y) → nat_eq x y ≡ b
        → (In ys x → suc (length (without x ys)) ≡ length ys)
        → In (y ∷ ys) x → suc (length (if b then ys else y ∷ without x ys)) ≡ suc (length ys)
    by true same e rest i = refl
    by false same e rest (inl is) =
        absurd (false≢true (sym e ∙ subst (λ z. nat_eq x z ≡ true) (sym is) (equal_test x)))
    by false same e rest (inr i) = ap suc (rest i)

-- ---- each once

any-in : (x : ℕ) (ys : List ℕ) → list_any (nat_eq x) ys ≡ true → In ys x
any-in x [] e = absurd (false≢true e)
any-in x (y ∷ ys) e = by (nat_eq x y) refl (any-in x ys) e
  where
    by : (b : Bool) → nat_eq x y ≡ b → (list_any (nat_eq x) ys ≡ true → In ys x)
        → (b || list_any (nat_eq x) ys) ≡ true → In (y ∷ ys) x
    by true is rest e = inl (sym (same_number x y is))
    by false is rest e = inr (rest e)

in-any : (x : ℕ) (ys : List ℕ) → In ys x → list_any (nat_eq x) ys ≡ true
in-any x [] i = absurd i
in-any x (y ∷ ys) (inl e) =
    let same : nat_eq x y ≡ true = subst (λ z. nat_eq x z ≡ true) (sym e) (equal_test x) in
    ap (λ b. b || list_any (nat_eq x) ys) same
in-any x (y ∷ ys) (inr i) = by (nat_eq x y) (in-any x ys i)
  where
    by : (b : Bool) → list_any (nat_eq x) ys ≡ true → (b || list_any (nat_eq x) ys) ≡ true
    by true e = refl
    by false e = e

pub In_of_different : (xs : List ℕ) (z : ℕ) → In (different xs) z → In xs z
In_of_different [] z i = absurd i
In_of_different (x ∷ xs) z i = by (list_any (nat_eq x) xs) (In_of_different xs z) i
  where
    by : (b : Bool) → (In (different xs) z → In xs z) → In (if b then different xs else x ∷ different xs) z
        → In (x ∷ xs) z
    by true rest i = inr (rest i)
    by false rest (inl e) = inl e
    by false rest (inr i) = inr (rest i)

pub In-different : (xs : List ℕ) (z : ℕ) → In xs z → In (different xs) z
In-different [] z i = absurd i
In-different (x ∷ xs) z i = by (list_any (nat_eq x) xs) refl (In-different xs z) i
  where
    by : (b : Bool) → list_any (nat_eq x) xs ≡ b → (In xs z → In (different xs) z) → In (x ∷ xs) z
        → In (if b then different xs else x ∷ different xs) z
    by true e rest (inl is) = rest (subst (In xs) is (any-in x xs e))
    by true e rest (inr i) = rest i
    by false e rest (inl is) = inl is
    by false e rest (inr i) = inr (rest i)

-- where the list never falls, each once rises
pub IsOrdered-different : (xs : List ℕ) → NeverFalls xs → IsOrdered (λ (x y : ℕ). x < y) (different xs)
IsOrdered-different [] h = tt
IsOrdered-different (x ∷ xs) h = by (list_any (nat_eq x) xs) refl (IsOrdered-different xs h.1)
  where
    above : list_any (nat_eq x) xs ≡ false → (z : ℕ) → In xs z → x < z
    above e z i =
        elim (cases_lt x z) [
          | inl l ↦ l
          | inr l ↦ (let le : x ≤ z = h.0 z i in let same : z ≡ x = omega (arith, le, l) in
              absurd (false≢true (sym e ∙ in-any x xs (subst (In xs) same i))))
        ]

    by : (b : Bool) → list_any (nat_eq x) xs ≡ b → IsOrdered (λ (x y : ℕ). x < y) (different xs)
        → IsOrdered (λ (x y : ℕ). x < y) (if b then different xs else x ∷ different xs)
    by true e rest = rest
    by false e rest = (λ z i. above e z (In_of_different xs z i), rest)
