-- How many elements of a list pass a test, and the only one that does.
use Rattle.std.proofs.Common.{◌≡◌, ℕ, suc, ◌+◌, ◌<◌, ◌≤◌, ◌⊎◌, inl, inr, ⊎_elim, Bool, true, false, cond}
use Rattle.std.proofs.Common.{List}
use Rattle.std.proofs.Common.{[], ◌∷◌, map, refl, sym, ap, ◌∙◌, subst, arith}
use Rattle.std.specs.Prelude.{count_by, nat_eq, nat_le, if◌then◌else◌, ◌||◌}
use Rattle.std.specs.List.{list_any}
use Rattle.std.proofs.lemmas.Bool.{cases_lt, false≢true}
use Rattle.std.proofs.lemmas.Bool.Decides.{nat_tests}
use Rattle.std.proofs.lemmas.List.Sums.{sum_by-cons}
use Rattle.list_lemmas.proofs.Bools.{true-or-false, and_parts}
use Rattle.list_lemmas.proofs.Members.{In}
use Rattle.list_lemmas.proofs.Orders.{IsOrdered}
use Rattle.pattern_core.specs.Order.{put}
use Rattle.multiset_rank.specs.Multisets.{never_falls}
use Rattle.loc_encode.specs.Reading.{first_true}

pub count-cons : {X : Type 0} (p : X → Bool) (x : X) (xs : List X)
    → count_by p (x ∷ xs) ≡ cond (p x) 1 0 + count_by p xs
count-cons p x xs = sum_by-cons (λ y. cond (p y) 1 0) x xs

-- a test as a number
abbrev pub bit : Bool → ℕ
bit b = cond b 1 0

pub count-yes : {X : Type 0} (p : X → Bool) (x : X) (xs : List X) → p x ≡ true
    → count_by p (x ∷ xs) ≡ suc (count_by p xs)
count-yes p x xs e =
    let one : cond (p x) 1 0 ≡ 1 = ap bit e in
    omega (arith, count-cons p x xs, one)

pub count-no : {X : Type 0} (p : X → Bool) (x : X) (xs : List X) → p x ≡ false → count_by p (x ∷ xs) ≡ count_by p xs
count-no p x xs e =
    let none : cond (p x) 1 0 ≡ 0 = ap bit e in
    omega (arith, count-cons p x xs, none)

-- ---- none

pub none-passes : {X : Type 0} (p : X → Bool) (xs : List X) → count_by p xs ≡ 0 → (x : X) → In xs x → p x ≡ false
none-passes p [] e x i = absurd i
none-passes {X} p (y ∷ ys) e x i =
    ⊎_elim (λ yes. absurd (omega (arith, count-yes p y ys yes, e)))
    (λ no. ⊎_elim (λ here. subst (λ z. p z ≡ false) here no)
    (λ later. none-passes p ys (sym (count-no p y ys no) ∙ e) x later) i)
    (true-or-false (p y))

pub none-counted : {X : Type 0} (p : X → Bool) (xs : List X) → ((x : X) → In xs x → p x ≡ false) → count_by p xs ≡ 0
none-counted p [] none = refl
none-counted p (y ∷ ys) none =
    count-no p y ys (none y (inl refl)) ∙ none-counted p ys (λ x i. none x (inr i))

-- ---- one

-- the element passes the test, and no other does
pub record IsOnly {X : Type 0} (p : X → Bool) (xs : List X) (x : X) : Type 0 where
  pub there : In xs x
  pub passes : p x ≡ true
  pub only : (y : X) → In xs y → p y ≡ true → y ≡ x

pub only-counted : {X : Type 0} (p : X → Bool) (xs : List X) → count_by p xs ≡ 1 → (x : X) × IsOnly p xs x
only-counted p [] e = absurd (omega (arith, e))
only-counted {X} p (y ∷ ys) e = ⊎_elim
    (λ yes.
    let none : count_by p ys ≡ 0 = omega (arith, count-yes p y ys yes, e) in (
      y,
      record {
        there = inl refl;
        passes = yes;
        only = λ z i z-yes. ⊎_elim (λ here. sym here)
            (λ later. absurd (false≢true (sym (none-passes p ys none z later) ∙ z-yes))) i;
      },
    ))
    (λ no.
    let rest = only-counted p ys (sym (count-no p y ys no) ∙ e) in (
      rest.0,
      record {
        there = inr rest.1.there;
        passes = rest.1.passes;
        only = λ z i z-yes. ⊎_elim (λ here. absurd (false≢true (sym no ∙ ap p here ∙ z-yes)))
            (λ later. rest.1.only z later z-yes) i;
      },
    ))
    (true-or-false (p y))

-- elements that differ
abbrev pub AreDistinct : {X : Type 0} → List X → Type 0
AreDistinct {X} xs = IsOrdered (λ (x y : X). x ≡ y → ⊥) xs

pub counted-once : {X : Type 0} (p : X → Bool) (xs : List X) (x : X) → AreDistinct xs → IsOnly p xs x
    → count_by p xs ≡ 1
counted-once p [] x distinct is = absurd is.there
counted-once {X} p (y ∷ ys) x distinct is = ⊎_elim
    (λ here.
    let none : count_by p ys ≡ 0 = none-counted p ys (λ z i. ⊎_elim
    (λ yes. absurd (distinct.0 z i (here ∙ sym (is.only z (inr i) yes)))) (λ no. no) (true-or-false (p z))) in
    omega (arith, count-yes p y ys (ap p here ∙ is.passes), none))
    (λ later.
    let other : p y ≡ false = ⊎_elim (λ yes. absurd (distinct.0 x later (is.only y (inl refl) yes))) (λ no. no)
    (true-or-false (p y)) in
    count-no p y ys other
    ∙ counted-once p ys x distinct.1
    (record { there = later; passes = is.passes; only = λ z i yes. is.only z (inr i) yes }))
    is.there

-- ---- the same counts

pub count-map : {X Y : Type 0} (p : Y → Bool) (f : X → Y) (xs : List X)
    → count_by p (map f xs) ≡ count_by (λ x. p (f x)) xs
count-map p f [] = refl
count-map p f (x ∷ xs) = count-cons p (f x) (map f xs) ∙ ap (λ n. cond (p (f x)) 1 0 + n) (count-map p f xs)
    ∙ sym (count-cons (λ y. p (f y)) x xs)

pub count-same : {X : Type 0} (p q : X → Bool) (xs : List X) → ((x : X) → In xs x → p x ≡ q x)
    → count_by p xs ≡ count_by q xs
count-same p q [] same = refl
count-same p q (x ∷ xs) same =
    count-cons p x xs ∙ (λ i. cond (same x (inl refl) i) 1 0 + count-same p q xs (λ y j. same y (inr j)) i)
    ∙ sym (count-cons q x xs)

-- ---- numbers

pub same_number : (x y : ℕ) → nat_eq x y ≡ true → x ≡ y
same_number x y h = grind (arith, nat_tests)

pub equal_test : (x : ℕ) → nat_eq x x ≡ true
equal_test x = grind (arith, nat_tests)

pub any-in : (x : ℕ) (ys : List ℕ) → list_any (nat_eq x) ys ≡ true → In ys x
any-in x [] e = absurd (false≢true e)
any-in x (y ∷ ys) e = by (nat_eq x y) refl (any-in x ys) e
  where
    by : (b : Bool) → nat_eq x y ≡ b → (list_any (nat_eq x) ys ≡ true → In ys x)
        → (b || list_any (nat_eq x) ys) ≡ true → In (y ∷ ys) x
    by true is rest e = inl (sym (same_number x y is))
    by false is rest e = inr (rest e)

-- ---- lists of numbers that never fall

abbrev pub NeverFalls : List ℕ → Type 0
NeverFalls xs = IsOrdered (λ (x y : ℕ). x ≤ y) xs

pub NeverFalls-from_test : (xs : List ℕ) → never_falls xs ≡ true → NeverFalls xs
NeverFalls-from_test [] h = tt
NeverFalls-from_test (x ∷ []) h = (λ y i. absurd i, tt)
NeverFalls-from_test (x ∷ y ∷ ys) h =
    let parts = and_parts (nat_le x y) (never_falls (y ∷ ys)) h in
    let rest = NeverFalls-from_test (y ∷ ys) parts.1 in
    let first : x ≤ y = le_is x y parts.0 in (
      λ z i. ⊎_elim (λ here. subst (λ n. x ≤ n) here first)
          (λ later. let second : y ≤ z = rest.0 z later in omega (arith, first, second)) i,
      rest,
    )
  where
    le_is : (x y : ℕ) → nat_le x y ≡ true → x ≤ y
    le_is x y h = grind (arith, nat_tests)

put_after : (x y : ℕ) (ys : List ℕ) → y < x → put x (y ∷ ys) ≡ y ∷ put x ys
put_after x y ys l = let t : nat_le x y ≡ false = grind (arith, nat_tests) in rw t refl

put_before : (x y : ℕ) (ys : List ℕ) → x ≤ y → put x (y ∷ ys) ≡ x ∷ (y ∷ ys)
put_before x y ys l = let t : nat_le x y ≡ true = grind (arith, nat_tests) in rw t refl

pub In_of_put : (x : ℕ) (ys : List ℕ) (z : ℕ) → In (put x ys) z → (x ≡ z) ⊎ In ys z
In_of_put x [] z i = i
In_of_put x (y ∷ ys) z i =
    elim (cases_lt y x) [
      | inl l ↦ ⊎_elim (λ here. inr (inl here))
          (λ later. ⊎_elim (λ e. inl e) (λ j. inr (inr j)) (In_of_put x ys z later))
          (subst (λ zs. In zs z) (put_after x y ys l) i)
      | inr l ↦ subst (λ zs. In zs z) (put_before x y ys l) i
    ]

pub NeverFalls-put : (x : ℕ) (ys : List ℕ) → NeverFalls ys → NeverFalls (put x ys)
NeverFalls-put x [] h = (λ y i. absurd i, tt)
NeverFalls-put x (y ∷ ys) h =
    elim (cases_lt y x) [
      | inl l ↦ subst NeverFalls (sym (put_after x y ys l))
          (λ z i. ⊎_elim (λ e. omega (arith, l, e)) (λ j. h.0 z j) (In_of_put x ys z i), NeverFalls-put x ys h.1)
      | inr l ↦ subst NeverFalls (sym (put_before x y ys l))
          (λ z i. ⊎_elim (λ e. omega (arith, l, e)) (λ j. let le : y ≤ z = h.0 z j in omega (arith, l, le)) i, h)
    ]

pub count-put : (p : ℕ → Bool) (x : ℕ) (ys : List ℕ) → count_by p (put x ys) ≡ cond (p x) 1 0 + count_by p ys
count-put p x [] = count-cons p x []
count-put p x (y ∷ ys) =
    elim (cases_lt y x) [
      | inl l ↦ omega (
        arith,
        ap (count_by p) (put_after x y ys l),
        count-cons p y (put x ys),
        count-put p x ys,
        count-cons p y ys,
      )
      | inr l ↦ ap (count_by p) (put_before x y ys l) ∙ count-cons p x (y ∷ ys)
    ]

pub some-counted : {X : Type 0} (p : X → Bool) (xs : List X) (x : X) → In xs x → p x ≡ true → 1 ≤ count_by p xs
some-counted p [] x i e = absurd i
some-counted p (y ∷ ys) x i e = ⊎_elim
    (λ here. omega (arith, count-yes p y ys (ap p here ∙ e)))
    (λ later. let rest = some-counted p ys x later e in omega (arith, rest, count-cons p y ys)) i

pub counted-there : (x : ℕ) (ys : List ℕ) → 1 ≤ count_by (nat_eq x) ys → In ys x
counted-there x [] l = absurd (omega (arith, l))
counted-there x (y ∷ ys) l = ⊎_elim
    (λ yes. inl (sym (same_number x y yes)))
    (λ no. inr (counted-there x ys (subst (λ n. 1 ≤ n) (count-no (nat_eq x) y ys no) l)))
    (true-or-false (nat_eq x y))

-- lists that never fall, with the same counts, are the same
pub same-counts : (xs ys : List ℕ) → NeverFalls xs → NeverFalls ys
    → ((x : ℕ) → count_by (nat_eq x) xs ≡ count_by (nat_eq x) ys) → xs ≡ ys
same-counts [] [] h k same = refl
same-counts [] (y ∷ ys) h k same =
    absurd (omega (arith, same y, count-yes (nat_eq y) y ys (equal_test y)))
same-counts (x ∷ xs) [] h k same =
    absurd (omega (arith, same x, count-yes (nat_eq x) x xs (equal_test x)))
same-counts (x ∷ xs) (y ∷ ys) h k same =
    let in-ys : In (y ∷ ys) x = counted-there x (y ∷ ys)
    (omega (arith, same x, count-yes (nat_eq x) x xs (equal_test x))) in
    let in-xs : In (x ∷ xs) y = counted-there y (x ∷ xs)
    (omega (arith, same y, count-yes (nat_eq y) y ys (equal_test y))) in
    let y-first : y ≤ x = ⊎_elim (λ e. omega (arith, e)) (λ j. k.0 x j) in-ys in
    let x-first : x ≤ y = ⊎_elim (λ e. omega (arith, e)) (λ j. h.0 y j) in-xs in
    let first : x ≡ y = omega (arith, y-first, x-first) in
    let rest : xs ≡ ys = same-counts xs ys h.1 k.1 (λ z.
    let test : cond (nat_eq z x) 1 0 ≡ cond (nat_eq z y) 1 0 = ap (λ (n : ℕ). bit (nat_eq z n)) first in
    omega (arith, test, same z, count-cons (nat_eq z) x xs, count-cons (nat_eq z) y ys)) in
    λ i. first i ∷ rest i

-- ---- the first that passes

pub first_true-found : {X : Type 0} (p : X → Bool) (xs : List X) (d x : X) → In xs x → p x ≡ true
    → In xs (first_true p xs d) × (p (first_true p xs d) ≡ true)
first_true-found p [] d x i e = absurd i
first_true-found {X} p (y ∷ ys) d x i e = by (p y) refl (λ later. first_true-found p ys d x later e)
  where
    by : (b : Bool) → p y ≡ b
        → (In ys x → In ys (first_true p ys d) × (p (first_true p ys d) ≡ true))
        → In (y ∷ ys) (if b then y else first_true p ys d) × (p (if b then y else first_true p ys d) ≡ true)
    by true is next = (inl refl, is)
    by false is next = ⊎_elim (λ here. absurd (false≢true (sym is ∙ ap p here ∙ e)))
        (λ later. let rest = next later in (inr rest.0, rest.1)) i

-- the first is the only one
pub first_true-only : {X : Type 0} (p : X → Bool) (xs : List X) (d : X) → count_by p xs ≡ 1
    → IsOnly p xs (first_true p xs d)
first_true-only p xs d e =
    let one = only-counted p xs e in
    let found = first_true-found p xs d one.0 one.1.there one.1.passes in
    let same = one.1.only (first_true p xs d) found.0 found.1 in
    record {
      there = found.0;
      passes = found.1;
      only = λ y i yes. one.1.only y i yes ∙ sym same;
    }
