-- What follows for a source in memory from what a read gives and leaves.
use Rattle.std.proofs.Common.{◌≡◌, ℕ, ◌+◌, ◌-◌, ◌^◌, ◌<◌, ◌≤◌, ◌&&◌, ◌||◌, zero, suc, Bool, true, false, not, cond}
use Rattle.std.proofs.Common.{List, [], ◌∷◌, map}
use Rattle.std.proofs.Common.{length, take, drop, min, Option, Some, None, option_map, Result, Ok, Err, refl, sym, ap}
use Rattle.std.proofs.Common.{◌∙◌}
use Rattle.std.proofs.Common.{subst, eqb, arith, length-take, length-drop}
use Rattle.std.specs.Prelude.{find, is_some, IfSome, IfOk, IsOk, IsErr, OnErr, IsSome, IsTrue, MatchOption, nat_lt}
use Rattle.std.specs.Prelude.{nat_eq}
use Rattle.std.specs.List.{list_all, list_any}
use Rattle.std.specs.Cmp.Lexicographic.{pointwise}
use Rattle.std.proofs.lemmas.Bool.{and_parts, and_from, false≢true}
use Rattle.std.proofs.lemmas.Bool.Decides.{nat_tests}
use Rattle.std.proofs.lemmas.List.{length-take-le, take_all}
use Rattle.isel_base.specs.declared.traits.Failed.{Failed}
use Rattle.isel_base.specs.Outside.{Rose, IsReadAt}
use Rattle.isel_base.specs.Fakes.{MemoryFiles, file_bytes, fault_count, next_count, counted, is_failing}
use Rattle.isel_base.specs.Fakes.{read_gives, after_read, has_no_failing}

-- one more entry in front, which passes the test or does not
found_step : {X : Type 0} (view : X → List ℕ × List ℕ) (p : List ℕ × List ℕ → Bool) (x : X) (xs : List X) (b : Bool)
    → option_map (λ e. e.1) (find p (map view xs)) ≡ option_map (λ y. (view y).1) (find (λ y. p (view y)) xs)
    → option_map (λ e. e.1) (cond b (Some (view x)) (find p (map view xs)))
    ≡ option_map (λ y. (view y).1) (cond b (Some x) (find (λ y. p (view y)) xs))
found_step view p x xs true rest = refl
found_step view p x xs false rest = rest

-- the first entry that is found, seen through a view that keeps the test
found_through : {X : Type 0} (view : X → List ℕ × List ℕ) (p : List ℕ × List ℕ → Bool) (xs : List X)
    → option_map (λ e. e.1) (find p (map view xs)) ≡ option_map (λ x. (view x).1) (find (λ x. p (view x)) xs)
found_through view p [] = refl
found_through view p (x ∷ xs) = found_step view p x xs (p (view x)) (found_through view p xs)

pub file_bytes_of_map : {X : Type 0} (view : X → List ℕ × List ℕ) (xs : List X) (name : List ℕ)
    → file_bytes (map view xs) name ≡ option_map (λ x. (view x).1) (find (λ x. pointwise eqb (view x).0 name) xs)
file_bytes_of_map view xs name = found_through view (λ e. pointwise eqb e.0 name) xs

-- a counter never falls
counted-grows : (b : Bool) (n : ℕ) → n ≤ counted b n
counted-grows true n = grind (arith, nat_tests)
counted-grows false n = omega arith

Rose-counted : (n : ℕ) → Rose n (next_count n)
Rose-counted n = grind (arith, nat_tests)

-- the answer of a read
abbrev pub Gives : MemoryFiles → List ℕ → ℕ → ℕ → Result ℕ Failed → List ℕ → Type 0
Gives s name place size r new =
    MatchOption (read_gives s name place size) (IsErr r) (λ got. (r ≡ Ok (length got)) × (take (length got) new ≡ got))

pub counts_after : (s : MemoryFiles) (name other : List ℕ) → fault_count s other ≤ fault_count (after_read s name) other
counts_after s name other = by (is_some (file_bytes s.files other))
  where
    by : (b : Bool) → cond b s.faults s.faults_elsewhere ≤ cond b (after_read s name).faults
        (after_read s name).faults_elsewhere
    by true = counted-grows _ s.faults
    by false = counted-grows _ s.faults_elsewhere

-- a read of a name that is not there leaves the count of the names that are there
pub apart_after : (s : MemoryFiles) (name : List ℕ) → file_bytes s.files name ≡ None → (other : List ℕ)
    → IsSome (file_bytes s.files other)
    → fault_count (after_read s name) other ≡ fault_count s other
apart_after s name none other here =
    let gone : is_some (file_bytes s.files name) ≡ false = ap is_some none in
    let P : Bool → Type 0 = λ b.
    cond b (after_read s name).faults (after_read s name).faults_elsewhere ≡ cond b s.faults s.faults_elsewhere in
    let Q : Bool → Type 0 = λ b. counted (b && is_failing s.failing s.reads) s.faults ≡ s.faults in
    subst P (sym here) (subst Q (sym gone) refl)

below-more : (m n x : ℕ) → m ≤ n → nat_lt x m ≡ true → nat_lt x n ≡ true
below-more m n x le e = grind (arith, nat_tests)

all-below-more : (m n : ℕ) (xs : List ℕ) → m ≤ n → list_all (λ x. nat_lt x m) xs ≡ true
    → list_all (λ x. nat_lt x n) xs ≡ true
all-below-more m n [] le e = refl
all-below-more m n (x ∷ xs) le e =
    let both = and_parts (nat_lt x m) (list_all (λ y. nat_lt y m) xs) e in
    and_from (nat_lt x n) (list_all (λ y. nat_lt y n) xs) (below-more m n x le both.0) (all-below-more m n xs le both.1)

pub stays_after : (s : MemoryFiles) (name other : List ℕ) → IsTrue (has_no_failing s other)
    → IsTrue (has_no_failing (after_read s name) other)
stays_after s name other e =
    let both = and_parts (is_some (file_bytes s.files other)) (list_all (λ n. nat_lt n s.reads) s.failing) e in
    and_from (is_some (file_bytes s.files other)) (list_all (λ n. nat_lt n (next_count s.reads)) s.failing) both.0
    (all-below-more s.reads (next_count s.reads) s.failing (counted-grows true s.reads) both.1)

other : (m x : ℕ) → nat_lt x m ≡ true → nat_eq m x ≡ false
other m x e = grind (arith, nat_tests)

none-below : (m : ℕ) (xs : List ℕ) → list_all (λ x. nat_lt x m) xs ≡ true → is_failing xs m ≡ false
none-below m [] e = refl
none-below m (x ∷ xs) e =
    let both = and_parts (nat_lt x m) (list_all (λ y. nat_lt y m) xs) e in
    ap (λ b. b || is_failing xs m) (other m x both.0) ∙ none-below m xs both.1

-- a name without failing reads is read
pub steady : (s : MemoryFiles) (name : List ℕ) (place size : ℕ) (r : Result ℕ Failed) (new : List ℕ)
    → Gives s name place size r new
    → IsTrue (has_no_failing s name) → IsOk r
steady s name place size r new gives e =
    let both = and_parts (is_some (file_bytes s.files name)) (list_all (λ n. nat_lt n s.reads) s.failing) e in
    by (file_bytes s.files name) (is_failing s.failing s.reads) both.0 (none-below s.reads s.failing both.1) gives
  where
    by : (o : Option (List ℕ)) (b : Bool) → is_some o ≡ true → b ≡ false
        → MatchOption (cond b None (option_map (λ all. take (min s.step size) (drop place all)) o)) (IsErr r)
        (λ got. (r ≡ Ok (length got)) × (take (length got) new ≡ got)) → IsOk r
    by None b h f g = absurd (false≢true h)
    by (Some all) true h f g = absurd (false≢true (sym f))
    by (Some all) false h f g = subst IsOk (sym g.0) refl

-- a failed read counts
pub cause : (s : MemoryFiles) (name : List ℕ) (place size : ℕ) (r : Result ℕ Failed) (new : List ℕ)
    → Gives s name place size r new
    → OnErr r (Rose (fault_count s name) (fault_count (after_read s name) name))
cause s name place size r new gives = by (file_bytes s.files name) (is_failing s.failing s.reads) r gives
  where
    by : (o : Option (List ℕ)) (b : Bool) (r : Result ℕ Failed)
        → MatchOption (cond b None (option_map (λ all. take (min s.step size) (drop place all)) o)) (IsErr r)
        (λ got. (r ≡ Ok (length got)) × (take (length got) new ≡ got))
        → OnErr r (Rose (cond (is_some o) s.faults s.faults_elsewhere)
        (cond (is_some o) (counted (is_some o && b) s.faults) (counted (not (is_some o)) s.faults_elsewhere)))
    by o b (Ok n) g = tt
    by None b (Err e) g = Rose-counted s.faults_elsewhere
    by (Some all) true (Err e) g = Rose-counted s.faults
    by (Some all) false (Err e) g = cc g.0

front : (m : ℕ) (xs : List ℕ) → take (length (take m xs)) xs ≡ take m xs
front zero xs = refl
front (suc m) [] = refl
front (suc m) (x ∷ xs) = ap (λ ys. x ∷ ys) (front m xs)

read_at : (all new : List ℕ) (place step size n : ℕ) → 1 ≤ step → length new ≡ size
    → n ≡ length (take (min step size) (drop place all))
    → take n new ≡ take (min step size) (drop place all) → IsReadAt all place new n
read_at all new place step size n some same count copied = record {
  bytes = copied ∙ sym (front (min step size) (drop place all)) ∙ ap (λ k. take k (drop place all)) (sym count);
  end = λ room. (
    (λ zero. omega (arith, room, zero, count, length-take (min step size) (drop place all), length-drop place all)),
    (λ past. omega (arith, past, count, length-take (min step size) (drop place all), length-drop place all)),
  );
}

pub told : (s : MemoryFiles) (name : List ℕ) (place size : ℕ) (r : Result ℕ Failed) (new : List ℕ) → 1 ≤ s.step
    → length new ≡ size
    → Gives s name place size r new → IfSome (file_bytes s.files name) (λ all. IfOk r (IsReadAt all place new))
told s name place size r new some same gives = by (file_bytes s.files name) (is_failing s.failing s.reads) r gives
  where
    by : (o : Option (List ℕ)) (b : Bool) (r : Result ℕ Failed)
        → MatchOption (cond b None (option_map (λ all. take (min s.step size) (drop place all)) o)) (IsErr r)
        (λ got. (r ≡ Ok (length got)) × (take (length got) new ≡ got))
        → IfSome o (λ all. IfOk r (IsReadAt all place new))
    by None b r g = tt
    by (Some all) b (Err e) g = tt
    by (Some all) true (Ok n) g = cc g
    by (Some all) false (Ok n) g =
        let count : n ≡ length (take (min s.step size) (drop place all)) = cc g.0 in
        read_at all new place s.step size n some same count (ap (λ k. take k new) count ∙ g.1)

-- the same after what a read leaves
pub stays_from : (s t : MemoryFiles) (name : List ℕ) → t ≡ after_read s name → (other : List ℕ)
    → IsTrue (has_no_failing s other)
    → IsTrue (has_no_failing t other)
stays_from s t name left other h =
    let P : MemoryFiles → Type 0 = λ u. IsTrue (has_no_failing u other) in
    subst P (sym left) (stays_after s name other h)

pub there : {X : Type 0} (view : X → List ℕ × List ℕ) (xs : List X) (name : List ℕ)
    → is_some (file_bytes (map view xs) name) ≡ is_some (find (λ x. pointwise eqb (view x).0 name) xs)
there {X = X} view xs name =
    ap is_some (file_bytes_of_map view xs name) ∙ same (find (λ x. pointwise eqb (view x).0 name) xs)
  where
    same : (o : Option X) → is_some (option_map (λ x. (view x).1) o) ≡ is_some o
    same None = refl
    same (Some x) = refl
