-- Lists of names that differ, and the names of a file's definitions with one more among them.
use Rattle.std.proofs.Common.{◌≡◌, ℕ, Bool, true, false, not, ◌&&◌, ◌||◌, List, [], ◌∷◌, ◌++◌, map, refl, ap, sym}
use Rattle.std.proofs.Common.{◌∙◌, subst, arith, zero, ⊎_elim, append_assoc}
use Rattle.std.specs.Prelude.{Contains}
use Rattle.std.specs.List.{list_any, list_all}
use Rattle.std.specs.Str.{bytes_eq}
use Rattle.std.proofs.lemmas.Bool.{false≢true}
use Rattle.std.proofs.lemmas.List.Elements.{Contains-append_cases, Contains-append_left, Contains-append_right}
use Rattle.std.proofs.lemmas.List.Recursion.{or_push}
use Rattle.std.proofs.lemmas.Slice.Eq.{bytes_eq-Decides}
use Rattle.isel_spec.specs.declared.definitions.OpDef.{OpDef}
use Rattle.isel_spec.specs.declared.definitions.GoalDef.{GoalDef}
use Rattle.isel_spec.specs.File.{differ, all_names, is_short_name}
use Rattle.list_lemmas.proofs.Bools.{and_false, and-both, and_parts as and_true, false_unless}
use Rattle.list_lemmas.proofs.Lists.{map-push}
use Rattle.list_lemmas.proofs.Lookups.{any_name, any-there, list_all-push, not-any, only_one}

-- ---- names that differ

tidy : (a b : Bool) → not a ≡ true → b ≡ true → (not (a || false) && b) ≡ true
tidy true b e f = cc
tidy false b e f = f

or_true : (a b : Bool) → a ≡ true → (not a && b) ≡ false
or_true true b e = refl
or_true false b e = cc

pub differ-apart : (names : List (List ℕ)) (name : List ℕ) → differ names ≡ true → (Contains names name → ⊥)
    → differ (names ++ name ∷ []) ≡ true
differ-apart [] name e h = refl
differ-apart (n ∷ names) name e h =
    let any = or_push (list_any (bytes_eq n)) (bytes_eq n) refl (λ _ _. refl) names name in
    let other : bytes_eq n name ≡ false =
    false_unless (bytes_eq n name) (λ same. h (zero, omega arith, (bytes_eq-Decides n name).0 same)) in
    let both = and_true (not (list_any (bytes_eq n) names)) (differ names) e in
    let rest = differ-apart names name both.1 (λ c. h (Contains-append_right (n ∷ []) names name c)) in
    rw (any, other) (tidy (list_any (bytes_eq n) names) (differ (names ++ name ∷ [])) both.0 rest)

pub differ-twice : (names : List (List ℕ)) (name : List ℕ) (more : List (List ℕ)) → Contains names name
    → differ (names ++ name ∷ more) ≡ false
differ-twice [] name more h = absurd (omega (arith, h.1))
differ-twice (n ∷ names) name more h =
    ⊎_elim
    (λ first.
    let here : Contains (names ++ name ∷ more) n =
    Contains-append_right names (name ∷ more) n (zero, omega arith, sym (only_one n name first)) in
    or_true (list_any (bytes_eq n) (names ++ name ∷ more)) (differ (names ++ name ∷ more))
    (any_name n (names ++ name ∷ more) here))
    (λ later. and_false (not (list_any (bytes_eq n) (names ++ name ∷ more))) (differ (names ++ name ∷ more))
    (differ-twice names name more later))
    (Contains-append_cases (n ∷ []) names name h)

-- what holds of all, and of one more among them
all-insert : {X : Type 0} (p : X → Bool) (xs ys : List X) (x : X) → list_all p (xs ++ ys) ≡ true → p x ≡ true
    → list_all p (xs ++ x ∷ ys) ≡ true
all-insert p [] ys x h k = and-both (p x) (list_all p ys) k h
all-insert p (z ∷ xs) ys x h k =
    let both = and_true (p z) (list_all p (xs ++ ys)) h in
    and-both (p z) (list_all p (xs ++ x ∷ ys)) both.0 (all-insert p xs ys x both.1 k)

none-there : (name : List ℕ) (names : List (List ℕ)) → (Contains names name → ⊥)
    → not (list_any (bytes_eq name) names) ≡ true
none-there name names h = ap not (false_unless (list_any (bytes_eq name) names) (λ e. h (any-there name names e)))

-- an element of a list with one more is that one or stands in the list
inserted : {X : Type 0} (xs ys : List X) (x y : X) → Contains (xs ++ x ∷ ys) y → (x ≡ y → ⊥) → Contains (xs ++ ys) y
inserted xs ys x y h other =
    ⊎_elim (λ left. Contains-append_left xs ys y left)
    (λ right. ⊎_elim (λ here. absurd (other (only_one x y here))) (λ later. Contains-append_right xs ys y later)
    (Contains-append_cases (x ∷ []) ys y right))
    (Contains-append_cases xs (x ∷ ys) y h)

pub differ-insert : (xs ys : List (List ℕ)) (name : List ℕ) → differ (xs ++ ys) ≡ true
    → (Contains (xs ++ ys) name → ⊥) → differ (xs ++ name ∷ ys) ≡ true
differ-insert [] ys name h absent =
    and-both (not (list_any (bytes_eq name) ys)) (differ ys) (none-there name ys absent) h
differ-insert (x ∷ xs) ys name h absent =
    let both = and_true (not (list_any (bytes_eq x) (xs ++ ys))) (differ (xs ++ ys)) h in
    let other : name ≡ x → ⊥ = λ e. absent (zero, omega arith, sym e) in
    and-both (not (list_any (bytes_eq x) (xs ++ name ∷ ys))) (differ (xs ++ name ∷ ys))
    (none-there x (xs ++ name ∷ ys) (λ c. not-any x (xs ++ ys) both.0 (inserted xs ys name x c other)))
    (differ-insert xs ys name both.1 (λ c. absent (Contains-append_right (x ∷ []) (xs ++ ys) name c)))

-- ---- the names of a file with one more definition

abbrev pub op_names : List (List ℕ × OpDef) → List (List ℕ)
op_names ops = map (λ (e : List ℕ × OpDef). e.0) ops

abbrev pub goal_names : List (List ℕ × GoalDef) → List (List ℕ)
goal_names goals = map (λ (e : List ℕ × GoalDef). e.0) goals

names-op : (ops : List (List ℕ × OpDef)) (goals : List (List ℕ × GoalDef)) (e : List ℕ × OpDef)
    → all_names (ops ++ e ∷ []) goals ≡ op_names ops ++ e.0 ∷ goal_names goals
names-op ops goals e =
    ap (λ ns. ns ++ goal_names goals) (map-push (λ (e : List ℕ × OpDef). e.0) ops e)
    ∙ append_assoc (op_names ops) (e.0 ∷ []) (goal_names goals)

names-goal : (ops : List (List ℕ × OpDef)) (goals : List (List ℕ × GoalDef)) (e : List ℕ × GoalDef)
    → all_names ops (goals ++ e ∷ []) ≡ all_names ops goals ++ e.0 ∷ []
names-goal ops goals e =
    ap (λ ns. op_names ops ++ ns) (map-push (λ (e : List ℕ × GoalDef). e.0) goals e)
    ∙ sym (append_assoc (op_names ops) (goal_names goals) (e.0 ∷ []))

-- names that are short and differ
pub record AreNames (names : List (List ℕ)) : Type 0 where
  pub short : list_all is_short_name names ≡ true
  pub apart : differ names ≡ true

pub names-with_op : (ops : List (List ℕ × OpDef)) (goals : List (List ℕ × GoalDef)) (e : List ℕ × OpDef)
    → AreNames (all_names ops goals) → is_short_name e.0 ≡ true → (Contains (all_names ops goals) e.0 → ⊥)
    → AreNames (all_names (ops ++ e ∷ []) goals)
names-with_op ops goals e h short absent = subst AreNames (sym (names-op ops goals e)) (record {
  short = all-insert is_short_name (op_names ops) (goal_names goals) e.0 h.short short;
  apart = differ-insert (op_names ops) (goal_names goals) e.0 h.apart absent;
})

pub names-with_goal : (ops : List (List ℕ × OpDef)) (goals : List (List ℕ × GoalDef)) (e : List ℕ × GoalDef)
    → AreNames (all_names ops goals) → is_short_name e.0 ≡ true → (Contains (all_names ops goals) e.0 → ⊥)
    → AreNames (all_names ops (goals ++ e ∷ []))
names-with_goal ops goals e h short absent = subst AreNames (sym (names-goal ops goals e)) (record {
  short = list_all-push is_short_name (all_names ops goals) e.0 h.short short;
  apart = differ-apart (all_names ops goals) e.0 h.apart absent;
})

-- where all names differ with a definition at the end, its name is new
pub op-is_new : (ops : List (List ℕ × OpDef)) (goals : List (List ℕ × GoalDef)) (e : List ℕ × OpDef)
    → differ (all_names (ops ++ e ∷ []) goals) ≡ true → Contains (op_names ops) e.0 → ⊥
op-is_new ops goals e h c =
    false≢true (sym (differ-twice (op_names ops) e.0 (goal_names goals) c) ∙ sym (ap differ (names-op ops goals e)) ∙ h)

pub goal-is_new : (ops : List (List ℕ × OpDef)) (goals : List (List ℕ × GoalDef)) (e : List ℕ × GoalDef)
    → differ (all_names ops (goals ++ e ∷ [])) ≡ true → Contains (goal_names goals) e.0 → ⊥
goal-is_new ops goals e h c =
    let there = Contains-append_right (op_names ops) (goal_names goals) e.0 c in
    false≢true (sym (differ-twice (all_names ops goals) e.0 [] there) ∙ sym (ap differ (names-goal ops goals e)) ∙ h)
