-- Operations and goals by name: a name of a sound file is a word, and stands at one place.
use Rattle.std.proofs.Common.{◌≡◌, ◌∙◌, ℕ, zero, suc, ◌+◌, ◌<◌, ◌≤◌, Bool, true, false, List, [], ◌∷◌, ◌++◌, length}
use Rattle.std.proofs.Common.{map, Some, None, refl, sym, ap, subst, arith, slice_get, cond, eqb, not, ◌&&◌, ◌||◌}
use Rattle.std.proofs.Common.{Contains}
use Rattle.std.specs.Prelude.{nat_lt, nat_le, option_map}
use Rattle.std.specs.List.{list_all, list_any, position, position_or_len}
use Rattle.std.specs.Str.{bytes_eq}
use Rattle.std.proofs.lemmas.Bool.Decides.{nat_tests}
use Rattle.std.proofs.lemmas.List.Folds.{list_all-append, list_any-append}
use Rattle.std.proofs.lemmas.Option.{same_Some, slice_get-map, slice_get_within}
use Rattle.std.proofs.lemmas.Slice.Eq.{bytes_eq-Decides}
use Rattle.list_lemmas.proofs.Bools.{and_parts, and-both, lt-true, false_unless}
use Rattle.list_lemmas.proofs.Lookups.{bytes_eq-same, not-any, Contains-from_slice_get, list_all_at}
use Rattle.sexp_read.specs.Words.{is_name, is_name_byte, starts_alphabetic, is_truth_value}
use Rattle.bv_terms.specs.Table.{Table}
use Rattle.isel_spec.specs.declared.definitions.OpDef.{OpDef}
use Rattle.isel_spec.specs.declared.definitions.GoalDef.{GoalDef}
use Rattle.isel_spec.specs.declared.spec.Spec.{Spec}
use Rattle.isel_spec.specs.File.{File, Operation, Goal, operation, goal, is_short_name, differ}
use Rattle.isel_spec.specs.Spec.{file}
use Rattle.isel_spec.proofs.SpecLemmas.{names_short, names_differ}
use Rattle.pattern_text.proofs.Spelling.{is_word_byte, word-byte}

-- the first of these names that is this one
pub record IsNamed (names : List (List ℕ)) (place : ℕ) (name : List ℕ) : Type 0 where
  pub is : is_name name ≡ true
  pub found : position (bytes_eq name) names ≡ Some place

abbrev pub op_names : File → List (List ℕ)
op_names f = map (λ (o : Operation). o.name) f.ops

abbrev pub goal_names : File → List (List ℕ)
goal_names f = map (λ (g : Goal). g.name) f.goals

abbrev pub OpsAreNamed : File → Type 0
OpsAreNamed f = (op : ℕ) (o : Operation) → slice_get f.ops op ≡ Some o → IsNamed (op_names f) op o.name

abbrev pub GoalsAreNamed : File → Type 0
GoalsAreNamed f = (place : ℕ) (g : Goal) → slice_get f.goals place ≡ Some g → IsNamed (goal_names f) place g.name

-- ---- a name is a word

name-byte : (b : ℕ) → is_name_byte b ≡ true → is_word_byte b ≡ true
name-byte b h =
    let low : 42 ≤ b = grind (arith, nat_tests) in
    let high : b ≤ 126 = grind (arith, nat_tests) in
    let other : eqb b 59 ≡ false = grind (arith, nat_tests) in
    word-byte b low high other

name-bytes : (word : List ℕ) → list_all is_name_byte word ≡ true → list_all is_word_byte word ≡ true
name-bytes [] h = refl
name-bytes (b ∷ word) h =
    let parts = and_parts (is_name_byte b) (list_all is_name_byte word) h in
    and-both (is_word_byte b) (list_all is_word_byte word) (name-byte b parts.0) (name-bytes word parts.1)

pub name-word : (word : List ℕ) → is_name word ≡ true → list_all is_word_byte word ≡ true
name-word word h =
    let parts = and_parts (starts_alphabetic word && list_all is_name_byte word) (not (is_truth_value word)) h in
    name-bytes word (and_parts (starts_alphabetic word) (list_all is_name_byte word) parts.0).1

starts : (word : List ℕ) → starts_alphabetic word ≡ true → 0 < length word
starts [] h = absurd (cc h)
starts (b ∷ word) h = omega arith

pub name-some : (word : List ℕ) → is_name word ≡ true → 0 < length word
name-some word h =
    let parts = and_parts (starts_alphabetic word && list_all is_name_byte word) (not (is_truth_value word)) h in
    starts word (and_parts (starts_alphabetic word) (list_all is_name_byte word) parts.0).0

-- ---- at one place

pub found-at : {A : Type 0} (test : A → Bool) (xs : List A) (i : ℕ) → position_or_len test xs ≡ i → i < length xs
    → position test xs ≡ Some i
found-at test xs i e l =
    (λ j. cond (nat_lt (e j) (length xs)) (Some (e j)) None) ∙ ap (λ b. cond b (Some i) None) (lt-true i (length xs) l)

first-place : (names : List (List ℕ)) (place : ℕ) (name : List ℕ) → differ names ≡ true
    → slice_get names place ≡ Some name → position_or_len (bytes_eq name) names ≡ place
first-place [] place name d e = absurd (cc)
first-place (n ∷ names) zero name d e =
    let same : n ≡ name = same_Some n name e in
    ap (λ b. cond (not b) (1 + position_or_len (bytes_eq name) names) 0) (ap (bytes_eq name) same ∙ bytes_eq-same name)
first-place (n ∷ names) (suc place) name d e =
    let parts = and_parts (not (list_any (bytes_eq n) names)) (differ names) d in
    let other : bytes_eq name n ≡ false =
    false_unless (bytes_eq name n) (λ same. not-any n names parts.0
    (subst (Contains names) ((bytes_eq-Decides name n).0 same) (Contains-from_slice_get names place name e))) in
    let one : 1 + place ≡ suc place = omega arith in
    ap (λ b. cond (not b) (1 + position_or_len (bytes_eq name) names) 0) other
    ∙ ap (λ k. 1 + k) (first-place names place name parts.1 e) ∙ one

named-at : (names : List (List ℕ)) → list_all is_short_name names ≡ true → differ names ≡ true → (place : ℕ)
    (name : List ℕ) → slice_get names place ≡ Some name → IsNamed names place name
named-at names short d place name e = record {
  is = (and_parts (is_name name) (nat_le (length name) 64) (list_all_at is_short_name names place name short e)).0;
  found = found-at (bytes_eq name) names place (first-place names place name d e) (slice_get_within names place name e);
}

-- ---- the names of a sound file

differ-back : (xs ys : List (List ℕ)) → differ (xs ++ ys) ≡ true → differ ys ≡ true
differ-back [] ys h = h
differ-back (x ∷ xs) ys h =
    differ-back xs ys (and_parts (not (list_any (bytes_eq x) (xs ++ ys))) (differ (xs ++ ys)) h).1

not-either : (a b : Bool) → not (a || b) ≡ true → not a ≡ true
not-either true b h = h
not-either false b h = refl

differ-front : (xs ys : List (List ℕ)) → differ (xs ++ ys) ≡ true → differ xs ≡ true
differ-front [] ys h = refl
differ-front (x ∷ xs) ys h =
    let parts = and_parts (not (list_any (bytes_eq x) (xs ++ ys))) (differ (xs ++ ys)) h in
    and-both (not (list_any (bytes_eq x) xs)) (differ xs)
    (not-either (list_any (bytes_eq x) xs) (list_any (bytes_eq x) ys)
    (ap not (sym (list_any-append (bytes_eq x) xs ys)) ∙ parts.0)) (differ-front xs ys parts.1)

operation_names : (table : Table) (ops : List (List ℕ × OpDef))
    → map (λ (o : Operation). o.name) (map (operation table) ops) ≡ map (λ e. e.0) ops
operation_names table [] = refl
operation_names table (e ∷ ops) = ap (λ ns. e.0 ∷ ns) (operation_names table ops)

names_of_goals : (table : Table) (goals : List (List ℕ × GoalDef))
    → map (λ (g : Goal). g.name) (map (goal table) goals) ≡ map (λ e. e.0) goals
names_of_goals table [] = refl
names_of_goals table (e ∷ goals) = ap (λ ns. e.0 ∷ ns) (names_of_goals table goals)

-- the names of operations, and then those of goals
both-short : (xs ys : List (List ℕ)) → list_all is_short_name (xs ++ ys) ≡ true
    → (list_all is_short_name xs ≡ true) × (list_all is_short_name ys ≡ true)
both-short xs ys h =
    and_parts (list_all is_short_name xs) (list_all is_short_name ys) (sym (list_all-append is_short_name xs ys) ∙ h)

pub ops-named : (s : Spec) → OpsAreNamed (file s)
ops-named s op o e =
    let xs : List (List ℕ) = map (λ e. e.0) s.ops in
    let ys : List (List ℕ) = map (λ e. e.0) s.goals in
    let same : op_names (file s) ≡ xs = operation_names s.terms s.ops in
    let there : slice_get (op_names (file s)) op ≡ Some o.name =
    slice_get-map (λ (o : Operation). o.name) (file s).ops op ∙ ap (option_map (λ (o : Operation). o.name)) e in
    subst (λ names. IsNamed names op o.name) (sym same)
    (named-at xs (both-short xs ys (names_short s)).0 (differ-front xs ys (names_differ s)) op o.name
    (ap (λ names. slice_get names op) (sym same) ∙ there))

pub goals-named : (s : Spec) → GoalsAreNamed (file s)
goals-named s place g e =
    let xs : List (List ℕ) = map (λ e. e.0) s.ops in
    let ys : List (List ℕ) = map (λ e. e.0) s.goals in
    let same : goal_names (file s) ≡ ys = names_of_goals s.terms s.goals in
    let there : slice_get (goal_names (file s)) place ≡ Some g.name =
    slice_get-map (λ (g : Goal). g.name) (file s).goals place ∙ ap (option_map (λ (g : Goal). g.name)) e in
    subst (λ names. IsNamed names place g.name) (sym same)
    (named-at ys (both-short xs ys (names_short s)).1 (differ-back xs ys (names_differ s)) place g.name
    (ap (λ names. slice_get names place) (sym same) ∙ there))
