-- A pattern gives the goal's results at every number of inputs exactly where it is a rule over values.
use Rattle.std.proofs.Common.{◌≡◌, ℕ, ◌+◌, ◌^◌, ◌<◌, ◌≤◌, true, List, [], ◌∷◌, ◌++◌, length, map, get_or, Some}
use Rattle.std.proofs.Common.{refl, sym, ap, subst, ◌∙◌, arith, false, slice_get, sum_by, eqb, ◌⊎◌, ⊎_elim, Result}
use Rattle.std.specs.Prelude.{Bool, IsTrue, IfOk, ◌↔◌}
use Rattle.std.specs.declared.alloc.AllocError.{AllocError}
use Rattle.std.specs.Bool.{Decides}
use Rattle.std.proofs.lemmas.Result.{IfOk-weaker}
use Rattle.std.proofs.lemmas.Bool.{cases_order, and_parts, and_from, eqb-true, eq-eqb}
use Rattle.std.proofs.lemmas.List.FromFn.{length-map-range_with_len, get_or-map-range_with_len}
use Rattle.std.proofs.lemmas.List.FromFn.{map-range_with_len_more}
use Rattle.bv_terms.specs.declared.value.Sort.{Sort}
use Rattle.bv_terms.specs.declared.value.Sort.TheVariants as sort
use Rattle.bv_terms.specs.declared.value.Value.{Value}
use Rattle.bv_terms.specs.declared.value.Value.TheVariants as val
use Rattle.bv_terms.specs.contracts.value.ValuePartialEq.TheImpl as values
use Rattle.bv_terms.specs.Sorts.{HaveSorts, width_of}
use Rattle.isel_spec.specs.declared.definitions.Kind.{Kind}
use Rattle.isel_spec.specs.declared.definitions.GoalDef.{GoalDef}
use Rattle.isel_spec.specs.declared.spec.Spec.{Spec}
use Rattle.isel_spec.specs.File.{File, Goal}
use Rattle.isel_spec.specs.Spec.{file}
use Rattle.isel_spec.proofs.SpecLemmas.{goal_is}
use Rattle.pattern_core.specs.declared.pattern.Pattern.{Pattern}
use Rattle.pattern_core.specs.Rule.{pattern_results, goal_results, IsPlainRule, TakesNoMemory}
use Rattle.plain_search.specs.Inputs.{inputs_numbered}
use Rattle.plain_search.specs.Agreement.{row_at, rows_below, AgreesAt}
use Rattle.plain_search.specs.declared.agreement.Row.{Row}
use Rattle.plain_search.proofs.InputLemmas.{HaveSorts-numbered, IsNumbered-from_sorts}
use Rattle.list_lemmas.proofs.Members.{Contains-from_In}

-- ---- equal values

abbrev pub value_eq : Value → Value → Bool
value_eq = values.eq-value.it

value_eq-true : (a b : Value) → value_eq a b ≡ true → a ≡ b
value_eq-true (val.Bool true) (val.Bool true) h = refl
value_eq-true (val.Bool true) (val.Bool false) h = cc
value_eq-true (val.Bool false) (val.Bool true) h = cc
value_eq-true (val.Bool false) (val.Bool false) h = refl
value_eq-true (val.Bool a) (val.Bits w n) h = cc
value_eq-true (val.Bits v m) (val.Bool b) h = cc
value_eq-true (val.Bits v m) (val.Bits w n) h =
    let both = and_parts (eqb v w) (eqb m n) h in
    λ i. val.Bits (eqb-true v w both.0 i) (eqb-true m n both.1 i)

value_eq_itself : (a : Value) → value_eq a a ≡ true
value_eq_itself (val.Bool true) = refl
value_eq_itself (val.Bool false) = refl
value_eq_itself (val.Bits w n) = and_from (eqb w w) (eqb n n) (eq-eqb w w refl) (eq-eqb n n refl)

-- what `==` says of two values
pub value_eq-Decides : (a b : Value) → Decides (value_eq a b) (a ≡ b)
value_eq-Decides a b =
    (value_eq-true a b, λ e. subst (λ c. value_eq a c ≡ true) e (value_eq_itself a))

-- ---- the sorts of a goal

pub sorts_are : (s : Spec) (k : ℕ) (name : List ℕ) (d : GoalDef) (ss : List Sort) (args : List (Kind × Sort))
    → slice_get s.goals k ≡ Some (name, d) → ss ≡ map (λ a. a.1) args → args ≡ d.args
    → (g : Goal) → slice_get (file s).goals k ≡ Some g → ss ≡ g.args
sorts_are s k name d ss args e is same g there =
    is ∙ ap (map (λ (a : Kind × Sort). a.1)) same ∙ ap (λ (x : Goal). x.args) (sym (goal_is s k name d g e there))

-- the inputs under any number are inputs of a goal without memory
pub goal_inputs : (g : Goal) (n : ℕ) → TakesNoMemory g → HaveSorts g.args (inputs_numbered g.args n)
goal_inputs g n plain = HaveSorts-numbered g.args n (λ i. plain (Contains-from_In g.args sort.Mem i))

pub inputs_sorted : (g : Goal) (ss : List Sort) (n : ℕ) (values : List Value) → ss ≡ g.args
    → values ≡ inputs_numbered ss n → TakesNoMemory g → HaveSorts g.args values
inputs_sorted g ss n values sorts at plain =
    subst (HaveSorts g.args) (sym (at ∙ ap (λ (xs : List Sort). inputs_numbered xs n) sorts)) (goal_inputs g n plain)

-- the goal's bits are those of its arguments' sorts
pub few_bits : (ss : List Sort) (g : Goal) → ss ≡ g.args → sum_by width_of g.args < 64 → sum_by width_of ss < 64
few_bits ss g sorts few = subst (λ (xs : List Sort). sum_by width_of xs < 64) (sym sorts) few

-- ---- the table of a goal

-- one more row
pub rows_more : (g : Goal) (n : ℕ) (ss : List Sort) (old new : List Row) (row : Row) → old ≡ rows_below g n
    → ss ≡ g.args → row.inputs ≡ inputs_numbered ss n → row.results ≡ goal_results g row.inputs
    → new ≡ old ++ row ∷ [] → new ≡ rows_below g (n + 1)
rows_more g n ss old new row h sorts at is grown =
    let inputs : row.inputs ≡ inputs_numbered g.args n =
    at ∙ ap (λ (xs : List Sort). inputs_numbered xs n) sorts in
    let results : row.results ≡ goal_results g (inputs_numbered g.args n) = is ∙ ap (goal_results g) inputs in
    let here : row ≡ row_at g n = λ i. record { inputs = inputs i; results = results i } in
    grown ∙ (λ i. h i ++ here i ∷ []) ∙ sym (map-range_with_len_more (row_at g) 0 n n (omega arith))

-- as many rows as there are
pub rows_all : (g : Goal) (n : ℕ) (rows : List Row) → rows ≡ rows_below g n → rows ≡ rows_below g (length rows)
rows_all g n rows h =
    let size : length rows ≡ n = ap length h ∙ length-map-range_with_len (row_at g) 0 n in
    h ∙ ap (rows_below g) (sym size)

-- the row under a number
pub row_is : (g : Goal) (n : ℕ) (rows all : List Row) (d row : Row) → all ≡ rows_below g (length all) → rows ≡ all
    → n < length rows → row ≡ get_or rows n d → row ≡ row_at g n
row_is g n rows all d row h same l at =
    let within : n < length all = subst (λ (xs : List Row). n < length xs) same l in
    at ∙ ap (λ (xs : List Row). get_or xs n d) (same ∙ h)
    ∙ get_or-map-range_with_len (row_at g) 0 (length all) n n d within (omega arith)

-- ---- rules

-- the pattern gives the goal's results at the inputs under each number below this
abbrev pub AgreesBelow : File → Goal → Pattern → ℕ → Type 0
AgreesBelow f g p count = (n : ℕ) → n < count → AgreesAt f g p n

pub AgreesBelow-more : (f : File) (g : Goal) (p : Pattern) (n : ℕ) → AgreesBelow f g p n → AgreesAt f g p n
    → AgreesBelow f g p (n + 1)
AgreesBelow-more f g p n h here k l =
    ⊎_elim (λ (e : k ≡ n). subst (AgreesAt f g p) (sym e) here)
    (λ (o : (k < n) ⊎ (n < k)). ⊎_elim (λ less. h k less) (λ (more : n < k). absurd (omega (arith, more, l))) o)
    (cases_order k n)

-- the inputs under the numbers are all that there are
pub rule_from_all : (f : File) (g : Goal) (p : Pattern) (ss : List Sort) (count n : ℕ) → ss ≡ g.args
    → count ≡ 2 ^ sum_by width_of ss → count ≤ n → AgreesBelow f g p n → IsPlainRule f g p
rule_from_all f g p ss count n sorts size past h inputs fit =
    let k = IsNumbered-from_sorts g.args inputs fit in
    let whole : count ≡ 2 ^ sum_by width_of g.args = size ∙ ap (λ (xs : List Sort). 2 ^ sum_by width_of xs) sorts in
    let below : k.0 < count = subst (λ m. k.0 < m) (sym whole) k.1 in
    subst (λ (vs : List Value). pattern_results f p vs ≡ goal_results g vs) k.2 (h k.0 (omega (arith, below, past)))

pub agrees_from_rule : (f : File) (g : Goal) (p : Pattern) (n : ℕ) → TakesNoMemory g → IsPlainRule f g p
    → AgreesAt f g p n
agrees_from_rule f g p n plain rule = rule (inputs_numbered g.args n) (goal_inputs g n plain)

-- ---- what the code that tries a pattern finds

-- the inputs under a number, and the goal's results there
pub record IsRow (g : Goal) (n : ℕ) (inputs wanted : List Value) : Type 0 where
  pub inputs_are : inputs ≡ inputs_numbered g.args n
  pub wanted_are : wanted ≡ goal_results g (inputs_numbered g.args n)

-- they stand in the table
pub IsRow-from_table : (g : Goal) (n : ℕ) (rows all : List Row) (row : Row) (inputs wanted : List Value)
    → all ≡ rows_below g (length all) → rows ≡ all → n < length rows → row ≡ get_or rows n row → inputs ≡ row.inputs
    → wanted ≡ row.results → IsRow g n inputs wanted
IsRow-from_table g n rows all row inputs wanted h same l at i w =
    let is = row_is g n rows all row row h same l at in
    record {
      inputs_are = i ∙ ap (λ (r : Row). r.inputs) is;
      wanted_are = w ∙ ap (λ (r : Row). r.results) is;
    }

-- or they were computed
pub IsRow-from_values : (g : Goal) (n : ℕ) (ss : List Sort) (inputs wanted : List Value) → ss ≡ g.args
    → inputs ≡ inputs_numbered ss n → wanted ≡ goal_results g inputs → IsRow g n inputs wanted
IsRow-from_values g n ss inputs wanted sorts at is =
    let inputs_are = at ∙ ap (λ (xs : List Sort). inputs_numbered xs n) sorts in
    record { inputs_are = inputs_are; wanted_are = is ∙ ap (goal_results g) inputs_are }

-- what was found of the pattern's results there
pub agrees-from_has : (f : File) (g : Goal) (p : Pattern) (n : ℕ) (r : Result Bool AllocError)
    (inputs wanted : List Value) → IsRow g n inputs wanted
    → IfOk r (λ b. IsTrue b ↔ (pattern_results f p inputs ≡ wanted)) → IfOk r (λ b. IsTrue b ↔ AgreesAt f g p n)
agrees-from_has f g p n r inputs wanted row has =
    let here : pattern_results f p inputs ≡ pattern_results f p (inputs_numbered g.args n) =
    ap (pattern_results f p) row.inputs_are in
    IfOk-weaker r (λ b. IsTrue b ↔ (pattern_results f p inputs ≡ wanted)) (λ b. IsTrue b ↔ AgreesAt f g p n)
    (λ b h. (λ yes. sym here ∙ h.0 yes ∙ row.wanted_are, λ a. h.1 (here ∙ a ∙ sym row.wanted_are))) has
