-- What the tests of memory and of bits say of a goal and of the operations of a file.
use Rattle.std.proofs.Common.{◌≡◌, ℕ, ◌+◌, ◌*◌, ◌<◌, ◌≤◌, true, false, List, length, drop, replicate, Some}
use Rattle.std.proofs.Common.{◌↔◌, Contains, refl, sym, ap, subst, ◌∙◌, arith, slice_get, get_or, sum, sum_by}
use Rattle.std.specs.Prelude.{Bool, nat_le, IsTrue}
use Rattle.std.specs.Option.{option_map_or}
use Rattle.std.specs.List.{list_all}
use Rattle.std.proofs.lemmas.Bool.{false≢true, leb-true, le-leb}
use Rattle.std.proofs.lemmas.List.{length-replicate}
use Rattle.std.proofs.lemmas.List.Folds.{sum_by-replicate}
use Rattle.std.proofs.lemmas.List.Sums.{sum_by-le}
use Rattle.std.proofs.lemmas.Option.{slice_get_within, get_or_from_slice_get}
use Rattle.bv_terms.specs.declared.value.Sort.{Sort}
use Rattle.bv_terms.specs.declared.value.Sort.TheVariants as sort
use Rattle.bv_terms.specs.Sorts.{width_of}
use Rattle.isel_spec.specs.declared.definitions.Kind.{Kind}
use Rattle.isel_spec.specs.declared.definitions.OpDef.{OpDef}
use Rattle.isel_spec.specs.declared.definitions.GoalDef.{GoalDef}
use Rattle.isel_spec.specs.declared.spec.Spec.{Spec}
use Rattle.isel_spec.specs.File.{File, Operation, Goal, operation, sorts_in}
use Rattle.isel_spec.specs.Spec.{file}
use Rattle.isel_spec.proofs.SpecLemmas.{operation_is, goal_is}
use Rattle.pattern_core.specs.Rule.{HasNoMemory}
use Rattle.plain_search.specs.Extent.{is_value, takes_values, attribute_bits_of, attribute_bits, CanSearch}
use Rattle.list_lemmas.proofs.Bools.{not_by_test}
use Rattle.list_lemmas.proofs.Lookups.{list_all_goes_on, list_all_stops}
use Rattle.list_lemmas.proofs.Members.{In, In-from_Contains, Contains-from_In, list_all_in, list_all_from_in}

-- ---- definitions of a file

pub attribute_bits_at : (s : Spec) (k : ℕ) (name : List ℕ) (d : OpDef) → slice_get s.ops k ≡ Some (name, d)
    → sum d.attrs ≡ attribute_bits_of (file s) k
attribute_bits_at s k name d e =
    sym (ap (λ o. option_map_or (λ (x : Operation). sum x.attrs) o 0) (operation_is s k name d e))

pub args_are : (s : Spec) (k : ℕ) (name : List ℕ) (d : GoalDef) (args : List (Kind × Sort)) (g : Goal)
    → slice_get s.goals k ≡ Some (name, d) → args ≡ d.args → slice_get (file s).goals k ≡ Some g
    → sorts_in args ≡ g.args
args_are s k name d args g e same there =
    ap sorts_in same ∙ sym (ap (λ (x : Goal). x.args) (goal_is s k name d g e there))

-- an operation that takes no memory, in the walk over all of them
pub operations_go_on : (s : Spec) (k : ℕ) (name : List ℕ) (d : OpDef) (args : List Sort)
    → slice_get s.ops k ≡ Some (name, d) → args ≡ d.args → list_all is_value args ≡ true
    → list_all takes_values (drop k (file s).ops) ≡ list_all takes_values (drop (k + 1) (file s).ops)
operations_go_on s k name d args e same h =
    let o : Operation = operation s.terms (name, d) in
    let there : slice_get (file s).ops k ≡ Some o = operation_is s k name d e in
    list_all_goes_on takes_values (file s).ops k o (slice_get_within (file s).ops k o there)
    (sym (get_or_from_slice_get (file s).ops k o o there)) (ap (list_all is_value) (sym same) ∙ h)

-- and one that takes a memory
pub operations_stop : (s : Spec) (k : ℕ) (name : List ℕ) (d : OpDef) (args : List Sort)
    → slice_get s.ops k ≡ Some (name, d) → args ≡ d.args → list_all is_value args ≡ false
    → list_all takes_values (drop k (file s).ops) ≡ false
operations_stop s k name d args e same h =
    let o : Operation = operation s.terms (name, d) in
    let there : slice_get (file s).ops k ≡ Some o = operation_is s k name d e in
    list_all_stops takes_values (file s).ops k o (slice_get_within (file s).ops k o there)
    (sym (get_or_from_slice_get (file s).ops k o o there)) (ap (list_all is_value) (sym same) ∙ h)

-- ---- no memory

value_from : (s : Sort) → (s ≡ sort.Mem → ⊥) → is_value s ≡ true
value_from sort.Bool h = refl
value_from (sort.Bits w) h = refl
value_from sort.Mem h = absurd (h refl)

pub no_memory_among : (ss : List Sort) → list_all is_value ss ≡ true → ¬ Contains ss sort.Mem
no_memory_among ss h c = false≢true (list_all_in is_value ss sort.Mem h (In-from_Contains ss sort.Mem c))

pub values_from : (ss : List Sort) → (¬ Contains ss sort.Mem) → list_all is_value ss ≡ true
values_from ss none =
    list_all_from_in is_value ss
    (λ s i. value_from s (λ e. none (Contains-from_In ss sort.Mem (subst (In ss) e i))))

operations_from : (f : File) (g : Goal) → HasNoMemory f g → list_all takes_values f.ops ≡ true
operations_from f g none =
    list_all_from_in takes_values f.ops (λ o i. values_from o.args (none.ops o (Contains-from_In f.ops o i)))

-- ---- bits

-- the most attribute bits that an operation of the file has
pub record IsMost (f : File) (most : ℕ) : Type 0 where
  pub above : (op : ℕ) → attribute_bits_of f op ≤ most
  pub reached : (op : ℕ) × (attribute_bits_of f op ≡ most)

-- operations, of which each has at most so many
bits_within : (f : File) (most bound : ℕ) (ops : List ℕ) → IsMost f most → length ops ≡ bound
    → attribute_bits f ops ≤ bound * most
bits_within f most bound ops m size =
    subst (λ n. attribute_bits f ops ≤ n * most) size
    (sum_by-le (attribute_bits_of f) most ops (λ k d l. m.above (get_or ops k d)))

-- the operation that has the most, repeated
bits_reached : (f : File) (most bound : ℕ) → IsMost f most
    → ((ops : List ℕ) → length ops ≡ bound → attribute_bits f ops ≤ 12) → bound * most ≤ 12
bits_reached f most bound m h =
    let op = m.reached.0 in
    let whole : attribute_bits f (replicate bound op) ≡ bound * most =
    sum_by-replicate (attribute_bits_of f) bound op ∙ ap (λ n. bound * n) m.reached.1 in
    subst (λ n. n ≤ 12) whole (h (replicate bound op) (length-replicate bound op))

-- ---- the answers

pub refused : {P : Type 0} → (P → ⊥) → IsTrue false ↔ P
refused never = (λ h. absurd (false≢true h), λ p. absurd (never p))

pub memory-from_args : (f : File) (g : Goal) → list_all is_value g.args ≡ false → HasNoMemory f g → ⊥
memory-from_args f g h none = false≢true (sym h ∙ values_from g.args none.args)

pub memory_decided : (f : File) (g : Goal) (b : Bool) → list_all is_value g.args ≡ true
    → b ≡ list_all takes_values f.ops → IsTrue b ↔ HasNoMemory f g
memory_decided f g b values e = (
  λ h. record {
    ops =
        λ o c. no_memory_among o.args
        (list_all_in takes_values f.ops o (sym e ∙ h) (In-from_Contains f.ops o c));
    args = no_memory_among g.args values;
  },
  λ none. e ∙ operations_from f g none,
)

pub no_search-memory : (f : File) (g : Goal) (bound : ℕ) (b : Bool) → b ≡ false → IsTrue b ↔ HasNoMemory f g
    → CanSearch f g bound → ⊥
no_search-memory f g bound b e h can = not_by_test b e h can.no_memory

pub no_search-bits : (f : File) (g : Goal) (bound : ℕ) → 12 < sum_by width_of g.args → CanSearch f g bound → ⊥
no_search-bits f g bound h can = let few = can.inputs in omega (arith, h, few)

pub search_decided : (f : File) (g : Goal) (bound most : ℕ) → HasNoMemory f g → sum_by width_of g.args ≤ 12
    → IsMost f most → IsTrue (nat_le (bound * most) 12) ↔ CanSearch f g bound
search_decided f g bound most none few m = (
  λ h. record {
    no_memory = none;
    inputs = few;
    attributes = λ ops size.
        let within = bits_within f most bound ops m size in
        let small = leb-true (bound * most) 12 h in
        omega (arith, within, small);
  },
  λ can. le-leb (bound * most) 12 (bits_reached f most bound m can.attributes),
)
