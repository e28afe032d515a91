-- What the tests of memory say of a file.
use Rattle.std.proofs.Common.{◌≡◌, ℕ, ◌+◌, Bool, true, false, not, ◌&&◌, List, [], ◌∷◌, drop, Some, ◌↔◌, inl, inr}
use Rattle.std.proofs.Common.{Contains, refl, sym, ap, subst, ◌∙◌, slice_get}
use Rattle.std.specs.Prelude.{IsTrue}
use Rattle.std.specs.List.{list_all}
use Rattle.std.proofs.lemmas.Bool.{false≢true}
use Rattle.std.proofs.lemmas.Option.{slice_get_within, get_or_from_slice_get}
use Rattle.bv_terms.specs.declared.value.Sort.{Sort}
use Rattle.bv_terms.specs.declared.value.Sort.TheVariants as sort
use Rattle.isel_spec.specs.declared.definitions.Kind.{Kind}
use Rattle.isel_spec.specs.declared.definitions.GoalDef.{GoalDef}
use Rattle.isel_spec.specs.declared.spec.Spec.{Spec}
use Rattle.isel_spec.specs.File.{File, Goal, sorts_in, goal as goal_of}
use Rattle.isel_spec.specs.Spec.{file}
use Rattle.isel_spec.proofs.SpecLemmas.{goal_there}
use Rattle.list_lemmas.proofs.Lookups.{list_all_goes_on, list_all_stops}
use Rattle.list_lemmas.proofs.Members.{In, In-from_Contains, Contains-from_In, list_all_in}
use Rattle.plain_search.specs.Extent.{is_value, takes_values}
use Rattle.plain_search.proofs.ExtentLemmas.{no_memory_among, refused}
use Rattle.isel_cmd.specs.Refusal.{HasMemory, goal_takes_values}

-- ---- a test that some element fails

failing-step : {X : Type 0} (p : X → Bool) (x : X) (xs : List X) (b : Bool) → p x ≡ b
    → (b && list_all p xs) ≡ false → (list_all p xs ≡ false → (y : X) × In xs y × (p y ≡ false))
    → (y : X) × In (x ∷ xs) y × (p y ≡ false)
failing-step p x xs true e h rest = let r = rest h in (r.0, inr r.1, r.2)
failing-step p x xs false e h rest = (x, inl refl, e)

failing : {X : Type 0} (p : X → Bool) (xs : List X) → list_all p xs ≡ false → (x : X) × In xs x × (p x ≡ false)
failing p [] h = absurd (false≢true (sym h))
failing p (x ∷ xs) h = failing-step p x xs (p x) refl h (failing p xs)

-- ---- the walk over the goals of a file

-- a goal that takes no memory
pub goals_go_on : (s : Spec) (k : ℕ) (name : List ℕ) (d : GoalDef) (args : List (Kind × Sort))
    → slice_get s.goals k ≡ Some (name, d) → args ≡ d.args → list_all is_value (sorts_in args) ≡ true
    → list_all goal_takes_values (drop k (file s).goals) ≡ list_all goal_takes_values (drop (k + 1) (file s).goals)
goals_go_on s k name d args e same h =
    let g : Goal = goal_of s.terms (name, d) in
    let there : slice_get (file s).goals k ≡ Some g = goal_there s k name d e in
    list_all_goes_on goal_takes_values (file s).goals k g (slice_get_within (file s).goals k g there)
    (sym (get_or_from_slice_get (file s).goals k g g there))
    (ap (λ (xs : List (Kind × Sort)). list_all is_value (sorts_in xs)) (sym same) ∙ h)

-- and one that takes a memory
pub goals_stop : (s : Spec) (k : ℕ) (name : List ℕ) (d : GoalDef) (args : List (Kind × Sort))
    → slice_get s.goals k ≡ Some (name, d) → args ≡ d.args → list_all is_value (sorts_in args) ≡ false
    → list_all goal_takes_values (drop k (file s).goals) ≡ false
goals_stop s k name d args e same h =
    let g : Goal = goal_of s.terms (name, d) in
    let there : slice_get (file s).goals k ≡ Some g = goal_there s k name d e in
    list_all_stops goal_takes_values (file s).goals k g (slice_get_within (file s).goals k g there)
    (sym (get_or_from_slice_get (file s).goals k g g there))
    (ap (λ (xs : List (Kind × Sort)). list_all is_value (sorts_in xs)) (sym same) ∙ h)

-- ---- the answers

memory_from : (s : Sort) → is_value s ≡ false → s ≡ sort.Mem
memory_from sort.Bool h = absurd (false≢true (sym h))
memory_from (sort.Bits w) h = absurd (false≢true (sym h))
memory_from sort.Mem h = refl

memory_among : (ss : List Sort) → list_all is_value ss ≡ false → Contains ss sort.Mem
memory_among ss h =
    let r = failing is_value ss h in
    Contains-from_In ss sort.Mem (subst (In ss) (memory_from r.0 r.2) r.1)

memory_in_operations : (f : File) → list_all takes_values f.ops ≡ false → HasMemory f
memory_in_operations f h =
    let r = failing takes_values f.ops h in
    inl (r.0, Contains-from_In f.ops r.0 r.1, memory_among r.0.args r.2)

memory_in_goals : (f : File) → list_all goal_takes_values f.goals ≡ false → HasMemory f
memory_in_goals f h =
    let r = failing goal_takes_values f.goals h in
    inr (r.0, Contains-from_In f.goals r.0 r.1, memory_among r.0.args r.2)

no_memory : (f : File) → list_all takes_values f.ops ≡ true → list_all goal_takes_values f.goals ≡ true
    → HasMemory f → ⊥
no_memory f ops goals (inl h) =
    no_memory_among h.0.args (list_all_in takes_values f.ops h.0 ops (In-from_Contains f.ops h.0 h.1)) h.2
no_memory f ops goals (inr h) =
    no_memory_among h.0.args (list_all_in goal_takes_values f.goals h.0 goals (In-from_Contains f.goals h.0 h.1)) h.2

pub memory_found : (f : File) → list_all takes_values f.ops ≡ false → IsTrue true ↔ HasMemory f
memory_found f h = (λ _. memory_in_operations f h, λ _. refl)

pub memory_decided : (f : File) (b : Bool) → list_all takes_values f.ops ≡ true
    → b ≡ list_all goal_takes_values f.goals → IsTrue (not b) ↔ HasMemory f
memory_decided f true ops e = refused (no_memory f ops (sym e))
memory_decided f false ops e = (λ _. memory_in_goals f (sym e), λ _. refl)
