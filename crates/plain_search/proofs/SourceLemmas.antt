-- The sources of a sort, as they are put together: the goal's inputs, and then the results node by node.
use Rattle.std.proofs.Common.{◌≡◌, ℕ, ◌+◌, ◌<◌, ◌≤◌, Bool, true, false, cond, List, [], ◌∷◌, ◌++◌, length}
use Rattle.std.proofs.Common.{map, filter, take, drop, get_or, Option, Some, None, slice_get, refl, sym, ap, ◌∙◌, arith}
use Rattle.std.proofs.Common.{append_assoc}
use Rattle.std.specs.Prelude.{option_map, option_and_then}
use Rattle.std.specs.List.{range_with_len}
use Rattle.std.proofs.lemmas.Bool.{lt-ltb}
use Rattle.std.proofs.lemmas.List.{append-nil, at_drop_more, length-map, drop_all}
use Rattle.std.proofs.lemmas.List.Elements.{filter-append}
use Rattle.std.proofs.lemmas.Option.{slice_get-map, slice_get-get_or, slice_get_past}
use Rattle.bv_terms.specs.declared.op.TermId.{TermId}
use Rattle.bv_terms.specs.declared.value.Sort.{Sort}
use Rattle.bv_terms.specs.Sorts.{same_sort}
use Rattle.bv_terms.specs.Term.{Term}
use Rattle.bv_terms.specs.WellSorted.{sort_of}
use Rattle.bv_terms.specs.Table.{Table, term_at}
use Rattle.isel_spec.specs.declared.definitions.Kind.{Kind}
use Rattle.isel_spec.specs.declared.definitions.OpDef.{OpDef}
use Rattle.isel_spec.specs.declared.definitions.GoalDef.{GoalDef}
use Rattle.isel_spec.specs.declared.spec.Spec.{Spec}
use Rattle.isel_spec.specs.File.{File, Operation, Goal, operation, sorts_in}
use Rattle.isel_spec.specs.Spec.{file}
use Rattle.isel_spec.proofs.SpecLemmas.{pointer_is, operation_is, goal_is}
use Rattle.list_lemmas.proofs.Lookups.{map-take-more}
use Rattle.pattern_core.specs.declared.pattern.Src.{Src}
use Rattle.pattern_core.specs.declared.pattern.Src.TheVariants.{Input, Out}
use Rattle.pattern_core.specs.declared.pattern.Node.{Node}
use Rattle.pattern_core.specs.Pattern.{operation_sort, source_sort}
use Rattle.plain_search.specs.Patterns.{result_count, outs_of, is_sort, sources_of}
use Rattle.plain_search.proofs.RangeLemmas.{kept}

-- ---- whether one is of a sort

pub input_sorted : (s : Sort) (args : List (Kind × Sort)) (n : ℕ) (d : Kind × Sort) → n < length args
    → is_sort (Some s) (slice_get (sorts_in args) n) ≡ same_sort s (get_or args n d).1
input_sorted s args n d l =
    ap (is_sort (Some s)) (slice_get-map (λ (a : Kind × Sort). a.1) args n
    ∙ ap (option_map (λ (a : Kind × Sort). a.1)) (slice_get-get_or args n d l))

pub result_sorted : (table : Table) (s x : Sort) (results : List TermId) (n : ℕ) (d : TermId) → n < length results
    → sort_of table.pointer (term_at table (get_or results n d)) ≡ Some x
    → is_sort (Some s) (option_and_then (sort_of table.pointer) (slice_get (map (term_at table) results) n))
    ≡ same_sort s x
result_sorted table s x results n d l h =
    ap (λ (o : Option Term). is_sort (Some s) (option_and_then (sort_of table.pointer) o))
    (slice_get-map (term_at table) results n ∙ ap (option_map (term_at table)) (slice_get-get_or results n d l))
    ∙ ap (is_sort (Some s)) h

-- ---- the results of a node

-- those results of an operation that are of a sort
abbrev pub kept_results : {A : Type 0} → (ℕ → A) → Sort → ℕ → List Term → List A
kept_results out s p ts = kept out (λ r. is_sort (Some s) (option_and_then (sort_of p) (slice_get ts r))) (length ts)

abbrev pub kept_of : {A : Type 0} → (ℕ → A) → File → Sort → Option Operation → List A
kept_of out f s o = kept out (λ r. is_sort (Some s) (operation_sort f o r)) (result_count o)

pub results_are : {A : Type 0} (out : ℕ → A) (sp : Spec) (s : Sort) (op k : ℕ) (name : List ℕ) (d : OpDef)
    (results : List TermId) → k ≡ op → slice_get sp.ops k ≡ Some (name, d) → results ≡ d.results
    → kept out (λ r. is_sort (Some s) (option_and_then (sort_of sp.terms.pointer)
    (slice_get (map (term_at sp.terms) results) r))) (length results)
    ≡ kept_of out (file sp) s (slice_get (file sp).ops op)
results_are out sp s op k name d results p e as' =
    let ts : List TermId → List Term = map (term_at sp.terms) in
    let whole : slice_get (file sp).ops op ≡ Some (operation sp.terms (name, d)) =
    ap (slice_get (file sp).ops) (sym p) ∙ operation_is sp k name d e in
    ap (kept out (λ r. is_sort (Some s) (option_and_then (sort_of sp.terms.pointer) (slice_get (ts results) r))))
    (sym (length-map results (term_at sp.terms)))
    ∙ (λ i. kept_results out s (sym (pointer_is sp) i) (ts (as' i)))
    ∙ ap (kept_of out (file sp) s) (sym whole)

pub no_results : {A : Type 0} (out : ℕ → A) (sp : Spec) (s : Sort) (op : ℕ) (old : List A) → length sp.ops ≤ op
    → old ≡ old ++ kept_of out (file sp) s (slice_get (file sp).ops op)
no_results out sp s op old l =
    let count = length-map sp.ops (operation sp.terms) in
    let none : slice_get (file sp).ops op ≡ None = slice_get_past (file sp).ops op (omega (arith, count, l)) in
    sym (ap (λ o. old ++ kept_of out (file sp) s o) none ∙ append-nil old)

-- ---- lists of sources

map-cond : {A B : Type 0} (f : A → B) (b : Bool) (x : A) (xs : List A)
    → cond b (f x ∷ map f xs) (map f xs) ≡ map f (cond b (x ∷ xs) xs)
map-cond f true x xs = refl
map-cond f false x xs = refl

pub filter-map : {A B : Type 0} (f : A → B) (p : B → Bool) (q : A → Bool) → ((x : A) → p (f x) ≡ q x) → (xs : List A)
    → filter p (map f xs) ≡ map f (filter q xs)
filter-map f p q same [] = refl
filter-map f p q same (x ∷ xs) =
    ap (λ b. cond b (f x ∷ filter p (map f xs)) (filter p (map f xs))) (same x)
    ∙ ap (λ zs. cond (q x) (f x ∷ zs) zs) (filter-map f p q same xs)
    ∙ map-cond f (q x) x (filter q xs)

-- whether a source after these nodes is of a sort
abbrev pub has_sort : File → Goal → List Node → Sort → Src → Bool
has_sort f g nodes s source = is_sort (Some s) (source_sort f g nodes (length nodes) source)

result_of : (f : File) (g : Goal) (nodes : List Node) (s : Sort) (k : ℕ) (n : Node) (r : ℕ) → k < length nodes
    → slice_get nodes k ≡ Some n
    → has_sort f g nodes s (Out k r) ≡ is_sort (Some s) (operation_sort f (slice_get f.ops n.op) r)
result_of f g nodes s k n r l e =
    let of : Option Node → Option Sort =
    λ m. operation_sort f (option_and_then (λ (n : Node). slice_get f.ops n.op) m) r in
    ap (λ b. is_sort (Some s) (cond b (of (slice_get nodes k)) None)) (lt-ltb k (length nodes) l)
    ∙ ap (λ m. is_sort (Some s) (of m)) e

-- the results of one node more
pub nodes-more : (f : File) (g : Goal) (nodes : List Node) (s : Sort) (k : ℕ) (n : Node) (now after whole : List Src)
    → k < length nodes → n ≡ get_or nodes k n → after ≡ now ++ kept_of (λ r. Out k r) f s (slice_get f.ops n.op)
    → now ++ filter (has_sort f g nodes s) (outs_of f k (drop k nodes)) ≡ whole
    → after ++ filter (has_sort f g nodes s) (outs_of f (k + 1) (drop (k + 1) nodes)) ≡ whole
nodes-more f g nodes s k n now after whole l e new h =
    let test = has_sort f g nodes s in
    let out : ℕ → Src = λ r. Out k r in
    let count = result_count (slice_get f.ops n.op) in
    let later = outs_of f (k + 1) (drop (k + 1) nodes) in
    let there : slice_get nodes k ≡ Some n = slice_get-get_or nodes k n l ∙ ap (λ m. Some m) (sym e) in
    let here : filter test (map out (range_with_len 0 count)) ≡ kept_of out f s (slice_get f.ops n.op) =
    filter-map out test (λ r. is_sort (Some s) (operation_sort f (slice_get f.ops n.op) r))
    (λ r. result_of f g nodes s k n r l there) (range_with_len 0 count) in
    let split : filter test (outs_of f k (drop k nodes)) ≡ kept_of out f s (slice_get f.ops n.op) ++ filter test later =
    at_drop_more (λ ns. filter test (outs_of f k ns)) nodes k n l
    ∙ ap (λ m. filter test (outs_of f k (m ∷ drop (k + 1) nodes))) (sym e)
    ∙ filter-append test (map out (range_with_len 0 count)) later ∙ ap (λ xs. xs ++ filter test later) here in
    ap (λ xs. xs ++ filter test later) new
    ∙ append_assoc now (kept_of out f s (slice_get f.ops n.op)) (filter test later)
    ∙ ap (λ xs. now ++ xs) (sym split) ∙ h

-- no node is left
pub nodes-end : (f : File) (g : Goal) (nodes : List Node) (s : Sort) (k : ℕ) (now whole : List Src)
    → length nodes ≤ k → now ++ filter (has_sort f g nodes s) (outs_of f k (drop k nodes)) ≡ whole → now ≡ whole
nodes-end f g nodes s k now whole l h =
    sym (ap (λ ns. now ++ filter (has_sort f g nodes s) (outs_of f k ns)) (drop_all k nodes l) ∙ append-nil now) ∙ h

-- the inputs, and then the results of all nodes
pub sources-are : (sp : Spec) (at : ℕ) (g : Goal) (nodes : List Node) (s : Sort) (name : List ℕ) (d : GoalDef)
    (args : List (Kind × Sort)) (inputs all : List Src) → slice_get sp.goals at ≡ Some (name, d)
    → slice_get (file sp).goals at ≡ Some g → args ≡ d.args
    → inputs ≡ kept (λ k. Input k) (λ k. is_sort (Some s) (slice_get (sorts_in args) k)) (length args)
    → all ≡ inputs ++ filter (has_sort (file sp) g nodes s) (outs_of (file sp) 0 nodes)
    → all ≡ sources_of (file sp) g nodes (Some s)
sources-are sp at g nodes s name d args inputs all e h as' first whole =
    let test = has_sort (file sp) g nodes s in
    let outs = outs_of (file sp) 0 nodes in
    let sorts : sorts_in args ≡ g.args =
    ap sorts_in as' ∙ sym (ap (λ (x : Goal). x.args) (goal_is sp at name d g e h)) in
    let count : length args ≡ length g.args = sym (length-map args (λ (a : Kind × Sort). a.1)) ∙ ap length sorts in
    let same : inputs ≡ filter test (map (λ k. Input k) (range_with_len 0 (length g.args))) =
    first ∙ (λ i. kept (λ k. Input k) (λ k. is_sort (Some s) (slice_get (sorts i) k)) (count i))
    ∙ sym (filter-map (λ k. Input k) test (λ k. is_sort (Some s) (slice_get g.args k)) (λ k. refl)
    (range_with_len 0 (length g.args))) in
    whole ∙ ap (λ xs. xs ++ filter test outs) same
    ∙ sym (filter-append test (map (λ k. Input k) (range_with_len 0 (length g.args))) outs)

-- ---- a list for each

pub lists-more : {A B : Type 0} (F : A → B) (xs : List A) (i : ℕ) (x : A) (now new : List B) (y : B)
    → slice_get xs i ≡ Some x → new ≡ now ++ y ∷ [] → y ≡ F x → now ≡ map F (take i xs)
    → new ≡ map F (take (i + 1) xs)
lists-more F xs i x now new y there e same h =
    e ∙ (λ j. h j ++ same j ∷ []) ∙ sym (map-take-more F xs i x there)

-- the goal's results, as they stand in the table
pub result_there : (sp : Spec) (at : ℕ) (g : Goal) (name : List ℕ) (d : GoalDef) (results : List TermId) (i : ℕ)
    (r : TermId) → slice_get sp.goals at ≡ Some (name, d) → slice_get (file sp).goals at ≡ Some g
    → results ≡ d.results → i < length results
    → slice_get g.results i ≡ Some (term_at sp.terms (get_or results i r))
result_there sp at g name d results i r e h as' l =
    ap (λ (x : Goal). slice_get x.results i) (goal_is sp at name d g e h)
    ∙ ap (λ (xs : List TermId). slice_get (map (term_at sp.terms) xs) i) (sym as')
    ∙ slice_get-map (term_at sp.terms) results i ∙ ap (option_map (term_at sp.terms)) (slice_get-get_or results i r l)

pub result_number : (sp : Spec) (at : ℕ) (g : Goal) (name : List ℕ) (d : GoalDef) (results : List TermId)
    → slice_get sp.goals at ≡ Some (name, d) → slice_get (file sp).goals at ≡ Some g → results ≡ d.results
    → length g.results ≡ length results
result_number sp at g name d results e h as' =
    ap (λ (x : Goal). length x.results) (goal_is sp at name d g e h)
    ∙ length-map d.results (term_at sp.terms) ∙ ap length (sym as')
