-- A file with one more definition is sound, and stands for what was read.
use Rattle.std.proofs.Common.{◌≡◌, ◌∙◌, ℕ, suc, ◌+◌, ◌<◌, ◌≤◌, List, [], ◌∷◌, ◌++◌, length, map}
use Rattle.std.proofs.Common.{Option, Some, None}
use Rattle.std.proofs.Common.{true, false, Bool, refl, sym, ap, subst, arith}
use Rattle.std.proofs.Common.{All, ◌&&◌, not, length-append}
use Rattle.std.specs.Prelude.{if◌then◌else◌, nat_le, nat_lt, ◌==◌, Ok, Err, Result, Contains}
use Rattle.std.specs.List.{list_any, list_all, AllByRecursion}
use Rattle.std.specs.Str.{bytes_eq}
use Rattle.std.proofs.lemmas.Bool.{false≢true}
use Rattle.std.proofs.lemmas.Bool.Decides.{nat_tests}
use Rattle.std.proofs.lemmas.List.{map-append, length-map, append-nil}
use Rattle.std.proofs.lemmas.List.Elements.{recursion_from_All}
use Rattle.list_lemmas.proofs.Bools.{and-both, le_true, lt-true, le-from_test}
use Rattle.list_lemmas.proofs.Lists.{map-push}
use Rattle.list_lemmas.proofs.Lookups.{list_all-push}
use Rattle.bv_terms.specs.declared.op.TermId.{TermId}
use Rattle.bv_terms.specs.declared.value.Sort.{Sort}
use Rattle.bv_terms.specs.declared.value.Sort.TheVariants as sort
use Rattle.bv_terms.specs.Term.{Term}
use Rattle.bv_terms.specs.Sorts.{width_of}
use Rattle.bv_terms.specs.Table.{Table, term_at}
use Rattle.sexp_read.specs.Tree.{Tree}
use Rattle.sexp_read.specs.Words.{is_name, is_between}
use Rattle.term_text.specs.Head.{Span, span_of}
use Rattle.term_text.specs.Build.{AreNodes, terms_at}
use Rattle.isel_spec.specs.declared.definitions.Kind.{Kind}
use Rattle.isel_spec.specs.declared.definitions.OpDef.{OpDef}
use Rattle.isel_spec.specs.declared.definitions.GoalDef.{GoalDef}
use Rattle.isel_spec.specs.declared.spec.Spec.{Spec}
use Rattle.isel_spec.specs.File as file
use Rattle.isel_spec.specs.File.{File, operation, goal, scope, stays_in, are_sound}
use Rattle.isel_spec.specs.File.{is_sound, is_sound_op, is_sound_goal}
use Rattle.isel_spec.specs.File.{is_sized, has_kind, sorts_in, is_short_name, differ, all_names, has_sound_results}
use Rattle.isel_spec.specs.Memory.{subterm_count, has_memory_shape, has_plain_pointers, accessed_bytes}
use Rattle.isel_spec.specs.Spec as spec
use Rattle.isel_spec.proofs.NameLists.{AreNames, names-with_op, names-with_goal}
use Rattle.isel_spec.proofs.SpecLemmas.{sound_spec}
use Rattle.spec_reader.specs.declared.fault.SpecFault.{SpecFault}
use Rattle.spec_reader.specs.declared.fault.SpecKind.TheVariants as fault
use Rattle.spec_reader.specs.declared.fault.Which.{Which}
use Rattle.spec_reader.specs.declared.fault.Which.TheVariants as which
use Rattle.spec_reader.specs.declared.form.Param as param
use Rattle.spec_reader.specs.declared.form.Parts as parts
use Rattle.spec_reader.specs.Form.{Param, Parts, name_of, is_vector, parts_in}
use Rattle.spec_reader.specs.Parts.{params_by, parts_by}
use Rattle.spec_reader.specs.Added.{named_operation, named_goal}
use Rattle.spec_reader.specs.Walk.{first_fault, above, fault_at, long_name, twice_named}
use Rattle.spec_reader.specs.Walk.{name_fault, names_fault, defined}
use Rattle.spec_reader.specs.Walk.{count_fault, limit_fault, definition_fault, goal_fault, results_fault, params_of}
use Rattle.spec_reader.specs.Walk.{sorts_of, with_definition, and_then, result_read, results_read}
use Rattle.term_text.specs.Reading.{Scope}
use Rattle.spec_reader.proofs.FormedLemmas.{parts-formed, IsFormed, IsBound, IsWidth, IsSource}
use Rattle.spec_reader.proofs.NameLemmas.{same-names, name-is-name}
use Rattle.spec_reader.proofs.ScopeLemmas.{both-none, name-new, not-there}

-- ---- what no fault says

none-unless : {X : Type 0} (b : Bool) (x : X) → (if b then None else Some x) ≡ None → b ≡ true
none-unless true x e = refl
none-unless false x e = cc

fits : (what : Which) (most found : ℕ) (span : Span) → above what most found span ≡ None → nat_le found most ≡ true
fits what most found span e = none-unless (nat_le found most) (fault_at (fault.Limit what found) span) e

first-none : (o : Option SpecFault) (os : List (Option SpecFault)) → first_fault (o ∷ os) ≡ None
    → (o ≡ None) × (first_fault os ≡ None)
first-none o os e = both-none o (first_fault os) e

-- what was tested before the terms
pub record IsTested (f : File) (span : Span) (parts : Parts) : Type 0 where
  pub count : count_fault f parts span ≡ None
  pub short : nat_le (length (name_of parts.name)) 64 ≡ true
  pub new : list_any (bytes_eq (name_of parts.name)) (defined f) ≡ false
  pub args : nat_le (length parts.args) 4 ≡ true
  pub attrs : nat_le (length parts.attrs) 2 ≡ true
  pub results : nat_le (length parts.results) 3 ≡ true
  pub cost : nat_le parts.cost 65535 ≡ true

pub is-tested : (f : File) (span : Span) (parts : Parts) → definition_fault f span parts ≡ None
    → IsTested f span parts
is-tested f span parts e =
    let inner = names_fault [] (map (λ (p : Param). p.name) (params_of parts)) in
    let of_args = above which.Args 4 (length parts.args) span in
    let of_attrs = above which.Attrs 2 (length parts.attrs) span in
    let of_results = above which.Results 3 (length parts.results) span in
    let of_cost = above which.Cost 65535 parts.cost span in
    let a = first-none (count_fault f parts span)
    (name_fault (defined f) parts.name ∷ limit_fault parts span ∷ inner ∷ []) e in
    let b = first-none (name_fault (defined f) parts.name) (limit_fault parts span ∷ inner ∷ []) a.1 in
    let c = first-none (limit_fault parts span) (inner ∷ []) b.1 in
    let g = first-none of_args (of_attrs ∷ of_results ∷ of_cost ∷ []) c.0 in
    let h = first-none of_attrs (of_results ∷ of_cost ∷ []) g.1 in
    let k = first-none of_results (of_cost ∷ []) h.1 in
    let l = first-none of_cost [] k.1 in
    record {
      count = a.0;
      short = fits which.Name 64 (length (name_of parts.name))
          (span_of parts.name)
          (both-none (long_name parts.name) (twice_named (defined f) parts.name) b.0).0;
      new = name-new (defined f) parts.name b.0;
      args = fits which.Args 4 (length parts.args) span g.0;
      attrs = fits which.Attrs 2 (length parts.attrs) span h.0;
      results = fits which.Results 3 (length parts.results) span k.0;
      cost = fits which.Cost 65535 parts.cost span l.0;
    }

-- what was tested of the terms
pub record IsShaped (parts : Parts) (ts : List Term) : Type 0 where
  pub few : nat_le (subterm_count ts) 256 ≡ true
  pub memory : has_memory_shape (sorts_of parts.args) ts ≡ true
  pub pointers : parts.is_goal ≡ true → has_plain_pointers ts ≡ true
  pub bytes : parts.is_goal ≡ true → nat_le (accessed_bytes ts) 32 ≡ true

-- the parts of a test of a goal
pointers-and-bytes : (b c : Bool) (x : SpecFault) (o : Option SpecFault) → b ≡ true
    → (if not b then None else if not c then Some x else o) ≡ None → (c ≡ true) × (o ≡ None)
pointers-and-bytes true true x o h e = (refl, e)
pointers-and-bytes true false x o h e = cc
pointers-and-bytes false c x o h e = absurd (false≢true h)

pub is-shaped : (parts : Parts) (ts : List Term) (span : Span) → results_fault parts ts span ≡ None
    → IsShaped parts ts
is-shaped parts ts span e =
    let few = above which.Nodes 256 (subterm_count ts) span in
    let shape = has_memory_shape (sorts_of parts.args) ts in
    let of_shape = if shape then None else Some (fault_at fault.MemShape span) in
    let of_bytes = above which.Bytes 32 (accessed_bytes ts) span in
    let a = first-none few (of_shape ∷ goal_fault parts ts span ∷ []) e in
    let b = first-none of_shape (goal_fault parts ts span ∷ []) a.1 in
    let c = first-none (goal_fault parts ts span) [] b.1 in
    record {
      few = fits which.Nodes 256 (subterm_count ts) span a.0;
      memory = none-unless shape (fault_at fault.MemShape span) b.0;
      pointers = λ goal. (pointers-and-bytes parts.is_goal (has_plain_pointers ts) (fault_at fault.PointerReads span)
          of_bytes goal c.0).0;
      bytes = λ goal. fits which.Bytes 32 (accessed_bytes ts) span
          (pointers-and-bytes parts.is_goal (has_plain_pointers ts) (fault_at fault.PointerReads span)
          of_bytes goal c.0).1;
    }

-- ---- what the form says of sorts

vector-back : (s : Sort) → is_vector s ≡ true → sort.Bits (width_of s) ≡ s
vector-back sort.Bool e = absurd (false≢true e)
vector-back (sort.Bits w) e = refl
vector-back sort.Mem e = absurd (false≢true e)

vector-width : (s : Sort) → is_vector s ≡ true → is_sized s ≡ true → is_between 1 64 (width_of s) ≡ true
vector-width sort.Bool e h = absurd (false≢true e)
vector-width (sort.Bits w) e h = h
vector-width sort.Mem e h = absurd (false≢true e)

widths-back : (ps : List Param) → AllByRecursion IsWidth ps
    → map (λ w. sort.Bits w) (map width_of (sorts_of ps)) ≡ sorts_of ps
widths-back [] h = refl
widths-back (p ∷ ps) h = λ i. vector-back p.sort h.0.vector i ∷ widths-back ps h.1 i

widths-between : (ps : List Param) → AllByRecursion IsWidth ps
    → list_all (is_between 1 64) (map width_of (sorts_of ps)) ≡ true
widths-between [] h = refl
widths-between (p ∷ ps) h =
    and-both (is_between 1 64 (width_of p.sort)) (list_all (is_between 1 64) (map width_of (sorts_of ps)))
    (vector-width p.sort h.0.vector h.0.bound.sized) (widths-between ps h.1)

sorts-sized : (ps : List Param) → AllByRecursion IsBound ps → list_all is_sized (sorts_of ps) ≡ true
sorts-sized [] h = refl
sorts-sized (p ∷ ps) h = and-both (is_sized p.sort) (list_all is_sized (sorts_of ps)) h.0.sized (sorts-sized ps h.1)

abbrev kinds_of : List Param → List (Kind × Sort)
kinds_of ps = map (λ (q : Param). (q.kind, q.sort)) ps

kinds-fit : (ps : List Param) → AllByRecursion IsSource ps → list_all has_kind (kinds_of ps) ≡ true
kinds-fit [] h = refl
kinds-fit (p ∷ ps) h =
    and-both (has_kind (p.kind, p.sort)) (list_all has_kind (kinds_of ps)) h.0.kind (kinds-fit ps h.1)

kinds-sorts : (ps : List Param) → sorts_in (kinds_of ps) ≡ sorts_of ps
kinds-sorts [] = refl
kinds-sorts (p ∷ ps) = ap (λ ss. p.sort ∷ ss) (kinds-sorts ps)

kinds-kinds : (ps : List Param) → map (λ (a : Kind × Sort). a.0) (kinds_of ps) ≡ map (λ (q : Param). q.kind) ps
kinds-kinds [] = refl
kinds-kinds (p ∷ ps) = ap (λ ks. p.kind ∷ ks) (kinds-kinds ps)

-- ---- results

nodes-sound : (table : Table) (ss : List Sort) (ats : List TermId) → AreNodes table ats
    → All (λ (at : TermId). stays_in ss (term_at table at) ≡ true) ats → are_sound table ss ats ≡ true
nodes-sound table ss ats nodes stay =
    by ats (recursion_from_All (λ (at : TermId). at.0 < length table.nodes) ats nodes)
    (recursion_from_All (λ (at : TermId). stays_in ss (term_at table at) ≡ true) ats stay)
  where
    by : (ats : List TermId) → AllByRecursion (λ (at : TermId). at.0 < length table.nodes) ats
        → AllByRecursion (λ (at : TermId). stays_in ss (term_at table at) ≡ true) ats → are_sound table ss ats ≡ true
    by [] h k = refl
    by (at ∷ ats) h k =
        and-both (nat_lt at.0 (length table.nodes) && stays_in ss (term_at table at)) (are_sound table ss ats)
        (and-both (nat_lt at.0 (length table.nodes)) (stays_in ss (term_at table at))
        (lt-true at.0 (length table.nodes) h.0) k.0)
        (by ats h.1 k.1)

few-between : (n m : ℕ) → n ≡ m → 1 ≤ m → nat_le m 3 ≡ true → is_between 1 3 n ≡ true
few-between n m e h k =
    and-both (nat_le 1 n) (nat_le n 3) (le_true 1 n (omega arith)) (ap (λ x. nat_le x 3) e ∙ k)

-- ---- an operation

-- what is known where a definition is added
pub record IsFitting (s : Spec) (span : Span) (parts : Parts) (results : List TermId) : Type 0 where
  pub formed : IsFormed parts
  pub tested : IsTested (spec.file s) span parts
  pub each : length results ≡ length parts.results
  pub nodes : AreNodes s.terms results
  pub stay : All (λ (at : TermId). stays_in (sorts_of (params_of parts)) (term_at s.terms at) ≡ true) results
  pub shaped : IsShaped parts (terms_at s.terms results)

pub fitting : (s : Spec) (span : Span) (parts : Parts) (results : List TermId) (tree : Tree)
    → parts_in tree ≡ Some parts → definition_fault (spec.file s) span parts ≡ None
    → length results ≡ length parts.results → AreNodes s.terms results
    → All (λ (at : TermId). stays_in (sorts_of (params_of parts)) (term_at s.terms at) ≡ true) results
    → results_fault parts (terms_at s.terms results) span ≡ None → IsFitting s span parts results
fitting s span parts results tree form sound count nodes stay shaped = record {
  formed = parts-formed tree parts form;
  tested = is-tested (spec.file s) span parts sound;
  each = count;
  nodes = nodes;
  stay = stay;
  shaped = is-shaped parts (terms_at s.terms results) span shaped;
}

sorts-joined : (ps qs : List Param) → sorts_of (ps ++ qs) ≡ sorts_of ps ++ sorts_of qs
sorts-joined ps qs = map-append (λ (p : Param). p.sort) ps qs

operation-scope : (parts : Parts) (results : List TermId) → IsFormed parts
    → scope (named_operation parts results).1 ≡ sorts_of (params_of parts)
operation-scope parts results formed =
    ap (λ ss. sorts_of parts.args ++ ss) (widths-back parts.attrs formed.attrs)
    ∙ sym (sorts-joined parts.args parts.attrs)

seven : (a b c d e f g : Bool) → a ≡ true → b ≡ true → c ≡ true → d ≡ true → e ≡ true → f ≡ true → g ≡ true
    → (a && b && c && d && e && f && g) ≡ true
seven a b c d e f g h k l m n o p =
    and-both (a && b && c && d && e && f) g
    (and-both (a && b && c && d && e) f
    (and-both (a && b && c && d) e (and-both (a && b && c) d (and-both (a && b) c (and-both a b h k) l) m) n) o) p

operation-sound : (s : Spec) (span : Span) (parts : Parts) (results : List TermId) → IsFitting s span parts results
    → is_sound_op s.terms (named_operation parts results) ≡ true
operation-sound s span parts results fit =
    let e = named_operation parts results in
    let table = s.terms in
    let ts = terms_at table results in
    seven (nat_le (length e.1.args) 4) (nat_le (length e.1.attrs) 2) (is_between 1 3 (length results))
    (list_all is_sized e.1.args) (list_all (is_between 1 64) e.1.attrs) (are_sound table (scope e.1) results)
    (has_sound_results table e.1.args results)
    (ap (λ n. nat_le n 4) (length-map parts.args (λ (p : Param). p.sort)) ∙ fit.tested.args)
    (ap (λ n. nat_le n 2) (length-map (sorts_of parts.attrs) width_of ∙ length-map parts.attrs (λ (p : Param). p.sort))
    ∙ fit.tested.attrs)
    (few-between (length results) (length parts.results) fit.each fit.formed.some fit.tested.results)
    (sorts-sized parts.args fit.formed.args)
    (widths-between parts.attrs fit.formed.attrs)
    (nodes-sound table (scope e.1) results fit.nodes
    (subst (λ ss. All (λ (at : TermId). stays_in ss (term_at table at) ≡ true) results)
    (sym (operation-scope parts results fit.formed)) fit.stay))
    (and-both (nat_le (subterm_count ts) 256) (has_memory_shape (sorts_of parts.args) ts) fit.shaped.few
    fit.shaped.memory)

-- ---- a goal

nine : (a b c d e f g h i : Bool) → a ≡ true → b ≡ true → c ≡ true → d ≡ true → e ≡ true → f ≡ true → g ≡ true
    → h ≡ true → i ≡ true → (a && b && c && d && e && f && g && h && i) ≡ true
nine a b c d e f g h i k l m n o p q r s =
    and-both (a && b && c && d && e && f && g && h) i
    (and-both (a && b && c && d && e && f && g) h (seven a b c d e f g k l m n o p q) r) s

goal-scope : (parts : Parts) → IsFormed parts → parts.is_goal ≡ true
    → sorts_of (params_of parts) ≡ sorts_in (kinds_of parts.args)
goal-scope parts formed is =
    ap (λ qs. sorts_of (parts.args ++ qs)) (formed.bare is)
    ∙ ap sorts_of (append-nil parts.args)
    ∙ sym (kinds-sorts parts.args)

goal-sound : (s : Spec) (span : Span) (parts : Parts) (results : List TermId) → IsFitting s span parts results
    → parts.is_goal ≡ true → is_sound_goal s.terms (named_goal parts results) ≡ true
goal-sound s span parts results fit is =
    let e = named_goal parts results in
    let table = s.terms in
    let ts = terms_at table results in
    let ss : List Sort = sorts_in e.1.args in
    let same : ss ≡ sorts_of parts.args = kinds-sorts parts.args in
    nine (nat_le (length e.1.args) 4) (is_between 1 3 (length results)) (list_all has_kind e.1.args)
    (list_all is_sized ss) (nat_le parts.cost 65535) (are_sound table ss results) (has_sound_results table ss results)
    (has_plain_pointers ts) (nat_le (accessed_bytes ts) 32)
    (ap (λ n. nat_le n 4) (length-map parts.args (λ (q : Param). (q.kind, q.sort))) ∙ fit.tested.args)
    (few-between (length results) (length parts.results) fit.each fit.formed.some fit.tested.results)
    (kinds-fit parts.args (fit.formed.kinds is))
    (ap (list_all is_sized) same ∙ sorts-sized parts.args fit.formed.args)
    fit.tested.cost
    (nodes-sound table ss results fit.nodes
    (subst (λ xs. All (λ (at : TermId). stays_in xs (term_at table at) ≡ true) results)
    (goal-scope parts fit.formed is) fit.stay))
    (and-both (nat_le (subterm_count ts) 256) (has_memory_shape ss ts) fit.shaped.few
    (ap (λ xs. has_memory_shape xs ts) same ∙ fit.shaped.memory))
    (fit.shaped.pointers is) (fit.shaped.bytes is)

-- ---- the whole file

eq-true : (a b : ℕ) → a ≡ b → (a == b) ≡ true
eq-true a b e = grind (arith, nat_tests)

defined-names : (s : Spec) → defined (spec.file s) ≡ all_names s.ops s.goals
defined-names s =
    λ i. same-names (operation s.terms) (λ (o : file.Operation). o.name) (λ e. e.0) s.ops (λ e. refl) i
    ++ same-names (goal s.terms) (λ (g : file.Goal). g.name) (λ e. e.0) s.goals (λ e. refl) i

new-name : (s : Spec) (span : Span) (parts : Parts) → IsTested (spec.file s) span parts
    → Contains (all_names s.ops s.goals) (name_of parts.name) → ⊥
new-name s span parts tested =
    not-there (name_of parts.name) (all_names s.ops s.goals)
    (sym (ap (list_any (bytes_eq (name_of parts.name))) (defined-names s)) ∙ tested.new)

short-name : (s : Spec) (span : Span) (parts : Parts) → IsFormed parts → IsTested (spec.file s) span parts
    → is_short_name (name_of parts.name) ≡ true
short-name s span parts formed tested =
    and-both (is_name (name_of parts.name)) (nat_le (length (name_of parts.name)) 64)
    (name-is-name parts.name formed.name) tested.short

names-now : (s : Spec) → AreNames (all_names s.ops s.goals)
names-now s = let all = sound_spec s in record { short = all.short; apart = all.apart }

-- one more is no more than there may be
one-more : {A B : Type 0} (f : A → B) (xs : List A) (x : A) (most : ℕ)
    → nat_le (length (map f xs) + 1) most ≡ true → nat_le (length (xs ++ x ∷ [])) most ≡ true
one-more f xs x most h =
    le_true (length (xs ++ x ∷ [])) most
    (omega (arith, length-append xs (x ∷ []), length-map xs f, le-from_test (length (map f xs) + 1) most h))

operation-count : (b : Bool) (f : File) (span : Span) → b ≡ false →
    (if b then above which.Goals 256 (length f.goals + 1) span else above which.Ops 64 (length f.ops + 1) span) ≡ None
    → nat_le (length f.ops + 1) 64 ≡ true
operation-count true f span h e = absurd (false≢true (sym h))
operation-count false f span h e = fits which.Ops 64 (length f.ops + 1) span e

goal-count : (b : Bool) (f : File) (span : Span) → b ≡ true →
    (if b then above which.Goals 256 (length f.goals + 1) span else above which.Ops 64 (length f.ops + 1) span) ≡ None
    → nat_le (length f.goals + 1) 256 ≡ true
goal-count true f span h e = fits which.Goals 256 (length f.goals + 1) span e
goal-count false f span h e = absurd (false≢true h)

pub sound-with-operation : (s : Spec) (span : Span) (parts : Parts) (results : List TermId)
    → IsFitting s span parts results → parts.is_goal ≡ false
    → is_sound s.pointer s.terms (s.ops ++ named_operation parts results ∷ []) s.goals ≡ true
sound-with-operation s span parts results fit is =
    let e = named_operation parts results in
    let all = sound_spec s in
    let ns = names-with_op s.ops s.goals e (names-now s) (short-name s span parts fit.formed fit.tested)
    (new-name s span parts fit.tested) in
    let ops = s.ops ++ e ∷ [] in
    seven (s.pointer == s.terms.pointer) (nat_le (length ops) 64) (nat_le (length s.goals) 256)
    (list_all is_short_name (all_names ops s.goals)) (differ (all_names ops s.goals))
    (list_all (is_sound_op s.terms) ops) (list_all (is_sound_goal s.terms) s.goals)
    (eq-true s.pointer s.terms.pointer all.pointer)
    (one-more (operation s.terms) s.ops e 64 (operation-count parts.is_goal (spec.file s) span is fit.tested.count))
    (le_true (length s.goals) 256 all.few_goals) ns.short ns.apart
    (list_all-push (is_sound_op s.terms) s.ops e all.ops (operation-sound s span parts results fit)) all.goals

pub sound-with-goal : (s : Spec) (span : Span) (parts : Parts) (results : List TermId)
    → IsFitting s span parts results → parts.is_goal ≡ true
    → is_sound s.pointer s.terms s.ops (s.goals ++ named_goal parts results ∷ []) ≡ true
sound-with-goal s span parts results fit is =
    let e = named_goal parts results in
    let all = sound_spec s in
    let ns = names-with_goal s.ops s.goals e (names-now s) (short-name s span parts fit.formed fit.tested)
    (new-name s span parts fit.tested) in
    let goals = s.goals ++ e ∷ [] in
    seven (s.pointer == s.terms.pointer) (nat_le (length s.ops) 64) (nat_le (length goals) 256)
    (list_all is_short_name (all_names s.ops goals)) (differ (all_names s.ops goals))
    (list_all (is_sound_op s.terms) s.ops) (list_all (is_sound_goal s.terms) goals)
    (eq-true s.pointer s.terms.pointer all.pointer) (le_true (length s.ops) 64 all.few)
    (one-more (goal s.terms) s.goals e 256 (goal-count parts.is_goal (spec.file s) span is fit.tested.count))
    ns.short ns.apart all.ops
    (list_all-push (is_sound_goal s.terms) s.goals e all.goals (goal-sound s span parts results fit is))

-- ---- the file that it stands for

pub file-with-operation : (s : Spec) (parts : Parts) (results : List TermId) (e : List ℕ × OpDef)
    → e ≡ named_operation parts results → parts.is_goal ≡ false
    → record (spec.file s) { ops = map (operation s.terms) (s.ops ++ e ∷ []) }
    ≡ with_definition (spec.file s) parts (terms_at s.terms results)
file-with-operation s parts results e is operation_is =
    let f = spec.file s in
    let ts = terms_at s.terms results in
    ap (λ os. record f { ops = os })
    (ap (λ e. map (operation s.terms) (s.ops ++ e ∷ [])) is
    ∙ map-push (operation s.terms) s.ops (named_operation parts results))
    ∙ ap (λ b. with_definition f (record parts { is_goal = b }) ts) (sym operation_is)

pub file-with-goal : (s : Spec) (parts : Parts) (results : List TermId) (e : List ℕ × GoalDef)
    → e ≡ named_goal parts results → parts.is_goal ≡ true
    → record (spec.file s) { goals = map (goal s.terms) (s.goals ++ e ∷ []) }
    ≡ with_definition (spec.file s) parts (terms_at s.terms results)
file-with-goal s parts results e is goal_is =
    let f = spec.file s in
    let ts = terms_at s.terms results in
    let with_parts : List Kind → List Sort → file.Goal = λ ks ss.
    record { name = name_of parts.name; kinds = ks; args = ss; cost = parts.cost; results = ts } in
    ap (λ gs. record f { goals = gs })
    (ap (λ e. map (goal s.terms) (s.goals ++ e ∷ [])) is
    ∙ map-push (goal s.terms) s.goals (named_goal parts results)
    ∙ (λ i. f.goals ++ with_parts (kinds-kinds parts.args i) (kinds-sorts parts.args i) ∷ []))
    ∙ ap (λ b. with_definition f (record parts { is_goal = b }) ts) (sym goal_is)

-- ---- what the code makes

by-tree : {A : Type 0} (tree : ℕ → Tree) (f : Param → A) (g : param.Param → A) (ps : List param.Param)
    → ((q : param.Param) → f (record { name = tree q.name; kind = q.kind; sort = q.sort }) ≡ g q)
    → map f (params_by tree ps) ≡ map g ps
by-tree tree f g [] h = refl
by-tree tree f g (p ∷ ps) h = λ i. h p i ∷ by-tree tree f g ps h i

widths-by-tree : (tree : ℕ → Tree) (ps : List param.Param)
    → map width_of (sorts_of (params_by tree ps)) ≡ map (λ (q : param.Param). width_of q.sort) ps
widths-by-tree tree [] = refl
widths-by-tree tree (p ∷ ps) = ap (λ ws. width_of p.sort ∷ ws) (widths-by-tree tree ps)

pub made-operation : (tree : ℕ → Tree) (p : parts.Parts) (results : List TermId) (name : List ℕ) (args : List Sort)
    (attrs : List ℕ) (nodes : List TermId) → name ≡ name_of (tree p.name)
    → args ≡ map (λ (q : param.Param). q.sort) p.args.items
    → attrs ≡ map (λ (q : param.Param). width_of q.sort) p.attrs.items → nodes ≡ results
    → (name, record { args = args; attrs = attrs; results = nodes })
    ≡ named_operation (parts_by tree p) results
made-operation tree p results name args attrs nodes h k l m =
    let of_args = k ∙ sym (by-tree tree (λ (q : Param). q.sort) (λ (q : param.Param). q.sort) p.args.items
    (λ q. refl)) in
    let of_attrs = l ∙ sym (widths-by-tree tree p.attrs.items) in
    λ i. (h i, record { args = of_args i; attrs = of_attrs i; results = m i })

pub made-goal : (tree : ℕ → Tree) (p : parts.Parts) (results : List TermId) (name : List ℕ)
    (args : List (Kind × Sort)) (nodes : List TermId) → name ≡ name_of (tree p.name)
    → args ≡ map (λ (q : param.Param). (q.kind, q.sort)) p.args.items → nodes ≡ results
    → (name, record { args = args; results = nodes; cost = p.cost }) ≡ named_goal (parts_by tree p) results
made-goal tree p results name args nodes h k m =
    let of_args = k ∙ sym (by-tree tree (λ (q : Param). (q.kind, q.sort))
    (λ (q : param.Param). (q.kind, q.sort)) p.args.items (λ q. refl)) in
    λ i. (h i, record { args = of_args i; results = m i; cost = p.cost })

-- ---- as many results as were read

-- what follows gave this, of what the first gave
both-ok : {A B C : Type 0} (r : Result A SpecFault) (next : A → Result B SpecFault) (b : B) → and_then r next ≡ Ok b
    → ((a : A) → r ≡ Ok a → next a ≡ Ok b → C) → C
both-ok (Ok a) next b e k = k a refl e
both-ok (Err f) next b e k = absurd (cc)

read-count : (p : ℕ) (scope : Scope) (trees : List Tree) (ts : List Term) → results_read p scope trees ≡ Ok ts
    → length ts ≡ length trees
read-count p scope [] ts e =
    let same : [] ≡ ts = cc in
    ap length (sym same)
read-count p scope (tree ∷ trees) ts e =
    both-ok (result_read p scope tree) (λ t. and_then (results_read p scope trees) (λ us. Ok (t ∷ us))) ts e
    (λ t is f. both-ok (results_read p scope trees) (λ us. Ok (t ∷ us)) ts f
    (λ us are g.
    let same : t ∷ us ≡ ts = cc in
    ap length (sym same) ∙ ap (λ n. suc n) (read-count p scope trees us are)))

-- nodes of what was read of items are as many as the items
pub results-count : (p : ℕ) (scope : Scope) (tree : ℕ → Tree) (items : List ℕ) (table : Table) (nodes : List TermId)
    → results_read p scope (map tree items) ≡ Ok (terms_at table nodes) → length nodes ≡ length items
results-count p scope tree items table nodes e =
    sym (length-map nodes (term_at table)) ∙ read-count p scope (map tree items) (terms_at table nodes) e
    ∙ length-map items tree
