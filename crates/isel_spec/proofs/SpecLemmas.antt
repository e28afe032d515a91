-- What a `Spec` keeps: names that differ, and definitions whose results stand in the table of terms, with inputs of
-- their own, few terms and one chain of memory.
use Rattle.std.proofs.Common.{◌≡◌, ℕ, ◌<◌, ◌≤◌, Bool, true, false, ◌&&◌, List, [], ◌∷◌, ◌++◌}
use Rattle.std.proofs.Common.{length, map, get_or, Option, Some, None, All, refl, sym, ap, ◌∙◌, subst, slice_get}
use Rattle.std.specs.Prelude.{nat_lt, nat_le, ◌==◌, option_map}
use Rattle.std.specs.List.{list_all}
use Rattle.std.specs.Option.{option_map_or}
use Rattle.std.proofs.lemmas.Bool.{and_parts, eqb-true, ltb-true, leb-true}
use Rattle.std.proofs.lemmas.List.{append-nil}
use Rattle.std.proofs.lemmas.Option.{slice_get-map, slice_get-get_or, same_Some}
use Rattle.bv_terms.specs.declared.op.Op.{Op}
use Rattle.bv_terms.specs.declared.op.Op.TheVariants as op
use Rattle.bv_terms.specs.declared.op.TermId.{TermId}
use Rattle.bv_terms.specs.declared.value.Sort.{Sort}
use Rattle.bv_terms.specs.declared.value.Sort.TheVariants as sort
use Rattle.bv_terms.specs.declared.value.Value.{Value}
use Rattle.bv_terms.specs.Term.{Term, Operands, Apply, End, Then, value}
use Rattle.bv_terms.specs.Sorts.{same_sort, HaveSorts}
use Rattle.bv_terms.specs.WellSorted.{sort_of, InputFits, InputsFit, AllInputsFit}
use Rattle.bv_terms.specs.Table.{Table, terms_of, term_in, term_at}
use Rattle.bv_terms.proofs.SignatureLemmas.{same_sort-true}
use Rattle.bv_terms.proofs.TermLemmas.{HaveSorts-at}
use Rattle.isel_spec.specs.declared.definitions.OpDef.{OpDef}
use Rattle.isel_spec.specs.declared.definitions.GoalDef.{GoalDef}
use Rattle.isel_spec.specs.declared.spec.Spec.{Spec}
use Rattle.isel_spec.specs.File.{Goal, operation, goal, scope, is_in_scope, stays_in, all_stay_in, are_sound}
use Rattle.isel_spec.specs.File.{is_between, is_sound, is_sound_op, is_sound_goal, results_in, has_sound_results}
use Rattle.isel_spec.specs.File.{is_sized, has_kind, sorts_in, is_short_name, differ, all_names}
use Rattle.isel_spec.specs.Memory.{subterm_count, has_memory_shape, has_plain_pointers, accessed_bytes}
use Rattle.isel_spec.specs.Spec.{file}
use Rattle.list_lemmas.proofs.Lookups.{list_all_at}

-- ---- the parts of the test

-- a sound operation has at most four arguments, one to three results, and results of its own inputs: they have at most
-- 256 different terms, and their memory is one chain
pub record IsSoundOp (table : Table) (e : List ℕ × OpDef) : Type 0 where
  pub few : length e.1.args ≤ 4
  pub few_attrs : length e.1.attrs ≤ 2
  pub some : 1 ≤ length e.1.results
  pub most : length e.1.results ≤ 3
  pub sized : list_all is_sized e.1.args ≡ true
  pub attrs : list_all (is_between 1 64) e.1.attrs ≡ true
  pub results : are_sound table (scope e.1) e.1.results ≡ true
  pub terms : subterm_count (results_in table e.1.results) ≤ 256
  pub memory : has_memory_shape e.1.args (results_in table e.1.results) ≡ true

-- and so has a sound goal, whose pointers depend on no load, and which accesses at most 32 bytes
pub record IsSoundGoal (table : Table) (e : List ℕ × GoalDef) : Type 0 where
  pub few : length e.1.args ≤ 4
  pub some : 1 ≤ length e.1.results
  pub most : length e.1.results ≤ 3
  pub kinds : list_all has_kind e.1.args ≡ true
  pub sized : list_all is_sized (sorts_in e.1.args) ≡ true
  pub cost : e.1.cost ≤ 65535
  pub results : are_sound table (map (λ a. a.1) e.1.args) e.1.results ≡ true
  pub terms : subterm_count (results_in table e.1.results) ≤ 256
  pub memory : has_memory_shape (sorts_in e.1.args) (results_in table e.1.results) ≡ true
  pub pointers : has_plain_pointers (results_in table e.1.results) ≡ true
  pub bytes : accessed_bytes (results_in table e.1.results) ≤ 32

-- the parts of a test on results
record HasResultParts (args : List Sort) (ts : List Term) : Type 0 where
  terms : subterm_count ts ≤ 256
  memory : has_memory_shape args ts ≡ true

result_parts : (args : List Sort) (ts : List Term)
    → (nat_le (subterm_count ts) 256 && has_memory_shape args ts) ≡ true → HasResultParts args ts
result_parts args ts h =
    let parts = and_parts (nat_le (subterm_count ts) 256) (has_memory_shape args ts) h in
    record { terms = leb-true (subterm_count ts) 256 parts.0; memory = parts.1 }

pub sound_op : (table : Table) (e : List ℕ × OpDef) → is_sound_op table e ≡ true → IsSoundOp table e
sound_op table e h =
    let rs = e.1.results in
    let a = nat_le (length e.1.args) 4 in
    let b = nat_le (length e.1.attrs) 2 in
    let n = is_between 1 3 (length rs) in
    let s = list_all is_sized e.1.args in
    let w = list_all (is_between 1 64) e.1.attrs in
    let p = and_parts (a && b && n && s && w && are_sound table (scope e.1) rs) (has_sound_results table e.1.args rs) h
    in
    let q = and_parts (a && b && n && s && w) (are_sound table (scope e.1) rs) p.0 in
    let t = and_parts (a && b && n && s) w q.0 in
    let u = and_parts (a && b && n) s t.0 in
    let m = and_parts (a && b) n u.0 in
    let o = and_parts a b m.0 in
    let l = and_parts (nat_le 1 (length rs)) (nat_le (length rs) 3) m.1 in
    let parts = result_parts e.1.args (results_in table rs) p.1 in
    record {
      few = leb-true (length e.1.args) 4 o.0;
      few_attrs = leb-true (length e.1.attrs) 2 o.1;
      some = leb-true 1 (length rs) l.0;
      most = leb-true (length rs) 3 l.1;
      sized = u.1;
      attrs = t.1;
      results = q.1;
      terms = parts.terms;
      memory = parts.memory;
    }

-- the parts of the test of a goal
record HasGoalParts (a b c d e f g i j : Bool) : Type 0 where
  first : a ≡ true
  second : b ≡ true
  third : c ≡ true
  fourth : d ≡ true
  fifth : e ≡ true
  sixth : f ≡ true
  seventh : g ≡ true
  eighth : i ≡ true
  ninth : j ≡ true

goal_parts : (a b c d e f g i j : Bool) → (a && b && c && d && e && f && g && i && j) ≡ true
    → HasGoalParts a b c d e f g i j
goal_parts a b c d e f g i j h =
    let p = and_parts (a && b && c && d && e && f && g && i) j h in
    let q = and_parts (a && b && c && d && e && f && g) i p.0 in
    let r = and_parts (a && b && c && d && e && f) g q.0 in
    let s = and_parts (a && b && c && d && e) f r.0 in
    let t = and_parts (a && b && c && d) e s.0 in
    let u = and_parts (a && b && c) d t.0 in
    let v = and_parts (a && b) c u.0 in
    let w = and_parts a b v.0 in
    record {
      first = w.0;
      second = w.1;
      third = v.1;
      fourth = u.1;
      fifth = t.1;
      sixth = s.1;
      seventh = r.1;
      eighth = q.1;
      ninth = p.1;
    }

pub sound_goal : (table : Table) (e : List ℕ × GoalDef) → is_sound_goal table e ≡ true → IsSoundGoal table e
sound_goal table e h =
    let rs = e.1.results in
    let ss : List Sort = sorts_in e.1.args in
    let k = goal_parts (nat_le (length e.1.args) 4) (is_between 1 3 (length rs)) (list_all has_kind e.1.args)
    (list_all is_sized ss) (nat_le e.1.cost 65535) (are_sound table ss rs) (has_sound_results table ss rs)
    (has_plain_pointers (results_in table rs)) (nat_le (accessed_bytes (results_in table rs)) 32) h in
    let l = and_parts (nat_le 1 (length rs)) (nat_le (length rs) 3) k.second in
    let parts = result_parts ss (results_in table rs) k.seventh in
    record {
      few = leb-true (length e.1.args) 4 k.first;
      some = leb-true 1 (length rs) l.0;
      most = leb-true (length rs) 3 l.1;
      kinds = k.third;
      sized = k.fourth;
      cost = leb-true e.1.cost 65535 k.fifth;
      results = k.sixth;
      terms = parts.terms;
      memory = parts.memory;
      pointers = k.eighth;
      bytes = leb-true (accessed_bytes (results_in table rs)) 32 k.ninth;
    }

-- the test of a whole file, apart
pub record IsSoundFile (p : ℕ) (table : Table) (os : List (List ℕ × OpDef))
    (gs : List (List ℕ × GoalDef)) : Type 0 where
  pub pointer : p ≡ table.pointer
  pub few : length os ≤ 64
  pub few_goals : length gs ≤ 256
  pub short : list_all is_short_name (all_names os gs) ≡ true
  pub apart : differ (all_names os gs) ≡ true
  pub ops : list_all (is_sound_op table) os ≡ true
  pub goals : list_all (is_sound_goal table) gs ≡ true

pub sound_file : (pointer : ℕ) (table : Table) (ops : List (List ℕ × OpDef)) (goals : List (List ℕ × GoalDef))
    → is_sound pointer table ops goals ≡ true → IsSoundFile pointer table ops goals
sound_file pointer table ops goals h =
    let w = pointer == table.pointer in
    let o = nat_le (length ops) 64 in
    let g = nat_le (length goals) 256 in
    let n = list_all is_short_name (all_names ops goals) in
    let d = differ (all_names ops goals) in
    let os = list_all (is_sound_op table) ops in
    let gs = list_all (is_sound_goal table) goals in
    let p = and_parts (w && o && g && n && d && os) gs h in
    let q = and_parts (w && o && g && n && d) os p.0 in
    let r = and_parts (w && o && g && n) d q.0 in
    let t = and_parts (w && o && g) n r.0 in
    let u = and_parts (w && o) g t.0 in
    let l = and_parts w o u.0 in
    record {
      pointer = eqb-true pointer table.pointer l.0;
      few = leb-true (length ops) 64 l.1;
      few_goals = leb-true (length goals) 256 u.1;
      short = t.1;
      apart = r.1;
      ops = q.1;
      goals = p.1;
    }

pub sound_spec : (s : Spec) → IsSoundFile s.pointer s.terms s.ops s.goals
sound_spec s = sound_file s.pointer s.terms s.ops s.goals s.sound

-- the file's pointers are those of its terms
pub pointer_is : (s : Spec) → s.pointer ≡ s.terms.pointer
pointer_is s = let k = sound_spec s in k.pointer

-- so a term has the same sort in both
pub sort_in_file : (s : Spec) (t : Term) → sort_of s.pointer t ≡ sort_of s.terms.pointer t
sort_in_file s t = ap (λ p. sort_of p t) (pointer_is s)

pub few_ops : (s : Spec) → length s.ops ≤ 64
few_ops s = let k = sound_spec s in k.few

pub few_goals : (s : Spec) → length s.goals ≤ 256
few_goals s = let k = sound_spec s in k.few_goals

-- the names of operations and goals are short, and no two of them are equal
pub names_short : (s : Spec) → list_all is_short_name (all_names s.ops s.goals) ≡ true
names_short s = let k = sound_spec s in k.short

pub names_differ : (s : Spec) → differ (all_names s.ops s.goals) ≡ true
names_differ s = let k = sound_spec s in k.apart

pub IsSoundOp_at : (s : Spec) (k : ℕ) (e : List ℕ × OpDef) → slice_get s.ops k ≡ Some e → IsSoundOp s.terms e
IsSoundOp_at s k e h =
    let t = sound_spec s in
    sound_op s.terms e (list_all_at (is_sound_op s.terms) s.ops k e t.ops h)

pub IsSoundGoal_at : (s : Spec) (k : ℕ) (e : List ℕ × GoalDef) → slice_get s.goals k ≡ Some e → IsSoundGoal s.terms e
IsSoundGoal_at s k e h =
    let t = sound_spec s in
    sound_goal s.terms e (list_all_at (is_sound_goal s.terms) s.goals k e t.goals h)

-- ---- the results of a definition

-- a result that stands in the table, with inputs of these sorts
pub record IsSoundResult (table : Table) (ss : List Sort) (at : TermId) : Type 0 where
  pub there : at.0 < length table.nodes
  pub stays : stays_in ss (term_at table at) ≡ true

pub sound_result : (table : Table) (ss : List Sort) (results : List TermId) (k : ℕ) (at : TermId)
    → are_sound table ss results ≡ true → slice_get results k ≡ Some at → IsSoundResult table ss at
sound_result table ss results k at h e =
    let is_kept : TermId → Bool = λ a. nat_lt a.0 (length table.nodes) && stays_in ss (term_in (terms_of table) a.0) in
    let both = list_all_at is_kept results k at h e in
    let parts = and_parts (nat_lt at.0 (length table.nodes)) (stays_in ss (term_in (terms_of table) at.0)) both in
    record { there = ltb-true at.0 (length table.nodes) parts.0; stays = parts.1 }

pub IsSoundResult-op : (s : Spec) (k : ℕ) (name : List ℕ) (d : OpDef) (results : List TermId) (j : ℕ) (r : TermId)
    → slice_get s.ops k ≡ Some (name, d) → results ≡ d.results → j < length results
    → IsSoundResult s.terms (scope d) (get_or results j r)
IsSoundResult-op s k name d results j r e as' l =
    let all = IsSoundOp_at s k (name, d) e in
    let there = ap (λ xs. slice_get xs j) (sym as') ∙ slice_get-get_or results j r l in
    sound_result s.terms (scope d) d.results j (get_or results j r) all.results there

pub IsSoundResult-goal : (s : Spec) (k : ℕ) (name : List ℕ) (d : GoalDef) (results : List TermId) (j : ℕ) (r : TermId)
    → slice_get s.goals k ≡ Some (name, d) → results ≡ d.results → j < length results
    → IsSoundResult s.terms (map (λ a. a.1) d.args) (get_or results j r)
IsSoundResult-goal s k name d results j r e as' l =
    let all = IsSoundGoal_at s k (name, d) e in
    let there = ap (λ xs. slice_get xs j) (sym as') ∙ slice_get-get_or results j r l in
    sound_result s.terms (map (λ a. a.1) d.args) d.results j (get_or results j r) all.results there

-- an operation without attributes has its arguments as the inputs of its results
pub scope_bare : (d : OpDef) → d.attrs ≡ [] → scope d ≡ d.args
scope_bare d e = ap (λ ws. d.args ++ map (λ w. sort.Bits w) ws) e ∙ append-nil d.args

-- ---- the goal and the operation of a file in the place of a definition

pub operation_is : (s : Spec) (k : ℕ) (name : List ℕ) (d : OpDef) → slice_get s.ops k ≡ Some (name, d)
    → slice_get (file s).ops k ≡ Some (operation s.terms (name, d))
operation_is s k name d e = slice_get-map (operation s.terms) s.ops k ∙ ap (option_map (operation s.terms)) e

pub goal_there : (s : Spec) (k : ℕ) (name : List ℕ) (d : GoalDef) → slice_get s.goals k ≡ Some (name, d)
    → slice_get (file s).goals k ≡ Some (goal s.terms (name, d))
goal_there s k name d e = slice_get-map (goal s.terms) s.goals k ∙ ap (option_map (goal s.terms)) e

pub goal_is : (s : Spec) (k : ℕ) (name : List ℕ) (d : GoalDef) (g : Goal) → slice_get s.goals k ≡ Some (name, d)
    → slice_get (file s).goals k ≡ Some g → g ≡ goal s.terms (name, d)
goal_is s k name d g e h = same_Some g (goal s.terms (name, d)) (sym h ∙ goal_there s k name d e)

-- ---- the inputs of a term

stays_at : (s : Sort) (o : Option Sort) → option_map_or (same_sort s) o false ≡ true → o ≡ Some s
stays_at s None h = cc
stays_at s (Some t) h = ap Some (sym (same_sort-true s t h))

InputFits-from_sorts : (ss : List Sort) (vs : List Value) → HaveSorts ss vs → (o : Op) → is_in_scope ss o ≡ true
    → InputFits vs o
InputFits-from_sorts ss vs h (op.Input k s) e = HaveSorts-at ss vs h k s (stays_at s (slice_get ss k) e)
InputFits-from_sorts ss vs h o e = tt

mutual
  unfolding stays_in InputsFit

  pub InputsFit-from_sorts : (ss : List Sort) (vs : List Value) → HaveSorts ss vs → (t : Term) → stays_in ss t ≡ true
      → InputsFit vs t
  InputsFit-from_sorts ss vs h (Apply o ts) e =
      let parts = and_parts (is_in_scope ss o) (all_stay_in ss ts) e in
      (InputFits-from_sorts ss vs h o parts.0, AllInputsFit-from_sorts ss vs h ts parts.1)

  pub AllInputsFit-from_sorts : (ss : List Sort) (vs : List Value) → HaveSorts ss vs → (ts : Operands)
      → all_stay_in ss ts ≡ true → AllInputsFit vs ts
  AllInputsFit-from_sorts ss vs h End e = tt
  AllInputsFit-from_sorts ss vs h (Then t ts) e =
      let parts = and_parts (stays_in ss t) (all_stay_in ss ts) e in
      (InputsFit-from_sorts ss vs h t parts.0, AllInputsFit-from_sorts ss vs h ts parts.1)

-- ---- what a definition's results give

-- results that stand in a table, whose inputs have values
pub record CanEval (table : Table) (inputs : List Value) (results : List TermId) : Type 0 where
  pub there : All (λ (at : TermId). at.0 < length table.nodes) results
  pub fit : All (λ (at : TermId). InputsFit inputs (term_at table at)) results

can_eval : (table : Table) (ss : List Sort) (inputs : List Value) (results : List TermId)
    → ((j : ℕ) (r : TermId) → j < length results → IsSoundResult table ss (get_or results j r)) → HaveSorts ss inputs
    → CanEval table inputs results
can_eval table ss inputs results sound h = record {
  there = λ j r l. let x = sound j r l in x.there;
  fit = λ j r l. let x = sound j r l in InputsFit-from_sorts ss inputs h (term_at table (get_or results j r)) x.stays;
}

pub CanEval-op : (s : Spec) (k : ℕ) (name : List ℕ) (d : OpDef) (results : List TermId) (inputs : List Value)
    → slice_get s.ops k ≡ Some (name, d) → results ≡ d.results → HaveSorts (scope d) inputs
    → CanEval s.terms inputs results
CanEval-op s k name d results inputs e as' h =
    can_eval s.terms (scope d) inputs results (λ j r l. IsSoundResult-op s k name d results j r e as' l) h

pub CanEval-goal : (s : Spec) (k : ℕ) (name : List ℕ) (d : GoalDef) (results : List TermId)
    (inputs values : List Value) → slice_get s.goals k ≡ Some (name, d) → results ≡ d.results → values ≡ inputs
    → ((g : Goal) → slice_get (file s).goals k ≡ Some g → HaveSorts g.args inputs) → CanEval s.terms values results
CanEval-goal s k name d results inputs values e as' same h =
    let sorts : List Sort = map (λ a. a.1) d.args in
    let fit = subst (HaveSorts sorts) (sym same) (h (goal s.terms (name, d)) (goal_there s k name d e)) in
    can_eval s.terms sorts values results (λ j r l. IsSoundResult-goal s k name d results j r e as' l) fit

values-map : (ts : List Term) (vs : List Value) (ats : List TermId)
    → map (value vs) (map (λ (at : TermId). term_in ts at.0) ats)
    ≡ map (λ (at : TermId). value vs (term_in ts at.0)) ats
values-map ts vs [] = refl
values-map ts vs (at ∷ ats) = ap (λ xs. value vs (term_in ts at.0) ∷ xs) (values-map ts vs ats)

pub goal_values : (s : Spec) (k : ℕ) (name : List ℕ) (d : GoalDef) (g : Goal) (results : List TermId)
    (inputs values : List Value) → slice_get s.goals k ≡ Some (name, d) → slice_get (file s).goals k ≡ Some g
    → results ≡ d.results → values ≡ inputs
    → map (λ (at : TermId). value values (term_at s.terms at)) results ≡ map (value inputs) g.results
goal_values s k name d g results inputs values e h as' same =
    (λ i. map (λ (at : TermId). value (same i) (term_at s.terms at)) (as' i))
    ∙ sym (values-map (terms_of s.terms) inputs d.results)
    ∙ ap (λ (x : Goal). map (value inputs) x.results) (sym (goal_is s k name d g e h))
