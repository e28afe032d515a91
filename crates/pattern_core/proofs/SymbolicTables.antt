-- Nodes of a growing table for the terms of patterns and goals.
use Rattle.std.proofs.Common.{◌≡◌, ℕ, zero, suc, ◌+◌, ◌<◌, ◌≤◌, List, [], ◌∷◌, ◌++◌, length, map, drop, get_or, min}
use Rattle.std.proofs.Common.{Some, slice_get, unwrap_or, option_map, All, refl, sym, ap, ◌∙◌, subst, arith}
use Rattle.std.proofs.Common.{append_assoc, true, false}
use Rattle.std.specs.Prelude.{IsSome}
use Rattle.std.specs.List.{list_all, AllByRecursion}
use Rattle.std.proofs.lemmas.List.{append-nil, length-map, length_push, at_drop_all, drop_more}
use Rattle.std.proofs.lemmas.List.Elements.{recursion_from_All, All-from_recursion, All-weaker, All-push}
use Rattle.std.proofs.lemmas.Option.{slice_get_within, same_Some}
use Rattle.bv_terms.specs.declared.op.Op.TheVariants as op
use Rattle.bv_terms.specs.declared.op.TermId.{TermId}
use Rattle.bv_terms.specs.declared.value.Sort.{Sort}
use Rattle.bv_terms.specs.declared.value.Sort.TheVariants as sort
use Rattle.bv_terms.specs.Term.{Term, Apply, End}
use Rattle.bv_terms.specs.WellSorted.{sort_of}
use Rattle.bv_terms.specs.Table.{Table, terms_of, term_in, term_at, Extends, IsTable}
use Rattle.bv_terms.specs.Replaced.{replaced, ReplacementsFit}
use Rattle.bv_terms.proofs.GraftLemmas.{Extends-itself, Extends-further, Extends-longer, Extends-terms}
use Rattle.isel_spec.specs.declared.definitions.OpDef.{OpDef}
use Rattle.isel_spec.specs.declared.definitions.GoalDef.{GoalDef}
use Rattle.isel_spec.specs.declared.spec.Spec.{Spec}
use Rattle.isel_spec.specs.File.{Operation, Goal, operation, goal, scope, is_between}
use Rattle.isel_spec.specs.Spec.{file}
use Rattle.isel_spec.proofs.SpecLemmas.{pointer_is, operation_is, goal_is, goal_there, IsSoundOp_at, IsSoundResult-op}
use Rattle.isel_spec.proofs.SpecLemmas.{IsSoundResult-goal}
use Rattle.pattern_core.specs.declared.pattern.Src.{Src}
use Rattle.pattern_core.specs.declared.pattern.Src.TheVariants.{Input, Out}
use Rattle.pattern_core.specs.declared.pattern.Node.{Node}
use Rattle.pattern_core.specs.declared.pattern.Pattern.{Pattern}
use Rattle.pattern_core.specs.Pattern.{AreFitting, IsWellFormed}
use Rattle.pattern_core.specs.Rule.{pattern_results, goal_results}
use Rattle.pattern_core.specs.Symbolic.{found, source_term, attr_terms, op_terms, term_outs, pattern_terms, goal_terms}
use Rattle.pattern_core.specs.Symbolic.{AreTermsOver, AreIn, IsNodeReady}
use Rattle.pattern_core.proofs.ThingLemmas.{HasSoundTerms-from_spec}
use Rattle.pattern_core.proofs.EvalLemmas.{some_goal}
use Rattle.pattern_core.proofs.TermLemmas.{over-sorts, ReplacementsFit-from_sorts}
use Rattle.pattern_core.proofs.SymbolicLemmas.{HasSoundParts, found-map, AreSources, have_terms, first-sources}
use Rattle.pattern_core.proofs.SymbolicLemmas.{next-sources, node-over, node-results, results-there, pattern-outs}
use Rattle.pattern_core.proofs.SymbolicLemmas.{pattern-over, goal-over}
use Rattle.list_lemmas.proofs.Lists.{map-push}
use Rattle.list_lemmas.proofs.Lookups.{All-slice_get, mapped_at}
use Rattle.list_lemmas.proofs.Options.{bind_some, option_map-some, the_some, some-is}

-- ---- what a `Spec` keeps

pub HasSoundParts-from_spec : (s : Spec) (k : ℕ) (g : Goal) → IsTable s.terms → slice_get (file s).goals k ≡ Some g
    → HasSoundParts (file s) g
HasSoundParts-from_spec s k g table e = record {
  terms = HasSoundTerms-from_spec s k g table e;
  attrs = λ j o there. (let at = mapped_at (operation s.terms) s.ops j o there in
      let own = IsSoundOp_at s j at.0 at.1 in
      subst (λ (x : Operation). list_all (is_between 1 64) x.attrs ≡ true) at.2 own.attrs);
}

-- ---- tables that grow

pub AreIn-longer : (old new : Table) → Extends old new → (nodes : List TermId) → AreIn old nodes → AreIn new nodes
AreIn-longer old new more nodes within =
    All-weaker (λ (a : TermId). a.0 < length old.nodes) (λ (a : TermId). a.0 < length new.nodes)
    (λ a lt. omega (arith, lt, Extends-longer old new more)) nodes within

pub rows-longer : (old new : Table) → Extends old new → (outs : List (List TermId)) → All (AreIn old) outs
    → All (AreIn new) outs
rows-longer old new more outs within =
    All-weaker (AreIn old) (AreIn new) (λ row h. AreIn-longer old new more row h) outs within

same-rows : (old new : Table) → Extends old new → (outs : List (List TermId)) → AllByRecursion (AreIn old) outs
    → map (map (term_at new)) outs ≡ map (map (term_at old)) outs
same-rows old new more [] within = refl
same-rows old new more (row ∷ outs) within =
    let first = Extends-terms old new more row within.0 in
    let rest = same-rows old new more outs within.1 in
    λ i. first i ∷ rest i

pub Extends-rows : (old new : Table) → Extends old new → (outs : List (List TermId)) → All (AreIn old) outs
    → map (map (term_at new)) outs ≡ map (map (term_at old)) outs
Extends-rows old new more outs within = same-rows old new more outs (recursion_from_All (AreIn old) outs within)

-- ---- what sources name

found-in : (table : Table) (inputs : List TermId) (outs : List (List TermId)) → AreIn table inputs
    → All (AreIn table) outs → (x : Src) (a : TermId) → found inputs outs x ≡ Some a → a.0 < length table.nodes
found-in table inputs outs within rows (Input k) a e =
    All-slice_get (λ (a : TermId). a.0 < length table.nodes) inputs k a within e
found-in table inputs outs within rows (Out node r) a e =
    let row = bind_some (slice_get outs node) (λ (row : List TermId). slice_get row r) a e in
    All-slice_get (λ (a : TermId). a.0 < length table.nodes) row.0 r a
    (All-slice_get (AreIn table) outs node row.0 rows row.1) row.2

abbrev source_at : Table → List TermId → List (List TermId) → Src → Term
source_at table inputs outs x = source_term (map (term_at table) inputs) (map (map (term_at table)) outs) x

found-all : (table : Table) (inputs : List TermId) (outs : List (List TermId)) → AreIn table inputs
    → All (AreIn table) outs → (xs : List Src) (nodes : List TermId)
    → map (λ (a : TermId). Some a) nodes ≡ map (found inputs outs) xs
    → AllByRecursion (λ (a : TermId). a.0 < length table.nodes) nodes
    × (map (term_at table) nodes ≡ map (source_at table inputs outs) xs)
found-all table inputs outs within rows [] [] e = (tt, refl)
found-all table inputs outs within rows [] (a ∷ nodes) e = absurd (cc)
found-all table inputs outs within rows (x ∷ xs) [] e = absurd (cc)
found-all table inputs outs within rows (x ∷ xs) (a ∷ nodes) e =
    let first : found inputs outs x ≡ Some a = cc in
    let others : map (λ (a : TermId). Some a) nodes ≡ map (found inputs outs) xs = cc in
    let rest = found-all table inputs outs within rows xs nodes others in
    let here : term_at table a ≡ source_at table inputs outs x =
    sym (ap (λ o. unwrap_or o (Apply (op.Bool false) End)) (found-map (term_at table) inputs outs x
    ∙ ap (option_map (term_at table)) first)) in
    ((found-in table inputs outs within rows x a first, rest.0), λ i. here i ∷ rest.1 i)

pub found-within : (table : Table) (inputs : List TermId) (outs : List (List TermId)) → AreIn table inputs
    → All (AreIn table) outs → (xs : List Src) (nodes : List TermId)
    → map (λ (a : TermId). Some a) nodes ≡ map (found inputs outs) xs → AreIn table nodes
found-within table inputs outs within rows xs nodes e =
    let all = found-all table inputs outs within rows xs nodes e in
    All-from_recursion (λ (a : TermId). a.0 < length table.nodes) nodes all.0

pub found-terms : (table : Table) (inputs : List TermId) (outs : List (List TermId)) → AreIn table inputs
    → All (AreIn table) outs → (xs : List Src) (nodes : List TermId)
    → map (λ (a : TermId). Some a) nodes ≡ map (found inputs outs) xs
    → map (term_at table) nodes ≡ map (source_term (map (term_at table) inputs) (map (map (term_at table)) outs)) xs
found-terms table inputs outs within rows xs nodes e =
    let all = found-all table inputs outs within rows xs nodes e in all.1

-- a source that names a term names its node
named-node : (table : Table) (inputs : List TermId) (outs : List (List TermId)) (x : Src)
    → IsSome (found (map (term_at table) inputs) (map (map (term_at table)) outs) x) → IsSome (found inputs outs x)
named-node table inputs outs x h =
    let t = the_some _ h in
    let a = option_map-some (term_at table) (found inputs outs x) t.0
    (sym (found-map (term_at table) inputs outs x) ∙ t.1) in
    some-is (found inputs outs x) a.0 a.1

named-each : (table : Table) (inputs : List TermId) (outs : List (List TermId)) (xs : List Src)
    → AllByRecursion (λ (x : Src). IsSome (found (map (term_at table) inputs) (map (map (term_at table)) outs) x)) xs
    → AllByRecursion (λ (x : Src). IsSome (found inputs outs x)) xs
named-each table inputs outs [] all = tt
named-each table inputs outs (x ∷ xs) all =
    (named-node table inputs outs x all.0, named-each table inputs outs xs all.1)

pub named-nodes : (table : Table) (inputs : List TermId) (outs : List (List TermId)) (xs : List Src)
    → AllByRecursion (λ (x : Src). IsSome (found (map (term_at table) inputs) (map (map (term_at table)) outs) x)) xs
    → All (λ (x : Src). IsSome (found inputs outs x)) xs
named-nodes table inputs outs xs all =
    All-from_recursion (λ (x : Src). IsSome (found inputs outs x)) xs (named-each table inputs outs xs all)

-- ---- attributes

attr_terms-suc : (ws ns : List ℕ) (i d e : ℕ) → i < length ws → i < length ns
    → attr_terms (drop i ws) (drop i ns)
    ≡ Apply (op.Bits (get_or ws i d) (get_or ns i e)) End ∷ attr_terms (drop (suc i) ws) (drop (suc i) ns)
attr_terms-suc [] ns i d e l k = absurd (omega (arith, l))
attr_terms-suc (w ∷ ws) [] i d e l k = absurd (omega (arith, k))
attr_terms-suc (w ∷ ws) (n ∷ ns) zero d e l k = refl
attr_terms-suc (w ∷ ws) (n ∷ ns) (suc i) d e l k = attr_terms-suc ws ns i d e (omega (arith, l)) (omega (arith, k))

attr_terms-end : (ws ns : List ℕ) (i : ℕ) → i ≡ min (length ws) (length ns) → attr_terms (drop i ws) (drop i ns) ≡ []
attr_terms-end [] [] zero e = refl
attr_terms-end [] (n ∷ ns) zero e = refl
attr_terms-end (w ∷ ws) [] zero e = refl
attr_terms-end (w ∷ ws) (n ∷ ns) zero e = absurd (omega (arith, e))
attr_terms-end [] ns (suc i) e = absurd (omega (arith, e))
attr_terms-end (w ∷ ws) [] (suc i) e = absurd (omega (arith, e))
attr_terms-end (w ∷ ws) (n ∷ ns) (suc i) e = attr_terms-end ws ns i (omega (arith, e))

-- nodes of a table that extends an older one: those that were there, and the attributes before a place
pub record AreConstants (old table : Table) (start made : List TermId) (ws ns : List ℕ) (place : ℕ) : Type 0 where
  pub is_table : IsTable table
  pub extends : Extends old table
  pub within : AreIn table made
  pub terms : map (term_at table) made ++ attr_terms (drop place ws) (drop place ns)
      ≡ map (term_at old) start ++ attr_terms ws ns

pub AreConstants-none : (old : Table) (start : List TermId) (ws ns : List ℕ) → IsTable old → AreIn old start
    → AreConstants old old start start ws ns 0
AreConstants-none old start ws ns is within =
    record { is_table = is; extends = Extends-itself old; within = within; terms = refl }

pub AreConstants-more : (old table new : Table) (start made more : List TermId) (ws ns : List ℕ) (place d e : ℕ)
    (id : TermId) → AreConstants old table start made ws ns place → place < length ws → place < length ns
    → IsTable new → Extends table new → id.0 < length new.nodes
    → term_at new id ≡ Apply (op.Bits (get_or ws place d) (get_or ns place e)) End → more ≡ made ++ id ∷ []
    → AreConstants old new start more ws ns (place + 1)
AreConstants-more old table new start made more ws ns place d e id h l k is grows within term pushed =
    let n : suc place ≡ place + 1 = omega arith in
    let t : Term = Apply (op.Bits (get_or ws place d) (get_or ns place e)) End in
    let rest : List Term = attr_terms (drop (place + 1) ws) (drop (place + 1) ns) in
    let step : attr_terms (drop place ws) (drop place ns) ≡ t ∷ rest =
    subst (λ m. attr_terms (drop place ws) (drop place ns) ≡ t ∷ attr_terms (drop m ws) (drop m ns)) n
    (attr_terms-suc ws ns place d e l k) in
    let old_terms = Extends-terms table new grows made h.within in
    let made_terms : map (term_at new) more ≡ map (term_at table) made ++ t ∷ [] =
    ap (map (term_at new)) pushed ∙ map-push (term_at new) made id
    ∙ (λ i. old_terms i ++ term i ∷ []) in
    record {
      is_table = is;
      extends = Extends-further old table new h.extends grows;
      within = subst (AreIn new) (sym pushed)
          (All-push (λ (a : TermId). a.0 < length new.nodes) made id (AreIn-longer table new grows made h.within)
          within);
      terms = ap (λ ts. ts ++ rest) made_terms ∙ append_assoc (map (term_at table) made) (t ∷ []) rest
          ∙ ap (λ ts. map (term_at table) made ++ ts) (sym step) ∙ h.terms;
    }

pub AreConstants-all : (old table : Table) (start made : List TermId) (ws ns : List ℕ) (place : ℕ)
    → AreConstants old table start made ws ns place → place ≡ min (length ws) (length ns)
    → map (term_at table) made ≡ map (term_at old) start ++ attr_terms ws ns
AreConstants-all old table start made ws ns place h e =
    sym (append-nil (map (term_at table) made))
    ∙ ap (λ ts. map (term_at table) made ++ ts) (sym (attr_terms-end ws ns place e)) ∙ h.terms

-- ---- the results of a node

-- nodes of a table for the terms of an operation's inputs
pub record AreGiven (s : Spec) (n : Node) (old table : Table) (inputs : List TermId) (outs : List (List TermId))
    (d : OpDef) (given : List TermId) : Type 0 where
  pub ready : IsNodeReady s n old inputs outs
  pub extends : Extends old table
  pub terms : map (term_at table) given
      ≡ map (source_term (map (term_at old) inputs) (map (map (term_at old)) outs)) n.args
      ++ attr_terms d.attrs n.attrs

pub given-pointer : (s : Spec) (n : Node) (old table : Table) (inputs : List TermId) (outs : List (List TermId))
    (d : OpDef) (given : List TermId) → AreGiven s n old table inputs outs d given → s.terms.pointer ≡ table.pointer
given-pointer s n old table inputs outs d given h = h.ready.pointer ∙ sym h.extends.pointer

pub given-fit : (s : Spec) (n : Node) (old table : Table) (inputs : List TermId) (outs : List (List TermId))
    (name : List ℕ) (d : OpDef) (given results : List TermId) (k : ℕ) → AreGiven s n old table inputs outs d given
    → k ≡ n.op → slice_get s.ops k ≡ Some (name, d) → results ≡ d.results
    → All (λ (a : TermId). ReplacementsFit table.pointer (map (term_at table) given) (term_at s.terms a)) results
given-fit s n old table inputs outs name d given results k h same e as' =
    let at : slice_get s.ops n.op ≡ Some (name, d) = ap (slice_get s.ops) (sym same) ∙ e in
    let sorts : map (sort_of table.pointer) (map (term_at table) given) ≡ map (λ (x : Sort). Some x) (scope d) =
    (λ i. map (sort_of (h.extends.pointer i)) (h.terms i)) ∙ h.ready.sorted name d at in
    λ j r l. let own = IsSoundResult-op s k name d results j r e as' l in
    ReplacementsFit-from_sorts table.pointer (scope d) (map (term_at table) given) sorts
    (term_at s.terms (get_or results j r)) own.stays

pub results-in : (s : Spec) (name : List ℕ) (d : OpDef) (results : List TermId) (k : ℕ)
    → slice_get s.ops k ≡ Some (name, d) → results ≡ d.results → AreIn s.terms results
results-in s name d results k e as' = λ j r l. let own = IsSoundResult-op s k name d results j r e as' l in own.there

replaced-map : (us ts : List Term) (ats : List TermId)
    → map (λ (a : TermId). replaced us (term_in ts a.0)) ats
    ≡ map (replaced us) (map (λ (a : TermId). term_in ts a.0) ats)
replaced-map us ts [] = refl
replaced-map us ts (a ∷ ats) = ap (λ xs. replaced us (term_in ts a.0) ∷ xs) (replaced-map us ts ats)

pub given-results : (s : Spec) (n : Node) (old table : Table) (inputs : List TermId) (outs : List (List TermId))
    (name : List ℕ) (d : OpDef) (given results : List TermId) (k : ℕ) → AreGiven s n old table inputs outs d given
    → k ≡ n.op → slice_get s.ops k ≡ Some (name, d) → results ≡ d.results
    → map (λ (a : TermId). replaced (map (term_at table) given) (term_at s.terms a)) results
    ≡ op_terms (slice_get (file s).ops n.op) n.attrs
    (map (source_term (map (term_at old) inputs) (map (map (term_at old)) outs)) n.args)
given-results s n old table inputs outs name d given results k h same e as' =
    let at : slice_get s.ops n.op ≡ Some (name, d) = ap (slice_get s.ops) (sym same) ∙ e in
    let args : List Term = map (source_term (map (term_at old) inputs) (map (map (term_at old)) outs)) n.args in
    (λ i. map (λ (a : TermId). replaced (h.terms i) (term_at s.terms a)) (as' i))
    ∙ replaced-map (args ++ attr_terms d.attrs n.attrs) (terms_of s.terms) d.results
    ∙ ap (λ o. op_terms o n.attrs args) (sym (operation_is s n.op name d at))

-- ---- nodes, one by one

-- the terms of a pattern's nodes before a place, in a table that extends an older one
pub record AreMade (s : Spec) (goal_at : ℕ) (nodes : List Node) (old table : Table) (inputs : List TermId)
    (outs : List (List TermId)) (place : ℕ) : Type 0 where
  pub is_table : IsTable table
  pub extends : Extends old table
  pub within : All (AreIn table) outs
  pub so_far : term_outs (file s) (map (term_at old) inputs) (map (map (term_at table)) outs) (drop place nodes)
      ≡ term_outs (file s) (map (term_at old) inputs) [] nodes
  pub long : length outs ≡ place
  pub sources : (g : Goal) → slice_get (file s).goals goal_at ≡ Some g
      → AreSources (file s) g nodes place (map (term_at old) inputs) (map (map (term_at table)) outs)

-- what a walk over a pattern's nodes begins with
pub record CanMake (s : Spec) (goal_at : ℕ) (nodes : List Node) (old : Table) (inputs : List TermId) : Type 0 where
  pub is_table : IsTable old
  pub is_other : IsTable s.terms
  pub there : goal_at < length s.goals
  pub fitting : (g : Goal) → slice_get (file s).goals goal_at ≡ Some g → AreFitting (file s) g nodes
  pub pointer : old.pointer ≡ s.pointer
  pub within : AreIn old inputs
  pub sorts : (g : Goal) → slice_get (file s).goals goal_at ≡ Some g
      → map (sort_of old.pointer) (map (term_at old) inputs) ≡ map (λ (x : Sort). Some x) g.args

pub AreMade-none : (s : Spec) (goal_at : ℕ) (nodes : List Node) (old : Table) (inputs : List TermId)
    (outs : List (List TermId)) → CanMake s goal_at nodes old inputs → outs ≡ []
    → AreMade s goal_at nodes old old inputs outs 0
AreMade-none s goal_at nodes old inputs outs can e =
    subst (λ os. AreMade s goal_at nodes old old inputs os 0) (sym e) (record {
      is_table = can.is_table;
      extends = Extends-itself old;
      within = λ k d l. absurd (omega (arith, l));
      so_far = refl;
      long = refl;
      sources =
          λ g h. first-sources (file s) g nodes (map (term_at old) inputs)
          (ap (λ p. map (sort_of p) (map (term_at old) inputs)) (sym can.pointer) ∙ can.sorts g h);
    })

pub AreMade-ready : (s : Spec) (goal_at : ℕ) (nodes : List Node) (old table : Table) (inputs : List TermId)
    (outs : List (List TermId)) (place : ℕ) (n : Node) → CanMake s goal_at nodes old inputs
    → AreMade s goal_at nodes old table inputs outs place → slice_get nodes place ≡ Some n
    → IsNodeReady s n table inputs outs
AreMade-ready s goal_at nodes old table inputs outs place n can made at =
    let f = file s in
    let some = some_goal s goal_at can.there in
    let g : Goal = some.0 in
    let fit = can.fitting g some.1 place n at in
    let ins : List Term = map (term_at old) inputs in
    let rows : List (List Term) = map (map (term_at table)) outs in
    let same_ins : map (term_at table) inputs ≡ ins = Extends-terms old table made.extends inputs can.within in
    let sound = HasSoundParts-from_spec s goal_at g can.is_other some.1 in
    let pointer : table.pointer ≡ s.pointer = made.extends.pointer ∙ can.pointer in
    let l : n.op < length (map (operation s.terms) s.ops) =
    slice_get_within (map (operation s.terms) s.ops) n.op fit.operation fit.in_file in
    let have = have_terms f g nodes place ins rows (made.sources g some.1) n.args fit.operation.args fit.args in
    record {
      there = subst (λ m. n.op < m) (length-map s.ops (operation s.terms)) l;
      pointer = sym (pointer_is s) ∙ sym pointer;
      within = AreIn-longer old table made.extends inputs can.within;
      outs_within = made.within;
      sources = named-nodes table inputs outs n.args
          (subst (λ us. AllByRecursion (λ (x : Src). IsSome (found us rows x)) n.args) (sym same_ins) have.there);
      sorted = λ name d e. (let o : Operation = operation s.terms (name, d) in
          let there : slice_get f.ops n.op ≡ Some o = operation_is s n.op name d e in
          let same : fit.operation ≡ o = same_Some fit.operation o (sym fit.in_file ∙ there) in
          let over = subst (λ (x : Operation). map (sort_of f.pointer)
          (map (source_term ins rows) n.args ++ attr_terms x.attrs n.attrs)
          ≡ map (λ (y : Sort). Some y) (x.args ++ map (λ w. sort.Bits w) x.attrs)) same
          (over-sorts f.pointer ins (fit.operation.args ++ map (λ w. sort.Bits w) fit.operation.attrs)
          (map (source_term ins rows) n.args ++ attr_terms fit.operation.attrs n.attrs)
          (node-over f g sound nodes place n fit.operation ins rows (made.sources g some.1) fit.in_file fit.attrs
          fit.args)) in
          (λ i. map (sort_of (pointer i))
          (map (source_term (same_ins i) rows) n.args ++ attr_terms d.attrs n.attrs)) ∙ over);
    }

pub AreMade-more : (s : Spec) (goal_at : ℕ) (nodes : List Node) (old table new : Table) (inputs : List TermId)
    (outs more : List (List TermId)) (place : ℕ) (n : Node) (row : List TermId) → CanMake s goal_at nodes old inputs
    → AreMade s goal_at nodes old table inputs outs place → slice_get nodes place ≡ Some n → place < length nodes
    → n ≡ get_or nodes place n → IsTable new → Extends table new → AreIn new row
    → map (term_at new) row ≡ op_terms (slice_get (file s).ops n.op) n.attrs
    (map (source_term (map (term_at table) inputs) (map (map (term_at table)) outs)) n.args)
    → more ≡ outs ++ row ∷ [] → AreMade s goal_at nodes old new inputs more (place + 1)
AreMade-more s goal_at nodes old table new inputs outs more place n row can made at l item is grows within terms
    pushed =
    let f = file s in
    let some = some_goal s goal_at can.there in
    let ins : List Term = map (term_at old) inputs in
    let rows : List (List Term) = map (map (term_at table)) outs in
    let same_ins : map (term_at table) inputs ≡ ins = Extends-terms old table made.extends inputs can.within in
    let results : List Term = op_terms (slice_get f.ops n.op) n.attrs (map (source_term ins rows) n.args) in
    let row_is : map (term_at new) row ≡ results =
    terms ∙ ap (λ us. op_terms (slice_get f.ops n.op) n.attrs (map (source_term us rows) n.args)) same_ins in
    let kept = Extends-rows table new grows outs made.within in
    let rows_are : map (map (term_at new)) more ≡ rows ++ results ∷ [] =
    ap (map (map (term_at new))) pushed ∙ map-push (map (term_at new)) outs row
    ∙ (λ i. kept i ++ row_is i ∷ []) in
    let front : drop place nodes ≡ n ∷ drop (place + 1) nodes =
    drop_more nodes place n l ∙ ap (λ x. x ∷ drop (place + 1) nodes) (sym item) in
    record {
      is_table = is;
      extends = Extends-further old table new made.extends grows;
      within = subst (All (AreIn new)) (sym pushed)
          (All-push (AreIn new) outs row (rows-longer table new grows outs made.within) within);
      so_far = ap (λ os. term_outs f ins os (drop (place + 1) nodes)) rows_are
          ∙ sym (ap (term_outs f ins rows) front) ∙ made.so_far;
      long = ap length pushed ∙ length_push outs row ∙ ap (λ m. m + 1) made.long;
      sources = λ g h. (let sound = HasSoundParts-from_spec s goal_at g can.is_other h in
          let here = node-results f g sound nodes place n ins rows (can.fitting g h) at (made.sources g h) in
          subst (AreSources f g nodes (place + 1) ins) (sym rows_are)
          (next-sources f g nodes place ins rows results n
          (length-map outs (map (term_at table)) ∙ made.long) at (made.sources g h) here.results));
    }

pub AreMade-all : (s : Spec) (goal_at : ℕ) (nodes : List Node) (old table : Table) (inputs : List TermId)
    (outs : List (List TermId)) (place : ℕ) → AreMade s goal_at nodes old table inputs outs place
    → length nodes ≤ place
    → map (map (term_at table)) outs ≡ term_outs (file s) (map (term_at old) inputs) [] nodes
AreMade-all s goal_at nodes old table inputs outs place made l =
    sym (at_drop_all (term_outs (file s) (map (term_at old) inputs) (map (map (term_at table)) outs)) nodes place l)
    ∙ made.so_far

-- ---- results

-- the nodes of a pattern's operations' results, in a table that extends an older one
pub record HasMade (s : Spec) (goal_at : ℕ) (p : Pattern) (old table : Table) (inputs : List TermId)
    (outs : List (List TermId)) : Type 0 where
  pub can : CanMake s goal_at p.nodes old inputs
  pub well_formed : (g : Goal) → slice_get (file s).goals goal_at ≡ Some g → IsWellFormed (file s) g p
  pub extends : Extends old table
  pub within : All (AreIn table) outs
  pub rows : map (map (term_at table)) outs ≡ term_outs (file s) (map (term_at old) inputs) [] p.nodes

made-sorts : (s : Spec) (goal_at : ℕ) (nodes : List Node) (old : Table) (inputs : List TermId) (g : Goal)
    → CanMake s goal_at nodes old inputs → slice_get (file s).goals goal_at ≡ Some g
    → map (sort_of s.pointer) (map (term_at old) inputs) ≡ map (λ (x : Sort). Some x) g.args
made-sorts s goal_at nodes old inputs g can h =
    ap (λ p. map (sort_of p) (map (term_at old) inputs)) (sym can.pointer) ∙ can.sorts g h

pub made-sources : (s : Spec) (goal_at : ℕ) (p : Pattern) (old table : Table) (inputs : List TermId)
    (outs : List (List TermId)) → HasMade s goal_at p old table inputs outs
    → All (λ (x : Src). IsSome (found inputs outs x)) p.results
made-sources s goal_at p old table inputs outs h =
    let f = file s in
    let some = some_goal s goal_at h.can.there in
    let g : Goal = some.0 in
    let ins : List Term = map (term_at old) inputs in
    let sound = HasSoundParts-from_spec s goal_at g h.can.is_other some.1 in
    let wf = h.well_formed g some.1 in
    let made = pattern-outs f g sound p ins wf (made-sorts s goal_at p.nodes old inputs g h.can some.1) in
    let there = results-there f g sound p ins wf (term_outs f ins [] p.nodes) made.0 in
    let have = there.2 in
    let same_ins : map (term_at table) inputs ≡ ins = Extends-terms old table h.extends inputs h.can.within in
    named-nodes table inputs outs p.results
    (subst (λ os. AllByRecursion (λ (x : Src). IsSome (found (map (term_at table) inputs) os x)) p.results)
    (sym h.rows)
    (subst (λ us. AllByRecursion (λ (x : Src). IsSome (found us (term_outs f ins [] p.nodes) x)) p.results)
    (sym same_ins) have.there))

pub made-within : (s : Spec) (goal_at : ℕ) (p : Pattern) (old table : Table) (inputs : List TermId)
    (outs : List (List TermId)) (nodes : List TermId) → HasMade s goal_at p old table inputs outs
    → map (λ (a : TermId). Some a) nodes ≡ map (found inputs outs) p.results → AreIn table nodes
made-within s goal_at p old table inputs outs nodes h e =
    found-within table inputs outs (AreIn-longer old table h.extends inputs h.can.within) h.within p.results nodes e

pub made-terms : (s : Spec) (goal_at : ℕ) (p : Pattern) (old table : Table) (inputs : List TermId)
    (outs : List (List TermId)) (nodes : List TermId) → HasMade s goal_at p old table inputs outs
    → map (λ (a : TermId). Some a) nodes ≡ map (found inputs outs) p.results
    → map (term_at table) nodes ≡ pattern_terms (file s) p (map (term_at old) inputs)
made-terms s goal_at p old table inputs outs nodes h e =
    let same_ins = Extends-terms old table h.extends inputs h.can.within in
    found-terms table inputs outs (AreIn-longer old table h.extends inputs h.can.within) h.within p.results nodes e
    ∙ (λ i. map (source_term (same_ins i) (h.rows i)) p.results)

pub made-meaning : (s : Spec) (goal_at : ℕ) (p : Pattern) (old table : Table) (inputs : List TermId)
    (outs : List (List TermId)) (nodes : List TermId) (g : Goal) → HasMade s goal_at p old table inputs outs
    → map (λ (a : TermId). Some a) nodes ≡ map (found inputs outs) p.results
    → slice_get (file s).goals goal_at ≡ Some g
    → AreTermsOver old.pointer (map (term_at old) inputs) (map (sort_of old.pointer) g.results)
    (pattern_results (file s) p) (map (term_at table) nodes)
made-meaning s goal_at p old table inputs outs nodes g h e there =
    let sound = HasSoundParts-from_spec s goal_at g h.can.is_other there in
    let ins : List Term = map (term_at old) inputs in
    let over = pattern-over (file s) g sound p ins (h.well_formed g there)
    (made-sorts s goal_at p.nodes old inputs g h.can there) in
    subst (λ q. AreTermsOver q ins (map (sort_of q) g.results) (pattern_results (file s) p) (map (term_at table) nodes))
    (sym h.can.pointer)
    (subst (AreTermsOver s.pointer ins (map (sort_of s.pointer) g.results) (pattern_results (file s) p))
    (sym (made-terms s goal_at p old table inputs outs nodes h e)) over)

-- ---- goals

-- terms of a goal's sorts in place of its inputs
pub record CanPlace (s : Spec) (goal_at : ℕ) (old : Table) (inputs : List TermId) : Type 0 where
  pub is_other : IsTable s.terms
  pub pointer : old.pointer ≡ s.pointer
  pub sorts : (g : Goal) → slice_get (file s).goals goal_at ≡ Some g
      → map (sort_of old.pointer) (map (term_at old) inputs) ≡ map (λ (x : Sort). Some x) g.args

pub goal-fit : (s : Spec) (goal_at : ℕ) (old : Table) (inputs : List TermId) (name : List ℕ) (d : GoalDef)
    (results : List TermId) → CanPlace s goal_at old inputs → slice_get s.goals goal_at ≡ Some (name, d)
    → results ≡ d.results
    → All (λ (a : TermId). ReplacementsFit old.pointer (map (term_at old) inputs) (term_at s.terms a)) results
goal-fit s goal_at old inputs name d results can e as' =
    let sorts = can.sorts (goal s.terms (name, d)) (goal_there s goal_at name d e) in
    λ j r l. let own = IsSoundResult-goal s goal_at name d results j r e as' l in
    ReplacementsFit-from_sorts old.pointer (map (λ a. a.1) d.args) (map (term_at old) inputs) sorts
    (term_at s.terms (get_or results j r)) own.stays

pub goal-in : (s : Spec) (goal_at : ℕ) (name : List ℕ) (d : GoalDef) (results : List TermId)
    → slice_get s.goals goal_at ≡ Some (name, d) → results ≡ d.results → AreIn s.terms results
goal-in s goal_at name d results e as' =
    λ j r l. let own = IsSoundResult-goal s goal_at name d results j r e as' l in own.there

pub goal-placed : (s : Spec) (goal_at : ℕ) (old : Table) (inputs : List TermId) (name : List ℕ) (d : GoalDef) (g : Goal)
    (results : List TermId) → slice_get s.goals goal_at ≡ Some (name, d) → slice_get (file s).goals goal_at ≡ Some g
    → results ≡ d.results
    → map (λ (a : TermId). replaced (map (term_at old) inputs) (term_at s.terms a)) results
    ≡ goal_terms g (map (term_at old) inputs)
goal-placed s goal_at old inputs name d g results e h as' =
    let ins : List Term = map (term_at old) inputs in
    ap (map (λ (a : TermId). replaced ins (term_at s.terms a))) as'
    ∙ replaced-map ins (terms_of s.terms) d.results
    ∙ ap (λ (x : Goal). map (replaced ins) x.results) (sym (goal_is s goal_at name d g e h))

pub goal-meaning : (s : Spec) (goal_at : ℕ) (old : Table) (inputs : List TermId) (g : Goal) (ts : List Term)
    → CanPlace s goal_at old inputs → slice_get (file s).goals goal_at ≡ Some g
    → ts ≡ goal_terms g (map (term_at old) inputs)
    → AreTermsOver old.pointer (map (term_at old) inputs) (map (sort_of old.pointer) g.results) (goal_results g) ts
goal-meaning s goal_at old inputs g ts can there e =
    let sound = HasSoundParts-from_spec s goal_at g can.is_other there in
    let ins : List Term = map (term_at old) inputs in
    let sorts = ap (λ p. map (sort_of p) ins) (sym can.pointer) ∙ can.sorts g there in
    let over = goal-over (file s) g sound ins sorts in
    subst (λ q. AreTermsOver q ins (map (sort_of q) g.results) (goal_results g) ts) (sym can.pointer)
    (subst (AreTermsOver s.pointer ins (map (sort_of s.pointer) g.results) (goal_results g)) (sym e) over)
