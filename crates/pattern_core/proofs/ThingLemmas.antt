-- Where no argument of the goal is a memory, each source and each result stands for its value, and a pattern is a rule
-- exactly where it is one over values.
use Rattle.std.proofs.Common.{◌≡◌, ℕ, zero, suc, ◌+◌, true, List, [], ◌∷◌, ◌++◌, length, map, Option, Some, None}
use Rattle.std.proofs.Common.{slice_get, unwrap_or, option_map, false, refl, sym, ap, ◌∙◌, subst, arith, ◌↔◌, inl, inr}
use Rattle.std.proofs.Common.{◌&&◌, nat_lt}
use Rattle.std.specs.List.{AllByRecursion}
use Rattle.std.proofs.lemmas.Bool.{and_parts, ltb-true}
use Rattle.std.proofs.lemmas.List.{map-append, length_push}
use Rattle.std.proofs.lemmas.Option.{slice_get-map}
use Rattle.bv_terms.specs.declared.op.TermId.{TermId}
use Rattle.bv_terms.specs.declared.value.Sort.{Sort}
use Rattle.bv_terms.specs.declared.value.Sort.TheVariants as sort
use Rattle.bv_terms.specs.declared.value.Value.{Value}
use Rattle.bv_terms.specs.declared.value.Value.TheVariants as val
use Rattle.bv_terms.specs.Term.{Term, value}
use Rattle.bv_terms.specs.Sorts.{HasSort, HaveSorts}
use Rattle.bv_terms.specs.WellSorted.{sort_of, InputsFit}
use Rattle.bv_terms.specs.Table.{Table, IsTable, terms_of, term_in}
use Rattle.bv_terms.specs.Memory.{Thing, Plain, Mem, thing, SameThing}
use Rattle.bv_terms.proofs.MakeLemmas.{node-sorted as term-sorted}
use Rattle.bv_terms.proofs.MemoryLemmas.{thing-plain}
use Rattle.isel_spec.specs.declared.spec.Spec.{Spec}
use Rattle.isel_spec.specs.File.{File, Operation, Goal, operation, goal, scope, stays_in, are_sound}
use Rattle.isel_spec.specs.Spec.{file}
use Rattle.isel_spec.proofs.SpecLemmas.{pointer_is, IsSoundOp_at, IsSoundGoal_at, InputsFit-from_sorts}
use Rattle.pattern_core.specs.declared.pattern.Src.{Src}
use Rattle.pattern_core.specs.declared.pattern.Src.TheVariants.{Input, Out}
use Rattle.pattern_core.specs.declared.pattern.Node.{Node}
use Rattle.pattern_core.specs.declared.pattern.Pattern.{Pattern}
use Rattle.pattern_core.specs.Pattern.{Pairwise, operation_sort, AreFitting, IsWellFormed}
use Rattle.pattern_core.specs.Rule.{attr_values, source_thing, op_things, things_from, pattern_things, goal_things}
use Rattle.pattern_core.specs.Rule.{IsInput, IsRule, source_value, op_results, outs_from, pattern_results, goal_results}
use Rattle.pattern_core.specs.Rule.{IsPlainRule, TakesNoMemory}
use Rattle.pattern_core.proofs.EvalLemmas.{SourcesFit, node-sorted, result-sorted, no_source, one_more}
use Rattle.list_lemmas.proofs.Lookups.{all-at, mapped_at}
use Rattle.list_lemmas.proofs.Members.{In, Contains-from_In}

-- ---- inputs

-- values of these sorts that the things are
abbrev AreValues : List Sort → List Thing → Type 0
AreValues ss ts = (vs : List Value) × (map Plain vs ≡ ts) × HaveSorts ss vs

values_given : (p : ℕ) (ss : List Sort) (ts : List Thing) → (In ss sort.Mem → ⊥) → Pairwise (IsInput p) ss ts
    → AreValues ss ts
values_given p [] [] none h = ([], refl, tt)
values_given p [] (t ∷ ts) none h = absurd h
values_given p (s ∷ ss) [] none h = absurd h
values_given p (s ∷ ss) (Plain v ∷ ts) none h =
    let rest = values_given p ss ts (λ i. none (inr i)) h.1 in
    (v ∷ rest.0, ap (λ us. Plain v ∷ us) rest.1, (h.0, rest.2))
values_given p (sort.Bool ∷ ss) (Mem m ∷ ts) none h = absurd h.0
values_given p (sort.Bits w ∷ ss) (Mem m ∷ ts) none h = absurd h.0
values_given p (sort.Mem ∷ ss) (Mem m ∷ ts) none h = absurd (none (inl refl))

are_inputs : (p : ℕ) (ss : List Sort) (vs : List Value) → HaveSorts ss vs → Pairwise (IsInput p) ss (map Plain vs)
are_inputs p [] [] h = tt
are_inputs p [] (v ∷ vs) h = absurd h
are_inputs p (s ∷ ss) [] h = absurd h
are_inputs p (s ∷ ss) (v ∷ vs) h = (h.0, are_inputs p ss vs h.1)

same_values : (p : ℕ) (us vs : List Value) → Pairwise (SameThing p) (map Plain us) (map Plain vs) → us ≡ vs
same_values p [] [] h = refl
same_values p [] (v ∷ vs) h = absurd h
same_values p (u ∷ us) [] h = absurd h
same_values p (u ∷ us) (v ∷ vs) h = λ i. h.0 i ∷ same_values p us vs h.1 i

same_things : (p : ℕ) (vs : List Value) → Pairwise (SameThing p) (map Plain vs) (map Plain vs)
same_things p [] = tt
same_things p (v ∷ vs) = (refl, same_things p vs)

-- ---- terms

-- a well-sorted term whose inputs are of these sorts
pub record IsSoundTerm (p : ℕ) (ss : List Sort) (t : Term) : Type 0 where
  pub stays : stays_in ss t ≡ true
  pub of_sort : Sort
  pub sorted : sort_of p t ≡ Some of_sort

fits : (p : ℕ) (ss : List Sort) (vs : List Value) (t : Term) → IsSoundTerm p ss t → HaveSorts ss vs → InputsFit vs t
fits p ss vs t sound h = InputsFit-from_sorts ss vs h t sound.stays

terms-plain : (p : ℕ) (ss : List Sort) (vs : List Value) (ts : List Term) → AllByRecursion (IsSoundTerm p ss) ts
    → HaveSorts ss vs → map (thing p (map Plain vs)) ts ≡ map Plain (map (value vs) ts)
terms-plain p ss vs [] sound h = refl
terms-plain p ss vs (t ∷ ts) sound h =
    let first = sound.0 in
    let here : thing p (map Plain vs) t ≡ Plain (value vs t) =
    thing-plain p vs t first.of_sort first.sorted (fits p ss vs t first h) in
    let rest = terms-plain p ss vs ts sound.1 h in
    λ i. here i ∷ rest i

-- the sorts of the inputs of an operation's results
abbrev pub scope_of : Operation → List Sort
scope_of o = o.args ++ map (λ w. sort.Bits w) o.attrs

-- well-sorted results, over inputs of their own
pub record HasSoundTerms (f : File) (g : Goal) : Type 0 where
  pub of_ops : (k : ℕ) (o : Operation) → slice_get f.ops k ≡ Some o
      → AllByRecursion (IsSoundTerm f.pointer (scope_of o)) o.results
  pub of_goal : AllByRecursion (IsSoundTerm f.pointer g.args) g.results

-- ---- sources

value_at : (vs : List Value) (k : ℕ) → unwrap_or (slice_get (map Plain vs) k) (Plain (val.Bool false))
    ≡ Plain (unwrap_or (slice_get vs k) (val.Bool false))
value_at vs k = ap (λ o. unwrap_or o (Plain (val.Bool false))) (slice_get-map Plain vs k) ∙ by (slice_get vs k)
  where
    by : (o : Option Value) → unwrap_or (option_map Plain o) (Plain (val.Bool false))
        ≡ Plain (unwrap_or o (val.Bool false))
    by None = refl
    by (Some v) = refl

source-plain : (inputs : List Value) (outs : List (List Value)) (s : Src)
    → source_thing (map Plain inputs) (map (map Plain) outs) s ≡ Plain (source_value inputs outs s)
source-plain inputs outs (Input k) = value_at inputs k
source-plain inputs outs (Out node r) =
    ap (λ o. unwrap_or (slice_get (unwrap_or o []) r) (Plain (val.Bool false))) (slice_get-map (map Plain) outs node)
    ∙ by (slice_get outs node)
  where
    by : (o : Option (List Value))
        → unwrap_or (slice_get (unwrap_or (option_map (map Plain) o) []) r) (Plain (val.Bool false))
        ≡ Plain (unwrap_or (slice_get (unwrap_or o []) r) (val.Bool false))
    by None = refl
    by (Some vs) = value_at vs r

sources-plain : (inputs : List Value) (outs : List (List Value)) (xs : List Src)
    → map (source_thing (map Plain inputs) (map (map Plain) outs)) xs ≡ map Plain (map (source_value inputs outs) xs)
sources-plain inputs outs [] = refl
sources-plain inputs outs (x ∷ xs) = λ i. source-plain inputs outs x i ∷ sources-plain inputs outs xs i

-- ---- nodes

op-plain : (f : File) (g : Goal) → HasSoundTerms f g → (k : ℕ) (o : Operation) → slice_get f.ops k ≡ Some o
    → (attrs : List ℕ) (args : List Value) → HaveSorts (scope_of o) (args ++ attr_values o.attrs attrs)
    → op_things f.pointer (Some o) attrs (map Plain args) ≡ map Plain (op_results (Some o) attrs args)
op-plain f g sound k o there attrs args h =
    ap (λ inputs. map (thing f.pointer inputs) o.results) (sym (map-append Plain args (attr_values o.attrs attrs)))
    ∙ terms-plain f.pointer (scope_of o) (args ++ attr_values o.attrs attrs) o.results (sound.of_ops k o there) h

-- what a node of a pattern gives over values
record IsPlainNode (f : File) (n : Node) (inputs : List Value) (outs : List (List Value)) : Type 0 where
  things : op_things f.pointer (slice_get f.ops n.op) n.attrs
      (map (source_thing (map Plain inputs) (map (map Plain) outs)) n.args)
      ≡ map Plain (op_results (slice_get f.ops n.op) n.attrs (map (source_value inputs outs) n.args))
  sorted : (r : ℕ) (t : Sort) → operation_sort f (slice_get f.ops n.op) r ≡ Some t
      → HasSort t (unwrap_or (slice_get
      (op_results (slice_get f.ops n.op) n.attrs (map (source_value inputs outs) n.args)) r) (val.Bool false))

plain_node : (f : File) (g : Goal) → HasSoundTerms f g → (nodes : List Node) (k : ℕ) (n : Node)
    (inputs : List Value) (outs : List (List Value)) → AreFitting f g nodes → slice_get nodes k ≡ Some n
    → SourcesFit f g nodes k inputs outs → IsPlainNode f n inputs outs
plain_node f g sound nodes k n inputs outs fitting at sorted =
    let fit = fitting k n at in
    let o : Operation = fit.operation in
    let there : slice_get f.ops n.op ≡ Some o = fit.in_file in
    let args : List Value = map (source_value inputs outs) n.args in
    let vs : List Value = args ++ attr_values o.attrs n.attrs in
    let h : HaveSorts (scope_of o) vs = node-sorted f g nodes k inputs outs n o sorted fit there in
    let over : map (source_thing (map Plain inputs) (map (map Plain) outs)) n.args ≡ map Plain args =
    sources-plain inputs outs n.args in
    record {
      things =
          (λ i. op_things f.pointer (there i) n.attrs (over i)) ∙ op-plain f g sound n.op o there n.attrs args h
          ∙ (λ i. map Plain (op_results (sym there i) n.attrs args));
      sorted =
          λ r t e. subst (λ x. HasSort t (unwrap_or (slice_get (op_results x n.attrs args) r) (val.Bool false)))
          (sym there)
          (result-sorted f.pointer o vs r t
          (λ u q. fits f.pointer (scope_of o) vs u
          (all-at (IsSoundTerm f.pointer (scope_of o)) o.results r u (sound.of_ops n.op o there) q) h)
          (ap (λ x. operation_sort f x r) (sym there) ∙ e));
    }

-- the nodes of a pattern that stand from a place on
abbrev AreFrom : ℕ → List Node → List Node → Type 0
AreFrom k nodes rest = (j : ℕ) (n : Node) → slice_get rest j ≡ Some n → slice_get nodes (k + j) ≡ Some n

from_next : (k : ℕ) (nodes rest : List Node) (n : Node) → AreFrom k nodes (n ∷ rest) → AreFrom (k + 1) nodes rest
from_next k nodes rest n from j m e =
    let next : k + suc j ≡ (k + 1) + j = omega arith in
    subst (λ i. slice_get nodes i ≡ Some m) next (from (suc j) m e)

from_here : (k : ℕ) (nodes rest : List Node) (n : Node) → AreFrom k nodes (n ∷ rest) → slice_get nodes k ≡ Some n
from_here k nodes rest n from =
    let here : k + zero ≡ k = omega arith in
    subst (λ i. slice_get nodes i ≡ Some n) here (from zero n refl)

from_first : (nodes : List Node) → AreFrom 0 nodes nodes
from_first nodes j n e =
    let here : j ≡ 0 + j = omega arith in
    subst (λ i. slice_get nodes i ≡ Some n) here e

nodes-plain : (f : File) (g : Goal) → HasSoundTerms f g → (nodes : List Node) (inputs : List Value)
    → AreFitting f g nodes → (k : ℕ) (rest : List Node) (outs : List (List Value)) → AreFrom k nodes rest
    → length outs ≡ k → SourcesFit f g nodes k inputs outs
    → things_from f (map Plain inputs) (map (map Plain) outs) rest ≡ map (map Plain) (outs_from f inputs outs rest)
nodes-plain f g sound nodes inputs fitting k [] outs from long sorted = refl
nodes-plain f g sound nodes inputs fitting k (n ∷ rest) outs from long sorted =
    let at = from_here k nodes rest n from in
    let here = plain_node f g sound nodes k n inputs outs fitting at sorted in
    let new : List Value = op_results (slice_get f.ops n.op) n.attrs (map (source_value inputs outs) n.args) in
    let grown : map (map Plain) outs ++ map Plain new ∷ [] ≡ map (map Plain) (outs ++ new ∷ []) =
    sym (map-append (map Plain) outs (new ∷ [])) in
    ap (λ xs. things_from f (map Plain inputs) (map (map Plain) outs ++ xs ∷ []) rest) here.things
    ∙ ap (λ os. things_from f (map Plain inputs) os rest) grown
    ∙ nodes-plain f g sound nodes inputs fitting (k + 1) rest (outs ++ new ∷ []) (from_next k nodes rest n from)
    (length_push outs new ∙ ap (λ m. m + 1) long)
    (one_more f g nodes k inputs outs new n long at sorted here.sorted)

-- ---- patterns and goals

pub pattern-plain : (f : File) (g : Goal) → HasSoundTerms f g → (p : Pattern) (inputs : List Value)
    → AreFitting f g p.nodes → HaveSorts g.args inputs
    → pattern_things f p (map Plain inputs) ≡ map Plain (pattern_results f p inputs)
pattern-plain f g sound p inputs fitting h =
    ap (λ os. map (source_thing (map Plain inputs) os) p.results)
    (nodes-plain f g sound p.nodes inputs fitting 0 p.nodes [] (from_first p.nodes) refl
    (no_source f g p.nodes inputs h))
    ∙ sources-plain inputs (outs_from f inputs [] p.nodes) p.results

pub goal-plain : (f : File) (g : Goal) → HasSoundTerms f g → (inputs : List Value) → HaveSorts g.args inputs
    → goal_things f g (map Plain inputs) ≡ map Plain (goal_results g inputs)
goal-plain f g sound inputs h = terms-plain f.pointer g.args inputs g.results sound.of_goal h

rule_from_plain : (f : File) (g : Goal) → HasSoundTerms f g → (p : Pattern) → AreFitting f g p.nodes
    → (In g.args sort.Mem → ⊥) → IsPlainRule f g p → IsRule f g p
rule_from_plain f g sound p fitting none rule inputs h =
    let r = values_given f.pointer g.args inputs none h in
    let vs : List Value = r.0 in
    let left = pattern-plain f g sound p vs fitting r.2 ∙ ap (map Plain) (rule vs r.2) in
    let right = goal-plain f g sound vs r.2 in
    let Same : List Thing → List Thing → Type 0 = λ us vs. Pairwise (SameThing f.pointer) us vs in
    subst (λ ts. Same (pattern_things f p ts) (goal_things f g ts)) r.1
    (subst (λ us. Same us (goal_things f g (map Plain vs))) (sym left)
    (subst (Same (map Plain (goal_results g vs))) (sym right) (same_things f.pointer (goal_results g vs))))

plain_from_rule : (f : File) (g : Goal) → HasSoundTerms f g → (p : Pattern) → AreFitting f g p.nodes
    → IsRule f g p → IsPlainRule f g p
plain_from_rule f g sound p fitting rule vs h =
    let same = rule (map Plain vs) (are_inputs f.pointer g.args vs h) in
    let Same : List Thing → List Thing → Type 0 = λ us vs. Pairwise (SameThing f.pointer) us vs in
    same_values f.pointer (pattern_results f p vs) (goal_results g vs)
    (subst (Same (map Plain (pattern_results f p vs))) (goal-plain f g sound vs h)
    (subst (λ us. Same us (goal_things f g (map Plain vs))) (pattern-plain f g sound p vs fitting h) same))

-- ---- what a `Spec` keeps

sound_terms : (table : Table) → IsTable table → (ss : List Sort) (ats : List TermId) → are_sound table ss ats ≡ true
    → AllByRecursion (IsSoundTerm table.pointer ss) (map (λ (a : TermId). term_in (terms_of table) a.0) ats)
sound_terms table is ss [] h = tt
sound_terms table is ss (at ∷ ats) h =
    let there = nat_lt at.0 (length table.nodes) in
    let stays = stays_in ss (term_in (terms_of table) at.0) in
    let both = and_parts (there && stays) (are_sound table ss ats) h in
    let first = and_parts there stays both.0 in
    let sorted = term-sorted table is at.0 (ltb-true at.0 (length table.nodes) first.0) in
    (record { stays = first.1; of_sort = sorted.0; sorted = sorted.1 }, sound_terms table is ss ats both.1)

pub HasSoundTerms-from_spec : (s : Spec) (k : ℕ) (g : Goal) → IsTable s.terms → slice_get (file s).goals k ≡ Some g
    → HasSoundTerms (file s) g
HasSoundTerms-from_spec s k g table e =
    let at = mapped_at (goal s.terms) s.goals k g e in
    let own = IsSoundGoal_at s k at.0 at.1 in
    record {
      of_ops = λ j o there. of_op j o there;
      of_goal =
          subst (λ (x : Goal). AllByRecursion (IsSoundTerm s.pointer x.args) x.results) at.2
          (subst (λ p. AllByRecursion (IsSoundTerm p (map (λ a. a.1) at.0.1.args)) (goal s.terms at.0).results)
          (sym (pointer_is s)) (sound_terms s.terms table (map (λ a. a.1) at.0.1.args) at.0.1.results own.results));
    }
  where
    of_op : (j : ℕ) (o : Operation) → slice_get (file s).ops j ≡ Some o
        → AllByRecursion (IsSoundTerm s.pointer (scope_of o)) o.results
    of_op j o there =
        let at = mapped_at (operation s.terms) s.ops j o there in
        let own = IsSoundOp_at s j at.0 at.1 in
        subst (λ (x : Operation). AllByRecursion (IsSoundTerm s.pointer (scope_of x)) x.results) at.2
        (subst (λ p. AllByRecursion (IsSoundTerm p (scope at.0.1)) (operation s.terms at.0).results)
        (sym (pointer_is s)) (sound_terms s.terms table (scope at.0.1) at.0.1.results own.results))

-- the law of plain rules for a goal
pub plain_rules : (s : Spec) (k : ℕ) (g : Goal) → IsTable s.terms → slice_get (file s).goals k ≡ Some g → (p : Pattern)
    → IsWellFormed (file s) g p → TakesNoMemory g → IsRule (file s) g p ↔ IsPlainRule (file s) g p
plain_rules s k g table there p wf none =
    let sound = HasSoundTerms-from_spec s k g table there in (
      plain_from_rule (file s) g sound p wf.nodes,
      rule_from_plain (file s) g sound p wf.nodes (λ i. none (Contains-from_In g.args sort.Mem i)),
    )
