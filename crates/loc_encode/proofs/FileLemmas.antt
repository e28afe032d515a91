-- What a file keeps of the operations and the goal of a claim, for the terms that are made of them.
use Rattle.std.proofs.Common.{◌≡◌, ℕ, ◌<◌, ◌≤◌, List, [], ◌∷◌, Some, IsSome}
use Rattle.std.proofs.Common.{refl, sym, ap, ◌∙◌, subst, arith, slice_get, length, map, Contains, unwrap_or, suc}
use Rattle.std.specs.List.{AllByRecursion}
use Rattle.bv_terms.specs.declared.op.TermId.{TermId}
use Rattle.bv_terms.specs.declared.value.Sort.{Sort}
use Rattle.bv_terms.specs.declared.value.Sort.TheVariants as sort
use Rattle.bv_terms.specs.declared.value.Value.{Value}
use Rattle.bv_terms.specs.Sorts.{HaveSorts}
use Rattle.bv_terms.specs.Term.{Term, value}
use Rattle.bv_terms.specs.Table.{Table, IsTable, term_in, terms_of, term_at}
use Rattle.bv_terms.specs.WellSorted.{sort_of}
use Rattle.bv_terms.specs.Replaced.{ReplacementsFit}
use Rattle.bv_terms.proofs.TableLemmas.{length-terms_of}
use Rattle.bv_terms.proofs.TermLemmas.{sort_of-sized, value-sorted}
use Rattle.isel_spec.specs.declared.definitions.OpDef.{OpDef}
use Rattle.isel_spec.specs.declared.definitions.GoalDef.{GoalDef}
use Rattle.isel_spec.specs.declared.spec.Spec.{Spec}
use Rattle.isel_spec.specs.File.{File, Operation, Goal, operation, goal, scope, sorts_in}
use Rattle.isel_spec.specs.Spec.{file}
use Rattle.isel_spec.proofs.SpecLemmas.{IsSoundOp_at, IsSoundGoal_at, sound_result, IsSoundResult}
use Rattle.isel_spec.proofs.SpecLemmas.{goal_there, InputsFit-from_sorts}
use Rattle.list_lemmas.proofs.Options.{the_some}
use Rattle.list_lemmas.proofs.Lookups.{mapped_at, some_at, Contains-from_slice_get}
use Rattle.list_lemmas.proofs.Members.{Contains-from_In}
use Rattle.pattern_core.specs.Claim.{Claim, IsClaim}
use Rattle.pattern_core.specs.Pattern.{Pairwise}
use Rattle.pattern_core.specs.Rule.{HasNoMemory}
use Rattle.loc_encode.specs.Given.{IsGiven}
use Rattle.loc_encode.specs.Lines.{IsPlain}
use Rattle.loc_encode.specs.Making.{ArePlainOps, IsResultIn}
use Rattle.loc_encode.proofs.FitLemmas.{ReplacementsFit-from_scope, no_memory, scope-plain, all-plain, all-wide}

-- ---- results of a table that is one

-- the k-th of nodes' terms
pub results-at : (table : Table) (ids : List TermId) (r : ℕ) (t : Term)
    → slice_get (map (λ (at : TermId). term_in (terms_of table) at.0) ids) r ≡ Some t
    → (at : TermId) × (slice_get ids r ≡ Some at) × (term_at table at ≡ t)
results-at table ids r t e = mapped_at (λ (at : TermId). term_in (terms_of table) at.0) ids r t e

pub sort-there : (table : Table) → IsTable table → (at : TermId) → at.0 < length table.nodes
    → (s : Sort) × (sort_of table.pointer (term_at table at) ≡ Some s)
sort-there table is at l =
    let t = some_at (terms_of table) at.0 (omega (arith, length-terms_of table, l)) in
    let here : term_at table at ≡ t.0 = ap (λ o. unwrap_or o (term_in [] 0)) t.1 in
    the_some (sort_of table.pointer (term_at table at))
    (subst (λ u. IsSome (sort_of table.pointer u)) (sym here) (is.well_sorted at.0 t.0 t.1))

-- ---- operations

-- the claim's operation is a definition of the file
pub record IsDefined (s : Spec) (op : ℕ) (o : Operation) : Type 0 where
  pub name : List ℕ
  pub d : OpDef
  pub at : slice_get s.ops op ≡ Some (name, d)
  pub same : operation s.terms (name, d) ≡ o

pub defined : (s : Spec) (op : ℕ) (o : Operation) → slice_get (file s).ops op ≡ Some o → IsDefined s op o
defined s op o e =
    let found = mapped_at (operation s.terms) s.ops op o e in
    record { name = found.0.0; d = found.0.1; at = found.1; same = found.2 }

-- what its terms need
pub op-plain : (s : Spec) (op : ℕ) (name : List ℕ) (d : OpDef) → slice_get s.ops op ≡ Some (name, d)
    → ¬ Contains d.args sort.Mem → AllByRecursion IsPlain d.args
op-plain s op name d e none =
    let sound = IsSoundOp_at s op (name, d) e in
    all-plain d.args sound.sized (λ i. none (Contains-from_In d.args sort.Mem i))

pub op-wide : (s : Spec) (op : ℕ) (name : List ℕ) (d : OpDef) → slice_get s.ops op ≡ Some (name, d)
    → AllByRecursion (λ w. (1 ≤ w) × (w ≤ 64)) d.attrs
op-wide s op name d e = let sound = IsSoundOp_at s op (name, d) e in all-wide d.attrs sound.attrs

pub op-stays : (s : Spec) (op : ℕ) (name : List ℕ) (d : OpDef) → slice_get s.ops op ≡ Some (name, d) → (r : ℕ)
    (at : TermId) → slice_get d.results r ≡ Some at → IsSoundResult s.terms (scope d) at
op-stays s op name d e r at here =
    let sound = IsSoundOp_at s op (name, d) e in
    sound_result s.terms (scope d) d.results r at sound.results here

-- terms that have the sorts of its inputs may replace them
pub op-fits : (s : Spec) (op : ℕ) (name : List ℕ) (d : OpDef) → slice_get s.ops op ≡ Some (name, d) → (p : ℕ)
    (terms : List Term) → map (sort_of p) terms ≡ map (λ (s : Sort). Some s) (scope d) → (r : ℕ) (at : TermId)
    → slice_get d.results r ≡ Some at → ReplacementsFit p terms (term_at s.terms at)
op-fits s op name d e p terms sorted r at here =
    let sound = op-stays s op name d e r at here in
    ReplacementsFit-from_scope p terms (scope d) sorted (term_at s.terms at) sound.stays

pub op-result-plain : (s : Spec) (op : ℕ) (name : List ℕ) (d : OpDef) → slice_get s.ops op ≡ Some (name, d)
    → ¬ Contains d.args sort.Mem → (r : ℕ) (at : TermId) → slice_get d.results r ≡ Some at → (p : ℕ)
    → ¬ (sort_of p (term_at s.terms at) ≡ Some sort.Mem)
op-result-plain s op name d e none r at here p memory =
    let sound = op-stays s op name d e r at here in
    no_memory p (scope d) (scope-plain d.args d.attrs none) (term_at s.terms at) sound.stays memory

-- ---- the goal

pub goal-plain : (s : Spec) (k : ℕ) (name : List ℕ) (d : GoalDef) → slice_get s.goals k ≡ Some (name, d)
    → ¬ Contains (sorts_in d.args) sort.Mem → AllByRecursion IsPlain (sorts_in d.args)
goal-plain s k name d e none =
    let sound = IsSoundGoal_at s k (name, d) e in
    all-plain (sorts_in d.args) sound.sized (λ i. none (Contains-from_In (sorts_in d.args) sort.Mem i))

result-in : (s : Spec) → IsTable s.terms → (k : ℕ) (name : List ℕ) (d : GoalDef)
    → slice_get s.goals k ≡ Some (name, d) → ¬ Contains (sorts_in d.args) sort.Mem → (inputs : List Value)
    → HaveSorts (sorts_in d.args) inputs → (r : ℕ) (at : TermId) → slice_get d.results r ≡ Some at
    → IsResultIn s.terms at (value inputs (term_at s.terms at))
result-in s table k name d e none inputs h r at here =
    let sorts : List Sort = sorts_in d.args in
    let all = IsSoundGoal_at s k (name, d) e in
    let sound = sound_result s.terms sorts d.results r at all.results here in
    let t : Term = term_at s.terms at in
    let found = sort-there s.terms table at sound.there in
    record {
      there = sound.there;
      sort = found.0;
      sorted = found.1;
      plain = record {
        plain =
            λ memory. no_memory s.terms.pointer sorts (λ i. none (Contains-from_In sorts sort.Mem i)) t sound.stays
            (found.1 ∙ ap Some memory);
        sized = sort_of-sized s.terms.pointer t found.0 found.1;
      };
      fits =
          value-sorted s.terms.pointer inputs t found.0 found.1
          (InputsFit-from_sorts sorts inputs h t sound.stays);
    }

pub results-in : (s : Spec) → IsTable s.terms → (k : ℕ) (name : List ℕ) (d : GoalDef)
    → slice_get s.goals k ≡ Some (name, d) → ¬ Contains (sorts_in d.args) sort.Mem → (inputs : List Value)
    → HaveSorts (sorts_in d.args) inputs
    → Pairwise (IsResultIn s.terms) d.results
    (map (value inputs) (map (λ (at : TermId). term_in (terms_of s.terms) at.0) d.results))
results-in s table k name d e none inputs h =
    by d.results (λ r at here. result-in s table k name d e none inputs h r at here)
  where
    by : (ids : List TermId) → ((r : ℕ) (at : TermId) → slice_get ids r ≡ Some at
        → IsResultIn s.terms at (value inputs (term_at s.terms at)))
        → Pairwise (IsResultIn s.terms) ids
        (map (value inputs) (map (λ (at : TermId). term_in (terms_of s.terms) at.0) ids))
    by [] h = tt
    by (at ∷ ids) h = (h 0 at refl, by ids (λ r other here. h (suc r) other here))

-- ---- claims

pub a_claim : (s : Spec) (k : ℕ) (ops : List ℕ) → k < length s.goals → (c : Claim) × IsClaim s k ops c
a_claim s k ops l =
    let at = some_at s.goals k l in
    let g : Goal = goal s.terms (at.0.0, at.0.1) in
    let c : Claim = record { file = file s; goal = g; ops = ops } in
    (c, record { of_file = refl; of_goal = goal_there s k at.0.0 at.0.1 at.1; of_ops = refl })

pub plain-ops : (s : Spec) (k : ℕ) (ops kinds : List ℕ) → IsGiven s k ops
    → ((op : ℕ) → Contains kinds op → Contains ops op) → ArePlainOps s kinds
plain-ops s k ops kinds given into =
    let c = a_claim s k ops given.place in
    let none : HasNoMemory c.0.file c.0.goal = given.plain c.0 c.1 in
    record {
      there = λ op h. let at = into op h in subst (λ x. x < length s.ops) at.2 (given.there at.0 op at.1);
      plain =
          λ op o h e. none.ops o (Contains-from_slice_get c.0.file.ops op o
          (ap (λ (f : File). slice_get f.ops op) (let same = c.1 in same.of_file) ∙ e));
    }
