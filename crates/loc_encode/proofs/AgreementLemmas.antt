-- The agreement of a claim at an example, from the lines on.
use Rattle.std.proofs.Common.{◌≡◌, ℕ, suc, ◌+◌, ◌<◌, ◌≤◌, Bool, true, List, [], ◌∷◌, Some}
use Rattle.std.proofs.Common.{refl, sym, ap, ◌∙◌, subst, arith, slice_get, length, map, All, Contains, ◌↔◌}
use Rattle.std.proofs.Common.{Result, Ok, Err, IfOk}
use Rattle.std.specs.List.{AllByRecursion}
use Rattle.std.proofs.lemmas.List.{length-map}
use Rattle.std.proofs.lemmas.List.Elements.{All-from_recursion}
use Rattle.bv_terms.specs.declared.op.TermId.{TermId}
use Rattle.bv_terms.specs.declared.value.Sort.{Sort}
use Rattle.bv_terms.specs.declared.value.Sort.TheVariants as sort
use Rattle.bv_terms.specs.declared.value.Value.{Value}
use Rattle.bv_terms.specs.declared.value.Value.TheVariants as val
use Rattle.bv_terms.specs.Sorts.{HaveSorts}
use Rattle.bv_terms.specs.Term.{Term, value}
use Rattle.bv_terms.specs.Table.{Table, IsTable, Extends, term_in, terms_of, term_at}
use Rattle.bv_terms.specs.WellSorted.{sort_of}
use Rattle.bv_terms.specs.Replaced.{ReplacementsFit}
use Rattle.isel_spec.specs.declared.definitions.Kind.{Kind}
use Rattle.bv_terms.proofs.GraftLemmas.{Extends-further}
use Rattle.isel_spec.specs.declared.definitions.GoalDef.{GoalDef}
use Rattle.isel_spec.specs.declared.spec.Spec.{Spec}
use Rattle.isel_spec.specs.File.{File, Goal, Operation, operation, goal, scope, sorts_in}
use Rattle.isel_spec.specs.Spec.{file}
use Rattle.isel_spec.proofs.SpecLemmas.{IsSoundGoal_at, IsSoundResult, sound_result, pointer_is, goal_is, goal_there}
use Rattle.list_lemmas.proofs.Lookups.{Contains-from_slice_get}
use Rattle.pattern_core.specs.Claim.{Claim, IsClaim, IsPatternOf}
use Rattle.pattern_core.specs.declared.pattern.Example.{Example}
use Rattle.pattern_core.specs.declared.pattern.Pattern.{Pattern}
use Rattle.pattern_core.specs.Pattern.{Pairwise}
use Rattle.pattern_core.specs.Rule.{HasNoMemory, goal_results, pattern_results}
use Rattle.loc_encode.specs.declared.taking.Named.{Named}
use Rattle.loc_encode.specs.Slots.{IsOperationOf}
use Rattle.loc_encode.specs.Standing.{StandsFor}
use Rattle.loc_encode.specs.Parts.{IsOver, IsAgreement}
use Rattle.loc_encode.specs.Given.{IsGiven, IsExampleFor}
use Rattle.loc_encode.specs.Building.{constant_term}
use Rattle.loc_encode.specs.Lines.{Sourced, sourced, IsProper, IsPlain, AreIn, with_line, input_sources, all_equal}
use Rattle.loc_encode.specs.Lines.{op_inputs}
use Rattle.loc_encode.specs.Making.{IsResultIn, ArePlainOps}
use Rattle.loc_encode.specs.Meaning.{AreMeant}
use Rattle.loc_encode.proofs.BuildingLemmas.{value-constant, over-constant}
use Rattle.loc_encode.proofs.FileLemmas.{a_claim, IsDefined, defined, op-plain, op-wide, op-fits, op-stays, goal-plain}
use Rattle.loc_encode.proofs.FileLemmas.{results-in, results-at, sort-there, plain-ops}
use Rattle.loc_encode.proofs.FitLemmas.{inputs-sorted}
use Rattle.loc_encode.proofs.GrowthLemmas.{each_proper}
use Rattle.loc_encode.proofs.KindLemmas.{HaveSame}
use Rattle.loc_encode.proofs.LineLemmas.{next-line, inputs-meant}
use Rattle.loc_encode.proofs.OperationLemmas.{CanStand}
use Rattle.loc_encode.proofs.ResultLemmas.{equal-over, equal-value, all_same, all_same-same, all_same-true}

-- ---- the goal of a claim

-- a claim's goal is a definition of the file
pub claim-goal : (s : Spec) (k : ℕ) (ops : List ℕ) (c : Claim) (name : List ℕ) (d : GoalDef) → IsClaim s k ops c
    → slice_get s.goals k ≡ Some (name, d) → c.goal ≡ goal s.terms (name, d)
claim-goal s k ops c name d is e = goal_is s k name d c.goal e is.of_goal

pub no_memory-args : (s : Spec) (k : ℕ) (ops : List ℕ) (name : List ℕ) (d : GoalDef) → IsGiven s k ops
    → slice_get s.goals k ≡ Some (name, d) → ¬ Contains (sorts_in d.args) sort.Mem
no_memory-args s k ops name d given e =
    let c = a_claim s k ops given.place in
    let none : HasNoMemory c.0.file c.0.goal = given.plain c.0 c.1 in
    subst (λ (g : Goal). ¬ Contains g.args sort.Mem) (claim-goal s k ops c.0 name d c.1 e) none.args

-- what the call on its inputs needs
pub few-inputs : (s : Spec) (k : ℕ) (name : List ℕ) (d : GoalDef) (args : List (Kind × Sort))
    → slice_get s.goals k ≡ Some (name, d) → args ≡ d.args → length args ≤ 4
few-inputs s k name d args e same =
    let sound = IsSoundGoal_at s k (name, d) e in
    subst (λ (xs : List (Kind × Sort)). length xs ≤ 4) (sym same) sound.few

pub plain-inputs : (s : Spec) (k : ℕ) (ops : List ℕ) (name : List ℕ) (d : GoalDef) (args : List (Kind × Sort))
    → IsGiven s k ops → slice_get s.goals k ≡ Some (name, d) → args ≡ d.args → All IsPlain (sorts_in args)
plain-inputs s k ops name d args given e same =
    subst (λ (xs : List (Kind × Sort)). All IsPlain (sorts_in xs)) (sym same)
    (All-from_recursion IsPlain (sorts_in d.args) (goal-plain s k name d e (no_memory-args s k ops name d given e)))

pub inputs-fit : (s : Spec) (k : ℕ) (ops : List ℕ) (name : List ℕ) (d : GoalDef) (args : List (Kind × Sort))
    (inputs : List Value) → IsGiven s k ops → slice_get s.goals k ≡ Some (name, d) → args ≡ d.args
    → ((c : Claim) → IsClaim s k ops c → HaveSorts c.goal.args inputs) → HaveSorts (sorts_in args) inputs
inputs-fit s k ops name d args inputs given e same h =
    let c = a_claim s k ops given.place in
    subst (λ (xs : List (Kind × Sort)). HaveSorts (sorts_in xs) inputs) (sym same)
    (subst (λ (g : Goal). HaveSorts g.args inputs) (claim-goal s k ops c.0 name d c.1 e) (h c.0 c.1))

-- ---- line by line

-- an operation of the claim can stand at a line
can-stand : (s : Spec) → IsTable s.terms → (c : Claim) → c.file ≡ file s → HasNoMemory c.file c.goal → (line op : ℕ)
    (o : Operation) → IsOperationOf c op o → (sources : List Sourced) → AllByRecursion (IsProper s.pointer) sources
    → CanStand c line op o sources
can-stand s table c same none line op o is sources proper =
    let at : slice_get (file s).ops op ≡ Some o = ap (λ (f : File). slice_get f.ops op) (sym same) ∙ is.1 in
    of_definition (defined s op o at)
  where
    plain : ¬ Contains o.args sort.Mem
    plain = none.ops o (Contains-from_slice_get c.file.ops op o is.1)

    pointer : c.file.pointer ≡ s.pointer
    pointer = ap (λ (f : File). f.pointer) same

    of_definition : IsDefined s op o → CanStand c line op o sources
    of_definition def =
        let d = def.d in
        let plain_args : ¬ Contains d.args sort.Mem =
        subst (λ (x : Operation). ¬ Contains x.args sort.Mem) (sym def.same) plain in
        let sorted : map (sort_of s.pointer) (op_inputs line sources op (operation s.terms (def.name, d)))
        ≡ map (λ (s : Sort). Some s) (scope d) =
        inputs-sorted s.pointer line op sources (operation s.terms (def.name, d)) proper
        (op-plain s op def.name d def.at plain_args) (op-wide s op def.name d def.at) in
        subst (λ (x : Operation). CanStand c line op x sources) def.same (record {
          fit =
              λ r t e. let at = results-at s.terms d.results r t e in
              subst (λ p. ReplacementsFit p
              (op_inputs line sources op (operation s.terms (def.name, d))) t) (sym pointer)
              (subst (ReplacementsFit s.pointer
              (op_inputs line sources op (operation s.terms (def.name, d)))) at.2
              (op-fits s op def.name d def.at s.pointer (op_inputs line sources op (operation s.terms (def.name, d)))
              sorted r at.0 at.1));
          sorted =
              λ r t e. let at = results-at s.terms d.results r t e in
              let stays = op-stays s op def.name d def.at r at.0 at.1 in
              let found = sort-there s.terms table at.0 stays.there in
              let moved = ap (λ p. sort_of p t) (pointer ∙ pointer_is s) in
              (found.0, moved ∙ ap (sort_of s.terms.pointer) (sym at.2) ∙ found.1);
        })

-- the sources before a line, for each claim that they are of
pub record AreLines (s : Spec) (k : ℕ) (ops kinds : List ℕ) (inputs : List Value) (old table : Table)
    (sources : List Named) (line : ℕ) : Type 0 where
  pub within : line ≤ length ops
  pub is_table : IsTable table
  pub extends : Extends old table
  pub are : AreIn table sources
  pub meant : (c : Claim) → IsClaim s k ops c → AreMeant c inputs line (map (sourced table) sources)

pub AreLines-start : (s : Spec) (k : ℕ) (ops kinds : List ℕ) (inputs : List Value) (name : List ℕ) (d : GoalDef)
    (args : List (Kind × Sort)) (old table : Table) (sources : List Named) → slice_get s.goals k ≡ Some (name, d)
    → args ≡ d.args → ((c : Claim) → IsClaim s k ops c → HaveSorts c.goal.args inputs) → IsTable table
    → Extends old table → AreIn table sources → map (sourced table) sources ≡ input_sources 0 (sorts_in args) inputs
    → AreLines s k ops kinds inputs old table sources 0
AreLines-start s k ops kinds inputs name d args old table sources e same h is more are made = record {
  within = omega arith;
  is_table = is;
  extends = more;
  are = are;
  meant =
      λ c claim. let goal_same : c.goal.args ≡ sorts_in args =
      ap (λ (g : Goal). g.args) (claim-goal s k ops c name d claim e) ∙ ap sorts_in (sym same) in
      subst (AreMeant c inputs 0) (ap (λ xs. input_sources 0 xs inputs) goal_same ∙ sym made)
      (inputs-meant c inputs (h c claim));
}

pub AreLines-more : (s : Spec) → IsTable s.terms → (k : ℕ) (ops kinds : List ℕ) (inputs : List Value)
    (old table new : Table) (sources more : List Named) (line : ℕ) → IsGiven s k ops → HaveSame kinds ops
    → old.pointer ≡ s.pointer → AreLines s k ops kinds inputs old table sources line → line < length ops
    → IsTable new → Extends table new → AreIn new more
    → map (sourced new) more ≡ with_line (file s) kinds (map (sourced table) sources) line
    → AreLines s k ops kinds inputs old new more (line + 1)
AreLines-more s s_table k ops kinds inputs old table new sources more line given same pointer is within is_new extends
    are made = record {
      within = omega (arith, within);
      is_table = is_new;
      extends = Extends-further old table new is.extends extends;
      are = are;
      meant =
          λ c claim. let srcs : List Sourced = map (sourced table) sources in
          let to : (op : ℕ) → Contains kinds op → Contains c.ops op =
          λ op h. subst (λ (xs : List ℕ). Contains xs op) (sym claim.of_ops) (same.to op h) in
          let from : (op : ℕ) → Contains c.ops op → Contains kinds op =
          λ op h. same.from op (subst (λ (xs : List ℕ). Contains xs op) claim.of_ops h) in
          let here : line < length c.ops = subst (λ (xs : List ℕ). line < length xs) (sym claim.of_ops) within in
          let proper : AllByRecursion (IsProper s.pointer) srcs =
          subst (λ p. AllByRecursion (IsProper p) srcs) (is.extends.pointer ∙ pointer)
          (each_proper table sources is.are) in
          let next = next-line c inputs line kinds srcs here (is.meant c claim) to from
          (λ op o of_op. can-stand s s_table c claim.of_file (given.plain c claim) line op o of_op srcs proper) in
          subst (AreMeant c inputs (line + 1)) (ap (λ f. with_line f kinds srcs line) claim.of_file ∙ sym made) next;
    }

pub AreLines-end : (s : Spec) (k : ℕ) (ops kinds : List ℕ) (inputs : List Value) (old table : Table)
    (sources : List Named) (line : ℕ) → AreLines s k ops kinds inputs old table sources line → length ops ≤ line
    → (c : Claim) → IsClaim s k ops c → AreMeant c inputs (length c.ops) (map (sourced table) sources)
AreLines-end s k ops kinds inputs old table sources line is l c claim =
    let here : line ≡ length c.ops = omega (arith, l, is.within, ap length claim.of_ops) in
    subst (λ n. AreMeant c inputs n (map (sourced table) sources)) here (is.meant c claim)

-- ---- the whole

-- the results of the goal are well-sorted
results-sorted : (s : Spec) → IsTable s.terms → (ids : List TermId)
    → AllByRecursion (λ (at : TermId). at.0 < length s.terms.nodes) ids → (p : ℕ) → p ≡ s.terms.pointer
    → AllByRecursion (λ (t : Term). (r : Sort) × (sort_of p t ≡ Some r))
    (map (λ (at : TermId). term_in (terms_of s.terms) at.0) ids)
results-sorted s table [] there p same = tt
results-sorted s table (at ∷ ids) there p same =
    let found = sort-there s.terms table at there.0 in (
      (found.0, ap (λ q. sort_of q (term_at s.terms at)) same ∙ found.1),
      results-sorted s table ids there.1 p same,
    )

truth-is : (a b : Bool) → val.Bool a ≡ val.Bool b → a ≡ b
truth-is a b h = cc

pub agreement-is : (s : Spec) → IsTable s.terms → (k : ℕ) (ops : List ℕ) (c : Claim) → IsClaim s k ops c
    → (inputs : List Value) (sources : List Sourced) → AreMeant c inputs (length c.ops) sources → (name : List ℕ)
    (d : GoalDef) → slice_get s.goals k ≡ Some (name, d)
    → AllByRecursion (λ (at : TermId). at.0 < length s.terms.nodes) d.results → (new : Table) (id : TermId)
    → id.0 < length new.nodes → sort_of new.pointer (term_at new id) ≡ Some sort.Bool → (values : List Value)
    → values ≡ goal_results c.goal inputs
    → term_at new id
    ≡ all_equal s.terms.pointer sources (constant_term (val.Bool true)) 0 (map (term_at s.terms) d.results) values
    → IsAgreement c inputs new id
agreement-is s table k ops c claim inputs sources meant name d e there new id within truth values values_are made =
    record {
      over = record {
        there = within;
        truth = truth;
        over =
            subst (IsOver c) (sym term)
            (equal-over c inputs sources meant sorted [] c.goal.results 0 refl refl sorted
            (constant_term (val.Bool true)) (over-constant c (val.Bool true)) (goal_results c.goal inputs));
      };
      agrees =
          λ env q wf stands. (
            λ h. all_same-true _ _ (truth-is _ true (sym (value_is env q wf stands) ∙ h)),
            λ h. value_is env q wf stands ∙ ap (λ b. val.Bool b) (all_same-same _ _ h),
          );
    }
  where
    pointer : c.file.pointer ≡ s.terms.pointer
    pointer = ap (λ (f : File). f.pointer) claim.of_file ∙ pointer_is s

    goal_same : c.goal.results ≡ map (term_at s.terms) d.results
    goal_same = ap (λ (g : Goal). g.results) (claim-goal s k ops c name d claim e)

    sorted : AllByRecursion (λ (t : Term). (r : Sort) × (sort_of c.file.pointer t ≡ Some r)) c.goal.results
    sorted =
        subst (AllByRecursion (λ (t : Term). (r : Sort) × (sort_of c.file.pointer t ≡ Some r))) (sym goal_same)
        (results-sorted s table d.results there c.file.pointer pointer)

    term : term_at new id
        ≡ all_equal c.file.pointer sources (constant_term (val.Bool true)) 0 c.goal.results (goal_results c.goal inputs)
    term =
        made
        ∙ (λ i. all_equal (sym pointer i) sources (constant_term (val.Bool true)) 0 (sym goal_same i) (values_are i))

    value_is : (env : List Value) (q : Pattern) → IsPatternOf c q → StandsFor c env q
        → value env (term_at new id)
        ≡ val.Bool (all_same (pattern_results c.file q inputs) (goal_results c.goal inputs))
    value_is env q wf stands =
        ap (value env) term
        ∙ equal-value c inputs sources meant env q wf stands [] c.goal.results [] q.results 0 refl refl refl refl
        wf.well_formed.results sorted (constant_term (val.Bool true)) true (value-constant env (val.Bool true))
        (goal_results c.goal inputs) (length-map c.goal.results (value inputs))

-- ---- what the calls need

-- three facts of a result that there is
pub if_ok_three : {X Y : Type 0} (r : Result X Y) (P Q R S : X → Type 0) → ((x : X) → P x → Q x → R x → S x) → IfOk r P
    → IfOk r Q → IfOk r R → IfOk r S
if_ok_three (Ok x) P Q R S f p q r = f x p q r
if_ok_three (Err e) P Q R S f p q r = tt

pub few-results : (s : Spec) (k : ℕ) (name : List ℕ) (d : GoalDef) (ids : List TermId)
    → slice_get s.goals k ≡ Some (name, d) → ids ≡ d.results → length ids ≤ 3
few-results s k name d ids e same =
    let sound = IsSoundGoal_at s k (name, d) e in
    subst (λ (xs : List TermId). length xs ≤ 3) (sym same) sound.most

results-there : (s : Spec) (k : ℕ) (name : List ℕ) (d : GoalDef) → slice_get s.goals k ≡ Some (name, d)
    → AllByRecursion (λ (at : TermId). at.0 < length s.terms.nodes) d.results
results-there s k name d e = by d.results here
  where
    here : (r : ℕ) (at : TermId) → slice_get d.results r ≡ Some at → at.0 < length s.terms.nodes
    here r at found =
        let all = IsSoundGoal_at s k (name, d) e in
        let sound : IsSoundResult s.terms (sorts_in d.args) at =
        sound_result s.terms (sorts_in d.args) d.results r at all.results found in
        sound.there

    by : (ids : List TermId)
        → ((r : ℕ) (at : TermId) → slice_get ids r ≡ Some at → at.0 < length s.terms.nodes)
        → AllByRecursion (λ (at : TermId). at.0 < length s.terms.nodes) ids
    by [] h = tt
    by (at ∷ ids) h = (h 0 at refl, by ids (λ r other found. h (suc r) other found))

-- the example's inputs, for each claim and for the goal
pub example-inputs : (s : Spec) (k : ℕ) (ops seen : List ℕ) (x : Example) (inputs : List Value)
    → IsExampleFor s k ops x → seen ≡ ops → inputs ≡ x.inputs → (c : Claim) → IsClaim s k seen c
    → HaveSorts c.goal.args inputs
example-inputs s k ops seen x inputs h same here c is =
    subst (HaveSorts c.goal.args) (sym here) (h c (subst (λ (xs : List ℕ). IsClaim s k xs c) same is))

pub example-fits : (s : Spec) (k : ℕ) (ops : List ℕ) (x : Example) (inputs : List Value) → IsExampleFor s k ops x
    → inputs ≡ x.inputs → (g : Goal) → slice_get (file s).goals k ≡ Some g → HaveSorts g.args inputs
example-fits s k ops x inputs h here g e =
    let c : Claim = record { file = file s; goal = g; ops = ops } in
    subst (HaveSorts g.args) (sym here) (h c (record { of_file = refl; of_goal = e; of_ops = refl }))

-- the goal's results have the values that it gives there
pub results-fit : (s : Spec) → IsTable s.terms → (k : ℕ) (ops : List ℕ) (x : Example) (inputs : List Value)
    → IsExampleFor s k ops x → inputs ≡ x.inputs → IsGiven s k ops → (name : List ℕ) (d : GoalDef)
    → slice_get s.goals k ≡ Some (name, d) → (ids : List TermId) → ids ≡ d.results → (values seen : List Value)
    → seen ≡ values
    → ((g : Goal) → slice_get (file s).goals k ≡ Some g → values ≡ goal_results g inputs)
    → Pairwise (IsResultIn s.terms) ids seen
results-fit s table k ops x inputs example here given name d e ids same values seen seen_is values_are =
    let at = goal_there s k name d e in
    let fit : HaveSorts (sorts_in d.args) inputs =
    example-fits s k ops x inputs example here (goal s.terms (name, d)) at in
    let all : Pairwise (IsResultIn s.terms) d.results (goal_results (goal s.terms (name, d)) inputs) =
    results-in s table k name d e (no_memory-args s k ops name d given e) inputs fit in
    subst (λ (vs : List Value). Pairwise (IsResultIn s.terms) ids vs)
    (sym (seen_is ∙ values_are (goal s.terms (name, d)) at))
    (subst (λ (xs : List TermId). Pairwise (IsResultIn s.terms) xs (goal_results (goal s.terms (name, d)) inputs))
    (sym same) all)

pub agreement-made : (s : Spec) → IsTable s.terms → (k : ℕ) (ops seen : List ℕ) → seen ≡ ops → (c : Claim)
    → IsClaim s k ops c → (x inputs : List Value) → inputs ≡ x → (mid new : Table) (sources listed : List Named)
    → listed ≡ sources
    → ((b : Claim) → IsClaim s k seen b → AreMeant b inputs (length b.ops) (map (sourced mid) sources))
    → (name : List ℕ) (d : GoalDef) → slice_get s.goals k ≡ Some (name, d) → (ids : List TermId) → ids ≡ d.results
    → (values given : List Value) → given ≡ values
    → ((g : Goal) → slice_get (file s).goals k ≡ Some g → values ≡ goal_results g inputs) → (id : TermId)
    → term_at new id
    ≡ all_equal s.terms.pointer (map (sourced mid) listed) (constant_term (val.Bool true)) 0
    (map (term_at s.terms) ids) given
    → sort_of new.pointer (term_at new id) ≡ Some sort.Bool → id.0 < length new.nodes → IsAgreement c x new id
agreement-made s table k ops seen same c claim x inputs here mid new sources listed listed_is meant name d e ids ids_are
    values given given_is values_are id made truth within =
    subst (λ (vs : List Value). IsAgreement c vs new id) here
    (agreement-is s table k ops c claim inputs (map (sourced mid) sources)
    (meant c (subst (λ (xs : List ℕ). IsClaim s k xs c) (sym same) claim)) name d e (results-there s k name d e) new id
    within truth given (given_is ∙ values_are c.goal claim.of_goal)
    (made
    ∙ (λ i. all_equal s.terms.pointer (map (sourced mid) (listed_is i)) (constant_term (val.Bool true)) 0
    (map (term_at s.terms) (ids_are i)) given)))

-- each operation of the claim once, and it has no memory
pub plain-kinds : (s : Spec) (k : ℕ) (ops kinds listed : List ℕ) → IsGiven s k ops → listed ≡ kinds
    → ((op : ℕ) → Contains kinds op ↔ Contains ops op) → ArePlainOps s listed
plain-kinds s k ops kinds listed given same each =
    subst (ArePlainOps s) (sym same) (plain-ops s k ops kinds given (λ op h. (each op).0 h))

pub have-same : (kinds ops : List ℕ) → ((op : ℕ) → Contains kinds op ↔ Contains ops op) → HaveSame kinds ops
have-same kinds ops each = record { to = λ op h. (each op).0 h; from = λ op h. (each op).1 h }
