-- What the sources before a line mean, from the inputs on.
use Rattle.std.proofs.Common.{◌≡◌, ℕ, zero, suc, ◌+◌, ◌<◌, ◌≤◌, false, List, [], ◌∷◌, ◌++◌, Some}
use Rattle.std.proofs.Common.{inl, inr, refl, sym, ap, ◌∙◌, subst, ⊎_elim, arith, slice_get, length, Contains}
use Rattle.std.proofs.Common.{unwrap_or, length-append}
use Rattle.std.proofs.lemmas.Bool.{cases_order}
use Rattle.std.proofs.lemmas.Option.{same_Some, none-some}
use Rattle.bv_terms.specs.declared.value.Sort.{Sort}
use Rattle.bv_terms.specs.declared.value.Value.{Value}
use Rattle.bv_terms.specs.declared.value.Value.TheVariants as val
use Rattle.bv_terms.specs.Sorts.{HaveSorts}
use Rattle.isel_spec.specs.File.{Operation}
use Rattle.list_lemmas.proofs.Lists.{append-move}
use Rattle.list_lemmas.proofs.Lookups.{slice_get-middle}
use Rattle.list_lemmas.proofs.Members.{In, In-append_left, In-append_right, In-append_cases}
use Rattle.pattern_core.specs.Claim.{Claim, IsPatternOf}
use Rattle.pattern_core.specs.declared.pattern.Pattern.{Pattern}
use Rattle.pattern_core.specs.declared.pattern.Src.{Src}
use Rattle.pattern_core.specs.declared.pattern.Src.TheVariants.{Input, Out}
use Rattle.pattern_core.specs.Pattern.{source_sort}
use Rattle.loc_encode.specs.Slots.{IsSourceAt, IsOperationOf}
use Rattle.loc_encode.specs.Building.{constant_term}
use Rattle.loc_encode.specs.Lines.{Sourced, OfKind, line_kinds, with_line, input_sources}
use Rattle.loc_encode.specs.Meaning.{sort_in, IsMeant, IsListed, AreMeant}
use Rattle.loc_encode.proofs.BuildingLemmas.{over-constant, value-constant}
use Rattle.loc_encode.proofs.MergeLemmas.{AreLine, line-merged}
use Rattle.loc_encode.proofs.OperationLemmas.{CanStand, AreMeantKinds, kinds-meant}
use Rattle.loc_encode.proofs.OutsLemmas.{before-from_sort, sort-from_node, sort-of_node, result-of, node-operation}

-- ---- sources at a later line

source-later : (c : Claim) (line more : ℕ) (s : Sort) (source : Src) → line ≤ more → IsSourceAt c line s source
    → IsSourceAt c more s source
source-later c line more s (Input k) l h = h
source-later c line more s (Out node result) l h = (omega (arith, h.0), h.1)

meant-later : (c : Claim) (inputs : List Value) (line more : ℕ) (e : Sourced) → line ≤ more
    → IsMeant c inputs line e → IsMeant c inputs more e
meant-later c inputs line more e l h = record {
  over = h.over;
  before = source-later c line more e.sort e.source l h.before;
  gives = h.gives;
}

-- ---- one more line

-- a source of a line, where its kinds are all that may stand there
line-meant : (c : Claim) (inputs : List Value) (line : ℕ) (ks : List OfKind) (es : List Sourced)
    → AreMeantKinds c inputs line ks → AreLine c inputs line ks es → (e : Sourced) → In es e
    → IsMeant c inputs (line + 1) e
line-meant c inputs line ks es kinds are e i =
    let is = are.are.each e i in
    record {
      over = is.over;
      before = is.before;
      gives =
          λ env q wf stands sorted.
          let here : source_sort c.file c.goal q.nodes (length q.nodes) (Out line is.result) ≡ Some e.sort =
          ap (sort_in c q) (sym is.at) ∙ sorted in
          let r = result-of c.file c.goal q.nodes (length q.nodes) line is.result e.sort here in
          let op : IsOperationOf c r.n.op r.operation = node-operation c q wf line r.n r.at r.operation r.there in
          let k = kinds.all r.n.op r.operation is.result r.term e.sort op r.of_result r.sorted in
          is.gives env q r.n k.0 wf stands r.at (are.has k.0 k.1) k.2
          (is.at ∙ ap (Out line) (sym k.3)) (sym k.4);
    }

pub next-line : (c : Claim) (inputs : List Value) (line : ℕ) (ops : List ℕ) (sources : List Sourced)
    → line < length c.ops → AreMeant c inputs line sources → ((op : ℕ) → Contains ops op → Contains c.ops op)
    → ((op : ℕ) → Contains c.ops op → Contains ops op)
    → ((op : ℕ) (o : Operation) → IsOperationOf c op o → CanStand c line op o sources)
    → AreMeant c inputs (line + 1) (with_line c.file ops sources line)
next-line c inputs line ops sources within meant into from can =
    let ks : List OfKind = line_kinds c.file line sources ops in
    let kinds = kinds-meant c inputs line ops sources within meant into from can in
    go ks kinds (line-merged c inputs line within ks kinds.each)
  where
    go : (ks : List OfKind) → AreMeantKinds c inputs line ks → {es : List Sourced} → AreLine c inputs line ks es
        → AreMeant c inputs (line + 1) (sources ++ es)
    go ks kinds {es} are = record {
      each =
          λ e i. ⊎_elim (λ old. meant-later c inputs line (line + 1) e (omega arith) (meant.each e old))
          (λ new. line-meant c inputs line ks es kinds are e new) (In-append_cases sources es e i);
      all = λ q wf source s sorted. listed q wf source s sorted;
    }
      where
        old : (source : Src) (s : Sort) → IsListed sources source s → IsListed (sources ++ es) source s
        old source s (x, i, at, sorted) = (x, In-append_left sources es x i, at, sorted)

        new : (q : Pattern) → IsPatternOf c q → (result : ℕ) (s : Sort)
            → source_sort c.file c.goal q.nodes (line + 1) (Out line result) ≡ Some s
            → IsListed (sources ++ es) (Out line result) s
        new q wf result s sorted =
            let r = result-of c.file c.goal q.nodes (line + 1) line result s sorted in
            let op = node-operation c q wf line r.n r.at r.operation r.there in
            let k = kinds.all r.n.op r.operation result r.term s op r.of_result r.sorted in
            let found = are.are.all k.0 (are.has k.0 k.1) in
            (found.0, In-append_right sources es found.0 found.1, found.2 ∙ ap (Out line) k.3, found.3 ∙ k.4)

        listed : (q : Pattern) → IsPatternOf c q → (source : Src) (s : Sort)
            → source_sort c.file c.goal q.nodes (line + 1) source ≡ Some s → IsListed (sources ++ es) source s
        listed q wf (Input k) s sorted = old (Input k) s (meant.all q wf (Input k) s sorted)
        listed q wf (Out node result) s sorted =
            let before : node < line + 1 =
            before-from_sort c.file c.goal q.nodes (line + 1) (Out node result) s sorted in
            elim (cases_order node line) [
              | inl same ↦ subst (λ x. IsListed (sources ++ es) (Out x result) s) (sym same)
                  (new q wf result s
                  (subst (λ x. source_sort c.file c.goal q.nodes (line + 1) (Out x result) ≡ Some s) same sorted))
              | inr other ↦ elim other [
                | inl less ↦ old (Out node result) s (meant.all q wf (Out node result) s
                    (sort-from_node c.file c.goal q.nodes line node result s less
                    (sort-of_node c.file c.goal q.nodes (line + 1) node result s sorted)))
                | inr more ↦ absurd (omega (arith, before, more))
              ]
            ]

-- ---- the inputs

inputs-each : (c : Claim) (inputs : List Value) (front ss : List Sort) (before vs : List Value) (k : ℕ)
    → length front ≡ k → length before ≡ k → c.goal.args ≡ front ++ ss → inputs ≡ before ++ vs → (e : Sourced)
    → In (input_sources k ss vs) e → IsMeant c inputs 0 e
inputs-each c inputs front [] before vs k l m args all e i = absurd i
inputs-each c inputs front (s ∷ ss) before [] k l m args all e i = absurd i
inputs-each c inputs front (s ∷ ss) before (v ∷ vs) k l m args all e (inl first) =
    let at : slice_get c.goal.args k ≡ Some s =
    ap (λ (xs : List Sort). slice_get xs k) args ∙ slice_get-middle front s ss k l in
    let here : slice_get inputs k ≡ Some v =
    ap (λ (xs : List Value). slice_get xs k) all ∙ slice_get-middle before v vs k m in
    subst (IsMeant c inputs 0) first (record {
      over = over-constant c v;
      before = at;
      gives =
          λ env q wf stands sorted. value-constant env v ∙ sym (ap (λ o. unwrap_or o (val.Bool false)) here);
    })
inputs-each c inputs front (s ∷ ss) before (v ∷ vs) k l m args all e (inr i) =
    inputs-each c inputs (front ++ s ∷ []) ss (before ++ v ∷ []) vs (k + 1)
    (omega (arith, l, length-append front (s ∷ []))) (omega (arith, m, length-append before (v ∷ [])))
    (args ∙ append-move front s ss) (all ∙ append-move before v vs) e i

inputs-all : (ss : List Sort) (vs : List Value) → HaveSorts ss vs → (k j : ℕ) (s : Sort) → slice_get ss j ≡ Some s
    → IsListed (input_sources k ss vs) (Input (k + j)) s
inputs-all [] vs h k j s at = absurd (none-some s at)
inputs-all (r ∷ ss) [] h k j s at = absurd h
inputs-all (r ∷ ss) (v ∷ vs) h k zero s at =
    let here : k ≡ k + 0 = omega arith in (
      record { source = Input k; sort = r; term = constant_term v },
      inl refl,
      ap Input here,
      same_Some r s at,
    )
inputs-all (r ∷ ss) (v ∷ vs) h k (suc j) s at =
    let rest = inputs-all ss vs h.1 (k + 1) j s at in
    let here : k + 1 + j ≡ k + suc j = omega arith in
    (rest.0, inr rest.1, rest.2 ∙ ap Input here, rest.3)

pub inputs-meant : (c : Claim) (inputs : List Value) → HaveSorts c.goal.args inputs
    → AreMeant c inputs 0 (input_sources 0 c.goal.args inputs)
inputs-meant c inputs h = record {
  each = λ e i. inputs-each c inputs [] c.goal.args [] inputs 0 refl refl refl refl e i;
  all = λ q wf source s sorted. listed q source s sorted;
}
  where
    listed : (q : Pattern) (source : Src) (s : Sort) → source_sort c.file c.goal q.nodes 0 source ≡ Some s
        → IsListed (input_sources 0 c.goal.args inputs) source s
    listed q (Input k) s sorted =
        let here : 0 + k ≡ k = omega arith in
        subst (λ x. IsListed (input_sources 0 c.goal.args inputs) (Input x) s) here
        (inputs-all c.goal.args inputs h 0 k s sorted)
    listed q (Out node result) s sorted =
        absurd (omega (arith, before-from_sort c.file c.goal q.nodes 0 (Out node result) s sorted))
