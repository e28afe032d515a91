-- The terms that are made of an operation's definition are those of the operation.
use Rattle.std.proofs.Common.{◌≡◌, ℕ, ◌≤◌, List, ◌++◌, Some}
use Rattle.std.proofs.Common.{sym, ap, ◌∙◌, subst, slice_get, length, map, All, Contains, get_or}
use Rattle.std.specs.List.{AllByRecursion}
use Rattle.std.proofs.lemmas.List.Elements.{All-from_recursion}
use Rattle.std.proofs.lemmas.Option.{slice_get-get_or}
use Rattle.bv_terms.specs.declared.op.TermId.{TermId}
use Rattle.bv_terms.specs.declared.value.Sort.{Sort}
use Rattle.bv_terms.specs.declared.value.Sort.TheVariants as sort
use Rattle.bv_terms.specs.Term.{Term}
use Rattle.bv_terms.specs.Table.{Table, IsTable, Extends, term_at}
use Rattle.bv_terms.specs.WellSorted.{sort_of}
use Rattle.isel_spec.specs.declared.definitions.OpDef.{OpDef}
use Rattle.isel_spec.specs.declared.spec.Spec.{Spec}
use Rattle.isel_spec.specs.File.{Operation, operation, scope}
use Rattle.isel_spec.specs.Spec.{file}
use Rattle.isel_spec.proofs.SpecLemmas.{IsSoundOp, IsSoundOp_at, pointer_is, operation_is}
use Rattle.list_lemmas.proofs.Lookups.{all-weaker}
use Rattle.loc_encode.specs.declared.taking.Named.{Named}
use Rattle.loc_encode.specs.declared.lines.Kinded.{Kinded}
use Rattle.loc_encode.specs.Lines.{Sourced, sourced, IsProper, IsIn, IsPlain, IsPlainOp, AreIds, of_kind, op_inputs}
use Rattle.loc_encode.specs.Lines.{arg_terms, attr_terms, op_kinds, result_kinds}
use Rattle.loc_encode.specs.Making.{CanGraft, IsKindIn}
use Rattle.loc_encode.proofs.FileLemmas.{op-plain, op-wide, op-fits, op-result-plain, op-stays}
use Rattle.loc_encode.proofs.FitLemmas.{inputs-sorted}
use Rattle.loc_encode.proofs.GrowthLemmas.{each_proper, kinds_keep, all-same}

-- a definition of the file whose arguments are no memories
pub record IsPlainDefinition (s : Spec) (op : ℕ) (name : List ℕ) (d : OpDef) : Type 0 where
  pub at : slice_get s.ops op ≡ Some (name, d)
  pub plain : ¬ Contains d.args sort.Mem

pub IsPlainDefinition-from : (s : Spec) (op k : ℕ) (name : List ℕ) (d : OpDef) → k ≡ op
    → slice_get s.ops k ≡ Some (name, d)
    → ((o : Operation) → slice_get (file s).ops op ≡ Some o → IsPlainOp o) → IsPlainDefinition s op name d
IsPlainDefinition-from s op k name d same e plain =
    let at : slice_get s.ops op ≡ Some (name, d) = ap (slice_get s.ops) (sym same) ∙ e in
    record { at = at; plain = plain (operation s.terms (name, d)) (operation_is s op name d at) }

-- ---- what the calls need

pub few-args : (s : Spec) (op : ℕ) (name : List ℕ) (d : OpDef) (sorts : List Sort) → IsPlainDefinition s op name d
    → sorts ≡ d.args → length sorts ≤ 4
few-args s op name d sorts is same =
    let sound = IsSoundOp_at s op (name, d) is.at in
    subst (λ (xs : List Sort). length xs ≤ 4) (sym same) sound.few

pub plain-args : (s : Spec) (op : ℕ) (name : List ℕ) (d : OpDef) (sorts : List Sort) → IsPlainDefinition s op name d
    → sorts ≡ d.args → All IsPlain sorts
plain-args s op name d sorts is same =
    subst (All IsPlain) (sym same) (All-from_recursion IsPlain d.args (op-plain s op name d is.at is.plain))

pub few-attrs : (s : Spec) (op : ℕ) (name : List ℕ) (d : OpDef) (widths : List ℕ) → IsPlainDefinition s op name d
    → widths ≡ d.attrs → length widths ≤ 2
few-attrs s op name d widths is same =
    let sound = IsSoundOp_at s op (name, d) is.at in
    subst (λ (xs : List ℕ). length xs ≤ 2) (sym same) sound.few_attrs

pub wide-attrs : (s : Spec) (op : ℕ) (name : List ℕ) (d : OpDef) (widths : List ℕ) → IsPlainDefinition s op name d
    → widths ≡ d.attrs → All (λ w. 1 ≤ w) widths
wide-attrs s op name d widths is same =
    subst (All (λ w. 1 ≤ w)) (sym same) (All-from_recursion (λ w. 1 ≤ w) d.attrs
    (all-weaker (λ w. (1 ≤ w) × (w ≤ 64)) (λ w. 1 ≤ w) (λ w h. h.0) d.attrs (op-wide s op name d is.at)))

pub narrow-attrs : (s : Spec) (op : ℕ) (name : List ℕ) (d : OpDef) (widths : List ℕ) → IsPlainDefinition s op name d
    → widths ≡ d.attrs → All (λ w. w ≤ 64) widths
narrow-attrs s op name d widths is same =
    subst (All (λ w. w ≤ 64)) (sym same) (All-from_recursion (λ w. w ≤ 64) d.attrs
    (all-weaker (λ w. (1 ≤ w) × (w ≤ 64)) (λ w. w ≤ 64) (λ w h. h.1) d.attrs (op-wide s op name d is.at)))

-- the terms of the inputs
pub inputs-made : (s : Spec) (op line : ℕ) (name : List ℕ) (d : OpDef) (sources : List Sourced) (sorts : List Sort)
    (widths : List ℕ) (terms first : List Term) → sorts ≡ d.args → widths ≡ d.attrs
    → first ≡ arg_terms line sources 0 sorts → terms ≡ first ++ attr_terms line op 0 widths
    → terms ≡ op_inputs line sources op (operation s.terms (name, d))
inputs-made s op line name d sources sorts widths terms first same_sorts same_widths args all =
    all ∙ ap (λ xs. xs ++ attr_terms line op 0 widths) args
    ∙ (λ i. arg_terms line sources 0 (same_sorts i) ++ attr_terms line op 0 (same_widths i))

pub can-graft : (s : Spec) → IsTable s.terms → (op line : ℕ) (name : List ℕ) (d : OpDef)
    → IsPlainDefinition s op name d → (old table : Table) → old.pointer ≡ s.pointer → Extends old table
    → (sources : List Named) → All (IsIn old) sources → (ids inputs : List TermId) → AreIds table ids → inputs ≡ ids
    → map (term_at table) ids ≡ op_inputs line (map (sourced old) sources) op (operation s.terms (name, d))
    → (results : List TermId) → results ≡ d.results → CanGraft table s.terms results inputs
can-graft s table_is op line name d is old table pointer more sources are ids inputs there same terms results
    results_is =
    subst (λ (rs : List TermId). CanGraft table s.terms rs inputs) (sym results_is)
    (subst (CanGraft table s.terms d.results) (sym same) (record {
      is_from = table_is;
      pointer = sym (pointer_is s) ∙ sym pointer ∙ sym more.pointer;
      few = sound.most;
      there = λ k e l. let r = op-stays s op name d is.at k (get_or d.results k e) (slice_get-get_or d.results k e l) in
          r.there;
      plain =
          λ k e l. op-result-plain s op name d is.at is.plain k (get_or d.results k e)
          (slice_get-get_or d.results k e l) s.terms.pointer;
      ids = there;
      fit =
          λ k e l. op-fits s op name d is.at table.pointer (map (term_at table) ids) sorted k (get_or d.results k e)
          (slice_get-get_or d.results k e l);
    }))
  where
    sound : IsSoundOp s.terms (name, d)
    sound = IsSoundOp_at s op (name, d) is.at

    srcs : List Sourced
    srcs = map (sourced old) sources

    proper : AllByRecursion (IsProper table.pointer) srcs
    proper = subst (λ p. AllByRecursion (IsProper p) srcs) (sym more.pointer) (each_proper old sources are)

    sorted : map (sort_of table.pointer) (map (term_at table) ids) ≡ map (λ (s : Sort). Some s) (scope d)
    sorted =
        ap (map (sort_of table.pointer)) terms
        ∙ inputs-sorted table.pointer line op srcs (operation s.terms (name, d)) proper
        (op-plain s op name d is.at is.plain) (op-wide s op name d is.at)

-- the kinds that were added
pub kinds-made : (s : Spec) (op line : ℕ) (name : List ℕ) (d : OpDef) → IsPlainDefinition s op name d
    → (old table new : Table) → old.pointer ≡ s.pointer → Extends old table → (sources : List Sourced)
    → (kinds added : List Kinded) → All (IsKindIn old) kinds → (ids inputs : List TermId) → inputs ≡ ids
    → map (term_at table) ids ≡ op_inputs line sources op (operation s.terms (name, d)) → (results : List TermId)
    → results ≡ d.results
    → map (of_kind new) added ≡ map (of_kind table) kinds
    ++ result_kinds table.pointer op (map (term_at table) inputs) 0 (map (term_at s.terms) results)
    → map (of_kind new) added
    ≡ map (of_kind old) kinds ++ op_kinds s.pointer line sources op (slice_get (file s).ops op)
kinds-made s op line name d is old table new pointer more sources kinds added are ids inputs same terms results
    results_is made =
    made
    ∙ (λ i. all-same IsKindIn of_kind kinds_keep old table more kinds are i
    ++ result_kinds (at_pointer i) op (at_terms i) 0 (map (term_at s.terms) (results_is i)))
    ∙ sym (ap (λ o. map (of_kind old) kinds ++ op_kinds s.pointer line sources op o) (operation_is s op name d is.at))
  where
    at_pointer : table.pointer ≡ s.pointer
    at_pointer = more.pointer ∙ pointer

    at_terms : map (term_at table) inputs ≡ op_inputs line sources op (operation s.terms (name, d))
    at_terms = ap (map (term_at table)) same ∙ terms
