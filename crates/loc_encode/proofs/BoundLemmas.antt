-- A claim of a file is within the file's limits, and where its operations take no memory, none of its results is one.
use Rattle.std.proofs.Common.{◌≡◌, ℕ, ◌<◌, ◌≤◌, ⊎_elim, true, false, List}
use Rattle.std.proofs.Common.{length}
use Rattle.std.proofs.Common.{map, slice_get, Option, Some, None, sym, ap, ◌∙◌, subst, arith}
use Rattle.std.proofs.Common.{Contains}
use Rattle.std.specs.Option.{option_map_or}
use Rattle.std.proofs.lemmas.Bool.{false≢true, and_parts}
use Rattle.std.proofs.lemmas.List.Elements.{All-contains, Contains-append_cases}
use Rattle.std.proofs.lemmas.List.{length-map}
use Rattle.bv_terms.specs.declared.op.TermId.{TermId}
use Rattle.bv_terms.specs.declared.value.Sort.{Sort}
use Rattle.bv_terms.specs.declared.value.Sort.TheVariants as sort
use Rattle.bv_terms.specs.Sorts.{same_sort}
use Rattle.bv_terms.specs.Table.{term_in, terms_of, IsTable}
use Rattle.bv_terms.specs.Term.{Term, Operands, Apply, End, Then}
use Rattle.bv_terms.specs.WellSorted.{sort_of}
use Rattle.bv_terms.proofs.MakeLemmas.{node-sorted}
use Rattle.bv_terms.proofs.NoMemory.{AreOverMemory, memory_from}
use Rattle.bv_terms.proofs.SignatureLemmas.{same_sort-true}
use Rattle.isel_spec.specs.File.{File, Operation, Goal, operation, goal, scope, is_in_scope, stays_in, all_stay_in}
use Rattle.isel_spec.specs.Spec.{file}
use Rattle.isel_spec.specs.declared.definitions.OpDef.{OpDef}
use Rattle.isel_spec.specs.declared.spec.Spec.{Spec}
use Rattle.isel_spec.proofs.SpecLemmas.{IsSoundOp_at, IsSoundGoal_at, sound_result, operation_is, pointer_is}
use Rattle.pattern_core.specs.Claim.{Claim, IsClaim}
use Rattle.multiset_rank.specs.Multisets.{never_falls, IsMulti}
use Rattle.list_lemmas.proofs.Lookups.{mapped_at, some_at, Contains-from_slice_get}
use Rattle.list_lemmas.proofs.Members.{In_of_map, In-from_Contains, Contains-from_In}
use Rattle.loc_encode.specs.Given.{IsGiven}
use Rattle.loc_encode.proofs.TallyLemmas.{NeverFalls-from_test}
use Rattle.loc_encode.proofs.LayoutLemmas.{out_sort-term}
use Rattle.loc_encode.proofs.ReadLemmas.{IsBounded}

-- ---- a term over inputs none of which is a memory is none

memory-in : (o : Option Sort) → option_map_or (same_sort sort.Mem) o false ≡ true → o ≡ Some sort.Mem
memory-in None e = absurd (false≢true e)
memory-in (Some s) e = ap Some (sym (same_sort-true sort.Mem s e))

mutual
  unfolding stays_in

  no-memory : (p : ℕ) (ss : List Sort) → ((k : ℕ) → slice_get ss k ≡ Some sort.Mem → ⊥) → (t : Term)
      → stays_in ss t ≡ true → sort_of p t ≡ Some sort.Mem → ⊥
  no-memory p ss none (Apply o ts) stays e =
      let parts = and_parts (is_in_scope ss o) (all_stay_in ss ts) stays in
      ⊎_elim (λ input.
      none input.0 (memory-in (slice_get ss input.0) (ap (is_in_scope ss) (sym input.1) ∙ parts.0)))
      (λ over. none-first p ss none ts parts.1 over) (memory_from p o ts e)

  none-first : (p : ℕ) (ss : List Sort) → ((k : ℕ) → slice_get ss k ≡ Some sort.Mem → ⊥) → (ts : Operands)
      → all_stay_in ss ts ≡ true → AreOverMemory p ts → ⊥
  none-first p ss none End stays over = over
  none-first p ss none (Then t ts) stays over =
      let parts = and_parts (stays_in ss t) (all_stay_in ss ts) stays in
      no-memory p ss none t parts.0 over

no-memory-in_scope : (d : OpDef) → (¬ Contains d.args sort.Mem) → (k : ℕ) → slice_get (scope d) k ≡ Some sort.Mem → ⊥
no-memory-in_scope d none k e =
    ⊎_elim none
    (λ attrs.
    let w = In_of_map (λ (n : ℕ). sort.Bits n) d.attrs sort.Mem
    (In-from_Contains (map (λ (n : ℕ). sort.Bits n) d.attrs) sort.Mem attrs) in
    let wrong : sort.Bits w.0 ≡ sort.Mem = w.2 in cc)
    (Contains-append_cases d.args (map (λ (n : ℕ). sort.Bits n) d.attrs) sort.Mem
    (Contains-from_slice_get (scope d) k sort.Mem e))

-- ---- the definitions behind a claim

pub op-def : (s : Spec) (k : ℕ) (o : Operation) → slice_get (file s).ops k ≡ Some o
    → (e : List ℕ × OpDef) × (slice_get s.ops k ≡ Some e) × (operation s.terms e ≡ o)
op-def s k o e = mapped_at (operation s.terms) s.ops k o e

outs-plain : (s : Spec) (k : ℕ) (o : Operation) → slice_get (file s).ops k ≡ Some o → (¬ Contains o.args sort.Mem)
    → (r : ℕ) (t : Term) → slice_get o.results r ≡ Some t → sort_of s.pointer t ≡ Some sort.Mem → ⊥
outs-plain s k o e none r t at sorted =
    let d = op-def s k o e in
    let found = mapped_at (λ (a : TermId). term_in (terms_of s.terms) a.0) d.0.1.results r t
    (ap (λ (x : Operation). slice_get x.results r) d.2 ∙ at) in
    let sound = IsSoundOp_at s k d.0 d.1 in
    let result = sound_result s.terms (scope d.0.1) d.0.1.results r found.0 sound.results found.1 in
    no-memory s.pointer (scope d.0.1)
    (no-memory-in_scope d.0.1 (λ (i : Contains d.0.1.args sort.Mem).
    none (subst (λ (x : Operation). Contains x.args sort.Mem) d.2 i)))
    t (subst (λ x. stays_in (scope d.0.1) x ≡ true) found.2 result.stays) sorted

goal-sorted : (s : Spec) → IsTable s.terms → (k : ℕ) (g : Goal) → slice_get (file s).goals k ≡ Some g
    → (place : ℕ) (t : Term) → slice_get g.results place ≡ Some t → (r : Sort) × (sort_of s.pointer t ≡ Some r)
goal-sorted s table k g e place t at =
    let d = mapped_at (goal s.terms) s.goals k g e in
    let found = mapped_at (λ (a : TermId). term_in (terms_of s.terms) a.0) d.0.1.results place t
    (ap (λ (x : Goal). slice_get x.results place) d.2 ∙ at) in
    let sound = IsSoundGoal_at s k d.0 d.1 in
    let result = sound_result s.terms (map (λ a. a.1) d.0.1.args) d.0.1.results place found.0 sound.results found.1 in
    let sorted = node-sorted s.terms table found.0.0 result.there in
    (sorted.0, (λ i. sort_of (pointer_is s i) (sym found.2 i)) ∙ sorted.1)

goal-few : (s : Spec) (k : ℕ) (g : Goal) → slice_get (file s).goals k ≡ Some g
    → (length g.args ≤ 4) × (length g.results ≤ 3)
goal-few s k g e =
    let d = mapped_at (goal s.terms) s.goals k g e in
    let sound = IsSoundGoal_at s k d.0 d.1 in
    let four = sound.few in
    let three = sound.most in (
      omega (arith, four, ap (λ (x : Goal). length x.args) d.2, length-map d.0.1.args (λ a. a.1)),
      omega (
        arith,
        three,
        ap (λ (x : Goal). length x.results) d.2,
        length-map d.0.1.results (λ (a : TermId). term_in (terms_of s.terms) a.0),
      ),
    )

op-few : (s : Spec) (k : ℕ) (o : Operation) → slice_get (file s).ops k ≡ Some o
    → (length o.args ≤ 4) × (length o.results ≤ 3)
op-few s k o e =
    let d = op-def s k o e in
    let sound = IsSoundOp_at s k d.0 d.1 in
    let four = sound.few in
    let three = sound.most in (
      omega (arith, four, ap (λ (x : Operation). length x.args) d.2),
      omega (
        arith,
        three,
        ap (λ (x : Operation). length x.results) d.2,
        length-map d.0.1.results (λ (a : TermId). term_in (terms_of s.terms) a.0),
      ),
    )

-- ---- a claim that is given

pub claim-bounded : (s : Spec) → IsTable s.terms → (k : ℕ) (ops : List ℕ) → IsGiven s k ops → IsMulti ops → (c : Claim)
    → IsClaim s k ops c → IsBounded c
claim-bounded s table k ops given multi c is =
    let few = goal-few s k c.goal is.of_goal in
    let plain = given.plain c is in
    let in-file = λ (op : ℕ) (o : Operation) (e : slice_get c.file.ops op ≡ Some o).
    ap (λ (f : File). slice_get f.ops op) (sym is.of_file) ∙ e in
    record {
      args = few.0;
      results = few.1;
      sorted = λ place t e.
          let r = goal-sorted s table k c.goal is.of_goal place t e in
          (r.0, ap (λ (f : File). sort_of f.pointer t) is.of_file ∙ r.1);
      op_args = λ op o e. (op-few s op o (in-file op o e)).0;
      op_results = λ op o e. (op-few s op o (in-file op o e)).1;
      few = subst (λ (xs : List ℕ). length xs ≤ 6) (sym is.of_ops) multi.0;
      there = λ op i.
          let l : op < length s.ops = All-contains (λ op. op < length s.ops) ops op given.there
          (subst (λ (xs : List ℕ). Contains xs op) is.of_ops (Contains-from_In c.ops op i)) in
          let e = some_at s.ops op l in
          (operation s.terms e.0, ap (λ (f : File). slice_get f.ops op) is.of_file ∙ operation_is s op e.0.0 e.0.1 e.1);
      rising = NeverFalls-from_test c.ops (subst (λ (xs : List ℕ). never_falls xs ≡ true) (sym is.of_ops) multi.1);
      plain_args = λ i e. plain.args (Contains-from_slice_get c.goal.args i sort.Mem e);
      plain_outs = λ op r e.
          let term = out_sort-term c op r sort.Mem e in
          outs-plain s op term.0 (in-file op term.0 term.1)
          (plain.ops term.0 (Contains-from_slice_get c.file.ops op term.0 term.1)) r term.2.0 term.2.1
          (ap (λ (f : File). sort_of f.pointer term.2.0) (sym is.of_file) ∙ term.2.2);
    }
