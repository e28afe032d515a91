-- One step of each list of terms: its front, and its end.
use Rattle.std.proofs.Common.{◌≡◌, ℕ, ◌+◌, ◌<◌, ◌≤◌, true, List, [], ◌∷◌, ◌++◌, Some}
use Rattle.std.proofs.Common.{refl, sym, ap, ◌∙◌, subst, arith, length, map, drop, get_or, All, slice_get, suc}
use Rattle.std.proofs.Common.{unwrap_or}
use Rattle.std.proofs.lemmas.List.{drop_more, drop_all, length-map}
use Rattle.std.proofs.lemmas.Option.{get_or_from_slice_get, slice_get-get_or, slice_get-map, same_Some}
use Rattle.bv_terms.specs.declared.op.TermId.{TermId}
use Rattle.bv_terms.specs.declared.value.Sort.{Sort}
use Rattle.bv_terms.specs.declared.value.Sort.TheVariants as sort
use Rattle.bv_terms.specs.declared.value.Value.{Value}
use Rattle.bv_terms.specs.declared.value.Value.TheVariants as val
use Rattle.bv_terms.specs.Sorts.{HaveSorts, HasSort}
use Rattle.bv_terms.specs.Term.{Term}
use Rattle.bv_terms.specs.Table.{Table, IsTable, Extends, term_at}
use Rattle.bv_terms.specs.WellSorted.{sort_of}
use Rattle.bv_terms.specs.Replaced.{replaced, ReplacementsFit}
use Rattle.bv_terms.proofs.GraftLemmas.{Extends-further, Extends-term, Extends-longer, Extends-terms}
use Rattle.isel_spec.specs.File.{File, sorts_in}
use Rattle.isel_spec.specs.declared.definitions.Kind.{Kind}
use Rattle.pattern_core.proofs.FitLemmas.{Pairwise-at, Pairwise-length}
use Rattle.std.specs.Prelude.{option_map}
use Rattle.bv_terms.proofs.TermLemmas.{HaveSorts-at}
use Rattle.list_lemmas.proofs.Lookups.{All-slice_get}
use Rattle.pattern_core.specs.declared.pattern.Src.TheVariants.{Input}
use Rattle.pattern_core.specs.Pattern.{Pairwise}
use Rattle.loc_encode.specs.declared.slots.Slot.TheVariants as slot
use Rattle.loc_encode.specs.declared.taking.Named.{Named}
use Rattle.loc_encode.specs.declared.taking.Taker.{Taker}
use Rattle.loc_encode.specs.declared.taking.Taker.TheVariants as taker
use Rattle.loc_encode.specs.declared.lines.Kinded.{Kinded}
use Rattle.loc_encode.specs.Slots.{slot_number}
use Rattle.loc_encode.specs.Building.{input_term, constant_term, equal_term, both_term, IsOneSort, AreTruths}
use Rattle.loc_encode.specs.Lines.{Sourced, sourced, of_kind, the_sort, IsIn, AreIn, IsId, IsPlain}
use Rattle.loc_encode.specs.Lines.{taken_term, arg_terms, attr_terms, result_kinds, op_kinds, line_kinds, input_sources}
use Rattle.loc_encode.specs.Lines.{compared_term, all_equal}
use Rattle.loc_encode.specs.Making.{CanGraft, IsKindIn, IsResultIn}
use Rattle.loc_encode.proofs.BuildingLemmas.{sort-constant, sort-equal}
use Rattle.loc_encode.proofs.GrowthLemmas.{all-stay, all-same, ids_keep, sources_keep, each_proper}
use Rattle.loc_encode.proofs.TakingLemmas.{taken_term-sorted}

-- ---- arguments

pub arg-front : (line : ℕ) (sources : List Sourced) (sorts : List Sort) (i : ℕ) (d : Sort) → i < length sorts
    → arg_terms line sources i (drop i sorts)
    ≡ taken_term (taker.Arg line i) (get_or sorts i d) sources ∷ arg_terms line sources (i + 1) (drop (i + 1) sorts)
arg-front line sources sorts i d l = ap (arg_terms line sources i) (drop_more sorts i d l)

pub arg-end : (line : ℕ) (sources : List Sourced) (sorts : List Sort) (i : ℕ) → length sorts ≤ i
    → arg_terms line sources i (drop i sorts) ≡ []
arg-end line sources sorts i l = ap (arg_terms line sources i) (drop_all i sorts l)

pub attr-front : (line op : ℕ) (widths : List ℕ) (i d : ℕ) → i < length widths
    → attr_terms line op i (drop i widths)
    ≡ input_term (slot_number (slot.Attr line op i)) (sort.Bits (get_or widths i d))
    ∷ attr_terms line op (i + 1) (drop (i + 1) widths)
attr-front line op widths i d l = ap (attr_terms line op i) (drop_more widths i d l)

pub attr-end : (line op : ℕ) (widths : List ℕ) (i : ℕ) → length widths ≤ i
    → attr_terms line op i (drop i widths) ≡ []
attr-end line op widths i l = ap (attr_terms line op i) (drop_all i widths l)

-- ---- results of an operation

pub result-front : (p op : ℕ) (inputs : List Term) (from : Table) (results : List TermId) (i : ℕ) (d : TermId)
    → i < length results
    → result_kinds p op inputs i (map (term_at from) (drop i results))
    ≡ record {
      op = op;
      result = i;
      sort = the_sort p (term_at from (get_or results i d));
      term = replaced inputs (term_at from (get_or results i d));
    } ∷ result_kinds p op inputs (i + 1) (map (term_at from) (drop (i + 1) results))
result-front p op inputs from results i d l =
    ap (λ (ids : List TermId). result_kinds p op inputs i (map (term_at from) ids)) (drop_more results i d l)

pub result-end : (p op : ℕ) (inputs : List Term) (from : Table) (results : List TermId) (i : ℕ)
    → length results ≤ i → result_kinds p op inputs i (map (term_at from) (drop i results)) ≡ []
result-end p op inputs from results i l =
    ap (λ (ids : List TermId). result_kinds p op inputs i (map (term_at from) ids)) (drop_all i results l)

-- a longer table takes them still
pub CanGraft-longer : (old new from : Table) (results inputs : List TermId) → Extends old new
    → CanGraft old from results inputs → CanGraft new from results inputs
CanGraft-longer old new from results inputs more can = record {
  is_from = can.is_from;
  pointer = can.pointer ∙ sym more.pointer;
  few = can.few;
  there = can.there;
  plain = can.plain;
  ids = all-stay IsId term_at ids_keep old new more inputs can.ids;
  fit =
      λ k d l. subst (λ p. ReplacementsFit p (map (term_at new) inputs) (term_at from (get_or results k d)))
      (sym more.pointer)
      (subst (λ (ts : List Term). ReplacementsFit old.pointer ts (term_at from (get_or results k d)))
      (sym (Extends-terms old new more inputs can.ids)) (can.fit k d l));
}

-- the result that is made
pub kind-made : (old table new from : Table) (op i : ℕ) (results inputs : List TermId) (at id : TermId) (s : Sort)
    → CanGraft old from results inputs → Extends old table
    → sort_of from.pointer (term_at from at) ≡ Some s
    → term_at new id ≡ replaced (map (term_at table) inputs) (term_at from at)
    → of_kind new (record { op = op; result = i; sort = s; term = id })
    ≡ record {
      op = op;
      result = i;
      sort = the_sort old.pointer (term_at from at);
      term = replaced (map (term_at old) inputs) (term_at from at);
    }
kind-made old table new from op i results inputs at id s can more sorted term =
    let same : s ≡ the_sort old.pointer (term_at from at) =
    sym (ap (λ p. the_sort p (term_at from at)) (sym can.pointer) ∙ ap (λ o. unwrap_or o sort.Bool) sorted) in
    let made : term_at new id ≡ replaced (map (term_at old) inputs) (term_at from at) =
    term ∙ ap (λ ts. replaced ts (term_at from at)) (Extends-terms old table more inputs can.ids) in
    λ j. record { op = op; result = i; sort = same j; term = made j }

pub kind-there : (old table new from : Table) (op i : ℕ) (results inputs : List TermId) (k : ℕ) (at id : TermId)
    (s : Sort) → CanGraft old from results inputs → Extends old table → Extends table new
    → slice_get results k ≡ Some at → sort_of from.pointer (term_at from at) ≡ Some s → id.0 < length new.nodes
    → sort_of new.pointer (term_at new id) ≡ sort_of table.pointer (term_at from at)
    → IsKindIn new (record { op = op; result = i; sort = s; term = id })
kind-there old table new from op i results inputs k at id s can first more here sorted within made = record {
  there = within;
  plain =
      λ memory. All-slice_get (λ (a : TermId). ¬ (sort_of from.pointer (term_at from a) ≡ Some sort.Mem)) results k at
      can.plain here (sorted ∙ ap Some memory);
  sorted =
      made ∙ ap (λ p. sort_of p (term_at from at)) (first.pointer ∙ sym can.pointer) ∙ sorted;
}

-- ---- operations of a line

pub op-front : (f : File) (line : ℕ) (sources : List Sourced) (ops : List ℕ) (i d : ℕ) → i < length ops
    → line_kinds f line sources (drop i ops)
    ≡ op_kinds f.pointer line sources (get_or ops i d) (slice_get f.ops (get_or ops i d))
    ++ line_kinds f line sources (drop (i + 1) ops)
op-front f line sources ops i d l = ap (line_kinds f line sources) (drop_more ops i d l)

pub op-end : (f : File) (line : ℕ) (sources : List Sourced) (ops : List ℕ) (i : ℕ) → length ops ≤ i
    → line_kinds f line sources (drop i ops) ≡ []
op-end f line sources ops i l = ap (line_kinds f line sources) (drop_all i ops l)

-- the operation's results at a later table are those at the first
pub op-moved : (old mid : Table) (kinds : List Kinded) (sources : List Named) (f : File) (line op : ℕ)
    → Extends old mid → AreIn old sources
    → map (of_kind mid) kinds ++ op_kinds f.pointer line (map (sourced mid) sources) op (slice_get f.ops op)
    ≡ map (of_kind mid) kinds ++ op_kinds f.pointer line (map (sourced old) sources) op (slice_get f.ops op)
op-moved old mid kinds sources f line op more are =
    ap (λ srcs. map (of_kind mid) kinds ++ op_kinds f.pointer line srcs op (slice_get f.ops op))
    (all-same IsIn sourced sources_keep old mid more sources are)

-- ---- inputs

pub input-front : {A : Type 0} (f : A → Sort) (args : List A) (inputs : List Value) (i : ℕ) (d : A) (v : Value)
    → i < length args → i < length inputs
    → input_sources i (map f (drop i args)) (drop i inputs)
    ≡ record { source = Input i; sort = f (get_or args i d); term = constant_term (get_or inputs i v) }
    ∷ input_sources (i + 1) (map f (drop (i + 1) args)) (drop (i + 1) inputs)
input-front {A} f args inputs i d v l k =
    λ j. input_sources i (map f (drop_more args i d l j)) (drop_more inputs i v k j)

pub input-end : {A : Type 0} (f : A → Sort) (args : List A) (inputs : List Value) (i : ℕ) → length args ≤ i
    → input_sources i (map f (drop i args)) (drop i inputs) ≡ []
input-end {A} f args inputs i l =
    ap (λ (xs : List A). input_sources i (map f xs) (drop i inputs)) (drop_all i args l)

pub HaveSorts-length : (ss : List Sort) (vs : List Value) → HaveSorts ss vs → length ss ≡ length vs
HaveSorts-length [] [] h = refl
HaveSorts-length [] (v ∷ vs) h = absurd h
HaveSorts-length (s ∷ ss) [] h = absurd h
HaveSorts-length (s ∷ ss) (v ∷ vs) h = ap suc (HaveSorts-length ss vs h.1)

-- ---- results of the goal

-- the comparison so far, and what is left to compare
pub record IsComparing (old table from : Table) (results : List TermId) (values : List Value) (sources : List Named)
    (place : ℕ) (so_far : TermId) : Type 0 where
  pub is_table : IsTable table
  pub extends : Extends old table
  pub there : so_far.0 < length table.nodes
  pub sorted : sort_of table.pointer (term_at table so_far) ≡ Some sort.Bool
  pub whole : all_equal from.pointer (map (sourced old) sources) (term_at table so_far) place
      (map (term_at from) (drop place results)) (drop place values)
      ≡ all_equal from.pointer (map (sourced old) sources) (constant_term (val.Bool true)) 0
      (map (term_at from) results) values

pub IsComparing-start : (old table from : Table) (results : List TermId) (values : List Value) (sources : List Named)
    (so_far : TermId) → IsTable table → Extends old table → so_far.0 < length table.nodes
    → term_at table so_far ≡ constant_term (val.Bool true)
    → IsComparing old table from results values sources 0 so_far
IsComparing-start old table from results values sources so_far is more there term = record {
  is_table = is;
  extends = more;
  there = there;
  sorted =
      ap (sort_of table.pointer) term ∙ sort-constant table.pointer (val.Bool true) sort.Bool tt tt;
  whole =
      ap (λ t. all_equal from.pointer (map (sourced old) sources) t 0 (map (term_at from) results) values) term;
}

pub IsComparing-more : (old table new from : Table) (results : List TermId) (values : List Value)
    (sources : List Named) (place : ℕ) (so_far id d : TermId) (e : Value)
    → IsComparing old table from results values sources place so_far → place < length results
    → place < length values → AreIn old sources → IsTable new → Extends table new → id.0 < length new.nodes
    → sort_of new.pointer (term_at new id) ≡ Some sort.Bool
    → term_at new id
    ≡ compared_term from.pointer (map (sourced table) sources) (term_at table so_far) place
    (term_at from (get_or results place d)) (get_or values place e)
    → IsComparing old new from results values sources (place + 1) id
IsComparing-more old table new from results values sources place so_far id d e is l k are is_new more within truth
    term =
    let p : ℕ = from.pointer in
    let srcs : List Sourced = map (sourced old) sources in
    let next : term_at new id
    ≡ compared_term p srcs (term_at table so_far) place (term_at from (get_or results place d))
    (get_or values place e) =
    term ∙ ap (λ xs. compared_term p xs (term_at table so_far) place (term_at from (get_or results place d))
    (get_or values place e)) (all-same IsIn sourced sources_keep old table is.extends sources are) in
    record {
      is_table = is_new;
      extends = Extends-further old table new is.extends more;
      there = within;
      sorted = truth;
      whole =
          ap (λ t. all_equal p srcs t (place + 1) (map (term_at from) (drop (place + 1) results))
          (drop (place + 1) values)) next
          ∙ sym (λ j. all_equal p srcs (term_at table so_far) place
          (map (term_at from) (drop_more results place d l j)) (drop_more values place e k j))
          ∙ is.whole;
    }

pub IsComparing-end : (old table from : Table) (results : List TermId) (values : List Value) (sources : List Named)
    (place : ℕ) (so_far : TermId) → IsComparing old table from results values sources place so_far
    → length results ≤ place
    → term_at table so_far
    ≡ all_equal from.pointer (map (sourced old) sources) (constant_term (val.Bool true)) 0
    (map (term_at from) results) values
IsComparing-end old table from results values sources place so_far is l =
    sym (ap (λ (ids : List TermId). all_equal from.pointer (map (sourced old) sources) (term_at table so_far) place
    (map (term_at from) ids) (drop place values)) (drop_all place results l))
    ∙ is.whole

-- ---- one result of the goal

-- the chain of a result is of its sort
pub taken-sort : (old table : Table) (t : Taker) (s : Sort) (sources : List Named) (id : TermId) → AreIn old sources
    → IsPlain s → Extends old table → term_at table id ≡ taken_term t s (map (sourced old) sources)
    → sort_of table.pointer (term_at table id) ≡ Some s
taken-sort old table t s sources id are plain more term =
    (λ i. sort_of (more.pointer i) (term i))
    ∙ taken_term-sorted old.pointer t s (map (sourced old) sources) (each_proper old sources are) plain

-- the two terms that are compared
pub one_sort-made : (table mid : Table) (taken wanted : TermId) (s : Sort) (v : Value) → IsPlain s → HasSort s v
    → Extends table mid → taken.0 < length table.nodes → wanted.0 < length mid.nodes
    → sort_of table.pointer (term_at table taken) ≡ Some s → term_at mid wanted ≡ constant_term v
    → IsOneSort mid taken wanted
one_sort-made table mid taken wanted s v plain fits more there other sorted term = record {
  one = s;
  plain = plain.plain;
  there = omega (arith, there, Extends-longer table mid more);
  other_there = other;
  sorted = (λ i. sort_of (more.pointer i) (Extends-term table mid more taken there i)) ∙ sorted;
  other_sorted = ap (sort_of mid.pointer) term ∙ sort-constant mid.pointer v s fits plain.sized;
}

-- what was there before, and the comparison
pub truths-made : (old mid new : Table) (so_far taken wanted same : TermId) → IsOneSort mid taken wanted
    → Extends old new → Extends mid new → so_far.0 < length old.nodes
    → sort_of old.pointer (term_at old so_far) ≡ Some sort.Bool → same.0 < length new.nodes
    → term_at new same ≡ equal_term (term_at mid taken) (term_at mid wanted) → AreTruths new so_far same
truths-made old mid new so_far taken wanted same is more last there truth within term = record {
  there = omega (arith, there, Extends-longer old new more);
  other_there = within;
  sorted = (λ i. sort_of (more.pointer i) (Extends-term old new more so_far there i)) ∙ truth;
  other_sorted =
      (λ i. sort_of (last.pointer i) (term i))
      ∙ sort-equal mid.pointer (term_at mid taken) (term_at mid wanted) is.one is.plain is.sorted is.other_sorted;
}

-- both together
pub compared-made : (old first mid new last from : Table) (sources : List Named) (so_far taken wanted same id : TermId)
    (place : ℕ) (at : TermId) (s : Sort) (v : Value) → sort_of from.pointer (term_at from at) ≡ Some s
    → term_at first taken ≡ taken_term (taker.Result place) s (map (sourced old) sources)
    → taken.0 < length first.nodes → Extends first mid → term_at mid wanted ≡ constant_term v
    → term_at new same ≡ equal_term (term_at mid taken) (term_at mid wanted) → Extends old new
    → so_far.0 < length old.nodes → term_at last id ≡ both_term (term_at new so_far) (term_at new same)
    → term_at last id
    ≡ compared_term from.pointer (map (sourced old) sources) (term_at old so_far) place (term_at from at) v
compared-made old first mid new last from sources so_far taken wanted same id place at s v sorted chain there more
    constant equal extends here all =
    let srcs : List Sourced = map (sourced old) sources in
    let sort_is : s ≡ the_sort from.pointer (term_at from at) = sym (ap (λ o. unwrap_or o sort.Bool) sorted) in
    all
    ∙ (λ i. both_term (Extends-term old new extends so_far here i) ((equal
    ∙ (λ j. equal_term ((Extends-term first mid more taken there ∙ chain
    ∙ ap (λ r. taken_term (taker.Result place) r srcs) sort_is) j) (constant j))) i))

-- what is known of a result and its value
pub result-plain : (from : Table) (at : TermId) (v : Value) (s : Sort) → IsResultIn from at v
    → sort_of from.pointer (term_at from at) ≡ Some s → IsPlain s × HasSort s v
result-plain from at v s is sorted =
    let same : is.sort ≡ s = same_Some is.sort s (sym is.sorted ∙ sorted) in
    (subst IsPlain same is.plain, subst (λ r. HasSort r v) same is.fits)

pub result-at : (from : Table) (results : List TermId) (values : List Value) (i : ℕ) (d : TermId) (e : Value)
    → Pairwise (IsResultIn from) results values → i < length results
    → IsResultIn from (get_or results i d) (get_or values i e)
result-at from results values i d e are l = Pairwise-at (IsResultIn from) results values i d e l are

pub as-many : (from : Table) (results : List TermId) (values : List Value)
    → Pairwise (IsResultIn from) results values → length results ≡ length values
as-many from results values are = Pairwise-length (IsResultIn from) results values are

-- ---- the inputs of the goal

pub input-at : (args : List (Kind × Sort)) (inputs : List Value) (i : ℕ) (d : Kind × Sort) (e : Value)
    → HaveSorts (sorts_in args) inputs → All IsPlain (sorts_in args) → i < length args
    → IsPlain (get_or args i d).1 × HasSort (get_or args i d).1 (get_or inputs i e)
input-at args inputs i d e h plain l =
    let at : slice_get (sorts_in args) i ≡ Some (get_or args i d).1 =
    slice_get-map (λ (a : Kind × Sort). a.1) args i
    ∙ ap (option_map (λ (a : Kind × Sort). a.1)) (slice_get-get_or args i d l) in
    let v = HaveSorts-at (sorts_in args) inputs h i (get_or args i d).1 at in
    let here : get_or inputs i e ≡ v.0 = get_or_from_slice_get inputs i v.0 e v.1 in (
      All-slice_get IsPlain (sorts_in args) i (get_or args i d).1 plain at,
      subst (HasSort (get_or args i d).1) (sym here) v.2,
    )

pub as-many-inputs : (args : List (Kind × Sort)) (inputs : List Value) → HaveSorts (sorts_in args) inputs
    → length args ≡ length inputs
as-many-inputs args inputs h =
    sym (length-map args (λ (a : Kind × Sort). a.1)) ∙ HaveSorts-length (sorts_in args) inputs h

pub input-in : (table : Table) (place : ℕ) (s : Sort) (v : Value) (id : TermId) → IsPlain s × HasSort s v
    → id.0 < length table.nodes → term_at table id ≡ constant_term v
    → IsIn table (record { source = Input place; sort = s; term = id })
input-in table place s v id given within term = record {
  there = within;
  proper = record {
    plain = let plain = given.0 in plain.plain;
    sorted =
        ap (sort_of table.pointer) term
        ∙ sort-constant table.pointer v s given.1 (let plain = given.0 in plain.sized);
  };
}

pub input-made : (table : Table) (place : ℕ) (s : Sort) (v : Value) (id : TermId)
    → term_at table id ≡ constant_term v
    → sourced table (record { source = Input place; sort = s; term = id })
    ≡ record { source = Input place; sort = s; term = constant_term v }
input-made table place s v id term = λ i. record { source = Input place; sort = s; term = term i }
