-- The difference from a pattern, as the conditions that its choices and attributes make.
use Rattle.std.proofs.Common.{◌≡◌, ◌∙◌, ◌≤◌, ℕ, List, [], ◌∷◌, Some, sym, ap, subst, length}
use Rattle.std.proofs.Common.{slice_get, arith}
use Rattle.std.specs.Prelude.{option_map}
use Rattle.std.proofs.lemmas.Option.{same_Some, slice_get-map, slice_get_within}
use Rattle.bv_terms.specs.declared.op.Op.TheVariants as op
use Rattle.bv_terms.specs.declared.op.TermId.{TermId}
use Rattle.bv_terms.specs.declared.value.Sort.TheVariants as sort
use Rattle.bv_terms.specs.declared.value.Value.{Value}
use Rattle.bv_terms.specs.Table.{Table, IsTable}
use Rattle.isel_spec.specs.declared.definitions.OpDef.{OpDef}
use Rattle.isel_spec.specs.declared.spec.Spec.{Spec}
use Rattle.isel_spec.specs.File.{File, Operation, operation}
use Rattle.isel_spec.specs.Spec.{file}
use Rattle.pattern_core.specs.Claim.{Claim, IsClaim, IsPatternOf}
use Rattle.pattern_core.specs.declared.pattern.Node.{Node}
use Rattle.pattern_core.specs.declared.pattern.Pattern.{Pattern}
use Rattle.pattern_core.specs.declared.pattern.Src.{Src}
use Rattle.loc_encode.specs.declared.slots.Slot.TheVariants as slot
use Rattle.loc_encode.specs.Slots.{IsSlot}
use Rattle.loc_encode.specs.Standing.{StandsFor}
use Rattle.loc_encode.specs.Parts.{IsTrueAt, IsDifference}
use Rattle.loc_encode.specs.Matching.{IsSet, IsSized, NameArgs, HaveAttrs, NameResults, MatchesNode, MatchesNodes}
use Rattle.loc_encode.specs.Matching.{Matches}
use Rattle.loc_encode.specs.Matching.{AreNodeSlots}
use Rattle.loc_encode.specs.Condition.{IsMade, IsTruth, IsBoth}
use Rattle.loc_encode.specs.Given.{IsGiven, IsPatternFor}
use Rattle.loc_encode.proofs.ClaimLemmas.{IsLimitedClaim, IsLimitedClaim-from_spec, has_claim}
use Rattle.loc_encode.proofs.PatternLemmas.{size-of, node-sized, results-few, stands-matches, matches-only}
use Rattle.loc_encode.proofs.ConditionLemmas.{both-then, both-same, over-not, not-true}

-- ---- one node

-- the operation of a file in a place
pub operation-of : (s : Spec) (k op : ℕ) (name : List ℕ) (d : OpDef) → k ≡ op → slice_get s.ops k ≡ Some (name, d)
    → slice_get (file s).ops op ≡ Some (operation s.terms (name, d))
operation-of s k op name d same e =
    ap (slice_get (file s).ops) (sym same) ∙ slice_get-map (operation s.terms) s.ops k
    ∙ ap (option_map (operation s.terms)) e

pub widths-count : (s : Spec) (m : Node) (k : ℕ) (name : List ℕ) (d : OpDef) (widths numbers : List ℕ) → k ≡ m.op
    → slice_get s.ops k ≡ Some (name, d) → widths ≡ d.attrs → numbers ≡ m.attrs → IsSized (file s) m
    → length widths ≡ length numbers
widths-count s m k name d widths numbers same e is as' sized =
    ap length is ∙ sized.widths (operation s.terms (name, d)) (operation-of s k m.op name d same e) ∙ sym
    (ap length as')

-- a node's conditions are those of its kind, attributes and arguments
pub node-both : (s : Spec) (m : Node) (k : ℕ) (name : List ℕ) (d : OpDef) (widths numbers : List ℕ) (args : List Src)
    → k ≡ m.op → slice_get s.ops k ≡ Some (name, d) → widths ≡ d.attrs → numbers ≡ m.attrs → args ≡ m.args
    → (line : ℕ) (c : Claim) → c.file ≡ file s → AreNodeSlots c line m
    → (t0 t1 t2 t3 : Table) (e0 e1 e2 e3 : TermId) → IsBoth c t0 e0 t1 e1 (IsSet (slot.Kind line m.op))
    → (((j w : ℕ) → slice_get widths j ≡ Some w → IsSlot c (slot.Attr line m.op j) (sort.Bits w))
    → IsBoth c t1 e1 t2 e2 (HaveAttrs line m.op widths numbers (length widths)))
    → (((j : ℕ) (x : Src) → slice_get args j ≡ Some x → IsSlot c (slot.Arg line j x) sort.Bool)
    → IsBoth c t2 e2 t3 e3 (NameArgs line args (length args)))
    → IsBoth c t0 e0 t3 e3 (MatchesNode (file s) line m)
node-both s m k name d widths numbers args same e is as' named line c of_file slots t0 t1 t2 t3 e0 e1 e2 e3 kind attrs
    arguments =
    let o : Operation = operation s.terms (name, d) in
    let here : slice_get (file s).ops m.op ≡ Some o = operation-of s k m.op name d same e in
    let there : slice_get c.file.ops m.op ≡ Some o = ap (λ (f : File). slice_get f.ops m.op) of_file ∙ here in
    let second = attrs (λ j w at. slots.attrs o there j w (ap (λ (xs : List ℕ). slice_get xs j) (sym is) ∙ at)) in
    let third = arguments (λ j x at. slots.args j x (ap (λ (xs : List Src). slice_get xs j) (sym named) ∙ at)) in
    let M : List Value → Type 0 =
    λ env. (IsSet (slot.Kind line m.op) env × HaveAttrs line m.op widths numbers (length widths) env)
    × NameArgs line args (length args) env in
    both-same c t0 t3 e0 e3 M (MatchesNode (file s) line m)
    (λ env h. record {
      kind = h.0.0;
      attrs = λ q find j w a at number.
          let same_op : q ≡ o = same_Some q o (sym find ∙ here) in
          let width : slice_get widths j ≡ Some w =
          ap (λ (xs : List ℕ). slice_get xs j) is ∙ ap (λ (x : Operation). slice_get x.attrs j) (sym same_op) ∙ at in
          h.0.1 j w (slice_get_within widths j w width) width a (ap (λ (xs : List ℕ). slice_get xs j) as' ∙ number);
      args = λ j x at.
          let arg : slice_get args j ≡ Some x = ap (λ (xs : List Src). slice_get xs j) named ∙ at in
          h.1 j x (slice_get_within args j x arg) arg;
    })
    (λ env h. (
      (
        h.kind,
        λ j w less at a number.
            h.attrs o here j w a (ap (λ (xs : List ℕ). slice_get xs j) (sym is) ∙ at)
            (ap (λ (xs : List ℕ). slice_get xs j) (sym as') ∙ number),
      ),
      λ j x less at. h.args j x (ap (λ (xs : List Src). slice_get xs j) (sym named) ∙ at),
    ))
    (both-then c t0 t2 t3 e0 e2 e3
    (λ env. IsSet (slot.Kind line m.op) env × HaveAttrs line m.op widths numbers (length widths) env)
    (NameArgs line args (length args))
    (both-then c t0 t1 t2 e0 e1 e2 (IsSet (slot.Kind line m.op)) (HaveAttrs line m.op widths numbers (length widths))
    kind
    second) third)

-- ---- the whole pattern

-- limits of a claim that has a pattern
pub limits-by_pattern : (s : Spec) (place : ℕ) (ops : List ℕ) (c : Claim) (p : Pattern) → IsTable s.terms
    → IsClaim s place ops c → IsPatternOf c p → IsLimitedClaim c
limits-by_pattern s place ops c p table is pattern =
    let size = size-of c p pattern in
    let six = pattern.well_formed.size in
    let count : length ops ≡ length c.ops = ap length (sym is.of_ops) in
    IsLimitedClaim-from_spec s place ops c table (omega (arith, size, six, count)) is

-- what is known of a pattern that is one of a goal with these operations
pub record IsWithin (s : Spec) (p : Pattern) : Type 0 where
  pub size : length p.nodes ≤ 6
  pub nodes : (k : ℕ) (n : Node) → slice_get p.nodes k ≡ Some n → IsSized (file s) n
  pub results : length p.results ≤ 3

pub within : (s : Spec) (place : ℕ) (ops : List ℕ) (p : Pattern) → IsTable s.terms → IsGiven s place ops
    → IsPatternFor s place ops p → IsWithin s p
within s place ops p table given for =
    let found = has_claim s place ops given.place in
    let c : Claim = found.0 in
    let is : IsClaim s place ops c = found.1 in
    let pattern : IsPatternOf c p = for c is in
    let limits = limits-by_pattern s place ops c p table is pattern in
    record {
      size = pattern.well_formed.size;
      nodes = λ k n e. subst (λ (f : File). IsSized f n) is.of_file (node-sized c limits p pattern k n e);
      results = results-few c limits p pattern;
    }

-- all conditions of a pattern, and the opposite
pub difference-is : (c : Claim) (f : File) (p : Pattern) (nodes : List Node) (results : List Src) → IsLimitedClaim c
    → c.file ≡ f → nodes ≡ p.nodes → results ≡ p.results → IsPatternOf c p
    → (t0 t1 t2 t3 : Table) (e0 e1 e2 e3 : TermId) → IsTruth c t0 e0 → ((env : List Value) → IsTrueAt t0 e0 env)
    → IsBoth c t0 e0 t1 e1 (MatchesNodes f nodes (length nodes))
    → IsBoth c t1 e1 t2 e2 (NameResults results (length results)) → IsMade t2 op.Not (e2 ∷ []) t3 e3
    → IsDifference c p t3 e3
difference-is c f p nodes results limits of_file same_nodes same_results pattern t0 t1 t2 t3 e0 e1 e2 e3 first always
    second third made =
    record {
      over = over-not c t2 t3 e2 e3 made truth;
      differs = λ env q is stands. (
        λ e same.
            (not-true c t2 t3 e2 e3 made truth env).0 e
            (whole env (stands-matches c limits env p pattern (subst (StandsFor c env) same stands))),
        λ other.
            (not-true c t2 t3 e2 e3 made truth env).1
            (λ all. other (matches-only c limits env q p is stands pattern (parts env all))),
      );
    }
  where
    truth : IsTruth c t2 e2
    truth = third.truth (second.truth first)

    parts : (env : List Value) → IsTrueAt t2 e2 env → Matches c.file p env
    parts env all =
        let last = (third.holds env).0 all in
        let before = (second.holds env).0 last.0 in
        record {
          nodes = λ k m at.
              let here : slice_get nodes k ≡ Some m = ap (λ (xs : List Node). slice_get xs k) same_nodes ∙ at in
              subst (λ (g : File). MatchesNode g k m env) (sym of_file)
              (before.1 k m (slice_get_within nodes k m here) here);
          results = λ k x at.
              let here : slice_get results k ≡ Some x = ap (λ (xs : List Src). slice_get xs k) same_results ∙ at in
              last.1 k x (slice_get_within results k x here) here;
        }

    whole : (env : List Value) → Matches c.file p env → IsTrueAt t2 e2 env
    whole env all =
        (third.holds env).1 (
          (second.holds env).1 (
            always env,
            λ k m less at.
                subst (λ (g : File). MatchesNode g k m env) of_file
                (all.nodes k m (ap (λ (xs : List Node). slice_get xs k) (sym same_nodes) ∙ at)),
          ),
          λ k x less at. all.results k x (ap (λ (xs : List Src). slice_get xs k) (sym same_results) ∙ at),
        )
