-- What an operation's terms at a line mean.
use Rattle.std.proofs.Common.{◌≡◌, ℕ, zero, suc, ◌+◌, ◌<◌, ◌^◌, false, List, [], ◌∷◌, ◌++◌, Option, Some, None}
use Rattle.std.proofs.Common.{refl, sym, ap, ◌∙◌, subst, arith, slice_get, unwrap_or, length, map, Contains}
use Rattle.std.proofs.Common.{inl, inr, length-append}
use Rattle.std.specs.Prelude.{option_map}
use Rattle.std.specs.List.{AllByRecursion}
use Rattle.std.proofs.lemmas.List.{map-append}
use Rattle.std.proofs.lemmas.Option.{same_Some, none-some, slice_get-map, slice_get_within}
use Rattle.bv_terms.specs.declared.value.Sort.{Sort}
use Rattle.bv_terms.specs.declared.value.Sort.TheVariants as sort
use Rattle.bv_terms.specs.declared.value.Value.{Value}
use Rattle.bv_terms.specs.declared.value.Value.TheVariants as val
use Rattle.bv_terms.specs.Term.{Term, value}
use Rattle.bv_terms.specs.Replaced.{replaced, ReplacementsFit}
use Rattle.bv_terms.specs.WellSorted.{sort_of}
use Rattle.bv_terms.proofs.ReplacedLemmas.{value-replaced}
use Rattle.isel_spec.specs.File.{Operation}
use Rattle.list_lemmas.proofs.Lists.{append-move}
use Rattle.list_lemmas.proofs.Lookups.{slice_get-middle, all-append}
use Rattle.list_lemmas.proofs.Members.{In, In-flat_map, In_of_flat_map, In-from_Contains, Contains-from_In}
use Rattle.pattern_core.specs.Claim.{Claim, IsPatternOf}
use Rattle.pattern_core.specs.declared.pattern.Node.{Node}
use Rattle.pattern_core.specs.declared.pattern.Pattern.{Pattern}
use Rattle.pattern_core.specs.declared.pattern.Src.{Src}
use Rattle.pattern_core.specs.declared.pattern.Src.TheVariants.{Out}
use Rattle.pattern_core.specs.Pattern.{source_sort, Pairwise, IsFitting}
use Rattle.pattern_core.specs.Rule.{attr_values, op_results, outs_from}
use Rattle.loc_encode.specs.declared.slots.Slot.TheVariants as slot
use Rattle.loc_encode.specs.declared.taking.Taker.TheVariants as taker
use Rattle.loc_encode.specs.Slots.{IsOperationOf, slot_number}
use Rattle.loc_encode.specs.Standing.{StandsFor, arg_at}
use Rattle.loc_encode.specs.Parts.{IsOver}
use Rattle.loc_encode.specs.Lines.{Sourced, OfKind, the_sort, arg_terms, attr_terms, op_inputs}
use Rattle.loc_encode.specs.Lines.{result_kinds, op_kinds, line_kinds}
use Rattle.loc_encode.specs.Meaning.{value_of, chosen_at, IsMeantKind, HasSlots, AreMeant}
use Rattle.loc_encode.proofs.BuildingLemmas.{value-input, over-input}
use Rattle.loc_encode.proofs.ChainLemmas.{taken-meant}
use Rattle.loc_encode.proofs.FitLemmas.{over-replaced}
use Rattle.loc_encode.proofs.OutsLemmas.{sort-later, outs-at}

-- ---- at a line

-- a line, an operation that may stand there, and what may be its arguments
pub record IsAtLine (c : Claim) (inputs : List Value) (line op : ℕ) (o : Operation) (sources : List Sourced)
    : Type 0 where
  pub within : line < length c.ops
  pub is_op : IsOperationOf c op o
  pub meant : AreMeant c inputs line sources

-- values stand for a pattern that has the operation at the line
pub record StandsAt (c : Claim) (line op : ℕ) (env : List Value) (q : Pattern) (n : Node) : Type 0 where
  pub is : IsPatternOf c q
  pub stands : StandsFor c env q
  pub at : slice_get q.nodes line ≡ Some n
  pub kind : n.op ≡ op

-- ---- arguments

arg-slots : (c : Claim) (inputs : List Value) (line op place : ℕ) (o : Operation) (sources : List Sourced) (s : Sort)
    → IsAtLine c inputs line op o sources → slice_get o.args place ≡ Some s
    → HasSlots c line (taker.Arg line place) s
arg-slots c inputs line op place o sources s is at source before = (is.within, (op, o, s, is.is_op, at, before), refl)

args-over : (c : Claim) (inputs : List Value) (line op : ℕ) (o : Operation) (sources : List Sourced)
    → IsAtLine c inputs line op o sources → (front ss : List Sort) (place : ℕ) → length front ≡ place
    → o.args ≡ front ++ ss → AllByRecursion (IsOver c) (arg_terms line sources place ss)
args-over c inputs line op o sources is front [] place long whole = tt
args-over c inputs line op o sources is front (s ∷ ss) place long whole =
    let at : slice_get o.args place ≡ Some s =
    ap (λ (xs : List Sort). slice_get xs place) whole ∙ slice_get-middle front s ss place long in
    let chain = taken-meant c inputs line (taker.Arg line place) s
    (arg-slots c inputs line op place o sources s is at) sources is.meant.each in (
      chain.over,
      args-over c inputs line op o sources is (front ++ s ∷ []) ss (place + 1)
          (omega (arith, long, length-append front (s ∷ []))) (whole ∙ append-move front s ss),
    )

args-values : (c : Claim) (inputs : List Value) (line op : ℕ) (o : Operation) (sources : List Sourced)
    → IsAtLine c inputs line op o sources → (env : List Value) (q : Pattern) (n : Node) → StandsAt c line op env q n
    → (front ss : List Sort) (back xs : List Src) (place : ℕ) → length front ≡ place → length back ≡ place
    → o.args ≡ front ++ ss → n.args ≡ back ++ xs
    → map (source_sort c.file c.goal q.nodes line) xs ≡ map (λ (s : Sort). Some s) ss
    → map (value env) (arg_terms line sources place ss) ≡ map (value_of c inputs q) xs
args-values c inputs line op o sources is env q n st front [] back [] place l m whole all e = refl
args-values c inputs line op o sources is env q n st front [] back (x ∷ xs) place l m whole all e = absurd (cc)
args-values c inputs line op o sources is env q n st front (s ∷ ss) back [] place l m whole all e = absurd (cc)
args-values c inputs line op o sources is env q n st front (s ∷ ss) back (x ∷ xs) place l m whole all e =
    let first : source_sort c.file c.goal q.nodes line x ≡ Some s = cc in
    let rest : map (source_sort c.file c.goal q.nodes line) xs ≡ map (λ (s : Sort). Some s) ss = cc in
    let at : slice_get o.args place ≡ Some s =
    ap (λ (xs : List Sort). slice_get xs place) whole ∙ slice_get-middle front s ss place l in
    let chosen : chosen_at q (taker.Arg line place) ≡ Some x =
    ap (λ o. arg_at o place) st.at ∙ ap (λ (xs : List Src). slice_get xs place) all
    ∙ slice_get-middle back x xs place m in
    let chain = taken-meant c inputs line (taker.Arg line place) s
    (arg-slots c inputs line op place o sources s is at) sources is.meant.each in
    let here = slice_get_within q.nodes line n st.at in
    let sorted = sort-later c.file c.goal q.nodes line (length q.nodes) x s (omega arith) first in
    let value_is = chain.gives env q x st.is st.stands chosen sorted (is.meant.all q st.is x s first) in
    let more = args-values c inputs line op o sources is env q n st (front ++ s ∷ []) ss (back ++ x ∷ []) xs (place + 1)
    (omega (arith, l, length-append front (s ∷ []))) (omega (arith, m, length-append back (x ∷ [])))
    (whole ∙ append-move front s ss) (all ∙ append-move back x xs) rest in
    λ i. value_is i ∷ more i

-- ---- attributes

attrs-over : (c : Claim) (inputs : List Value) (line op : ℕ) (o : Operation) (sources : List Sourced)
    → IsAtLine c inputs line op o sources → (front ws : List ℕ) (place : ℕ) → length front ≡ place
    → o.attrs ≡ front ++ ws → AllByRecursion (IsOver c) (attr_terms line op place ws)
attrs-over c inputs line op o sources is front [] place long whole = tt
attrs-over c inputs line op o sources is front (w ∷ ws) place long whole =
    let at : slice_get o.attrs place ≡ Some w =
    ap (λ (xs : List ℕ). slice_get xs place) whole ∙ slice_get-middle front w ws place long in (
      over-input c (slot.Attr line op place) (sort.Bits w) (is.within, (o, w, is.is_op, at, refl)),
      attrs-over c inputs line op o sources is (front ++ w ∷ []) ws (place + 1)
          (omega (arith, long, length-append front (w ∷ []))) (whole ∙ append-move front w ws),
    )

attrs-values : (c : Claim) (line op : ℕ) (o : Operation) → IsOperationOf c op o
    → (env : List Value) (q : Pattern) (n : Node) → StandsAt c line op env q n
    → (front ws back as' : List ℕ) (place : ℕ) → length front ≡ place → length back ≡ place
    → o.attrs ≡ front ++ ws → n.attrs ≡ back ++ as' → Pairwise (λ w a. a < 2 ^ w) ws as'
    → map (value env) (attr_terms line op place ws) ≡ attr_values ws as'
attrs-values c line op o is env q n st front [] back [] place l m whole all e = refl
attrs-values c line op o is env q n st front [] back (a ∷ as') place l m whole all e = absurd e
attrs-values c line op o is env q n st front (w ∷ ws) back [] place l m whole all e = absurd e
attrs-values c line op o is env q n st front (w ∷ ws) back (a ∷ as') place l m whole all e =
    let at : slice_get o.attrs place ≡ Some w =
    ap (λ (xs : List ℕ). slice_get xs place) whole ∙ slice_get-middle front w ws place l in
    let attr : slice_get n.attrs place ≡ Some a =
    ap (λ (xs : List ℕ). slice_get xs place) all ∙ slice_get-middle back a as' place m in
    let here : IsOperationOf c n.op o = subst (λ k. IsOperationOf c k o) (sym st.kind) is in
    let given = st.stands.attrs line place w a n o st.at here at attr in
    let first : slice_get env (slot_number (slot.Attr line op place)) ≡ Some (val.Bits w a) =
    subst (λ k. slice_get env (slot_number (slot.Attr line k place)) ≡ Some (val.Bits w a)) st.kind given in
    let more = attrs-values c line op o is env q n st (front ++ w ∷ []) ws (back ++ a ∷ []) as' (place + 1)
    (omega (arith, l, length-append front (w ∷ []))) (omega (arith, m, length-append back (a ∷ [])))
    (whole ∙ append-move front w ws) (all ∙ append-move back a as') e.1 in
    λ i. value-input env (slot_number (slot.Attr line op place)) (sort.Bits w) (val.Bits w a) first i ∷ more i

-- ---- both

pub inputs-over : (c : Claim) (inputs : List Value) (line op : ℕ) (o : Operation) (sources : List Sourced)
    → IsAtLine c inputs line op o sources → AllByRecursion (IsOver c) (op_inputs line sources op o)
inputs-over c inputs line op o sources is =
    all-append (IsOver c) (arg_terms line sources 0 o.args) (attr_terms line op 0 o.attrs)
    (args-over c inputs line op o sources is [] o.args 0 refl refl)
    (attrs-over c inputs line op o sources is [] o.attrs 0 refl refl)

pub inputs-values : (c : Claim) (inputs : List Value) (line op : ℕ) (o : Operation) (sources : List Sourced)
    → IsAtLine c inputs line op o sources → (env : List Value) (q : Pattern) (n : Node) → StandsAt c line op env q n
    → map (value env) (op_inputs line sources op o)
    ≡ map (value_of c inputs q) n.args ++ attr_values o.attrs n.attrs
inputs-values c inputs line op o sources is env q n st =
    let fit : IsFitting c.file c.goal q.nodes line n = st.is.well_formed.nodes line n st.at in
    let same : fit.operation ≡ o =
    same_Some fit.operation o (sym fit.in_file ∙ ap (slice_get c.file.ops) st.kind ∙ is.is_op.1) in
    map-append (value env) (arg_terms line sources 0 o.args) (attr_terms line op 0 o.attrs)
    ∙ (λ i. args-values c inputs line op o sources is env q n st [] o.args [] n.args 0 refl refl refl refl
    (subst (λ (x : Operation). map (source_sort c.file c.goal q.nodes line) n.args ≡ map (λ (s : Sort). Some s) x.args)
    same fit.args) i
    ++ attrs-values c line op o is.is_op env q n st [] o.attrs [] n.attrs 0 refl refl refl refl
    (subst (λ (x : Operation). Pairwise (λ w a. a < 2 ^ w) x.attrs n.attrs) same fit.attrs) i)

-- ---- results

-- the results of an operation are well-sorted at the terms of its inputs
pub record CanStand (c : Claim) (line op : ℕ) (o : Operation) (sources : List Sourced) : Type 0 where
  pub fit : (r : ℕ) (t : Term) → slice_get o.results r ≡ Some t
      → ReplacementsFit c.file.pointer (op_inputs line sources op o) t
  pub sorted : (r : ℕ) (t : Term) → slice_get o.results r ≡ Some t → (s : Sort) × (sort_of c.file.pointer t ≡ Some s)

-- the value of a result of a node
result-value : (c : Claim) (inputs : List Value) (line op : ℕ) (o : Operation) (sources : List Sourced)
    → IsAtLine c inputs line op o sources → CanStand c line op o sources → (r : ℕ) (t : Term)
    → slice_get o.results r ≡ Some t → (env : List Value) (q : Pattern) (n : Node) → StandsAt c line op env q n
    → value env (replaced (op_inputs line sources op o) t) ≡ value_of c inputs q (Out line r)
result-value c inputs line op o sources is can r t at env q n st =
    let terms : List Term = op_inputs line sources op o in
    let args : List Value = map (value_of c inputs q) n.args in
    let vs : List Value = args ++ attr_values o.attrs n.attrs in
    let there : slice_get c.file.ops n.op ≡ Some o = ap (slice_get c.file.ops) st.kind ∙ is.is_op.1 in
    let sorted = can.sorted r t at in
    let outs : slice_get (outs_from c.file inputs [] q.nodes) line ≡ Some (map (value vs) o.results) =
    outs-at c.file c.goal inputs q.nodes st.is.well_formed.nodes line n st.at
    ∙ ap (λ x. Some (op_results x n.attrs args)) there in
    let result : slice_get (map (value vs) o.results) r ≡ Some (value vs t) =
    slice_get-map (value vs) o.results r ∙ ap (option_map (value vs)) at in
    value-replaced c.file.pointer env terms t sorted.0 sorted.1 (can.fit r t at)
    ∙ ap (λ xs. value xs t) (inputs-values c inputs line op o sources is env q n st)
    ∙ sym (ap (λ x. unwrap_or x (val.Bool false)) result)
    ∙ sym (ap (λ x. unwrap_or (slice_get (unwrap_or x []) r) (val.Bool false)) outs)

results-meant : (c : Claim) (inputs : List Value) (line op : ℕ) (o : Operation) (sources : List Sourced)
    → IsAtLine c inputs line op o sources → CanStand c line op o sources → (front ts : List Term) (r : ℕ)
    → length front ≡ r → o.results ≡ front ++ ts → (k : OfKind)
    → In (result_kinds c.file.pointer op (op_inputs line sources op o) r ts) k → IsMeantKind c inputs line k
results-meant c inputs line op o sources is can front [] r long whole k i = absurd i
results-meant c inputs line op o sources is can front (t ∷ ts) r long whole k (inr i) =
    results-meant c inputs line op o sources is can (front ++ t ∷ []) ts (r + 1)
    (omega (arith, long, length-append front (t ∷ []))) (whole ∙ append-move front t ts) k i
results-meant c inputs line op o sources is can front (t ∷ ts) r long whole k (inl e) =
    let at : slice_get o.results r ≡ Some t =
    ap (λ (xs : List Term). slice_get xs r) whole ∙ slice_get-middle front t ts r long in
    let sorted = can.sorted r t at in
    let here : the_sort c.file.pointer t ≡ sorted.0 = ap (λ x. unwrap_or x sort.Bool) sorted.1 in
    subst (IsMeantKind c inputs line) e (record {
      over =
          over-replaced c c.file.pointer (op_inputs line sources op o) (inputs-over c inputs line op o sources is) t
          (can.fit r t at);
      kind = is.is_op.0;
      source =
          (omega arith, (op, o, is.is_op, (t, at, sorted.1 ∙ ap Some (sym here))));
      gives =
          λ env q n wf stands there same. result-value c inputs line op o sources is can r t at env q n (record {
            is = wf;
            stands = stands;
            at = there;
            kind = same;
          });
    })

results-all : (p op : ℕ) (terms : List Term) (r : ℕ) (ts : List Term) (j : ℕ) (t : Term) → slice_get ts j ≡ Some t
    → (k : OfKind) × In (result_kinds p op terms r ts) k × (k.op ≡ op) × (k.result ≡ r + j) × (k.sort ≡ the_sort p t)
results-all p op terms r [] j t at = absurd (none-some t at)
results-all p op terms r (u ∷ ts) zero t at =
    let same : u ≡ t = same_Some u t at in (
      record { op = op; result = r; sort = the_sort p u; term = replaced terms u },
      inl refl,
      refl,
      omega arith,
      ap (the_sort p) same,
    )
results-all p op terms r (u ∷ ts) (suc j) t at =
    let rest = results-all p op terms (r + 1) ts j t at in
    (rest.0, inr rest.1, rest.2, omega (arith, rest.3), rest.4)

-- ---- the operations of a line

pub record AreMeantKinds (c : Claim) (inputs : List Value) (line : ℕ) (kinds : List OfKind) : Type 0 where
  pub each : (k : OfKind) → In kinds k → IsMeantKind c inputs line k
  pub all : (op : ℕ) (o : Operation) (r : ℕ) (t : Term) (s : Sort) → IsOperationOf c op o
      → slice_get o.results r ≡ Some t → sort_of c.file.pointer t ≡ Some s
      → (k : OfKind) × In kinds k × (k.op ≡ op) × (k.result ≡ r) × (k.sort ≡ s)

pub kinds-meant : (c : Claim) (inputs : List Value) (line : ℕ) (ops : List ℕ) (sources : List Sourced)
    → line < length c.ops → AreMeant c inputs line sources → ((op : ℕ) → Contains ops op → Contains c.ops op)
    → ((op : ℕ) → Contains c.ops op → Contains ops op)
    → ((op : ℕ) (o : Operation) → IsOperationOf c op o → CanStand c line op o sources)
    → AreMeantKinds c inputs line (line_kinds c.file line sources ops)
kinds-meant c inputs line ops sources within meant into from can = record { each = each; all = all }
  where
    kinds : ℕ → List OfKind
    kinds op = op_kinds c.file.pointer line sources op (slice_get c.file.ops op)

    of_one : (op : ℕ) → Contains c.ops op → (r : Option Operation) → slice_get c.file.ops op ≡ r → (k : OfKind)
        → In (op_kinds c.file.pointer line sources op r) k → IsMeantKind c inputs line k
    of_one op among None e k i = absurd i
    of_one op among (Some o) e k i =
        results-meant c inputs line op o sources
        (record { within = within; is_op = (among, e); meant = meant }) (can op o (among, e)) [] o.results 0 refl refl
        k i

    each : (k : OfKind) → In (line_kinds c.file line sources ops) k → IsMeantKind c inputs line k
    each k i =
        let at = In_of_flat_map kinds ops k i in
        of_one at.0 (into at.0 (Contains-from_In ops at.0 at.1)) (slice_get c.file.ops at.0) refl k at.2

    all : (op : ℕ) (o : Operation) (r : ℕ) (t : Term) (s : Sort) → IsOperationOf c op o
        → slice_get o.results r ≡ Some t → sort_of c.file.pointer t ≡ Some s
        → (k : OfKind) × In (line_kinds c.file line sources ops) k × (k.op ≡ op) × (k.result ≡ r) × (k.sort ≡ s)
    all op o r t s is at sorted =
        let terms : List Term = op_inputs line sources op o in
        let found = results-all c.file.pointer op terms 0 o.results r t at in
        let here : In (kinds op) found.0 =
        subst (λ x. In (op_kinds c.file.pointer line sources op x) found.0) (sym is.1) found.1 in (
          found.0,
          In-flat_map kinds ops op found.0 (In-from_Contains ops op (from op is.0)) here,
          found.2,
          omega (arith, found.3),
          found.4 ∙ ap (λ x. unwrap_or x sort.Bool) sorted,
        )
