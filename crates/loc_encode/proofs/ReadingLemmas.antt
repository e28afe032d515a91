-- What is read from values that stand for a pattern is the pattern.
use Rattle.std.proofs.Common.{◌≡◌, ◌∙◌, ◌<◌, ◌≤◌, ◌+◌, ◌-◌, ◌/◌, ◌%◌, ◌^◌, ℕ, zero, suc, List, [], ◌∷◌, Option, Some}
use Rattle.std.proofs.Common.{None, Bool, true, false}
use Rattle.std.proofs.Common.{◌++◌, refl, sym, ap, subst, cond, length, take, slice_get, arith, ⊎_elim, ◌⊎◌, inl, inr}
use Rattle.std.specs.Prelude.{nat_lt, option_and_then, option_map}
use Rattle.std.proofs.lemmas.Bool.{cases_lt, eqb-true, eq-eqb, ltb-true, false≢true}
use Rattle.std.proofs.lemmas.List.{length-map, take_more}
use Rattle.std.proofs.lemmas.Option.{same_Some, slice_get_within, slice_get-map, get_or_from_slice_get}
use Rattle.bv_terms.specs.declared.op.TermId.{TermId}
use Rattle.bv_terms.specs.declared.value.Sort.{Sort}
use Rattle.bv_terms.specs.declared.value.Value.{Value}
use Rattle.bv_terms.specs.declared.value.Value.TheVariants as val
use Rattle.bv_terms.specs.Table.{term_at}
use Rattle.bv_terms.specs.Term.{Term}
use Rattle.bv_terms.specs.WellSorted.{sort_of}
use Rattle.isel_spec.specs.declared.spec.Spec.{Spec}
use Rattle.isel_spec.specs.declared.definitions.GoalDef.{GoalDef}
use Rattle.isel_spec.specs.declared.definitions.OpDef.{OpDef}
use Rattle.isel_spec.specs.File.{File, Operation, Goal, operation, goal}
use Rattle.isel_spec.specs.Spec.{file}
use Rattle.isel_spec.proofs.SpecLemmas.{IsSoundGoal_at, pointer_is, goal_is}
use Rattle.pattern_core.specs.Claim.{Claim, IsClaim, IsPatternOf}
use Rattle.pattern_core.specs.declared.pattern.Node.{Node}
use Rattle.pattern_core.specs.declared.pattern.Pattern.{Pattern}
use Rattle.pattern_core.specs.declared.pattern.Src.{Src}
use Rattle.pattern_core.specs.declared.pattern.Src.TheVariants.{Input, Out}
use Rattle.pattern_core.specs.Pattern.{operation_sort, source_sort, same_source, IsFitting}
use Rattle.pattern_core.proofs.FitLemmas.{Pairwise-length}
use Rattle.pattern_core.proofs.SourceLemmas.{small_source, few_results, earlier_node}
use Rattle.list_lemmas.proofs.Bools.{true-or-false}
use Rattle.list_lemmas.proofs.Numbers.{not_less}
use Rattle.list_lemmas.proofs.Lookups.{mapped_at, Contains-from_slice_get, Contains-slice_get}
use Rattle.loc_encode.specs.declared.slots.Slot.TheVariants as slot
use Rattle.loc_encode.specs.Slots.{slot_number, source_number, IsSourceAt}
use Rattle.loc_encode.specs.Numbers.{IsSmallSource, source_at}
use Rattle.loc_encode.specs.Standing.{StandsFor, is_source, is_op, arg_at}
use Rattle.loc_encode.specs.SlotValues.{truth_in, IsChosenOp, IsChosenSource}
use Rattle.loc_encode.proofs.DifferenceLemmas.{operation-of}
use Rattle.loc_encode.proofs.NumberLemmas.{source_at-number}
use Rattle.loc_encode.proofs.PatternLemmas.{places, lengths, operation-at, source-at, arg-sorted, size-of}
use Rattle.loc_encode.proofs.PatternLemmas.{source-true, source-same}

-- one more of the first elements of a list
pub take-with : {A : Type 0} (xs ys : List A) (k : ℕ) (x y : A) → slice_get xs k ≡ Some x → y ≡ x → ys ≡ take k xs
    → ys ++ y ∷ [] ≡ take (k + 1) xs
take-with xs ys k x y at same before =
    ap (λ zs. zs ++ y ∷ []) before
    ∙ ap (λ z. take k xs ++ z ∷ []) (same ∙ sym (get_or_from_slice_get xs k x x at))
    ∙ sym (take_more xs k x (slice_get_within xs k x at))

-- ---- one choice

-- the operation at a place whose choice is made is the chosen one
pub chosen-op : (env : List Value) (line : ℕ) (ops : List ℕ) (op : ℕ) → IsChosenOp env line ops op → (k x : ℕ)
    → slice_get ops k ≡ Some x → truth_in (slice_get env (slot_number (slot.Kind line x))) ≡ true → x ≡ op
chosen-op env line ops op is k x at holds =
    let choice = is.choices x (Contains-from_slice_get ops k x at) in
    sym (eqb-true op x (sym (ap truth_in choice) ∙ holds))

-- the choice of the chosen one is made
pub op-chosen : (env : List Value) (line : ℕ) (ops : List ℕ) (op : ℕ) → IsChosenOp env line ops op
    → truth_in (slice_get env (slot_number (slot.Kind line op))) ≡ true
op-chosen env line ops op is = ap truth_in (is.choices op is.among) ∙ eq-eqb op op refl

-- none of the first ones is chosen
pub op-past : (env : List Value) (line : ℕ) (ops : List ℕ) (n x : ℕ) → slice_get ops n ≡ Some x
    → truth_in (slice_get env (slot_number (slot.Kind line x))) ≡ false
    → ((op : ℕ) → IsChosenOp env line ops op → (k : ℕ) → k < n → slice_get ops k ≡ Some op → ⊥)
    → (op : ℕ) → IsChosenOp env line ops op → (k : ℕ) → k < n + 1 → slice_get ops k ≡ Some op → ⊥
op-past env line ops n x at fails before op is k l here =
    ⊎_elim (λ less. before op is k less here)
    (λ same.
    let this : x ≡ op = same_Some x op (sym at ∙ ap (slice_get ops) (sym same) ∙ here) in
    let yes : truth_in (slice_get env (slot_number (slot.Kind line x))) ≡ true =
    ap (λ y. truth_in (slice_get env (slot_number (slot.Kind line y)))) this ∙ op-chosen env line ops op is in
    false≢true (sym fails ∙ yes)) (split k n l)
  where
    split : (j m : ℕ) → j < m + 1 → (j < m) ⊎ (j ≡ m)
    split j m less = elim (cases_lt j m) [ inl l ↦ inl l | inr more ↦ inr (omega (arith, less, more)) ]

pub op-none : (env : List Value) (line : ℕ) (ops : List ℕ) (n : ℕ) → length ops ≤ n
    → ((op : ℕ) → IsChosenOp env line ops op → (k : ℕ) → k < n → slice_get ops k ≡ Some op → ⊥)
    → (op : ℕ) → IsChosenOp env line ops op → ⊥
op-none env line ops n l before op is =
    let at = Contains-slice_get ops op is.among in
    let within = slice_get_within ops at.0 op at.1 in
    before op is at.0 (omega (arith, l, within)) at.1

-- ---- one source

goal-args : (s : Spec) (k : ℕ) (g : Goal) → slice_get (file s).goals k ≡ Some g → length g.args ≤ 4
goal-args s k g e =
    let at = mapped_at (goal s.terms) s.goals k g e in
    let sound = IsSoundGoal_at s k at.0 at.1 in
    subst (λ (x : Goal). length x.args ≤ 4) at.2
    (subst (λ n. n ≤ 4) (sym (length-map at.0.1.args (λ a. a.1))) sound.few)

-- a source that has a sort after at most six nodes is small
pub small-after : (s : Spec) (k : ℕ) (g : Goal) → slice_get (file s).goals k ≡ Some g → (nodes : List Node)
    → length nodes ≤ 6 → (x : Src) (t : Sort) → source_sort (file s) g nodes (length nodes) x ≡ Some t → IsSmallSource x
small-after s k g e nodes few (Input i) t sorted =
    small_source (file s) g (goal-args s k g e) (few_results s) nodes (length nodes) (Input i) t sorted
small-after s k g e nodes few (Out node r) t sorted =
    let before = earlier_node (file s) g nodes (length nodes) node r t sorted in (
      omega (arith, before, few),
      small_source (file s) g (goal-args s k g e) (few_results s) nodes (length nodes) (Out node r) t sorted,
    )

-- a source whose choice is made is the chosen one
pub chosen-source : (f : File) (g : Goal) (nodes : List Node) (t : Sort) (env : List Value) (first : ℕ) (s x : Src)
    (number : ℕ) → x ≡ source_at number → source_number (source_at number) ≡ number
    → IsChosenSource f g nodes t env first s
    → source_sort f g nodes (length nodes) x ≡ Some t → truth_in (slice_get env (first + number)) ≡ true → x ≡ s
chosen-source f g nodes t env first s x number same back is sorted holds =
    let choice = is.choices x sorted in
    let here : source_number x ≡ number = ap source_number same ∙ back in
    let yes : same_source s x ≡ true =
    sym (ap truth_in choice) ∙ ap (λ n. truth_in (slice_get env (first + n))) here ∙ holds in
    sym (source-true s x yes)

-- a number that is not chosen is not that of the chosen source
pub source-past : (f : File) (g : Goal) (nodes : List Node) (t : Sort) (env : List Value) (first : ℕ) (s x : Src)
    (number : ℕ) → x ≡ source_at number → IsSmallSource s → IsChosenSource f g nodes t env first s
    → ((source_sort f g nodes (length nodes) x ≡ Some t) × (truth_in (slice_get env (first + number)) ≡ true) → ⊥)
    → number ≤ source_number s → number + 1 ≤ source_number s
source-past f g nodes t env first s x number same small is fails before =
    ⊎_elim (λ more. more)
    (λ equal.
    let this : x ≡ s = same ∙ ap source_at equal ∙ source_at-number s small in
    let choice = is.choices s is.sorted in
    absurd (fails (
      ap (source_sort f g nodes (length nodes)) this ∙ is.sorted,
      ap (λ n. truth_in (slice_get env (first + n))) equal ∙ ap truth_in choice ∙ source-same s,
    ))) (split number (source_number s) before)
  where
    split : (m n : ℕ) → m ≤ n → (m + 1 ≤ n) ⊎ (m ≡ n)
    split m n l = elim (cases_lt m n) [ inl less ↦ inl (omega (arith, less)) | inr more ↦ inr (omega (arith, l, more)) ]

pub number-of-source_at : (k : ℕ) → source_number (source_at k) ≡ k
number-of-source_at k = by (nat_lt k 4) refl
  where
    by : (b : Bool) → nat_lt k 4 ≡ b → source_number (cond b (Input k) (Out ((k - 4) / 3) ((k - 4) % 3))) ≡ k
    by true e = refl
    by false e = let more : 4 ≤ k = not_less k 4 e in omega arith

-- ---- the choices that values make that stand for a pattern

pub first-number : (line place : ℕ) (s : Src)
    → slot_number (slot.Arg line place s) ≡ slot_number (slot.Arg line place (Input 0)) + source_number s
first-number line place s = omega arith

pub first-result : (place : ℕ) (s : Src)
    → slot_number (slot.Result place s) ≡ slot_number (slot.Result place (Input 0)) + source_number s
first-result place s = omega arith

pub op-at : (c : Claim) (env : List Value) (p : Pattern) → IsPatternOf c p → StandsFor c env p → (line : ℕ) (n : Node)
    → slice_get p.nodes line ≡ Some n → IsChosenOp env line c.ops n.op
op-at c env p is stands line n at =
    let within : line < length c.ops = omega (arith, slice_get_within p.nodes line n at, size-of c p is) in
    record {
      among = operation-at c p is line n at;
      choices = λ x there.
          stands.choices (slot.Kind line x) (within, there, refl)
          ∙ ap (λ m. Some (val.Bool (is_op m x))) at;
    }

-- a source has the same sort where the later nodes are missing
pub sort-before : (f : File) (g : Goal) (nodes : List Node) (k : ℕ) (s : Src)
    → source_sort f g (take k nodes) k s ≡ source_sort f g nodes k s
sort-before f g nodes k (Input i) = refl
sort-before f g nodes k (Out node r) =
    ⊎_elim (λ less.
    ap (λ (m : Option Node). cond (nat_lt node k)
    (operation_sort f (option_and_then (λ (n : Node). slice_get f.ops n.op) m) r) None)
    (slice_get-take k nodes node (ltb-true node k less)))
    (λ more.
    ap (λ b. cond b (operation_sort f (option_and_then (λ (n : Node). slice_get f.ops n.op)
    (slice_get (take k nodes) node)) r) None) more
    ∙ ap (λ b. cond b (operation_sort f (option_and_then (λ (n : Node). slice_get f.ops n.op)
    (slice_get nodes node)) r) None) (sym more))
    (true-or-false (nat_lt node k))
  where
    slice_get-take : (i : ℕ) (xs : List Node) (j : ℕ) → j < i → slice_get (take i xs) j ≡ slice_get xs j
    slice_get-take zero xs j l = absurd (omega (arith, l))
    slice_get-take (suc i) [] j l = refl
    slice_get-take (suc i) (x ∷ xs) zero l = refl
    slice_get-take (suc i) (x ∷ xs) (suc j) l = slice_get-take i xs j (omega (arith, l))

-- the source of an argument
pub arg-chosen : (c : Claim) (env : List Value) (p : Pattern) → IsPatternOf c p → StandsFor c env p
    → (nodes : List Node)
    → nodes ≡ take (length nodes) p.nodes → (n : Node) → slice_get p.nodes (length nodes) ≡ Some n
    → (place : ℕ) (s : Src)
    → slice_get n.args place ≡ Some s → (o : Operation) → slice_get c.file.ops n.op ≡ Some o → (t : Sort)
    → slice_get o.args place ≡ Some t
    → IsChosenSource c.file c.goal nodes t env (slot_number (slot.Arg (length nodes) place (Input 0))) s
arg-chosen c env p is stands nodes prefix n at place s arg o find t sort =
    let line = length nodes in
    let fit : IsFitting c.file c.goal p.nodes line n = is.well_formed.nodes line n at in
    let same_op : fit.operation ≡ o = same_Some fit.operation o (sym fit.in_file ∙ find) in
    let of = arg-sorted c.file c.goal p.nodes line n fit place s arg in
    let same_sort : of.0 ≡ t =
    same_Some of.0 t (sym of.1 ∙ ap (λ (q : Operation). slice_get q.args place) same_op ∙ sort) in
    let whole : (x : Src) → source_sort c.file c.goal nodes line x ≡ source_sort c.file c.goal p.nodes line x =
    λ x. ap (λ (ns : List Node). source_sort c.file c.goal ns line x) prefix ∙ sort-before c.file c.goal p.nodes line
    x in
    let within : line < length c.ops = omega (arith, slice_get_within p.nodes line n at, size-of c p is) in
    record {
      sorted = whole s ∙ of.2 ∙ ap (λ u. Some u) same_sort;
      choices = λ r sorted.
          let there : IsSourceAt c line t r = source-at c p is line t r (sym (whole r) ∙ sorted) in
          ap (slice_get env) (sym (first-number line place r))
          ∙ stands.choices (slot.Arg line place r)
          (within, (n.op, o, t, (operation-at c p is line n at, find), sort, there), refl)
          ∙ ap (λ m. Some (val.Bool (is_source (arg_at m place) r))) at
          ∙ ap (λ m. Some (val.Bool (is_source m r))) arg;
    }

-- the source of a result
pub result-chosen : (c : Claim) (env : List Value) (p : Pattern) → IsPatternOf c p → StandsFor c env p
    → (nodes : List Node) → nodes ≡ p.nodes → (place : ℕ) (s : Src) → slice_get p.results place ≡ Some s → (u : Term)
    → slice_get c.goal.results place ≡ Some u → (t : Sort) → sort_of c.file.pointer u ≡ Some t
    → IsChosenSource c.file c.goal nodes t env (slot_number (slot.Result place (Input 0))) s
result-chosen c env p is stands nodes same place s result u of t sort =
    let found = places (source_sort c.file c.goal p.nodes (length p.nodes)) (sort_of c.file.pointer) p.results
    c.goal.results is.well_formed.results place s result in
    let this : found.0 ≡ u = same_Some found.0 u (sym found.1 ∙ of) in
    let whole : (x : Src)
    → source_sort c.file c.goal nodes (length nodes) x ≡ source_sort c.file c.goal p.nodes (length p.nodes) x =
    λ x. ap (λ (ns : List Node). source_sort c.file c.goal ns (length ns) x) same in
    record {
      sorted = whole s ∙ found.2 ∙ ap (sort_of c.file.pointer) this ∙ sort;
      choices = λ r sorted.
          let there : IsSourceAt c (length c.ops) t r =
          subst (λ n. IsSourceAt c n t r) (size-of c p is)
          (source-at c p is (length p.nodes) t r (sym (whole r) ∙ sorted)) in
          ap (slice_get env) (sym (first-result place r))
          ∙ stands.choices (slot.Result place r) ((u, t, of, sort, there), refl)
          ∙ ap (λ m. Some (val.Bool (is_source m r))) result;
    }

-- ---- a node that is read

-- the attributes of the node at a line
pub attrs-read : (c : Claim) (env : List Value) (p : Pattern) → IsPatternOf c p → StandsFor c env p
    → (line : ℕ) (n : Node)
    → slice_get p.nodes line ≡ Some n → (o : Operation) → slice_get c.file.ops n.op ≡ Some o → (op : ℕ) → op ≡ n.op
    → (widths : List ℕ) → widths ≡ o.attrs → (k w a : ℕ) → slice_get widths k ≡ Some w → slice_get n.attrs k ≡ Some a
    → slice_get env (slot_number (slot.Attr line op k)) ≡ Some (val.Bits w a)
attrs-read c env p is stands line n at o find op same widths are k w a width number =
    ap (λ x. slice_get env (slot_number (slot.Attr line x k))) same
    ∙ stands.attrs line k w a n o at (operation-at c p is line n at, find)
    (ap (λ (xs : List ℕ). slice_get xs k) (sym are) ∙ width) number

pub attrs-count : (c : Claim) (p : Pattern) → IsPatternOf c p → (line : ℕ) (n : Node) → slice_get p.nodes line ≡ Some n
    → (o : Operation) → slice_get c.file.ops n.op ≡ Some o → (widths : List ℕ) → widths ≡ o.attrs
    → length n.attrs ≡ length widths
attrs-count c p is line n at o find widths are =
    let fit = is.well_formed.nodes line n at in
    let same_op : fit.operation ≡ o = same_Some fit.operation o (sym fit.in_file ∙ find) in
    sym (Pairwise-length (λ w a. a < 2 ^ w) fit.operation.attrs n.attrs fit.attrs)
    ∙ ap (λ (q : Operation). length q.attrs) same_op ∙ ap length (sym are)

pub args-count : (c : Claim) (p : Pattern) → IsPatternOf c p → (line : ℕ) (n : Node) → slice_get p.nodes line ≡ Some n
    → (o : Operation) → slice_get c.file.ops n.op ≡ Some o → (sorts : List Sort) → sorts ≡ o.args
    → length n.args ≡ length sorts
args-count c p is line n at o find sorts are =
    let fit = is.well_formed.nodes line n at in
    let same_op : fit.operation ≡ o = same_Some fit.operation o (sym fit.in_file ∙ find) in
    lengths (source_sort c.file c.goal p.nodes line) (λ (t : Sort). Some t) n.args fit.operation.args fit.args
    ∙ ap (λ (q : Operation). length q.args) same_op ∙ ap length (sym are)

same-node : (op : ℕ) (attrs : List ℕ) (args : List Src) (n : Node) → op ≡ n.op → attrs ≡ n.attrs → args ≡ n.args
    → ◌≡◌ {A = Node} (record { op = op; attrs = attrs; args = args }) n
same-node op attrs args n ops numbers sources = λ i. record { op = ops i; attrs = numbers i; args = sources i }

pub same-pattern : (nodes : List Node) (results : List Src) (p : Pattern) → nodes ≡ p.nodes → results ≡ p.results
    → ◌≡◌ {A = Pattern} (record { nodes = nodes; results = results }) p
same-pattern nodes results p lines sources = λ i. record { nodes = lines i; results = sources i }

-- the operation, the attributes and the sources that are read at a line are those of the node there
pub node-read : (s : Spec) (place : ℕ) (ops : List ℕ) (c : Claim) (env : List Value) (p : Pattern)
    → IsClaim s place ops c
    → IsPatternOf c p → StandsFor c env p → (line : ℕ) (n : Node) → slice_get p.nodes line ≡ Some n
    → (nodes : List Node) → length nodes ≡ line → nodes ≡ take line p.nodes
    → (op k : ℕ) (name : List ℕ) (d : OpDef) → k ≡ op → slice_get s.ops k ≡ Some (name, d)
    → (widths : List ℕ) (sorts : List Sort) → widths ≡ d.attrs → sorts ≡ d.args
    → ((o : ℕ) → IsChosenOp env line ops o → op ≡ o)
    → (attrs : List ℕ)
    → ((numbers : List ℕ) → length numbers ≡ length widths
    → ((j w a : ℕ) → slice_get widths j ≡ Some w → slice_get numbers j ≡ Some a
    → slice_get env (slot_number (slot.Attr line op j)) ≡ Some (val.Bits w a)) → attrs ≡ numbers)
    → (args : List Src)
    → ((g : Goal) (sources : List Src) → slice_get (file s).goals place ≡ Some g → length sources ≡ length sorts
    → ((j : ℕ) (t : Sort) (x : Src) → slice_get sorts j ≡ Some t → slice_get sources j ≡ Some x
    → IsChosenSource (file s) g nodes t env (slot_number (slot.Arg line j (Input 0))) x) → args ≡ sources)
    → ◌≡◌ {A = Node} (record { op = op; attrs = attrs; args = args }) n
node-read s place ops c env p is pattern stands line n at nodes count prefix op k name d same e widths sorts wide are
    chosen
    attrs numbers args sources =
    let o : Operation = operation s.terms (name, d) in
    let this : op ≡ n.op =
    chosen n.op (subst (λ (xs : List ℕ). IsChosenOp env line xs n.op) is.of_ops
    (op-at c env p pattern stands line n at)) in
    let find : slice_get c.file.ops n.op ≡ Some o =
    ap (λ (f : File). slice_get f.ops n.op) is.of_file ∙ ap (slice_get (file s).ops) (sym this)
    ∙ operation-of s k op name d same e in
    let there : slice_get p.nodes (length nodes) ≡ Some n = ap (slice_get p.nodes) count ∙ at in
    let whole : nodes ≡ take (length nodes) p.nodes = prefix ∙ ap (λ m. take m p.nodes) (sym count) in
    same-node op attrs args n this
    (numbers n.attrs (attrs-count c p pattern line n at o find widths wide)
    (attrs-read c env p pattern stands line n at o find op this widths wide))
    (sources c.goal n.args is.of_goal (args-count c p pattern line n at o find sorts are)
    (λ j t x sort arg.
    subst (λ (f : File). IsChosenSource f c.goal nodes t env (slot_number (slot.Arg line j (Input 0))) x) is.of_file
    (subst (λ m. IsChosenSource c.file c.goal nodes t env (slot_number (slot.Arg m j (Input 0))) x) count
    (arg-chosen c env p pattern stands nodes whole n there j x arg o find t
    (ap (λ (ts : List Sort). slice_get ts j) (sym are) ∙ sort)))))

-- the sources of the results that are read are those of the pattern
pub results-read : (s : Spec) (place : ℕ) (ops : List ℕ) (c : Claim) (env : List Value) (p : Pattern)
    → IsClaim s place ops c → IsPatternOf c p → StandsFor c env p
    → (name : List ℕ) (d : GoalDef) → slice_get s.goals place ≡ Some (name, d)
    → (ats : List TermId) → ats ≡ d.results → (nodes : List Node) → nodes ≡ p.nodes
    → (results : List Src)
    → ((g : Goal) (sources : List Src) → slice_get (file s).goals place ≡ Some g → length sources ≡ length ats
    → ((k : ℕ) (at : TermId) (t : Sort) (x : Src) → slice_get ats k ≡ Some at
    → sort_of s.terms.pointer (term_at s.terms at) ≡ Some t → slice_get sources k ≡ Some x
    → IsChosenSource (file s) g nodes t env (slot_number (slot.Result k (Input 0))) x) → results ≡ sources)
    → results ≡ p.results
results-read s place ops c env p is pattern stands name d e ats are nodes same results sources =
    sources c.goal p.results is.of_goal count (λ k at t x there sorted result.
    let term : slice_get c.goal.results k ≡ Some (term_at s.terms at) =
    ap (λ (g : Goal). slice_get g.results k) whole
    ∙ slice_get-map (λ (a : TermId). term_at s.terms a) d.results k
    ∙ ap (option_map (λ (a : TermId). term_at s.terms a))
    (ap (λ (xs : List TermId). slice_get xs k) (sym are) ∙ there) in
    let sort : sort_of c.file.pointer (term_at s.terms at) ≡ Some t =
    ap (λ (f : File). sort_of f.pointer (term_at s.terms at)) is.of_file
    ∙ ap (λ w. sort_of w (term_at s.terms at)) (pointer_is s) ∙ sorted in
    subst (λ (f : File). IsChosenSource f c.goal nodes t env (slot_number (slot.Result k (Input 0))) x) is.of_file
    (result-chosen c env p pattern stands nodes same k x result (term_at s.terms at) term t sort))
  where
    whole : c.goal ≡ goal s.terms (name, d)
    whole = goal_is s place name d c.goal e is.of_goal

    count : length p.results ≡ length ats
    count =
        lengths (source_sort c.file c.goal p.nodes (length p.nodes)) (sort_of c.file.pointer) p.results c.goal.results
        pattern.well_formed.results
        ∙ ap (λ (g : Goal). length g.results) whole ∙ length-map d.results (λ (a : TermId). term_at s.terms a)
        ∙ ap length (sym are)
