-- The terms of a pattern's nodes and results: their sorts and values are the pattern's.
use Rattle.std.proofs.Common.{◌≡◌, ℕ, zero, suc, ◌+◌, ◌^◌, ◌<◌, true, false, cond, inl, inr, List, [], ◌∷◌, ◌++◌}
use Rattle.std.proofs.Common.{length, map}
use Rattle.std.proofs.Common.{Option, Some, None, slice_get, unwrap_or, option_map, refl, sym, ap, ◌∙◌, subst, arith}
use Rattle.std.specs.Prelude.{nat_lt, option_and_then, IsSome}
use Rattle.std.specs.List.{list_all, AllByRecursion}
use Rattle.std.proofs.lemmas.Bool.{cases_order}
use Rattle.std.proofs.lemmas.Bool.Decides.{nat_tests}
use Rattle.std.proofs.lemmas.List.{map-append, length_push}
use Rattle.std.proofs.lemmas.Option.{slice_get-map}
use Rattle.bv_terms.specs.declared.op.Op.TheVariants as op
use Rattle.bv_terms.specs.declared.value.Sort.{Sort}
use Rattle.bv_terms.specs.declared.value.Sort.TheVariants as sort
use Rattle.bv_terms.specs.declared.value.Value.{Value}
use Rattle.bv_terms.specs.declared.value.Value.TheVariants as val
use Rattle.bv_terms.specs.Term.{Term, Apply, End, value}
use Rattle.bv_terms.specs.WellSorted.{sort_of}
use Rattle.bv_terms.specs.Replaced.{replaced}
use Rattle.bv_terms.proofs.ReplacedLemmas.{value-replaced}
use Rattle.isel_spec.specs.File.{File, Operation, Goal, is_between}
use Rattle.pattern_core.specs.declared.pattern.Src.{Src}
use Rattle.pattern_core.specs.declared.pattern.Src.TheVariants.{Input, Out}
use Rattle.pattern_core.specs.declared.pattern.Node.{Node}
use Rattle.pattern_core.specs.declared.pattern.Pattern.{Pattern}
use Rattle.pattern_core.specs.Pattern.{Pairwise, operation_sort, source_sort, AreFitting, IsWellFormed}
use Rattle.pattern_core.specs.Rule.{source_value, attr_values, op_results, outs_from, pattern_results, goal_results}
use Rattle.pattern_core.specs.Symbolic.{found, source_term, attr_terms, op_terms, term_outs, pattern_terms, goal_terms}
use Rattle.pattern_core.specs.Symbolic.{AreTermsOver}
use Rattle.pattern_core.proofs.ThingLemmas.{IsSoundTerm, HasSoundTerms, scope_of}
use Rattle.pattern_core.proofs.TermLemmas.{Pairwise-append, IsTermOver, AreOver, over-sorts, over-fits, over-inputs}
use Rattle.pattern_core.proofs.TermLemmas.{replaced-over, inputs-over, input-over, attributes-over, attributes-values}
use Rattle.pattern_core.proofs.TermLemmas.{ReplacementsFit-from_sorts}
use Rattle.list_lemmas.proofs.Lookups.{all-at, slice_get-append_left as slice_get-append, slice_get-at_end}
use Rattle.list_lemmas.proofs.Options.{bind_some, some-is}

-- what a file keeps of the terms of its operations and of a goal's, and of the widths of attributes
pub record HasSoundParts (f : File) (g : Goal) : Type 0 where
  pub terms : HasSoundTerms f g
  pub attrs : (k : ℕ) (o : Operation) → slice_get f.ops k ≡ Some o → list_all (is_between 1 64) o.attrs ≡ true

-- ---- what a source names

pub found-map : {A B : Type 0} (h : A → B) (inputs : List A) (outs : List (List A)) (x : Src)
    → found (map h inputs) (map (map h) outs) x ≡ option_map h (found inputs outs x)
found-map h inputs outs (Input k) = slice_get-map h inputs k
found-map {A} {B} h inputs outs (Out node r) =
    ap (option_and_then (λ (row : List B). slice_get row r)) (slice_get-map (map h) outs node)
    ∙ by (slice_get outs node)
  where
    by : (o : Option (List A)) → option_and_then (λ (row : List B). slice_get row r) (option_map (map h) o)
        ≡ option_map h (option_and_then (λ (row : List A). slice_get row r) o)
    by None = refl
    by (Some row) = slice_get-map h row r

value-found : (inputs : List Value) (outs : List (List Value)) (x : Src)
    → source_value inputs outs x ≡ unwrap_or (found inputs outs x) (val.Bool false)
value-found inputs outs (Input k) = refl
value-found inputs outs (Out node r) = by (slice_get outs node)
  where
    by : (o : Option (List Value)) → unwrap_or (slice_get (unwrap_or o []) r) (val.Bool false)
        ≡ unwrap_or (option_and_then (λ (row : List Value). slice_get row r) o) (val.Bool false)
    by None = refl
    by (Some row) = refl

value-at : (env : List Value) (inputs : List Term) (outs : List (List Term)) (x : Src) (t : Term)
    → found inputs outs x ≡ Some t
    → source_value (map (value env) inputs) (map (map (value env)) outs) x ≡ value env (source_term inputs outs x)
value-at env inputs outs x t e =
    value-found (map (value env) inputs) (map (map (value env)) outs) x
    ∙ ap (λ o. unwrap_or o (val.Bool false)) (found-map (value env) inputs outs x ∙ ap (option_map (value env)) e)
    ∙ sym (ap (λ o. value env (unwrap_or o (Apply (op.Bool false) End))) e)

-- ---- sources

abbrev pub IsSource : ℕ → List Term → List (List Term) → Src → Sort → Type 0
IsSource p inputs outs x s = (t : Term) × (found inputs outs x ≡ Some t) × IsTermOver p inputs s t

-- each source of a node after the first k names a term of its sort
abbrev pub AreSources : File → Goal → List Node → ℕ → List Term → List (List Term) → Type 0
AreSources f g nodes k inputs outs =
    (x : Src) (s : Sort) → source_sort f g nodes k x ≡ Some s → IsSource f.pointer inputs outs x s

pub record HaveTerms (p : ℕ) (inputs : List Term) (outs : List (List Term)) (ss : List Sort)
    (xs : List Src) : Type 0 where
  pub there : AllByRecursion (λ (x : Src). IsSome (found inputs outs x)) xs
  pub over : AreOver p inputs ss (map (source_term inputs outs) xs)
  pub values : (env : List Value) → map (source_value (map (value env) inputs) (map (map (value env)) outs)) xs
      ≡ map (value env) (map (source_term inputs outs) xs)

pub have_terms : (f : File) (g : Goal) (nodes : List Node) (k : ℕ) (inputs : List Term) (outs : List (List Term))
    → AreSources f g nodes k inputs outs → (xs : List Src) (ss : List Sort)
    → map (source_sort f g nodes k) xs ≡ map (λ (s : Sort). Some s) ss → HaveTerms f.pointer inputs outs ss xs
have_terms f g nodes k inputs outs h [] [] e = record { there = tt; over = tt; values = λ env. refl }
have_terms f g nodes k inputs outs h [] (s ∷ ss) e = absurd (cc)
have_terms f g nodes k inputs outs h (x ∷ xs) [] e = absurd (cc)
have_terms f g nodes k inputs outs h (x ∷ xs) (s ∷ ss) e =
    let first : source_sort f g nodes k x ≡ Some s = cc in
    let others : map (source_sort f g nodes k) xs ≡ map (λ (s : Sort). Some s) ss = cc in
    let rest = have_terms f g nodes k inputs outs h xs ss others in
    let at = h x s first in
    let same : at.0 ≡ source_term inputs outs x =
    sym (ap (λ o. unwrap_or o (Apply (op.Bool false) End)) at.1) in
    record {
      there = (some-is (found inputs outs x) at.0 at.1, rest.there);
      over = (subst (IsTermOver f.pointer inputs s) same at.2, rest.over);
      values = λ env. (λ i. value-at env inputs outs x at.0 at.1 i ∷ rest.values env i);
    }

pub first-sources : (f : File) (g : Goal) (nodes : List Node) (inputs : List Term)
    → map (sort_of f.pointer) inputs ≡ map (λ (s : Sort). Some s) g.args → AreSources f g nodes 0 inputs []
first-sources f g nodes inputs h (Input k) s e = input-over f.pointer inputs g.args h k s e
first-sources f g nodes inputs h (Out node r) s e =
    let none : nat_lt node 0 ≡ false = grind (arith, nat_tests) in
    let no : None ≡ Some s =
    ap (λ b. cond b (operation_sort f (option_and_then (λ (n : Node). slice_get f.ops n.op) (slice_get nodes node)) r)
    None) (sym none) ∙ e in
    absurd (cc)

abbrev out_sort : File → List Node → ℕ → ℕ → Option Sort
out_sort f nodes node r =
    operation_sort f (option_and_then (λ (n : Node). slice_get f.ops n.op) (slice_get nodes node)) r

abbrev named : ℕ → Option (List Term) → Option Term
named r row = option_and_then (λ (row : List Term). slice_get row r) row

-- one node's results more
pub next-sources : (f : File) (g : Goal) (nodes : List Node) (k : ℕ) (inputs : List Term) (outs : List (List Term))
    (new : List Term) (n : Node) → length outs ≡ k → slice_get nodes k ≡ Some n → AreSources f g nodes k inputs outs
    → ((r : ℕ) (s : Sort) → operation_sort f (slice_get f.ops n.op) r ≡ Some s
    → (t : Term) × (slice_get new r ≡ Some t) × IsTermOver f.pointer inputs s t)
    → AreSources f g nodes (k + 1) inputs (outs ++ new ∷ [])
next-sources f g nodes k inputs outs new n long here old fresh (Input i) s e = old (Input i) s e
next-sources f g nodes k inputs outs new n long here old fresh (Out node r) s e =
    elim (cases_order node k) [
      | inl same ↦ (let yes : nat_lt node (k + 1) ≡ true = grind (arith, nat_tests) in
          let sorted : out_sort f nodes node r ≡ Some s =
          ap (λ b. cond b (out_sort f nodes node r) None) (sym yes) ∙ e in
          let at : slice_get nodes node ≡ Some n = ap (slice_get nodes) same ∙ here in
          let there : operation_sort f (slice_get f.ops n.op) r ≡ Some s =
          ap (λ (o : Option Node). operation_sort f (option_and_then (λ (n : Node). slice_get f.ops n.op) o) r)
          (sym at) ∙ sorted in
          let last : slice_get (outs ++ new ∷ []) node ≡ Some new = slice_get-at_end outs new [] node (omega arith) in
          let made = fresh r s there in
          (made.0, ap (named r) last ∙ made.1, made.2))
      | inr other ↦ elim other [
        | inl less ↦ (let yes : nat_lt node (k + 1) ≡ true = grind (arith, nat_tests) in
            let yet : nat_lt node k ≡ true = grind (arith, nat_tests) in
            let sorted : out_sort f nodes node r ≡ Some s =
            ap (λ b. cond b (out_sort f nodes node r) None) (sym yes) ∙ e in
            let before = old (Out node r) s (ap (λ b. cond b (out_sort f nodes node r) None) yet ∙ sorted) in
            let stays : slice_get (outs ++ new ∷ []) node ≡ slice_get outs node =
            slice_get-append outs (new ∷ []) node (omega arith) in
            (before.0, ap (named r) stays ∙ before.1, before.2))
        | inr more ↦ (let not_yet : nat_lt node (k + 1) ≡ false = grind (arith, nat_tests) in
            let no : None ≡ Some s = ap (λ b. cond b (out_sort f nodes node r) None) (sym not_yet) ∙ e in
            absurd (cc))
      ]
    ]

-- ---- the results of a definition

-- terms whose inputs are of these sorts, with terms of the sorts in place of them
results-values : (p : ℕ) (env : List Value) (inputs : List Term) (ss : List Sort) (us : List Term)
    → AreOver p inputs ss us → (ts : List Term) → AllByRecursion (IsSoundTerm p ss) ts
    → map (value env) (map (replaced us) ts) ≡ map (value (map (value env) us)) ts
results-values p env inputs ss us h [] sound = refl
results-values p env inputs ss us h (t ∷ ts) sound =
    let first = sound.0 in
    let fits = ReplacementsFit-from_sorts p ss us (over-sorts p inputs ss us h) t first.stays in
    let here = value-replaced p env us t first.of_sort first.sorted fits in
    let rest = results-values p env inputs ss us h ts sound.1 in
    λ i. here i ∷ rest i

-- a result of a sort
result-over : (p : ℕ) (inputs : List Term) (ss : List Sort) (us : List Term) → AreOver p inputs ss us
    → (ts : List Term) → AllByRecursion (IsSoundTerm p ss) ts → (r : ℕ) (s : Sort)
    → option_and_then (sort_of p) (slice_get ts r) ≡ Some s
    → (t : Term) × (slice_get (map (replaced us) ts) r ≡ Some t) × IsTermOver p inputs s t
result-over p inputs ss us h ts sound r s e =
    let at = bind_some (slice_get ts r) (sort_of p) s e in
    let own = all-at (IsSoundTerm p ss) ts r at.0 sound at.1 in (
      replaced us at.0,
      slice_get-map (replaced us) ts r ∙ ap (option_map (replaced us)) at.1,
      replaced-over p inputs ss us h at.0 s own.stays at.2,
    )

-- ---- nodes

-- the results of a node
pub record HasResults (f : File) (inputs : List Term) (outs : List (List Term)) (n : Node) : Type 0 where
  pub values : (env : List Value)
      → map (value env) (op_terms (slice_get f.ops n.op) n.attrs (map (source_term inputs outs) n.args))
      ≡ op_results (slice_get f.ops n.op) n.attrs
      (map (source_value (map (value env) inputs) (map (map (value env)) outs)) n.args)
  pub results : (r : ℕ) (s : Sort) → operation_sort f (slice_get f.ops n.op) r ≡ Some s
      → (t : Term) × (slice_get
      (op_terms (slice_get f.ops n.op) n.attrs (map (source_term inputs outs) n.args)) r ≡ Some t)
      × IsTermOver f.pointer inputs s t

-- a node's arguments and attributes
pub node-over : (f : File) (g : Goal) → HasSoundParts f g → (nodes : List Node) (k : ℕ) (n : Node) (o : Operation)
    (inputs : List Term) (outs : List (List Term)) → AreSources f g nodes k inputs outs
    → slice_get f.ops n.op ≡ Some o → Pairwise (λ w a. a < 2 ^ w) o.attrs n.attrs
    → map (source_sort f g nodes k) n.args ≡ map (λ (s : Sort). Some s) o.args
    → AreOver f.pointer inputs (scope_of o) (map (source_term inputs outs) n.args ++ attr_terms o.attrs n.attrs)
node-over f g sound nodes k n o inputs outs h there attrs args =
    let have = have_terms f g nodes k inputs outs h n.args o.args args in
    Pairwise-append (IsTermOver f.pointer inputs) o.args (map (λ w. sort.Bits w) o.attrs)
    (map (source_term inputs outs) n.args) (attr_terms o.attrs n.attrs) have.over
    (attributes-over f.pointer inputs o.attrs n.attrs (sound.attrs n.op o there) attrs)

pub node-results : (f : File) (g : Goal) → HasSoundParts f g → (nodes : List Node) (k : ℕ) (n : Node)
    (inputs : List Term) (outs : List (List Term)) → AreFitting f g nodes → slice_get nodes k ≡ Some n
    → AreSources f g nodes k inputs outs → HasResults f inputs outs n
node-results f g sound nodes k n inputs outs fitting at h =
    let fit = fitting k n at in
    let o : Operation = fit.operation in
    let there : slice_get f.ops n.op ≡ Some o = fit.in_file in
    let args : List Term = map (source_term inputs outs) n.args in
    let us : List Term = args ++ attr_terms o.attrs n.attrs in
    let have = have_terms f g nodes k inputs outs h n.args o.args fit.args in
    let over = node-over f g sound nodes k n o inputs outs h there fit.attrs fit.args in
    let own = sound.terms.of_ops n.op o there in
    record {
      values =
          λ env. ap (λ x. map (value env) (op_terms x n.attrs args)) there
          ∙ results-values f.pointer env inputs (scope_of o) us over o.results own
          ∙ ap (λ vs. map (value vs) o.results) (map-append (value env) args (attr_terms o.attrs n.attrs)
          ∙ ap (λ vs. map (value env) args ++ vs) (attributes-values env o.attrs n.attrs)
          ∙ ap (λ vs. vs ++ attr_values o.attrs n.attrs) (sym (have.values env)))
          ∙ ap (λ x. op_results x n.attrs
          (map (source_value (map (value env) inputs) (map (map (value env)) outs)) n.args)) (sym there);
      results =
          λ r s e. subst (λ x. (t : Term) × (slice_get (op_terms x n.attrs args) r ≡ Some t)
          × IsTermOver f.pointer inputs s t) (sym there)
          (result-over f.pointer inputs (scope_of o) us over o.results own r s
          (ap (λ x. operation_sort f x r) (sym there) ∙ e));
    }

-- the nodes of a pattern that stand from a place on
abbrev AreFrom : ℕ → List Node → List Node → Type 0
AreFrom k nodes rest = (j : ℕ) (n : Node) → slice_get rest j ≡ Some n → slice_get nodes (k + j) ≡ Some n

-- the terms of all nodes from a place on
record HaveOuts (f : File) (g : Goal) (nodes : List Node) (inputs : List Term) (outs : List (List Term)) (k : ℕ)
    (rest : List Node) : Type 0 where
  sources : AreSources f g nodes (k + length rest) inputs (term_outs f inputs outs rest)
  values : (env : List Value) → map (map (value env)) (term_outs f inputs outs rest)
      ≡ outs_from f (map (value env) inputs) (map (map (value env)) outs) rest

have_outs : (f : File) (g : Goal) → HasSoundParts f g → (nodes : List Node) (inputs : List Term)
    → AreFitting f g nodes → (k : ℕ) (rest : List Node) (outs : List (List Term)) → AreFrom k nodes rest
    → length outs ≡ k → AreSources f g nodes k inputs outs → HaveOuts f g nodes inputs outs k rest
have_outs f g sound nodes inputs fitting k [] outs from long h =
    let same : k ≡ k + zero = omega arith in
    record { sources = subst (λ j. AreSources f g nodes j inputs outs) same h; values = λ env. refl }
have_outs f g sound nodes inputs fitting k (n ∷ rest) outs from long h =
    let at_here : k + zero ≡ k = omega arith in
    let at : slice_get nodes k ≡ Some n = subst (λ i. slice_get nodes i ≡ Some n) at_here (from zero n refl) in
    let next : AreFrom (k + 1) nodes rest =
    λ j m e. let same : k + suc j ≡ (k + 1) + j = omega arith in
    subst (λ i. slice_get nodes i ≡ Some m) same (from (suc j) m e) in
    let here = node-results f g sound nodes k n inputs outs fitting at h in
    let new : List Term = op_terms (slice_get f.ops n.op) n.attrs (map (source_term inputs outs) n.args) in
    let more = have_outs f g sound nodes inputs fitting (k + 1) rest (outs ++ new ∷ []) next
    (length_push outs new ∙ ap (λ m. m + 1) long)
    (next-sources f g nodes k inputs outs new n long at h here.results) in
    let count : (k + 1) + length rest ≡ k + suc (length rest) = omega arith in
    record {
      sources = subst (λ j. AreSources f g nodes j inputs (term_outs f inputs (outs ++ new ∷ []) rest)) count
          more.sources;
      values =
          λ env. more.values env
          ∙ ap (λ os. outs_from f (map (value env) inputs) os rest) (map-append (map (value env)) outs (new ∷ []))
          ∙ ap (λ vs. outs_from f (map (value env) inputs) (map (map (value env)) outs ++ vs ∷ []) rest)
          (here.values env);
    }

-- ---- patterns and goals

pub goal-sorts : (p : ℕ) (ss : List Sort) (ts : List Term) → AllByRecursion (IsSoundTerm p ss) ts
    → (rs : List Sort) × (map (sort_of p) ts ≡ map (λ (s : Sort). Some s) rs)
goal-sorts p ss [] sound = ([], refl)
goal-sorts p ss (t ∷ ts) sound =
    let first = sound.0 in
    let here : sort_of p t ≡ Some first.of_sort = first.sorted in
    let rest = goal-sorts p ss ts sound.1 in
    (first.of_sort ∷ rest.0, λ i. here i ∷ rest.1 i)

-- the results of a pattern's terms
pub results-there : (f : File) (g : Goal) → HasSoundParts f g → (p : Pattern) (inputs : List Term)
    → IsWellFormed f g p → (outs : List (List Term)) → AreSources f g p.nodes (length p.nodes) inputs outs
    → (rs : List Sort) × (map (sort_of f.pointer) g.results ≡ map (λ (s : Sort). Some s) rs)
    × HaveTerms f.pointer inputs outs rs p.results
results-there f g sound p inputs wf outs h =
    let rs = goal-sorts f.pointer g.args g.results sound.terms.of_goal in
    (rs.0, rs.1, have_terms f g p.nodes (length p.nodes) inputs outs h p.results rs.0 (wf.results ∙ rs.1))

-- the sources of a pattern's results
pub pattern-outs : (f : File) (g : Goal) → HasSoundParts f g → (p : Pattern) (inputs : List Term) → IsWellFormed f g p
    → map (sort_of f.pointer) inputs ≡ map (λ (s : Sort). Some s) g.args
    → AreSources f g p.nodes (length p.nodes) inputs (term_outs f inputs [] p.nodes)
    × ((env : List Value) → map (map (value env)) (term_outs f inputs [] p.nodes)
    ≡ outs_from f (map (value env) inputs) [] p.nodes)
pattern-outs f g sound p inputs wf e =
    let from : AreFrom 0 p.nodes p.nodes =
    λ j n at. let same : j ≡ 0 + j = omega arith in subst (λ i. slice_get p.nodes i ≡ Some n) same at in
    let made = have_outs f g sound p.nodes inputs wf.nodes 0 p.nodes [] from refl
    (first-sources f g p.nodes inputs e) in
    let count : 0 + length p.nodes ≡ length p.nodes = omega arith in
    (subst (λ k. AreSources f g p.nodes k inputs (term_outs f inputs [] p.nodes)) count made.sources, made.values)

pub pattern-over : (f : File) (g : Goal) → HasSoundParts f g → (p : Pattern) (inputs : List Term) → IsWellFormed f g p
    → map (sort_of f.pointer) inputs ≡ map (λ (s : Sort). Some s) g.args
    → AreTermsOver f.pointer inputs (map (sort_of f.pointer) g.results) (pattern_results f p) (pattern_terms f p inputs)
pattern-over f g sound p inputs wf e =
    let outs : List (List Term) = term_outs f inputs [] p.nodes in
    let made = pattern-outs f g sound p inputs wf e in
    let there = results-there f g sound p inputs wf outs made.0 in
    let have = there.2 in
    let ts : List Term = map (source_term inputs outs) p.results in
    record {
      of_sorts = over-sorts f.pointer inputs there.0 ts have.over ∙ sym there.1;
      of_values =
          λ env. sym (have.values env)
          ∙ ap (λ os. map (source_value (map (value env) inputs) os) p.results) (made.1 env);
      fit = over-fits f.pointer inputs there.0 ts have.over;
      of_inputs = over-inputs f.pointer inputs there.0 ts have.over;
    }

goal-each : (p : ℕ) (inputs : List Term) (ss : List Sort) → AreOver p inputs ss inputs → (ts : List Term)
    → AllByRecursion (IsSoundTerm p ss) ts → (rs : List Sort) → map (sort_of p) ts ≡ map (λ (s : Sort). Some s) rs
    → AreOver p inputs rs (map (replaced inputs) ts)
goal-each p inputs ss h [] sound [] e = tt
goal-each p inputs ss h [] sound (r ∷ rs) e = absurd (cc)
goal-each p inputs ss h (t ∷ ts) sound [] e = absurd (cc)
goal-each p inputs ss h (t ∷ ts) sound (r ∷ rs) e =
    let own = sound.0 in
    let first : sort_of p t ≡ Some r = cc in
    let rest : map (sort_of p) ts ≡ map (λ (s : Sort). Some s) rs = cc in
    (replaced-over p inputs ss inputs h t r own.stays first, goal-each p inputs ss h ts sound.1 rs rest)

pub goal-over : (f : File) (g : Goal) → HasSoundParts f g → (inputs : List Term)
    → map (sort_of f.pointer) inputs ≡ map (λ (s : Sort). Some s) g.args
    → AreTermsOver f.pointer inputs (map (sort_of f.pointer) g.results) (goal_results g) (goal_terms g inputs)
goal-over f g sound inputs e =
    let rs = goal-sorts f.pointer g.args g.results sound.terms.of_goal in
    let given = inputs-over f.pointer inputs g.args e in
    let over = goal-each f.pointer inputs g.args given g.results sound.terms.of_goal rs.0 rs.1 in
    let ts : List Term = map (replaced inputs) g.results in
    record {
      of_sorts = over-sorts f.pointer inputs rs.0 ts over ∙ sym rs.1;
      of_values = λ env. results-values f.pointer env inputs g.args inputs given g.results sound.terms.of_goal;
      fit = over-fits f.pointer inputs rs.0 ts over;
      of_inputs = over-inputs f.pointer inputs rs.0 ts over;
    }
