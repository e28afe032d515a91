-- Tests of a pattern's parts: lists compared from the front on, and what names a node.
use Rattle.std.proofs.Common.{◌≡◌, ℕ, zero, suc, ◌+◌, ◌^◌, ◌<◌, ◌≤◌, Bool, true, ◌↔◌, inl, inr, List, [], ◌∷◌}
use Rattle.std.proofs.Common.{length, map, take, get_or, Some, refl, sym, ap, ◌∙◌, subst, arith, slice_get, All}
use Rattle.std.proofs.Common.{Contains}
use Rattle.std.specs.Prelude.{option_map, option_and_then}
use Rattle.std.proofs.lemmas.List.{take_all}
use Rattle.std.proofs.lemmas.List.Elements.{All-get_or, All-head, All-tail}
use Rattle.std.proofs.lemmas.Option.{slice_get-map, slice_get-get_or, same_Some}
use Rattle.bv_terms.specs.declared.op.TermId.{TermId}
use Rattle.bv_terms.specs.declared.value.Sort.{Sort}
use Rattle.bv_terms.specs.Term.{Term}
use Rattle.bv_terms.specs.WellSorted.{sort_of}
use Rattle.bv_terms.specs.Table.{terms_of, term_in, term_at}
use Rattle.isel_spec.specs.declared.definitions.OpDef.{OpDef}
use Rattle.isel_spec.specs.declared.definitions.GoalDef.{GoalDef}
use Rattle.isel_spec.specs.declared.spec.Spec.{Spec}
use Rattle.isel_spec.specs.File.{File, Operation, Goal, operation}
use Rattle.isel_spec.specs.Spec.{file}
use Rattle.pattern_core.specs.declared.pattern.Src.{Src}
use Rattle.pattern_core.specs.declared.pattern.Src.TheVariants.{Out}
use Rattle.pattern_core.specs.declared.pattern.Node.{Node}
use Rattle.pattern_core.specs.declared.pattern.Pattern.{Pattern}
use Rattle.pattern_core.specs.Pattern.{operation_sort, source_sort, Pairwise, IsFitting, IsOf, IsAmong, IsUsed}
use Rattle.pattern_core.specs.Pattern.{IsWellFormed, args_of}
use Rattle.isel_spec.proofs.SpecLemmas.{pointer_is, sort_in_file, operation_is, goal_is}

-- ---- a test's answer

-- ---- two lists with one image

-- ---- numbers for widths

pub Pairwise-length : {A B : Type 0} (R : A → B → Type 0) (xs : List A) (ys : List B) → Pairwise R xs ys
    → length xs ≡ length ys
Pairwise-length R [] [] h = refl
Pairwise-length R (x ∷ xs) (y ∷ ys) h = ap suc (Pairwise-length R xs ys h.1)
Pairwise-length R [] (y ∷ ys) h = absurd h
Pairwise-length R (x ∷ xs) [] h = absurd h

pub Pairwise-at : {A B : Type 0} (R : A → B → Type 0) (xs : List A) (ys : List B) (i : ℕ) (d : A) (e : B)
    → i < length xs → Pairwise R xs ys → R (get_or xs i d) (get_or ys i e)
Pairwise-at R [] ys i d e l h = absurd (omega (arith, l))
Pairwise-at R (x ∷ xs) [] i d e l h = absurd h
Pairwise-at R (x ∷ xs) (y ∷ ys) zero d e l h = h.0
Pairwise-at R (x ∷ xs) (y ∷ ys) (suc i) d e l h = Pairwise-at R xs ys i d e (omega (arith, l)) h.1

Pairwise-suc : {A B : Type 0} (R : A → B → Type 0) (xs : List A) (ys : List B) (i : ℕ) (d : A) (e : B) → i < length xs
    → i < length ys → R (get_or xs i d) (get_or ys i e) → Pairwise R (take i xs) (take i ys)
    → Pairwise R (take (suc i) xs) (take (suc i) ys)
Pairwise-suc R [] ys i d e l k r h = absurd (omega (arith, l))
Pairwise-suc R (x ∷ xs) [] i d e l k r h = absurd (omega (arith, k))
Pairwise-suc R (x ∷ xs) (y ∷ ys) zero d e l k r h = (r, tt)
Pairwise-suc R (x ∷ xs) (y ∷ ys) (suc i) d e l k r h =
    (h.0, Pairwise-suc R xs ys i d e (omega (arith, l)) (omega (arith, k)) r h.1)

pub Pairwise-more : {A B : Type 0} (R : A → B → Type 0) (xs : List A) (ys : List B) (i : ℕ) (d : A) (e : B)
    → i < length xs → i < length ys → R (get_or xs i d) (get_or ys i e) → Pairwise R (take i xs) (take i ys)
    → Pairwise R (take (i + 1) xs) (take (i + 1) ys)
Pairwise-more R xs ys i d e l k r h = let n : suc i ≡ i + 1 =
    omega arith in subst (λ m. Pairwise R (take m xs) (take m ys)) n (Pairwise-suc R xs ys i d e l k r h)

-- ---- sorts

pub operation_sort-is : (s : Spec) (op place k j : ℕ) (name : List ℕ) (d : OpDef) (results : List TermId) (r : TermId)
    (x : Sort) → k ≡ op → j ≡ place → slice_get s.ops k ≡ Some (name, d) → results ≡ d.results → j < length results
    → sort_of s.terms.pointer (term_at s.terms (get_or results j r)) ≡ Some x
    → Some x ≡ operation_sort (file s) (slice_get (file s).ops op) place
operation_sort-is s op place k j name d results r x p q e as' l sorted =
    let term : TermId → Term = λ at. term_in (terms_of s.terms) at.0 in
    let there : slice_get d.results place ≡ Some (get_or results j r) =
    (λ i. slice_get (sym as' i) (sym q i)) ∙ slice_get-get_or results j r l in
    let found : slice_get (map term d.results) place ≡ Some (term_at s.terms (get_or results j r)) =
    slice_get-map term d.results place ∙ ap (option_map term) there in
    let whole : slice_get (file s).ops op ≡ Some (operation s.terms (name, d)) =
    ap (slice_get (file s).ops) (sym p) ∙ operation_is s k name d e in
    sym (ap (λ o. operation_sort (file s) o place) whole ∙ ap (option_and_then (sort_of s.pointer)) found
    ∙ sort_in_file s (term_at s.terms (get_or results j r)) ∙ sorted)

sorts-map : (p : ℕ) (ts : List Term) (ats : List TermId)
    → map (sort_of p) (map (λ (at : TermId). term_in ts at.0) ats)
    ≡ map (λ (at : TermId). sort_of p (term_in ts at.0)) ats
sorts-map p ts [] = refl
sorts-map p ts (at ∷ ats) = ap (λ xs. sort_of p (term_in ts at.0) ∷ xs) (sorts-map p ts ats)

pub goal_sorts : (s : Spec) (k : ℕ) (name : List ℕ) (d : GoalDef) (g : Goal) (results : List TermId)
    → slice_get s.goals k ≡ Some (name, d) → slice_get (file s).goals k ≡ Some g → results ≡ d.results
    → map (sort_of s.pointer) g.results ≡ map (λ (at : TermId). sort_of s.terms.pointer (term_at s.terms at)) results
goal_sorts s k name d g results e h as' =
    ap (λ (x : Goal). map (sort_of s.pointer) x.results) (goal_is s k name d g e h)
    ∙ sorts-map s.pointer (terms_of s.terms) d.results
    ∙ (λ i. map (λ (at : TermId). sort_of (pointer_is s i) (term_at s.terms at)) (sym as' i))

-- ---- a node that fits

pub fitting-answer : (s : Spec) (g : Goal) (nodes : List Node) (place k : ℕ) (n : Node) (name : List ℕ) (d : OpDef)
    (widths numbers : List ℕ) (args : List Src) (sorts : List Sort) (b : Bool)
    → k ≡ n.op → slice_get s.ops k ≡ Some (name, d) → widths ≡ d.attrs → numbers ≡ n.attrs → args ≡ n.args
    → sorts ≡ d.args → Pairwise (λ w a. a < 2 ^ w) widths numbers
    → (b ≡ true) ↔ (map (source_sort (file s) g nodes place) args ≡ map (λ (x : Sort). Some x) sorts)
    → (b ≡ true) ↔ IsFitting (file s) g nodes place n
fitting-answer s g nodes place k n name d widths numbers args sorts b op e w m a t within iff =
    let o : Operation = operation s.terms (name, d) in
    let there : slice_get (file s).ops n.op ≡ Some o =
    ap (slice_get (file s).ops) (sym op) ∙ operation_is s k name d e in (
      λ yes. record {
        operation = o;
        in_file = there;
        attrs =
            subst (λ ns. Pairwise (λ w a. a < 2 ^ w) d.attrs ns) m
            (subst (λ ws. Pairwise (λ w a. a < 2 ^ w) ws numbers) w within);
        args = ap (map (source_sort (file s) g nodes place)) (sym a) ∙ iff.0 yes ∙ ap (map (λ (x : Sort). Some x)) t;
      },
      λ fit. let same : fit.operation ≡ o = same_Some fit.operation o (sym fit.in_file ∙ there) in
          iff.1 (ap (map (source_sort (file s) g nodes place)) a ∙ fit.args
          ∙ ap (λ (x : Operation). map (λ (y : Sort). Some y) x.args) same
          ∙ ap (map (λ (x : Sort). Some x)) (sym t)),
    )

-- ---- what names a node

pub none_among : (node : ℕ) (xs : List Src) (i : ℕ) → length xs ≤ i → All (λ s. IsOf node s → ⊥) (take i xs)
    → IsAmong node xs → ⊥
none_among node xs i l all h =
    let whole : All (λ s. IsOf node s → ⊥) xs = subst (All (λ s. IsOf node s → ⊥)) (take_all i xs l) all in
    All-get_or (λ s. IsOf node s → ⊥) xs h.1.0 (Out node h.0) h.1.1 whole (h.0, h.1.2)

none_in : (node r : ℕ) (nodes : List Node) → All (λ (n : Node). IsAmong node n.args → ⊥) nodes → (j : ℕ)
    → Contains (args_of (slice_get nodes j)) (Out node r) → ⊥
none_in node r [] all j h = omega (arith, h.1)
none_in node r (n ∷ ns) all zero h = All-head (λ (n : Node). IsAmong node n.args → ⊥) n ns all (r, h)
none_in node r (n ∷ ns) all (suc j) h =
    none_in node r ns (All-tail (λ (n : Node). IsAmong node n.args → ⊥) n ns all) j h

pub used-answer : (p : Pattern) (node : ℕ) (nodes : List Node) (xs : List Src) (i : ℕ) (b : Bool) → nodes ≡ p.nodes
    → xs ≡ p.results → length nodes ≤ i → All (λ (n : Node). IsAmong node n.args → ⊥) (take i nodes)
    → (b ≡ true) ↔ IsAmong node xs → (b ≡ true) ↔ IsUsed p node
used-answer p node nodes xs i b e f l all iff =
    let whole : All (λ (n : Node). IsAmong node n.args → ⊥) p.nodes =
    subst (All (λ (n : Node). IsAmong node n.args → ⊥)) (take_all i nodes l ∙ e) all in (
      λ yes. let a = iff.0 yes in (a.0, inl (subst (λ ys. Contains ys (Out node a.0)) f a.1)),
      λ h. elim h.1 [
        | inl a ↦ iff.1 (h.0, subst (λ ys. Contains ys (Out node h.0)) (sym f) a)
        | inr a ↦ absurd (none_in node h.0 p.nodes whole a.0 a.1)
      ],
    )

-- ---- results

pub results-of : (f : File) (g : Goal) (p : Pattern) (nodes : List Node) (xs : List Src) → nodes ≡ p.nodes
    → xs ≡ p.results → IsWellFormed f g p → map (source_sort f g nodes (length nodes)) xs
    ≡ map (sort_of f.pointer) g.results
results-of f g p nodes xs e x wf = (λ i. map (source_sort f g (e i) (length (e i))) (x i)) ∙ wf.results
