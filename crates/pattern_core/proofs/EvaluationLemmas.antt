-- The nodes along which the results of a file's definitions are evaluated.
use Rattle.std.proofs.Common.{◌≡◌, ℕ, ◌+◌, ◌<◌, ◌≤◌, All, List, [], ◌∷◌, ◌++◌, length, take, get_or, Some}
use Rattle.std.proofs.Common.{sym, ap, ◌∙◌, subst, slice_get}
use Rattle.std.proofs.lemmas.List.{take_more, take_all}
use Rattle.std.proofs.lemmas.Option.{slice_get_within, get_or_from_slice_get, same_Some}
use Rattle.bv_terms.specs.declared.op.TermId.{TermId}
use Rattle.bv_terms.specs.Table.{Table}
use Rattle.isel_spec.specs.declared.definitions.OpDef.{OpDef}
use Rattle.isel_spec.specs.declared.definitions.GoalDef.{GoalDef}
use Rattle.isel_spec.specs.declared.spec.Spec.{Spec}
use Rattle.isel_spec.proofs.SpecLemmas.{IsSoundResult-op, IsSoundResult-goal}
use Rattle.pattern_core.specs.Pattern.{Pairwise}
use Rattle.pattern_core.specs.Evaluation.{AreNodesBelow, HaveNodes, AreGoalNodes}
use Rattle.pattern_core.proofs.FitLemmas.{Pairwise-length, Pairwise-at}

-- ---- results stand in the table

pub op_results_there : (s : Spec) (k : ℕ) (name : List ℕ) (d : OpDef) (results : List TermId)
    → slice_get s.ops k ≡ Some (name, d) → results ≡ d.results
    → All (λ (at : TermId). at.0 < length s.terms.nodes) results
op_results_there s k name d results e same =
    λ j r l. let x = IsSoundResult-op s k name d results j r e same l in x.there

pub goal_results_there : (s : Spec) (k : ℕ) (name : List ℕ) (d : GoalDef) (results : List TermId)
    → slice_get s.goals k ≡ Some (name, d) → results ≡ d.results
    → All (λ (at : TermId). at.0 < length s.terms.nodes) results
goal_results_there s k name d results e same =
    λ j r l. let x = IsSoundResult-goal s k name d results j r e same l in x.there

-- ---- the nodes of a goal

pub AreGoalNodes-from : (s : Spec) (k : ℕ) (name : List ℕ) (d : GoalDef) (results nodes : List TermId)
    → slice_get s.goals k ≡ Some (name, d) → results ≡ d.results → AreNodesBelow s.terms results nodes
    → AreGoalNodes s k nodes
AreGoalNodes-from s k name d results nodes e same h other c there =
    let pair : (name, d) ≡ (other, c) = same_Some (name, d) (other, c) (sym e ∙ there) in
    let one : results ≡ c.results = same ∙ ap (λ (x : List ℕ × GoalDef). x.1.results) pair in
    subst (λ (xs : List TermId). AreNodesBelow s.terms xs nodes) one h

pub goal_nodes_are : (s : Spec) (k : ℕ) (name : List ℕ) (d : GoalDef) (results nodes : List TermId)
    → slice_get s.goals k ≡ Some (name, d) → results ≡ d.results → AreGoalNodes s k nodes
    → AreNodesBelow s.terms results nodes
goal_nodes_are s k name d results nodes e same h =
    subst (λ (xs : List TermId). AreNodesBelow s.terms xs nodes) (sym same) (h name d e)

-- ---- the nodes of the operations, one by one

Pairwise-push : {A B : Type 0} (R : A → B → Type 0) (xs : List A) (ys : List B) (x : A) (y : B) → Pairwise R xs ys
    → R x y → Pairwise R (xs ++ x ∷ []) (ys ++ y ∷ [])
Pairwise-push R [] [] x y h r = (r, tt)
Pairwise-push R (a ∷ xs) (b ∷ ys) x y h r = (h.0, Pairwise-push R xs ys x y h.1 r)
Pairwise-push R [] (b ∷ ys) x y h r = absurd h
Pairwise-push R (a ∷ xs) [] x y h r = absurd h

pub HaveNodes-more : (table : Table) (ops : List (List ℕ × OpDef)) (lists more : List (List TermId)) (place : ℕ)
    (name : List ℕ) (d : OpDef) (results nodes : List TermId) → HaveNodes table (take place ops) lists
    → slice_get ops place ≡ Some (name, d) → results ≡ d.results → AreNodesBelow table results nodes
    → more ≡ lists ++ nodes ∷ [] → HaveNodes table (take (place + 1) ops) more
HaveNodes-more table ops lists more place name d results nodes h e same are grown =
    let R : (List ℕ × OpDef) → List TermId → Type 0 =
    λ x ns. AreNodesBelow table x.1.results ns in
    let here : AreNodesBelow table d.results nodes =
    subst (λ (xs : List TermId). AreNodesBelow table xs nodes) same are in
    let within = slice_get_within ops place (name, d) e in
    let front : take (place + 1) ops ≡ take place ops ++ (name, d) ∷ [] =
    take_more ops place (name, d) within
    ∙ ap (λ (x : List ℕ × OpDef). take place ops ++ x ∷ []) (get_or_from_slice_get ops place (name, d) (name, d) e) in
    let both = Pairwise-push R (take place ops) lists (name, d) nodes h here in
    subst (λ (ys : List (List TermId)). Pairwise R (take (place + 1) ops) ys) (sym grown)
    (subst (λ (xs : List (List ℕ × OpDef)). Pairwise R xs (lists ++ nodes ∷ [])) (sym front) both)

pub HaveNodes-all : (table : Table) (ops : List (List ℕ × OpDef)) (lists : List (List TermId)) (place : ℕ)
    → HaveNodes table (take place ops) lists → length ops ≤ place → HaveNodes table ops lists
HaveNodes-all table ops lists place h l =
    subst (λ (xs : List (List ℕ × OpDef)). HaveNodes table xs lists) (take_all place ops l) h

pub as_many : (table : Table) (ops : List (List ℕ × OpDef)) (lists : List (List TermId)) → HaveNodes table ops lists
    → length lists ≡ length ops
as_many table ops lists h =
    sym (Pairwise-length (λ (x : List ℕ × OpDef) ns. AreNodesBelow table x.1.results ns) ops lists h)

pub nodes_at : (table : Table) (ops : List (List ℕ × OpDef)) (lists : List (List TermId)) (place : ℕ) (name : List ℕ)
    (d : OpDef) (results nodes list : List TermId) → HaveNodes table ops lists → slice_get ops place ≡ Some (name, d)
    → results ≡ d.results → list ≡ get_or lists place list → nodes ≡ list → AreNodesBelow table results nodes
nodes_at table ops lists place name d results nodes list h e same at is =
    let within = slice_get_within ops place (name, d) e in
    let pair =
    Pairwise-at (λ (x : List ℕ × OpDef) ns. AreNodesBelow table x.1.results ns) ops lists place (name, d) list within h
    in
    let one : (get_or ops place (name, d)).1.results ≡ results =
    ap (λ (x : List ℕ × OpDef). x.1.results) (get_or_from_slice_get ops place (name, d) (name, d) e) ∙ sym same in
    let two : get_or lists place list ≡ nodes = sym (is ∙ at) in
    subst (λ (xs : List TermId). AreNodesBelow table xs nodes) one
    (subst (λ (xs : List TermId). AreNodesBelow table (get_or ops place (name, d)).1.results xs) two pair)
