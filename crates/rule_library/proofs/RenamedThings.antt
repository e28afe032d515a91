-- A renamed pattern gives the same results over values and memories, so that where a pattern is a rule, a canonical one
-- of its size is.
use Rattle.std.proofs.Common.{◌≡◌, ℕ, zero, suc, ◌+◌, ◌<◌, false, List, [], ◌∷◌, ◌++◌, length, map, Option, Some}
use Rattle.std.proofs.Common.{option_map, slice_get, refl, sym, ap, ◌∙◌, subst, inl, inr, arith}
use Rattle.std.specs.Prelude.{unwrap_or}
use Rattle.std.proofs.lemmas.List.{length-append}
use Rattle.std.proofs.lemmas.List.Elements.{All-contains}
use Rattle.std.proofs.lemmas.Option.{same_Some}
use Rattle.bv_terms.specs.declared.value.Value.TheVariants as val
use Rattle.bv_terms.specs.Memory.{Thing, Plain, SameThing}
use Rattle.bv_terms.specs.Table.{IsTable}
use Rattle.isel_spec.specs.declared.spec.Spec.{Spec}
use Rattle.isel_spec.specs.File.{File, Goal}
use Rattle.isel_spec.specs.Spec.{file}
use Rattle.list_lemmas.proofs.Lookups.{some_at, slice_get-append_left, slice_get-end}
use Rattle.list_lemmas.proofs.Members.{In, Contains-from_In}
use Rattle.pattern_core.specs.declared.pattern.Src.{Src}
use Rattle.pattern_core.specs.declared.pattern.Src.TheVariants.{Input, Out}
use Rattle.pattern_core.specs.declared.pattern.Node.{Node}
use Rattle.pattern_core.specs.declared.pattern.Pattern.{Pattern}
use Rattle.pattern_core.specs.Pattern.{IsWellFormed, Pairwise}
use Rattle.pattern_core.specs.Renaming.{renamed_sources, renamed_node, place_of, IsRenaming}
use Rattle.pattern_core.specs.Rule.{source_thing, op_things, things_from, pattern_things, goal_things, IsRule}
use Rattle.pattern_core.specs.Walk.{IsBefore, AreForward, IsForward, IsCanonical}
use Rattle.pattern_core.proofs.FormLemmas.{IsWellFormed-placed}
use Rattle.pattern_core.proofs.ForwardLemmas.{IsForward-from_spec}
use Rattle.pattern_core.proofs.OrderOfWalk.{order_of, IsOrder, IsOrder-of_walk}
use Rattle.pattern_core.proofs.RenamingLemmas.{IsPlaced, IsRenaming-placed, IsCanonical-placed}

-- ---- the results of a node

-- a node's results, where the nodes have these
abbrev node_things : File → List Thing → List (List Thing) → Node → List Thing
node_things f inputs outs n = op_things f.pointer (slice_get f.ops n.op) n.attrs (map (source_thing inputs outs) n.args)

-- the results that were there stay
outs-stay : (f : File) (inputs : List Thing) (ns : List Node) (outs : List (List Thing)) (k : ℕ) → k < length outs
    → slice_get (things_from f inputs outs ns) k ≡ slice_get outs k
outs-stay f inputs [] outs k l = refl
outs-stay f inputs (n ∷ ns) outs k l =
    let r : List Thing = node_things f inputs outs n in
    let more : length (outs ++ r ∷ []) ≡ length outs + 1 = length-append outs (r ∷ []) in
    outs-stay f inputs ns (outs ++ r ∷ []) k (omega (arith, l, more)) ∙ slice_get-append_left outs (r ∷ []) k l

-- sources before a bound have the same things, where the nodes below it have
things-same : (inputs : List Thing) (outs all : List (List Thing)) (bound : ℕ)
    → ((k : ℕ) → k < bound → slice_get all k ≡ slice_get outs k) → (ss : List Src)
    → ((s : Src) → In ss s → IsBefore bound s)
    → map (source_thing inputs all) ss ≡ map (source_thing inputs outs) ss
things-same inputs outs all bound same [] before = refl
things-same inputs outs all bound same (s ∷ ss) before =
    let first : source_thing inputs all s ≡ source_thing inputs outs s = one s (before s (inl refl)) in
    let rest = things-same inputs outs all bound same ss (λ t i. before t (inr i)) in
    λ i. first i ∷ rest i
  where
    one : (s : Src) → IsBefore bound s → source_thing inputs all s ≡ source_thing inputs outs s
    one (Input k) b = refl
    one (Out node result) b =
        ap (λ o. unwrap_or (slice_get (unwrap_or o []) result) (Plain (val.Bool false))) (same node b)

-- the results of a node over earlier ones, from the results of all nodes
outs-at : (f : File) (inputs : List Thing) (ns : List Node) (outs : List (List Thing)) (j k : ℕ) (n : Node)
    → k ≡ length outs + j → slice_get ns j ≡ Some n → ((s : Src) → In n.args s → IsBefore k s)
    → slice_get (things_from f inputs outs ns) k ≡ Some (node_things f inputs (things_from f inputs outs ns) n)
outs-at f inputs [] outs j k n e there before = absurd (cc)
outs-at f inputs (m ∷ ns) outs zero k n e there before =
    let all : List (List Thing) = things_from f inputs outs (m ∷ ns) in
    let r : List Thing = node_things f inputs outs m in
    let more : length (outs ++ r ∷ []) ≡ length outs + 1 = length-append outs (r ∷ []) in
    let here : length outs ≡ k = omega (arith, e) in
    let is : m ≡ n = same_Some m n there in
    let bounded : (s : Src) → In n.args s → IsBefore (length outs) s =
    λ s i. subst (λ b. IsBefore b s) (sym here) (before s i) in
    subst (λ b. slice_get all b ≡ Some (node_things f inputs all n)) here
    (outs-stay f inputs ns (outs ++ r ∷ []) (length outs) (omega (arith, more)) ∙ slice_get-end outs r
    ∙ ap (λ x. Some (node_things f inputs outs x)) is
    ∙ ap (λ vs. Some (op_things f.pointer (slice_get f.ops n.op) n.attrs vs))
    (sym (things-same inputs outs all (length outs) (outs-stay f inputs (m ∷ ns) outs) n.args bounded)))
outs-at f inputs (m ∷ ns) outs (suc j) k n e there before =
    let r : List Thing = node_things f inputs outs m in
    let more : length (outs ++ r ∷ []) ≡ length outs + 1 = length-append outs (r ∷ []) in
    outs-at f inputs ns (outs ++ r ∷ []) j k n (omega (arith, e, more)) there before

-- ---- a renamed pattern

-- the results of all nodes
abbrev things_of_all : File → List Thing → Pattern → List (List Thing)
things_of_all f inputs p = things_from f inputs [] p.nodes

renamed-things : (inputs : List Thing) (to : ℕ → ℕ) (outs renamed : List (List Thing)) (ss : List Src)
    → ((a r : ℕ) → In ss (Out a r) → slice_get renamed (to a) ≡ slice_get outs a)
    → map (source_thing inputs renamed) (renamed_sources to ss) ≡ map (source_thing inputs outs) ss
renamed-things inputs to outs renamed [] same = refl
renamed-things inputs to outs renamed (Input k ∷ ss) same =
    let rest = renamed-things inputs to outs renamed ss (λ a r i. same a r (inr i)) in
    λ i. source_thing inputs outs (Input k) ∷ rest i
renamed-things inputs to outs renamed (Out a r ∷ ss) same =
    let first : source_thing inputs renamed (Out (to a) r) ≡ source_thing inputs outs (Out a r) =
    ap (λ o. unwrap_or (slice_get (unwrap_or o []) r) (Plain (val.Bool false))) (same a r (inl refl)) in
    let rest = renamed-things inputs to outs renamed ss (λ b q i. same b q (inr i)) in
    λ i. first i ∷ rest i

-- the arguments of a node are before it
args_before : (nodes : List Node) → AreForward nodes → (k : ℕ) (n : Node) → slice_get nodes k ≡ Some n → (s : Src)
    → In n.args s → IsBefore k s
args_before nodes forward k n e s i =
    All-contains (IsBefore k) n.args s (forward k n e) (Contains-from_In n.args s i)

-- each node gives under its other number what it gave
same-outs : (f : File) (inputs : List Thing) (p q : Pattern) (h : IsRenaming p q) → IsForward p → IsForward q
    → (bound k : ℕ) → k < bound → k < length p.nodes
    → slice_get (things_of_all f inputs q) (h.to k) ≡ slice_get (things_of_all f inputs p) k
same-outs f inputs p q h forward after zero k b l = absurd (omega (arith, b))
same-outs f inputs p q h forward after (suc bound) k b l =
    let at = some_at p.nodes k l in
    let n : Node = at.0 in
    let there : slice_get q.nodes (h.to k) ≡ Some (renamed_node h.to n) = h.nodes k n at.1 in
    outs-at f inputs q.nodes [] (h.to k) (h.to k) (renamed_node h.to n) (omega arith) there
    (args_before q.nodes after.nodes (h.to k) (renamed_node h.to n) there)
    ∙ ap (λ vs. Some (op_things f.pointer (slice_get f.ops n.op) n.attrs vs))
    (renamed-things inputs h.to (things_of_all f inputs p) (things_of_all f inputs q) n.args
    (λ a r i. let earlier : a < k = args_before p.nodes forward.nodes k n at.1 (Out a r) i in
    same-outs f inputs p q h forward after bound a (omega (arith, earlier, b)) (omega (arith, earlier, l))))
    ∙ sym (outs-at f inputs p.nodes [] k k n (omega arith) at.1 (args_before p.nodes forward.nodes k n at.1))

same-things : (f : File) (inputs : List Thing) (p q : Pattern) → IsRenaming p q → IsForward p → IsForward q
    → pattern_things f q inputs ≡ pattern_things f p inputs
same-things f inputs p q h forward after =
    ap (map (source_thing inputs (things_of_all f inputs q))) h.results
    ∙ renamed-things inputs h.to (things_of_all f inputs p) (things_of_all f inputs q) p.results
    (λ a r i. let there : a < length p.nodes =
    All-contains (IsBefore (length p.nodes)) p.results (Out a r) forward.results
    (Contains-from_In p.results (Out a r) i) in
    same-outs f inputs p q h forward after (length p.nodes) a there there)

-- ---- the canonical one

placed_nodes : (F : ℕ → Option Node) (order : List ℕ) → ((k : ℕ) → In order k → (n : Node) × (F k ≡ Some n))
    → (ns : List Node) × (map (λ (n : Node). Some n) ns ≡ map F order)
placed_nodes F [] there = ([], refl)
placed_nodes F (k ∷ order) there =
    let first = there k (inl refl) in
    let rest = placed_nodes F order (λ j i. there j (inr i)) in
    (first.0 ∷ rest.0, λ i. sym first.1 i ∷ rest.1 i)

-- a rule with its nodes in the order of its walk
pub record HasCanonical (f : File) (g : Goal) (p : Pattern) : Type 0 where
  pub pattern : Pattern
  pub well_formed : IsWellFormed f g pattern
  pub canonical : IsCanonical pattern
  pub of_size : length pattern.nodes ≡ length p.nodes
  pub rule : IsRule f g pattern

pub HasCanonical-from_rule : (s : Spec) (place : ℕ) (g : Goal) → IsTable s.terms
    → slice_get (file s).goals place ≡ Some g → (p : Pattern) → IsWellFormed (file s) g p → IsRule (file s) g p
    → HasCanonical (file s) g p
HasCanonical-from_rule s place g table there p w gives =
    let f : File = file s in
    let forward : IsForward p = IsForward-from_spec s place g table there p w in
    let o : IsOrder p (order_of p) = IsOrder-of_walk p forward w.used in
    let F : ℕ → Option Node = λ k. option_map (renamed_node (place_of (order_of p))) (slice_get p.nodes k) in
    let made = placed_nodes F (order_of p) (λ k i.
    let at = some_at p.nodes k (o.walked.within k i) in
    (renamed_node (place_of (order_of p)) at.0, ap (option_map (renamed_node (place_of (order_of p)))) at.1)) in
    let q : Pattern = record { nodes = made.0; results = renamed_sources (place_of (order_of p)) p.results } in
    let placed : IsPlaced p (order_of p) q = record { nodes = made.1; results = refl } in
    let h : IsRenaming p q = IsRenaming-placed p (order_of p) q o placed in
    let well : IsWellFormed f g q = IsWellFormed-placed f g p q forward o placed w in
    record {
      pattern = q;
      well_formed = well;
      canonical = IsCanonical-placed p q forward o placed;
      of_size = h.size;
      rule = λ inputs sorted.
          subst (λ (things : List Thing). Pairwise (SameThing f.pointer) things (goal_things f g inputs))
          (sym (same-things f inputs p q h forward (IsForward-from_spec s place g table there q well)))
          (gives inputs sorted);
    }
