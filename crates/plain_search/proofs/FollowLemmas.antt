-- Nodes that fit after others, one by one: the nodes of one operation that may come next, and all the nodes of a list.
use Rattle.std.proofs.Common.{◌≡◌, ℕ, zero, suc, ◌+◌, ◌<◌, ◌≤◌, ◌^◌, List, [], ◌∷◌, ◌++◌, length}
use Rattle.std.proofs.Common.{Option, Some, None, refl, sym, ap, ◌∙◌, arith, subst, slice_get, map}
use Rattle.std.proofs.Common.{length-append}
use Rattle.std.specs.Prelude.{option_and_then, nat_lt}
use Rattle.std.specs.Cmp.Lexicographic.{slice_cmp}
use Rattle.std.specs.Ordering.{nat_cmp, ordering_then}
use Rattle.std.specs.declared.cmp.Ordering.TheVariants.{Less, Equal}
use Rattle.std.proofs.lemmas.Bool.{ltb-true}
use Rattle.std.proofs.lemmas.Option.{same_Some}
use Rattle.bv_terms.specs.declared.value.Sort.{Sort}
use Rattle.isel_spec.specs.File.{File, Operation, Goal}
use Rattle.list_lemmas.proofs.Lists.{append-move}
use Rattle.list_lemmas.proofs.Lookups.{slice_get-append_left}
use Rattle.list_lemmas.proofs.Members.{In, In-map, In_of_map, In-flat_map, In_of_flat_map, In_of_range, In-range}
use Rattle.list_lemmas.proofs.Orders.{IsOrdered, IsOrdered-flat_map, IsOrdered-map, IsOrdered-range, IsOrdered-within}
use Rattle.list_lemmas.proofs.Orders.{nat_cmp-less, nat_cmp-same, slice_cmp-same}
use Rattle.pattern_core.specs.declared.pattern.Src.{Src}
use Rattle.pattern_core.specs.declared.pattern.Src.TheVariants.{Input, Out}
use Rattle.pattern_core.specs.declared.pattern.Node.{Node}
use Rattle.pattern_core.specs.Pattern.{operation_sort, source_sort, Pairwise, IsFitting, AreFitting}
use Rattle.pattern_core.specs.Order.{source_number, source_cmp, node_cmp}
use Rattle.plain_search.specs.Patterns.{choices, sources_of, numbers, nodes_after}
use Rattle.plain_search.proofs.OrderingLemmas.{Lower, then_less, then_equal, lists-same, Each-map, cond-within}
use Rattle.plain_search.proofs.ChoiceLemmas.{Pairwise-within, maps-from_pairs, pairs-from_maps, In-choices}
use Rattle.plain_search.proofs.ChoiceLemmas.{In_of_choices, IsOrdered-choices}
use Rattle.plain_search.proofs.NamedLemmas.{HasFewResults, IsOrdered-sources_of, In_of_sources_of, In-sources_of}

-- ---- the order of the nodes of one operation

pub source_cmp-same : (x : Src) → source_cmp x x ≡ Equal
source_cmp-same x = nat_cmp-same (source_number x)

-- two nodes of one operation
node_cmp-parts : (m n : Node) → m.op ≡ n.op
    → ordering_then (slice_cmp nat_cmp m.attrs n.attrs) (slice_cmp source_cmp m.args n.args) ≡ node_cmp m n
node_cmp-parts m n e =
    sym (then_equal (nat_cmp m.op n.op)
    (ordering_then (slice_cmp nat_cmp m.attrs n.attrs) (slice_cmp source_cmp m.args n.args))
    (ordering_then (slice_cmp nat_cmp m.attrs n.attrs) (slice_cmp source_cmp m.args n.args))
    (ap (λ k. nat_cmp m.op k) (sym e) ∙ nat_cmp-same m.op) refl)

pub node_cmp-same : (n : Node) → node_cmp n n ≡ Equal
node_cmp-same n =
    sym (node_cmp-parts n n refl)
    ∙ then_equal (slice_cmp nat_cmp n.attrs n.attrs) (slice_cmp source_cmp n.args n.args) Equal
    (slice_cmp-same n.attrs) (lists-same source_cmp source_cmp-same n.args)

IsOrdered-numbers : (w : ℕ) → IsOrdered (Lower nat_cmp) (numbers w)
IsOrdered-numbers w =
    IsOrdered-within (λ (x y : ℕ). x < y) (Lower nat_cmp) (numbers w) (λ x y i j l. nat_cmp-less x y l)
    (IsOrdered-range 0 (2 ^ w))

-- the node of an operation
abbrev of_parts : ℕ → List ℕ → List Src → Node
of_parts op attrs args = record { op = op; attrs = attrs; args = args }

lower_args : (op : ℕ) (attrs : List ℕ) (a b : List Src) → Lower (slice_cmp source_cmp) a b
    → Lower node_cmp (of_parts op attrs a) (of_parts op attrs b)
lower_args op attrs a b l =
    sym (node_cmp-parts (of_parts op attrs a) (of_parts op attrs b) refl)
    ∙ then_equal (slice_cmp nat_cmp attrs attrs) (slice_cmp source_cmp a b) Less (slice_cmp-same attrs) l

lower_attrs : (op : ℕ) (a b : List ℕ) (s t : List Src) → Lower (slice_cmp nat_cmp) a b
    → Lower node_cmp (of_parts op a s) (of_parts op b t)
lower_attrs op a b s t l =
    sym (node_cmp-parts (of_parts op a s) (of_parts op b t) refl)
    ∙ then_less (slice_cmp nat_cmp a b) (slice_cmp source_cmp s t) l

pub IsOrdered-nodes_after : (f : File) (g : Goal) (nodes : List Node) (op : ℕ) (o : Option Operation)
    → length g.args ≤ 4 → HasFewResults f → IsOrdered (Lower node_cmp) (nodes_after f g nodes op o)
IsOrdered-nodes_after f g nodes op None four few = tt
IsOrdered-nodes_after f g nodes op (Some o) four few =
    IsOrdered-flat_map (Lower (slice_cmp nat_cmp)) (Lower node_cmp) (λ attrs. map (of_parts op attrs) lists)
    (λ attrs. IsOrdered-map (Lower (slice_cmp source_cmp)) (Lower node_cmp) (of_parts op attrs) (lower_args op attrs)
    lists ordered)
    (λ a b u v l i j. let r = In_of_map (of_parts op a) lists u i in
    let q = In_of_map (of_parts op b) lists v j in
    (λ k. node_cmp (sym r.2 k) (sym q.2 k)) ∙ lower_attrs op a b r.0 q.0 l)
    (choices (map numbers o.attrs))
    (IsOrdered-choices nat_cmp nat_cmp-same (map numbers o.attrs)
    (Each-map (IsOrdered (Lower nat_cmp)) numbers IsOrdered-numbers o.attrs))
  where
    lists : List (List Src)
    lists = choices (map (λ s. sources_of f g nodes (Some s)) o.args)

    ordered : IsOrdered (Lower (slice_cmp source_cmp)) lists
    ordered =
        IsOrdered-choices source_cmp source_cmp-same (map (λ s. sources_of f g nodes (Some s)) o.args)
        (Each-map (IsOrdered (Lower source_cmp)) (λ s. sources_of f g nodes (Some s))
        (λ s. IsOrdered-sources_of f g nodes (Some s) four few) o.args)

-- ---- which nodes of one operation there are

numbers-below : (w a : ℕ) → In (numbers w) a → a < 2 ^ w
numbers-below w a i = let within = In_of_range 0 (2 ^ w) a i in omega (arith, within.1)

below-numbers : (w a : ℕ) → a < 2 ^ w → In (numbers w) a
below-numbers w a l = In-range 0 (2 ^ w) a (omega arith) (omega (arith, l))

-- a node of this operation that fits next
abbrev pub IsNext : File → Goal → List Node → ℕ → Node → Type 0
IsNext f g nodes op n = (n.op ≡ op) × IsFitting f g nodes (length nodes) n

pub In_of_nodes_after : (f : File) (g : Goal) (nodes : List Node) (op : ℕ) (o : Option Operation) (n : Node)
    → slice_get f.ops op ≡ o → In (nodes_after f g nodes op o) n → IsNext f g nodes op n
In_of_nodes_after f g nodes op None n e i = absurd i
In_of_nodes_after f g nodes op (Some o) n e i =
    let lists : List (List Src) = choices (map (λ s. sources_of f g nodes (Some s)) o.args) in
    let first = In_of_flat_map (λ attrs. map (of_parts op attrs) lists) (choices (map numbers o.attrs)) n i in
    let rest = In_of_map (of_parts op first.0) lists n first.2 in
    let attrs : Pairwise (λ w a. a < 2 ^ w) o.attrs first.0 =
    Pairwise-within (λ w a. In (numbers w) a) (λ w a. a < 2 ^ w) numbers-below o.attrs first.0
    (In_of_choices numbers o.attrs first.0 first.1) in
    let args : map (source_sort f g nodes (length nodes)) rest.0 ≡ map (λ s. Some s) o.args =
    maps-from_pairs (λ (s : Sort). Some s) (source_sort f g nodes (length nodes)) o.args rest.0
    (Pairwise-within (λ s x. In (sources_of f g nodes (Some s)) x)
    (λ s x. source_sort f g nodes (length nodes) x ≡ Some s) (λ s x. In_of_sources_of f g nodes (Some s) x) o.args
    rest.0 (In_of_choices (λ s. sources_of f g nodes (Some s)) o.args rest.0 rest.1)) in
    let fit : IsFitting f g nodes (length nodes) (of_parts op first.0 rest.0) =
    record { operation = o; in_file = e; attrs = attrs; args = args } in
    let next : IsNext f g nodes op (of_parts op first.0 rest.0) = (refl, fit) in
    subst (IsNext f g nodes op) rest.2 next

pub In-nodes_after : (f : File) (g : Goal) (nodes : List Node) (n : Node) → IsFitting f g nodes (length nodes) n
    → In (nodes_after f g nodes n.op (slice_get f.ops n.op)) n
In-nodes_after f g nodes n fit =
    let o : Operation = fit.operation in
    let lists : List (List Src) = choices (map (λ s. sources_of f g nodes (Some s)) o.args) in
    let attrs : In (choices (map numbers o.attrs)) n.attrs =
    In-choices numbers o.attrs n.attrs
    (Pairwise-within (λ w a. a < 2 ^ w) (λ w a. In (numbers w) a) below-numbers o.attrs n.attrs fit.attrs) in
    let args : In lists n.args =
    In-choices (λ s. sources_of f g nodes (Some s)) o.args n.args
    (Pairwise-within (λ s x. source_sort f g nodes (length nodes) x ≡ Some s)
    (λ s x. In (sources_of f g nodes (Some s)) x) (λ s x. In-sources_of f g nodes s x) o.args n.args
    (pairs-from_maps (λ (s : Sort). Some s) (source_sort f g nodes (length nodes)) o.args n.args fit.args)) in
    subst (λ x. In (nodes_after f g nodes n.op x) n) (sym fit.in_file)
    (In-flat_map (λ attrs. map (of_parts n.op attrs) lists) (choices (map numbers o.attrs)) n.attrs n attrs
    (In-map (of_parts n.op n.attrs) lists n.args args))

-- ---- nodes that fit one after another

-- what may be named at a node does not depend on those that come after it
source_sort-front : (f : File) (g : Goal) (nodes more : List Node) (x : Src)
    → source_sort f g (nodes ++ more) (length nodes) x ≡ source_sort f g nodes (length nodes) x
source_sort-front f g nodes more (Input i) = refl
source_sort-front f g nodes more (Out node r) =
    cond-within (nat_lt node (length nodes)) (sort_in (slice_get (nodes ++ more) node)) (sort_in (slice_get nodes node))
    None
    (λ l. ap sort_in (slice_get-append_left nodes more node (ltb-true node (length nodes) l)))
  where
    sort_in : Option Node → Option Sort
    sort_in n = operation_sort f (option_and_then (λ (n : Node). slice_get f.ops n.op) n) r

IsFitting-front : (f : File) (g : Goal) (nodes more : List Node) (n : Node)
    → IsFitting f g nodes (length nodes) n → IsFitting f g (nodes ++ more) (length nodes) n
IsFitting-front f g nodes more n fit = record {
  operation = fit.operation;
  in_file = fit.in_file;
  attrs = fit.attrs;
  args = (λ i. map (λ x. source_sort-front f g nodes more x i) n.args) ∙ fit.args;
}

IsFitting-back : (f : File) (g : Goal) (nodes more : List Node) (n : Node)
    → IsFitting f g (nodes ++ more) (length nodes) n → IsFitting f g nodes (length nodes) n
IsFitting-back f g nodes more n fit = record {
  operation = fit.operation;
  in_file = fit.in_file;
  attrs = fit.attrs;
  args = (λ i. map (λ x. sym (source_sort-front f g nodes more x) i) n.args) ∙ fit.args;
}

-- each of the second list fits after those before it
abbrev pub Follow : File → Goal → List Node → List Node → Type 0
Follow f g nodes [] = Unit {0}
Follow f g nodes (n ∷ rest) = IsFitting f g nodes (length nodes) n × Follow f g (nodes ++ n ∷ []) rest

longer_by : (nodes : List Node) (n : Node) (k : ℕ) → length (nodes ++ n ∷ []) + k ≡ length nodes + suc k
longer_by nodes n k = let sum = length-append nodes (n ∷ []) in omega (arith, sum)

fitting_after : (f : File) (g : Goal) (nodes rest : List Node) → Follow f g nodes rest → (k : ℕ) (n : Node)
    → slice_get rest k ≡ Some n → IsFitting f g (nodes ++ rest) (length nodes + k) n
fitting_after f g nodes [] follow k n e = absurd (cc)
fitting_after f g nodes (m ∷ rest) follow zero n e =
    let here : length nodes ≡ length nodes + 0 = omega arith in
    subst (λ k. IsFitting f g (nodes ++ m ∷ rest) k n) here
    (subst (IsFitting f g (nodes ++ m ∷ rest) (length nodes)) (same_Some m n e)
    (IsFitting-front f g nodes (m ∷ rest) m follow.0))
fitting_after f g nodes (m ∷ rest) follow (suc k) n e =
    subst (λ j. IsFitting f g (nodes ++ m ∷ rest) j n) (longer_by nodes m k)
    (subst (λ ns. IsFitting f g ns (length (nodes ++ m ∷ []) + k) n) (sym (append-move nodes m rest))
    (fitting_after f g (nodes ++ m ∷ []) rest follow.1 k n e))

follow_if_fitting : (f : File) (g : Goal) (nodes rest : List Node)
    → ((k : ℕ) (n : Node) → slice_get rest k ≡ Some n → IsFitting f g (nodes ++ rest) (length nodes + k) n)
    → Follow f g nodes rest
follow_if_fitting f g nodes [] fits = tt
follow_if_fitting f g nodes (m ∷ rest) fits =
    let here : length nodes + 0 ≡ length nodes = omega arith in (
      IsFitting-back f g nodes (m ∷ rest) m
          (subst (λ k. IsFitting f g (nodes ++ m ∷ rest) k m) here (fits zero m refl)),
      follow_if_fitting f g (nodes ++ m ∷ []) rest (λ k n e.
          subst (λ j. IsFitting f g ((nodes ++ m ∷ []) ++ rest) j n) (sym (longer_by nodes m k))
          (subst (λ ns. IsFitting f g ns (length nodes + suc k) n) (append-move nodes m rest) (fits (suc k) n e))),
    )

pub AreFitting-from_follow : (f : File) (g : Goal) (nodes : List Node) → Follow f g [] nodes → AreFitting f g nodes
AreFitting-from_follow f g nodes follow k n e =
    let here : 0 + k ≡ k = omega arith in
    subst (λ j. IsFitting f g nodes j n) here (fitting_after f g [] nodes follow k n e)

pub follow-from_fitting : (f : File) (g : Goal) (nodes : List Node) → AreFitting f g nodes → Follow f g [] nodes
follow-from_fitting f g nodes fits =
    follow_if_fitting f g [] nodes (λ k n e. let here : k ≡ 0 + k = omega arith in
    subst (λ j. IsFitting f g nodes j n) here (fits k n e))
