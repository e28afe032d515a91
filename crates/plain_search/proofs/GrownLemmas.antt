-- The lists of nodes that a multiset of operations gives: which they are, and that they rise.
use Rattle.std.proofs.Common.{◌≡◌, ℕ, zero, suc, ◌<◌, ◌≤◌, List, [], ◌∷◌, ◌++◌, length, refl, sym, ap, ◌∙◌, inl, inr}
use Rattle.std.proofs.Common.{arith, subst, slice_get}
use Rattle.std.specs.Cmp.Lexicographic.{slice_cmp}
use Rattle.std.specs.Ordering.{nat_cmp, ordering_then}
use Rattle.std.specs.List.{flat_map}
use Rattle.std.specs.declared.cmp.Ordering.TheVariants.{Less}
use Rattle.isel_spec.specs.File.{File, Goal}
use Rattle.list_lemmas.proofs.Lists.{append-move, append-nothing}
use Rattle.list_lemmas.proofs.Members.{In, In-flat_map, In_of_flat_map}
use Rattle.list_lemmas.proofs.Orders.{IsOrdered, IsOrdered-flat_map, nat_cmp-less}
use Rattle.pattern_core.specs.declared.pattern.Node.{Node}
use Rattle.pattern_core.specs.Order.{source_cmp, node_cmp, put, multiset}
use Rattle.plain_search.specs.Patterns.{nodes_after, different, without, node_lists}
use Rattle.plain_search.proofs.OrderingLemmas.{Lower, Lower-behind, then_less}
use Rattle.plain_search.proofs.TakenLemmas.{NeverFalls, NeverFalls-without, IsOrdered-different, In_of_different}
use Rattle.plain_search.proofs.TakenLemmas.{In-different, In-put, without-put, put-without, length-without, length-put}
use Rattle.plain_search.proofs.NamedLemmas.{HasFewResults}
use Rattle.plain_search.proofs.FollowLemmas.{Follow, IsNext, node_cmp-same, IsOrdered-nodes_after, In_of_nodes_after}
use Rattle.plain_search.proofs.FollowLemmas.{In-nodes_after}

-- ---- a list's operations, taken from a multiset one by one

-- the operations of these n nodes stand in the list, each as often as it is taken
abbrev pub Take : ℕ → List ℕ → List Node → Type 0
Take zero ops [] = Unit {0}
Take zero ops (n ∷ ns) = ⊥
Take (suc k) ops [] = ⊥
Take (suc k) ops (n ∷ ns) = In ops n.op × Take k (without n.op ops) ns

pub length-multiset : (ns : List Node) → length (multiset ns) ≡ length ns
length-multiset [] = refl
length-multiset (n ∷ ns) = length-put n.op (multiset ns) ∙ ap suc (length-multiset ns)

multiset-from_take : (k : ℕ) (ops : List ℕ) (ns : List Node) → NeverFalls ops → length ops ≡ k → Take k ops ns
    → multiset ns ≡ ops
multiset-from_take zero [] [] falls size take = refl
multiset-from_take zero (o ∷ ops) [] falls size take = absurd (omega (arith, size))
multiset-from_take zero ops (n ∷ ns) falls size take = absurd take
multiset-from_take (suc k) ops [] falls size take = absurd take
multiset-from_take (suc k) ops (n ∷ ns) falls size take =
    let left : suc (length (without n.op ops)) ≡ length ops = length-without n.op ops take.0 in
    ap (put n.op)
    (multiset-from_take k (without n.op ops) ns (NeverFalls-without n.op ops falls) (omega (arith, left, size)) take.1)
    ∙ put-without n.op ops falls take.0

take-from_multiset : (ns : List Node) → Take (length ns) (multiset ns) ns
take-from_multiset [] = tt
take-from_multiset (n ∷ ns) = (
  In-put n.op (multiset ns),
  subst (λ ops. Take (length ns) ops ns) (sym (without-put n.op (multiset ns))) (take-from_multiset ns),
)

-- ---- which lists there are

-- n nodes more, which fit and take these operations
record IsGrown (f : File) (g : Goal) (n : ℕ) (nodes : List Node) (ops : List ℕ) (all : List Node) : Type 0 where
  rest : List Node
  is : nodes ++ rest ≡ all
  follow : Follow f g nodes rest
  take : Take n ops rest

-- the lists that go on with a node of an operation
abbrev grown_by : File → Goal → ℕ → List Node → List ℕ → ℕ → Node → List (List Node)
grown_by f g n nodes ops op node = node_lists f g n (nodes ++ node ∷ []) (without op ops)

abbrev grown_of : File → Goal → ℕ → List Node → List ℕ → ℕ → List (List Node)
grown_of f g n nodes ops op = flat_map (grown_by f g n nodes ops op) (nodes_after f g nodes op (slice_get f.ops op))

In_of_node_lists : (f : File) (g : Goal) (n : ℕ) (nodes : List Node) (ops : List ℕ) (all : List Node)
    → In (node_lists f g n nodes ops) all → IsGrown f g n nodes ops all
unfolding node_lists
In_of_node_lists f g zero nodes ops all (inl e) =
    record { rest = []; is = append-nothing nodes ∙ e; follow = tt; take = tt }
In_of_node_lists f g zero nodes ops all (inr i) = absurd i
In_of_node_lists f g (suc n) nodes ops all i =
    let by_op = In_of_flat_map (grown_of f g n nodes ops) (different ops) all i in
    let op : ℕ = by_op.0 in
    let by_node =
    In_of_flat_map (grown_by f g n nodes ops op) (nodes_after f g nodes op (slice_get f.ops op)) all by_op.2 in
    let node : Node = by_node.0 in
    let next : IsNext f g nodes op node =
    In_of_nodes_after f g nodes op (slice_get f.ops op) node refl by_node.1 in
    let grown = In_of_node_lists f g n (nodes ++ node ∷ []) (without op ops) all by_node.2 in
    record {
      rest = node ∷ grown.rest;
      is = append-move nodes node grown.rest ∙ grown.is;
      follow = (next.1, grown.follow);
      take = (
        subst (In ops) (sym next.0) (In_of_different ops op by_op.1),
        subst (λ k. Take n (without k ops) grown.rest) (sym next.0) grown.take,
      );
    }

In-node_lists : (f : File) (g : Goal) (n : ℕ) (nodes : List Node) (ops : List ℕ) (rest : List Node)
    → Follow f g nodes rest → Take n ops rest → In (node_lists f g n nodes ops) (nodes ++ rest)
unfolding node_lists
In-node_lists f g zero nodes ops [] follow take = inl (sym (append-nothing nodes))
In-node_lists f g zero nodes ops (m ∷ rest) follow take = absurd take
In-node_lists f g (suc n) nodes ops [] follow take = absurd take
In-node_lists f g (suc n) nodes ops (m ∷ rest) follow take =
    let later : In (node_lists f g n (nodes ++ m ∷ []) (without m.op ops)) (nodes ++ m ∷ rest) =
    subst (In (node_lists f g n (nodes ++ m ∷ []) (without m.op ops))) (sym (append-move nodes m rest))
    (In-node_lists f g n (nodes ++ m ∷ []) (without m.op ops) rest follow.1 take.1) in
    In-flat_map (grown_of f g n nodes ops) (different ops) m.op (nodes ++ m ∷ rest) (In-different ops m.op take.0)
    (In-flat_map (grown_by f g n nodes ops m.op) (nodes_after f g nodes m.op (slice_get f.ops m.op)) m
    (nodes ++ m ∷ rest) (In-nodes_after f g nodes m follow.0) later)

-- nodes that fit, of a multiset
pub record IsOfMultiset (f : File) (g : Goal) (ops : List ℕ) (nodes : List Node) : Type 0 where
  pub follow : Follow f g [] nodes
  pub multiset : multiset nodes ≡ ops

pub of_multiset-from_in : (f : File) (g : Goal) (ops : List ℕ) (nodes : List Node) → NeverFalls ops
    → In (node_lists f g (length ops) [] ops) nodes → IsOfMultiset f g ops nodes
of_multiset-from_in f g ops nodes falls i =
    let grown = In_of_node_lists f g (length ops) [] ops nodes i in
    record {
      follow = subst (Follow f g []) grown.is grown.follow;
      multiset =
          multiset-from_take (length ops) ops nodes falls refl (subst (Take (length ops) ops) grown.is grown.take);
    }

pub in-from_of_multiset : (f : File) (g : Goal) (ops : List ℕ) (nodes : List Node) → IsOfMultiset f g ops nodes
    → In (node_lists f g (length ops) [] ops) nodes
in-from_of_multiset f g ops nodes of =
    let size : length nodes ≡ length (multiset nodes) = sym (length-multiset nodes) in
    let take : Take (length (multiset nodes)) (multiset nodes) nodes =
    subst (λ n. Take n (multiset nodes) nodes) size (take-from_multiset nodes) in
    subst (λ ops. In (node_lists f g (length ops) [] ops) nodes) of.multiset
    (In-node_lists f g (length (multiset nodes)) [] (multiset nodes) nodes of.follow take)

-- ---- their order

-- after the same nodes, a lesser one
lower_next : (nodes : List Node) (m n : Node) (rs ss all both : List Node) → node_cmp m n ≡ Less
    → (nodes ++ m ∷ []) ++ rs ≡ all → (nodes ++ n ∷ []) ++ ss ≡ both → Lower (slice_cmp node_cmp) all both
lower_next nodes m n rs ss all both l a b =
    (λ i. slice_cmp node_cmp (sym (append-move nodes m rs ∙ a) i) (sym (append-move nodes n ss ∙ b) i))
    ∙ Lower-behind node_cmp node_cmp-same nodes (m ∷ rs) (n ∷ ss)
    (then_less (node_cmp m n) (slice_cmp node_cmp rs ss) l)

-- nodes of two operations stand as these do
lower_by_op : (m n : Node) (a b : ℕ) → m.op ≡ a → n.op ≡ b → a < b → node_cmp m n ≡ Less
lower_by_op m n a b e h l =
    then_less (nat_cmp m.op n.op)
    (ordering_then (slice_cmp nat_cmp m.attrs n.attrs) (slice_cmp source_cmp m.args n.args))
    ((λ i. nat_cmp (e i) (h i)) ∙ nat_cmp-less a b l)

lower_of_ops : (f : File) (g : Goal) (n : ℕ) (nodes : List Node) (ops : List ℕ) (a b : ℕ) (u v : List Node) → a < b
    → In (grown_of f g n nodes ops a) u → In (grown_of f g n nodes ops b) v → Lower (slice_cmp node_cmp) u v
lower_of_ops f g n nodes ops a b u v l i j =
    let left = In_of_flat_map (grown_by f g n nodes ops a) (nodes_after f g nodes a (slice_get f.ops a)) u i in
    let right = In_of_flat_map (grown_by f g n nodes ops b) (nodes_after f g nodes b (slice_get f.ops b)) v j in
    let first = In_of_nodes_after f g nodes a (slice_get f.ops a) left.0 refl left.1 in
    let second = In_of_nodes_after f g nodes b (slice_get f.ops b) right.0 refl right.1 in
    let less = In_of_node_lists f g n (nodes ++ left.0 ∷ []) (without a ops) u left.2 in
    let more = In_of_node_lists f g n (nodes ++ right.0 ∷ []) (without b ops) v right.2 in
    lower_next nodes left.0 right.0 less.rest more.rest u v (lower_by_op left.0 right.0 a b first.0 second.0 l) less.is
    more.is

lower_of_nodes : (f : File) (g : Goal) (n : ℕ) (nodes : List Node) (ops : List ℕ) (op : ℕ) (a b : Node)
    (u v : List Node) → Lower node_cmp a b
    → In (grown_by f g n nodes ops op a) u → In (grown_by f g n nodes ops op b) v → Lower (slice_cmp node_cmp) u v
lower_of_nodes f g n nodes ops op a b u v l i j =
    let less = In_of_node_lists f g n (nodes ++ a ∷ []) (without op ops) u i in
    let more = In_of_node_lists f g n (nodes ++ b ∷ []) (without op ops) v j in
    lower_next nodes a b less.rest more.rest u v l less.is more.is

pub IsOrdered-node_lists : (f : File) (g : Goal) (n : ℕ) (nodes : List Node) (ops : List ℕ) → length g.args ≤ 4
    → HasFewResults f → NeverFalls ops → IsOrdered (Lower (slice_cmp node_cmp)) (node_lists f g n nodes ops)
unfolding node_lists
IsOrdered-node_lists f g zero nodes ops four few falls = (λ y i. absurd i, tt)
IsOrdered-node_lists f g (suc n) nodes ops four few falls =
    IsOrdered-flat_map (λ (x y : ℕ). x < y) (Lower (slice_cmp node_cmp)) (grown_of f g n nodes ops)
    (λ op. IsOrdered-flat_map (Lower node_cmp) (Lower (slice_cmp node_cmp)) (grown_by f g n nodes ops op)
    (λ node. IsOrdered-node_lists f g n (nodes ++ node ∷ []) (without op ops) four few
    (NeverFalls-without op ops falls))
    (lower_of_nodes f g n nodes ops op) (nodes_after f g nodes op (slice_get f.ops op))
    (IsOrdered-nodes_after f g nodes op (slice_get f.ops op) four few))
    (lower_of_ops f g n nodes ops) (different ops) (IsOrdered-different ops falls)
