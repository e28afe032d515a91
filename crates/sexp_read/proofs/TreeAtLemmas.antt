-- The tree that an item of a reading stands for.
use Rattle.std.proofs.Common.{◌≡◌, ℕ, zero, suc, ◌+◌, ◌<◌, ◌≤◌, List, [], ◌∷◌, ◌++◌, length, slice_get}
use Rattle.std.proofs.Common.{map, Some, None, refl, sym, ap, subst, ◌∙◌, arith, append_assoc, ⊎_elim}
use Rattle.std.proofs.Common.{length-append}
use Rattle.std.specs.Prelude.{option_map, option_and_then}
use Rattle.std.proofs.lemmas.List.{append-nil, length_push}
use Rattle.std.proofs.lemmas.Bool.{cases_lt}
use Rattle.sexp_read.specs.declared.forest.Item.{Item}
use Rattle.sexp_read.specs.declared.forest.Body.TheVariants as body
use Rattle.sexp_read.specs.declared.forest.Forest.{Forest}
use Rattle.sexp_read.specs.Tree.{Tree, Word, Branch, Trees, End, Then, tree_size, size, from_of, to_of, word_of}
use Rattle.sexp_read.specs.Tree.{members_of, list_of}
use Rattle.sexp_read.specs.Forest.{atom, list, places, tree_items, items_of, IsForest, IsReading, Denotes, DenoteAll}
use Rattle.sexp_read.specs.Forest.{text_of, trees_by, item_tree, tree_within, tree_at, atom_at, children_at}
use Rattle.sexp_read.specs.Forest.{atom_in, text_at, children_in}
use Rattle.sexp_read.proofs.TreeLemmas.{length-tree_items, length-items_of}
use Rattle.sexp_read.proofs.ForestLemmas.{end_of, TreeIn, TreesIn, forest-in, denotes-tree, forest-denotes}
use Rattle.sexp_read.proofs.ForestLemmas.{denotes-within, same-item, atom_at-word}
use Rattle.sexp_read.proofs.ForestLemmas.{atom_at-branch, children_at-word, children_at-branch}
use Rattle.list_lemmas.proofs.Lists.{append-move}

-- ---- a tree that an item stands for is the one that is seen

mutual
  pub within-denotes : (bytes : List ℕ) (items : List Item) (number : ℕ) (tree : Tree) (deep : ℕ)
      → Denotes bytes items number tree → tree_size tree ≤ deep → tree_within deep bytes items number ≡ tree
  within-denotes bytes items number (Word first word) zero d h = absurd (omega arith)
  within-denotes bytes items number (Word first word) (suc deep) d h =
      ap (item_tree (tree_within deep bytes items) bytes) d.0 ∙ ap (Word first) d.1
  within-denotes bytes items number (Branch from to members) zero d h = absurd (omega arith)
  within-denotes bytes items number (Branch from to members) (suc deep) d h =
      ap (item_tree (tree_within deep bytes items) bytes) d.1
      ∙ ap (Branch from to) (all-within bytes items d.0 members deep d.2 (omega arith))

  pub all-within : (bytes : List ℕ) (items : List Item) (numbers : List ℕ) (trees : Trees) (deep : ℕ)
      → DenoteAll bytes items numbers trees → size trees ≤ deep
      → trees_by (tree_within deep bytes items) numbers ≡ trees
  all-within bytes items [] End deep d h = refl
  all-within bytes items [] (Then tree trees) deep d h = absurd d
  all-within bytes items (number ∷ numbers) End deep d h = absurd d
  all-within bytes items (number ∷ numbers) (Then tree trees) deep d h =
      ap (λ t. Then t (trees_by (tree_within deep bytes items) numbers))
      (within-denotes bytes items number tree deep d.0 (omega arith))
      ∙ ap (Then tree) (all-within bytes items numbers trees deep d.1 (omega arith))

-- ---- each item of a reading stands for a tree

-- an item stands for a tree of at most so many words and lists
pub record Found (bytes : List ℕ) (items : List Item) (number most : ℕ) : Type 0 where
  pub tree : Tree
  pub denoted : Denotes bytes items number tree
  pub small : tree_size tree ≤ most

found-more : (bytes : List ℕ) (items : List Item) (number few many : ℕ) → few ≤ many
    → Found bytes items number few → Found bytes items number many
found-more bytes items number few many h f =
    record { tree = f.tree; denoted = f.denoted; small = omega (arith, f.small) }

mutual
  found-tree : (bytes : List ℕ) (items before after : List Item) (number place : ℕ) (tree : Tree) (k : ℕ) →
      items ≡ before ++ (tree_items number tree ++ after) → length before ≡ number → TreeIn bytes place tree
      → number ≤ k → k < number + tree_size tree → Found bytes items k (tree_size tree)
  found-tree bytes items before after number place (Word first word) k e n h low high =
      subst (λ j. Found bytes items j 1) (omega arith)
      (record {
        tree = Word first word;
        denoted = denotes-tree bytes items before after number place (Word first word) e n h;
        small = omega arith;
      })
  found-tree bytes items before after number place (Branch from to members) k e n h low high =
      ⊎_elim (λ inner. found-more bytes items k (size members) (size members + 1) (omega arith)
      (let item : Item = list from to (places (number + 1) members) in
      found-trees bytes items (before ++ item ∷ []) after (number + 1) (from + 1) members k
      (e ∙ append-move before item (items_of (number + 1) members ++ after))
      (omega (arith, length_push before item)) h.3 (omega (arith, inner)) (omega arith)))
      (λ here. subst (λ j. Found bytes items j (size members + 1)) (omega (arith, here))
      (record {
        tree = Branch from to members;
        denoted = denotes-tree bytes items before after number place (Branch from to members) e n h;
        small = omega arith;
      }))
      (cases_lt number k)

  found-trees : (bytes : List ℕ) (items before after : List Item) (number place : ℕ) (trees : Trees) (k : ℕ) →
      items ≡ before ++ (items_of number trees ++ after) → length before ≡ number → TreesIn bytes place trees
      → number ≤ k → k < number + size trees → Found bytes items k (size trees)
  found-trees bytes items before after number place End k e n h low high = absurd (omega arith)
  found-trees bytes items before after number place (Then tree trees) k e n h low high =
      let others = items_of (number + tree_size tree) trees in
      let split : items ≡ before ++ (tree_items number tree ++ (others ++ after)) =
      e ∙ ap (λ is. before ++ is) (append_assoc (tree_items number tree) others after) in
      ⊎_elim (λ first. found-more bytes items k (tree_size tree) (tree_size tree + size trees) (omega arith)
      (found-tree bytes items before (others ++ after) number place tree k split n h.0 low first))
      (λ later. found-more bytes items k (size trees) (tree_size tree + size trees) (omega arith)
      (found-trees bytes items (before ++ tree_items number tree) after (number + tree_size tree) (end_of tree) trees k
      (split ∙ sym (append_assoc before (tree_items number tree) (others ++ after)))
      (omega (arith, length-append before (tree_items number tree), length-tree_items number tree)) h.1
      later (omega arith)))
      (cases_lt k (number + tree_size tree))

found-item : (bytes : List ℕ) (forest : Forest) → IsReading bytes forest → (k : ℕ) → k < length forest.items
    → Found bytes forest.items k (length forest.items)
found-item bytes forest r k h =
    let long : length forest.items ≡ size r.0 = ap length r.1.items ∙ length-items_of 0 r.0 in
    found-more bytes forest.items k (size r.0) (length forest.items) (omega (arith, long))
    (found-trees bytes forest.items [] [] 0 0 r.0 k (r.1.items ∙ sym (append-nil (items_of 0 r.0))) refl
    (forest-in bytes r.0 r.1.spelled) (omega arith) (omega (arith, long, h)))

-- an item of a reading stands for the tree that is seen
pub tree_at-denoted : (bytes : List ℕ) (forest : Forest) → IsReading bytes forest → (k : ℕ) → k < length forest.items
    → Denotes bytes forest.items k (tree_at bytes forest.items k)
unfolding tree_at
tree_at-denoted bytes forest r k h =
    let f = found-item bytes forest r k h in
    subst (Denotes bytes forest.items k)
    (sym (within-denotes bytes forest.items k f.tree (length forest.items) f.denoted f.small)) f.denoted

-- an item stands for one tree only
denotes-one : (bytes : List ℕ) (items : List Item) (k : ℕ) (t u : Tree) → Denotes bytes items k t
    → Denotes bytes items k u → t ≡ u
denotes-one bytes items k t u d e =
    sym (within-denotes bytes items k t (tree_size t + tree_size u) d (omega arith))
    ∙ within-denotes bytes items k u (tree_size t + tree_size u) e (omega arith)

pub tree_at-only : (bytes : List ℕ) (forest : Forest) → IsReading bytes forest → (k : ℕ) (t : Tree)
    → Denotes bytes forest.items k t → tree_at bytes forest.items k ≡ t
tree_at-only bytes forest r k t d =
    denotes-one bytes forest.items k (tree_at bytes forest.items k) t
    (tree_at-denoted bytes forest r k (denotes-within bytes forest.items k t d)) d

trees-only : (bytes : List ℕ) (forest : Forest) → IsReading bytes forest → (numbers : List ℕ) (ts : Trees)
    → DenoteAll bytes forest.items numbers ts → map (tree_at bytes forest.items) numbers ≡ list_of ts
trees-only bytes forest r [] End d = refl
trees-only bytes forest r [] (Then t ts) d = absurd d
trees-only bytes forest r (number ∷ numbers) End d = absurd d
trees-only bytes forest r (number ∷ numbers) (Then t ts) d =
    ap (λ u. u ∷ map (tree_at bytes forest.items) numbers) (tree_at-only bytes forest r number t d.0)
    ∙ ap (λ us. t ∷ us) (trees-only bytes forest r numbers ts d.1)

-- the outermost items stand for the trees of the text
pub outermost-trees : (bytes : List ℕ) (trees : Trees) (forest : Forest) → IsForest bytes trees forest
    → map (tree_at bytes forest.items) forest.outermost ≡ list_of trees
outermost-trees bytes trees forest h =
    trees-only bytes forest (trees, h) forest.outermost trees (forest-denotes bytes trees forest h)

-- ---- what the accessors give of it

word-of : (bytes : List ℕ) (items : List Item) (k : ℕ) (t : Tree) → Denotes bytes items k t
    → atom_at bytes items k ≡ word_of t
word-of bytes items k (Word first word) d = atom_at-word bytes items k first word d
word-of bytes items k (Branch from to members) d = atom_at-branch bytes items k from to members d

pub atom-word : (bytes : List ℕ) (forest : Forest) → IsReading bytes forest → (k : ℕ) → k < length forest.items
    → atom_at bytes forest.items k ≡ word_of (tree_at bytes forest.items k)
atom-word bytes forest r k h =
    word-of bytes forest.items k (tree_at bytes forest.items k) (tree_at-denoted bytes forest r k h)

members-of : (bytes : List ℕ) (forest : Forest) → IsReading bytes forest → (k : ℕ) (t : Tree)
    → Denotes bytes forest.items k t
    → option_map (map (tree_at bytes forest.items)) (children_at forest.items k) ≡ members_of t
members-of bytes forest r k (Word first word) d =
    ap (option_map (map (tree_at bytes forest.items))) (children_at-word bytes forest.items k first word d)
members-of bytes forest r k (Branch from to members) d =
    let found = children_at-branch bytes forest.items k from to members d in
    ap (option_map (map (tree_at bytes forest.items))) found.1
    ∙ ap Some (trees-only bytes forest r found.0 members found.2)

pub children-members : (bytes : List ℕ) (forest : Forest) → IsReading bytes forest → (k : ℕ)
    → k < length forest.items
    → option_map (map (tree_at bytes forest.items)) (children_at forest.items k)
    ≡ members_of (tree_at bytes forest.items k)
children-members bytes forest r k h =
    members-of bytes forest r k (tree_at bytes forest.items k) (tree_at-denoted bytes forest r k h)

span-of : (bytes : List ℕ) (items : List Item) (k : ℕ) (t : Tree) (item : Item) → Denotes bytes items k t
    → slice_get items k ≡ Some item → (item.from ≡ from_of t) × (item.to ≡ to_of t)
span-of bytes items k (Word first word) item d e =
    let same = same-item item (atom first (first + length word)) (sym e ∙ d.0) in (same.0, same.1)
span-of bytes items k (Branch from to members) item d e =
    let same = same-item item (list from to d.0) (sym e ∙ d.1) in (same.0, same.1)

pub item-span : (bytes : List ℕ) (forest : Forest) → IsReading bytes forest → (k : ℕ) → k < length forest.items
    → (item : Item) → slice_get forest.items k ≡ Some item
    → (item.from ≡ from_of (tree_at bytes forest.items k)) × (item.to ≡ to_of (tree_at bytes forest.items k))
item-span bytes forest r k h item e =
    span-of bytes forest.items k (tree_at bytes forest.items k) item (tree_at-denoted bytes forest r k h) e

-- ---- what stands in an item

pub children-none : (items : List Item) (k : ℕ) (item : Item) → slice_get items k ≡ Some item → item.body ≡ body.Atom
    → children_at items k ≡ None
children-none items k item e h =
    ap (option_and_then (λ (i : Item). children_in i.body)) e ∙ ap children_in h

pub children-some : (items : List Item) (k : ℕ) (item : Item) (children : List ℕ) → slice_get items k ≡ Some item
    → item.body ≡ body.List children → children_at items k ≡ Some children
children-some items k item children e h =
    ap (option_and_then (λ (i : Item). children_in i.body)) e ∙ ap children_in h

pub atom-none : (bytes : List ℕ) (items : List Item) (k : ℕ) (item : Item) (children : List ℕ)
    → slice_get items k ≡ Some item → item.body ≡ body.List children → atom_at bytes items k ≡ None
atom-none bytes items k item children e h =
    ap (option_and_then (λ (i : Item). atom_in i.body (text_of bytes i))) e
    ∙ ap (λ b. atom_in b (text_of bytes item)) h

pub atom-some : (bytes : List ℕ) (items : List Item) (k : ℕ) (item : Item) (text : List ℕ)
    → slice_get items k ≡ Some item → item.body ≡ body.Atom → text_at bytes items k ≡ Some text
    → atom_at bytes items k ≡ Some text
atom-some bytes items k item text e h t =
    ap (option_and_then (λ (i : Item). atom_in i.body (text_of bytes i))) e
    ∙ ap (λ b. atom_in b (text_of bytes item)) h ∙ (sym (ap (option_map (text_of bytes)) e) ∙ t)
