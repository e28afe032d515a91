-- Which forest a text is, and what an item of it stands for.
use Rattle.std.specs.Prelude.{◌≡◌, ℕ, zero, suc, ◌+◌, ◌≤◌, List, [], ◌∷◌, ◌++◌, length, Option, Some, None}
use Rattle.std.specs.Prelude.{slice_get, slice_range, option_map, option_and_then, IsTrue}
use Rattle.std.specs.List.{list_all}
use Rattle.sexp_read.specs.declared.forest.Forest.{Forest}
use Rattle.sexp_read.specs.declared.forest.Item.{Item}
use Rattle.sexp_read.specs.declared.forest.Body.{Body}
use Rattle.sexp_read.specs.declared.forest.Body.TheVariants as body
use Rattle.sexp_read.specs.Token.{is_text_byte, tokens}
use Rattle.sexp_read.specs.Tree.{Tree, Word, Branch, Trees, End, Then, flatten, depth, depth_limit, tree_size}

abbrev pub atom : ℕ → ℕ → Item
atom from to = record { from = from; to = to; body = body.Atom }

abbrev pub list : ℕ → ℕ → List ℕ → Item
list from to children = record { from = from; to = to; body = body.List children }

-- the numbers of trees whose items stand from a number on
abbrev pub places : ℕ → Trees → List ℕ
places number End = []
places number (Then tree trees) = number ∷ places (number + tree_size tree) trees

-- their items, each before those of its members
abbrev mutual
  pub tree_items : ℕ → Tree → List Item
  tree_items number (Word first bytes) = atom first (first + length bytes) ∷ []
  tree_items number (Branch from to members) =
      list from to (places (number + 1) members) ∷ items_of (number + 1) members

  pub items_of : ℕ → Trees → List Item
  items_of number End = []
  items_of number (Then tree trees) = tree_items number tree ++ items_of (number + tree_size tree) trees

-- the bytes are a text, namely these trees, and the forest holds them
pub record IsForest (bytes : List ℕ) (trees : Trees) (forest : Forest) : Type 0 where
  pub text : IsTrue (list_all is_text_byte bytes)
  pub spelled : tokens bytes ≡ flatten trees
  pub nested : depth trees ≤ depth_limit
  pub items : forest.items ≡ items_of 0 trees
  pub outermost : forest.outermost ≡ places 0 trees

abbrev pub IsReading : List ℕ → Forest → Type 0
IsReading bytes forest = (trees : Trees) × IsForest bytes trees forest

-- an item stands for a tree: it has the tree's span, an atom has the word's bytes there, and the
-- children of a list stand for the members in order
abbrev mutual
  pub Denotes : List ℕ → List Item → ℕ → Tree → Type 0
  Denotes bytes items number (Word first word) =
      (slice_get items number ≡ Some (atom first (first + length word)))
      × (slice_range bytes first (first + length word) ≡ word)
  Denotes bytes items number (Branch from to members) =
      (children : List ℕ) × (slice_get items number ≡ Some (list from to children))
      × DenoteAll bytes items children members

  pub DenoteAll : List ℕ → List Item → List ℕ → Trees → Type 0
  DenoteAll bytes items [] End = Unit {0}
  DenoteAll bytes items (number ∷ numbers) (Then tree trees) =
      Denotes bytes items number tree × DenoteAll bytes items numbers trees
  DenoteAll bytes items _ _ = ⊥

-- the bytes of an item's span, those of an atom alone, and the children of a list
abbrev pub text_of : List ℕ → Item → List ℕ
text_of bytes item = slice_range bytes item.from item.to

abbrev pub text_at : List ℕ → List Item → ℕ → Option (List ℕ)
text_at bytes items number = option_map (text_of bytes) (slice_get items number)

abbrev pub atom_in : Body → List ℕ → Option (List ℕ)
atom_in body.Atom text = Some text
atom_in (body.List children) text = None

abbrev pub atom_at : List ℕ → List Item → ℕ → Option (List ℕ)
atom_at bytes items number =
    option_and_then (λ (item : Item). atom_in item.body (text_of bytes item)) (slice_get items number)

abbrev pub children_in : Body → Option (List ℕ)
children_in body.Atom = None
children_in (body.List children) = Some children

abbrev pub children_at : List Item → ℕ → Option (List ℕ)
children_at items number = option_and_then (λ (item : Item). children_in item.body) (slice_get items number)

-- the bytes of a list's first member, where it is an atom
abbrev pub head_at : List ℕ → List Item → ℕ → Option (List ℕ)
head_at bytes items number =
    option_and_then (λ (children : List ℕ). option_and_then (atom_at bytes items) (slice_get children 0))
    (children_at items number)

-- the trees that items stand for
abbrev pub trees_by : (ℕ → Tree) → List ℕ → Trees
trees_by tree_by [] = End
trees_by tree_by (number ∷ numbers) = Then (tree_by number) (trees_by tree_by numbers)

-- the tree of an item, by those of its children; past the last item, where no child leads, some tree
abbrev pub body_tree : (ℕ → Tree) → List ℕ → Item → Body → Tree
body_tree tree_by bytes item body.Atom = Word item.from (text_of bytes item)
body_tree tree_by bytes item (body.List children) = Branch item.from item.to (trees_by tree_by children)

abbrev pub item_tree : (ℕ → Tree) → List ℕ → Option Item → Tree
item_tree tree_by bytes None = Word 0 []
item_tree tree_by bytes (Some item) = body_tree tree_by bytes item item.body

-- The tree that an item stands for, seen so many lists deep. In a reading no list is nested deeper than there are
-- items.
abbrev pub tree_within : ℕ → List ℕ → List Item → ℕ → Tree
tree_within zero bytes items number = Word 0 []
tree_within (suc depth) bytes items number = item_tree (tree_within depth bytes items) bytes (slice_get items number)

unfoldable pub tree_at : List ℕ → List Item → ℕ → Tree
tree_at bytes items number = tree_within (length items) bytes items number
