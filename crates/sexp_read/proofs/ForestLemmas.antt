-- What the items of a forest stand for, and where they stand.
use Rattle.std.proofs.Common.{◌≡◌, ℕ, zero, suc, ◌+◌, ◌-◌, ◌<◌, ◌≤◌, List, [], ◌∷◌, ◌++◌, length, slice_get}
use Rattle.std.proofs.Common.{slice_index_or, slice_range, Some, None, refl, sym, ap, subst, ◌∙◌, arith, append_assoc}
use Rattle.std.proofs.Common.{length-append}
use Rattle.std.specs.Prelude.{option_and_then}
use Rattle.std.specs.List.{AllByRecursion}
use Rattle.std.proofs.lemmas.Option.{slice_get_within, slice_get_read}
use Rattle.std.proofs.lemmas.List.{append-nil, length_push}
use Rattle.sexp_read.specs.declared.forest.Item.{Item}
use Rattle.sexp_read.specs.declared.forest.Body.{Body}
use Rattle.sexp_read.specs.declared.forest.Body.TheVariants as body
use Rattle.sexp_read.specs.declared.forest.Forest.{Forest}
use Rattle.sexp_read.specs.Token.{Token, Close, tokens}
use Rattle.sexp_read.specs.Tree.{Tree, Word, Branch, Trees, End, Then, tree_tokens, flatten, tree_size, size}
use Rattle.sexp_read.specs.Forest.{atom, list, places, tree_items, items_of, IsForest, IsReading, Denotes, DenoteAll}
use Rattle.sexp_read.specs.Forest.{text_of, atom_in, atom_at, children_in, children_at}
use Rattle.sexp_read.proofs.SpanLemmas.{Spans, tokens-span}
use Rattle.sexp_read.proofs.TreeLemmas.{length-tree_items, length-items_of, tree_size-pos}
use Rattle.list_lemmas.proofs.Lists.{append-move}
use Rattle.list_lemmas.proofs.Lookups.{all-append, all-at, slice_get-middle}

abbrev pub end_of : Tree → ℕ
end_of (Word first word) = first + length word
end_of (Branch from to members) = to

-- the trees stand in the bytes, one after the other, from a place on
abbrev mutual
  pub TreeIn : List ℕ → ℕ → Tree → Type 0
  TreeIn bytes place (Word first word) =
      (place ≤ first) × (first + length word ≤ length bytes) × (slice_range bytes first (first + length word) ≡ word)
  TreeIn bytes place (Branch from to members) =
      (place ≤ from) × (from < to) × (to ≤ length bytes) × TreesIn bytes (from + 1) members

  pub TreesIn : List ℕ → ℕ → Trees → Type 0
  TreesIn bytes place End = Unit {0}
  TreesIn bytes place (Then tree trees) = TreeIn bytes place tree × TreesIn bytes (end_of tree) trees

abbrev end_after : ℕ → Trees → ℕ
end_after place End = place
end_after place (Then tree trees) = end_after (end_of tree) trees

end-later : (bytes : List ℕ) (place : ℕ) (tree : Tree) → TreeIn bytes place tree → place ≤ end_of tree
end-later bytes place (Word first word) h = omega arith
end-later bytes place (Branch from to members) h = omega arith

ends-later : (bytes : List ℕ) (place : ℕ) (trees : Trees) → TreesIn bytes place trees → place ≤ end_after place trees
ends-later bytes place End h = omega arith
ends-later bytes place (Then tree trees) h =
    omega (arith, end-later bytes place tree h.0, ends-later bytes (end_of tree) trees h.1)

mutual
  tree-in : (bytes : List ℕ) (place : ℕ) (tree : Tree) (rest : List Token)
      → Spans bytes place (tree_tokens tree ++ rest) →
      TreeIn bytes place tree × Spans bytes (end_of tree) rest
  tree-in bytes place (Word first word) rest h = ((h.0, h.1, h.2), h.3)
  tree-in bytes place (Branch from to members) rest h =
      let inner = trees-in bytes (from + 1) members (Close to ∷ rest)
      (subst (Spans bytes (from + 1)) (append_assoc (flatten members) (Close to ∷ []) rest) h.2) in
      let later = ends-later bytes (from + 1) members inner.0 in
      ((h.0, omega arith, omega (arith, slice_get_within bytes (to - 1) 41 inner.1.1), inner.0), inner.1.2)

  trees-in : (bytes : List ℕ) (place : ℕ) (trees : Trees) (rest : List Token)
      → Spans bytes place (flatten trees ++ rest) →
      TreesIn bytes place trees × Spans bytes (end_after place trees) rest
  trees-in bytes place End rest h = (tt, h)
  trees-in bytes place (Then tree trees) rest h =
      let first = tree-in bytes place tree (flatten trees ++ rest)
      (subst (Spans bytes place) (append_assoc (tree_tokens tree) (flatten trees) rest) h) in
      let others = trees-in bytes (end_of tree) trees rest first.1 in
      ((first.0, others.0), others.1)

pub forest-in : (bytes : List ℕ) (trees : Trees) → tokens bytes ≡ flatten trees → TreesIn bytes 0 trees
forest-in bytes trees e =
    (trees-in bytes 0 trees [] (subst (Spans bytes 0) (e ∙ sym (append-nil (flatten trees))) (tokens-span bytes))).0

-- an item that stands among others stands for its tree
mutual
  pub denotes-tree : (bytes : List ℕ) (items before after : List Item) (number place : ℕ) (tree : Tree) →
      items ≡ before ++ (tree_items number tree ++ after) → length before ≡ number → TreeIn bytes place tree
      → Denotes bytes items number tree
  denotes-tree bytes items before after number place (Word first word) e n h = (
    ap (λ is. slice_get is number) e ∙ slice_get-middle before (atom first (first + length word)) after number n,
    h.2,
  )
  denotes-tree bytes items before after number place (Branch from to members) e n h =
      let item : Item = list from to (places (number + 1) members) in (
        places (number + 1) members,
        ap (λ is. slice_get is number) e
            ∙ slice_get-middle before item (items_of (number + 1) members ++ after) number n,
        denotes-trees bytes items (before ++ item ∷ []) after (number + 1) (from + 1) members
            (e ∙ append-move before item (items_of (number + 1) members ++ after))
            (omega (arith, length_push before item)) h.3,
      )

  denotes-trees : (bytes : List ℕ) (items before after : List Item) (number place : ℕ) (trees : Trees) →
      items ≡ before ++ (items_of number trees ++ after) → length before ≡ number → TreesIn bytes place trees
      → DenoteAll bytes items (places number trees) trees
  denotes-trees bytes items before after number place End e n h = tt
  denotes-trees bytes items before after number place (Then tree trees) e n h =
      let others = items_of (number + tree_size tree) trees in
      let split : items ≡ before ++ (tree_items number tree ++ (others ++ after)) =
      e ∙ ap (λ is. before ++ is) (append_assoc (tree_items number tree) others after) in (
        denotes-tree bytes items before (others ++ after) number place tree split n h.0,
        denotes-trees bytes items (before ++ tree_items number tree) after (number + tree_size tree) (end_of tree) trees
            (split ∙ sym (append_assoc before (tree_items number tree) (others ++ after)))
            (omega (arith, length-append before (tree_items number tree), length-tree_items number tree)) h.1,
      )

-- the outermost items of a forest stand for its trees
pub forest-denotes : (bytes : List ℕ) (trees : Trees) (forest : Forest) → IsForest bytes trees forest →
    DenoteAll bytes forest.items forest.outermost trees
forest-denotes bytes trees forest h =
    subst (λ numbers. DenoteAll bytes forest.items numbers trees) (sym h.outermost)
    (denotes-trees bytes forest.items [] [] 0 0 trees (h.items ∙ sym (append-nil (items_of 0 trees))) refl
    (forest-in bytes trees h.spelled))

pub same-item : (x y : Item) → Some x ≡ Some y → (x.from ≡ y.from) × (x.to ≡ y.to) × (x.body ≡ y.body)
same-item x y e =
    let same : x ≡ y = cc in
    (ap (λ (i : Item). i.from) same, ap (λ (i : Item). i.to) same, ap (λ (i : Item). i.body) same)

-- an item stands for one tree
mutual
  pub denotes-one : (bytes : List ℕ) (items : List Item) (number : ℕ) (a b : Tree) → Denotes bytes items number a
      → Denotes bytes items number b → a ≡ b
  denotes-one bytes items number (Word first word) (Word first' word') x y =
      let same = same-item _ _ (sym x.0 ∙ y.0) in
      let here : first ≡ first' = same.0 in
      let there : first + length word ≡ first' + length word' = same.1 in
      let words : word ≡ word' = cc (x.1, y.1, here, there) in
      cc
  denotes-one bytes items number (Word first word) (Branch from to members) x y =
      let same = same-item _ _ (sym x.0 ∙ y.1) in
      let body : body.Atom ≡ body.List y.0 = same.2 in cc
  denotes-one bytes items number (Branch from to members) (Word first word) x y =
      let same = same-item _ _ (sym x.1 ∙ y.0) in
      let body : body.List x.0 ≡ body.Atom = same.2 in cc
  denotes-one bytes items number (Branch from to members) (Branch from' to' members') x y =
      let same = same-item _ _ (sym x.1 ∙ y.1) in
      let here : from ≡ from' = same.0 in
      let there : to ≡ to' = same.1 in
      let body : body.List x.0 ≡ body.List y.0 = same.2 in
      let children : x.0 ≡ y.0 = cc in
      let inner : members ≡ members' =
      denote-all-one bytes items x.0 members members' x.2
      (subst (λ numbers. DenoteAll bytes items numbers members') (sym children) y.2) in
      cc

  pub denote-all-one : (bytes : List ℕ) (items : List Item) (numbers : List ℕ) (a b : Trees)
      → DenoteAll bytes items numbers a → DenoteAll bytes items numbers b → a ≡ b
  denote-all-one bytes items [] End End x y = refl
  denote-all-one bytes items [] End (Then b bs) x y = absurd y
  denote-all-one bytes items [] (Then a as') b x y = absurd x
  denote-all-one bytes items (number ∷ numbers) End b x y = absurd x
  denote-all-one bytes items (number ∷ numbers) (Then a as') End x y = absurd y
  denote-all-one bytes items (number ∷ numbers) (Then a as') (Then b bs) x y =
      let first = denotes-one bytes items number a b x.0 y.0 in
      let others = denote-all-one bytes items numbers as' bs x.1 y.1 in
      cc

-- an item stands within the bytes
abbrev pub HasSpanWithin : List ℕ → Item → Type 0
HasSpanWithin bytes item = (item.from ≤ item.to) × (item.to ≤ length bytes)

mutual
  tree-within : (bytes : List ℕ) (number place : ℕ) (tree : Tree) → TreeIn bytes place tree
      → AllByRecursion (HasSpanWithin bytes) (tree_items number tree)
  tree-within bytes number place (Word first word) h = ((omega arith, h.1), tt)
  tree-within bytes number place (Branch from to members) h =
      ((omega arith, h.2), trees-within bytes (number + 1) (from + 1) members h.3)

  trees-within : (bytes : List ℕ) (number place : ℕ) (trees : Trees) → TreesIn bytes place trees
      → AllByRecursion (HasSpanWithin bytes) (items_of number trees)
  trees-within bytes number place End h = tt
  trees-within bytes number place (Then tree trees) h =
      all-append (HasSpanWithin bytes) (tree_items number tree) _ (tree-within bytes number place tree h.0)
      (trees-within bytes (number + tree_size tree) (end_of tree) trees h.1)

pub item-within : (bytes : List ℕ) (forest : Forest) → IsReading bytes forest → (k : ℕ) (item : Item)
    → slice_get forest.items k ≡ Some item → HasSpanWithin bytes item
item-within bytes forest reading k item e =
    all-at (HasSpanWithin bytes) forest.items k item
    (subst (AllByRecursion (HasSpanWithin bytes)) (sym reading.1.items)
    (trees-within bytes 0 0 reading.0 (forest-in bytes reading.0 reading.1.spelled))) e

-- the children of an item come after it, and before a bound
abbrev pub IsBetween : ℕ → ℕ → ℕ → Type 0
IsBetween number bound child = (number < child) × (child < bound)

abbrev LaterBody : ℕ → ℕ → Body → Type 0
LaterBody bound number body.Atom = Unit {0}
LaterBody bound number (body.List children) = AllByRecursion (IsBetween number bound) children

abbrev Later : ℕ → ℕ → List Item → Type 0
Later bound number [] = Unit {0}
Later bound number (item ∷ items) = LaterBody bound number item.body × Later bound (number + 1) items

later-append : (bound number : ℕ) (xs ys : List Item) → Later bound number xs → Later bound (number + length xs) ys
    → Later bound number (xs ++ ys)
later-append bound number [] ys first second = subst (λ n. Later bound n ys) (omega arith) second
later-append bound number (x ∷ xs) ys first second =
    (first.0, later-append bound (number + 1) xs ys first.1 (subst (λ n. Later bound n ys) (omega arith) second))

places-between : (bound number place : ℕ) (trees : Trees) → number < place → place + size trees ≤ bound
    → AllByRecursion (IsBetween number bound) (places place trees)
places-between bound number place End low high = tt
places-between bound number place (Then tree trees) low high =
    let some : 0 < tree_size tree = tree_size-pos tree in
    ((low, omega arith), places-between bound number (place + tree_size tree) trees (omega arith) (omega arith))

mutual
  tree-later : (bound number : ℕ) (tree : Tree) → number + tree_size tree ≤ bound
      → Later bound number (tree_items number tree)
  tree-later bound number (Word first word) h = (tt, tt)
  tree-later bound number (Branch from to members) h = (
    places-between bound number (number + 1) members (omega arith) (omega arith),
    trees-later bound (number + 1) members (omega arith),
  )

  trees-later : (bound number : ℕ) (trees : Trees) → number + size trees ≤ bound
      → Later bound number (items_of number trees)
  trees-later bound number End h = tt
  trees-later bound number (Then tree trees) h =
      later-append bound number (tree_items number tree) _ (tree-later bound number tree (omega arith))
      (subst (λ n. Later bound n (items_of (number + tree_size tree) trees))
      (ap (λ n. number + n) (sym (length-tree_items number tree)))
      (trees-later bound (number + tree_size tree) trees (omega arith)))

later-at : (bound number : ℕ) (items : List Item) (k : ℕ) (item : Item) → Later bound number items
    → slice_get items k ≡ Some item → LaterBody bound (number + k) item.body
later-at bound number [] k item h e = absurd (cc)
later-at bound number (x ∷ items) zero item h e =
    let same : x ≡ item = cc in
    subst (λ n. LaterBody bound n item.body) (omega arith)
    (subst (λ (i : Item). LaterBody bound number i.body) same h.0)
later-at bound number (x ∷ items) (suc k) item h e =
    subst (λ n. LaterBody bound n item.body) (omega arith) (later-at bound (number + 1) items k item h.1 e)

pub children-later : (bytes : List ℕ) (forest : Forest) → IsReading bytes forest
    → (k : ℕ) (item : Item) (children : List ℕ) →
    slice_get forest.items k ≡ Some item → item.body ≡ body.List children
    → AllByRecursion (IsBetween k (length forest.items)) children
children-later bytes forest reading k item children e is-list =
    let all : Later (length forest.items) 0 forest.items = subst (Later (length forest.items) 0) (sym reading.1.items)
    (trees-later (length forest.items) 0 reading.0
    (omega (arith, ap length reading.1.items, length-items_of 0 reading.0))) in
    subst (λ n. AllByRecursion (IsBetween n (length forest.items)) children) (omega arith)
    (subst (LaterBody (length forest.items) (0 + k)) is-list
    (later-at (length forest.items) 0 forest.items k item all e))

-- an item that was read at its number
pub item-at : (items : List Item) (k : ℕ) (item : Item) → item ≡ slice_index_or items k item → k < length items
    → slice_get items k ≡ Some item
item-at items k item e within = slice_get_read items (length items) k item refl within e

-- what the accessors give at an item that stands for a tree
denotes-item : (bytes : List ℕ) (items : List Item) (number : ℕ) (tree : Tree) → Denotes bytes items number tree →
    (item : Item) × (slice_get items number ≡ Some item) × (item.to ≡ end_of tree)
denotes-item bytes items number (Word first word) h = (_, h.0, refl)
denotes-item bytes items number (Branch from to members) h = (_, h.1, refl)

pub denotes-within : (bytes : List ℕ) (items : List Item) (number : ℕ) (tree : Tree) → Denotes bytes items number tree
    → number < length items
denotes-within bytes items number tree h =
    let found = denotes-item bytes items number tree h in slice_get_within items number found.0 found.1

pub atom_at-word : (bytes : List ℕ) (items : List Item) (number first : ℕ) (word : List ℕ)
    → Denotes bytes items number (Word first word) →
    atom_at bytes items number ≡ Some word
atom_at-word bytes items number first word h =
    ap (option_and_then (λ (item : Item). atom_in item.body (text_of bytes item))) h.0 ∙ ap Some h.1

pub atom_at-branch : (bytes : List ℕ) (items : List Item) (number from to : ℕ) (members : Trees)
    → Denotes bytes items number (Branch from to members) →
    atom_at bytes items number ≡ None
atom_at-branch bytes items number from to members h =
    ap (option_and_then (λ (item : Item). atom_in item.body (text_of bytes item))) h.1

pub children_at-word : (bytes : List ℕ) (items : List Item) (number first : ℕ) (word : List ℕ)
    → Denotes bytes items number (Word first word) →
    children_at items number ≡ None
children_at-word bytes items number first word h = ap (option_and_then (λ (item : Item). children_in item.body)) h.0

pub children_at-branch : (bytes : List ℕ) (items : List Item) (number from to : ℕ) (members : Trees)
    → Denotes bytes items number (Branch from to members) →
    (children : List ℕ) × (children_at items number ≡ Some children) × DenoteAll bytes items children members
children_at-branch bytes items number from to members h =
    (h.0, ap (option_and_then (λ (item : Item). children_in item.body)) h.1, h.2)
