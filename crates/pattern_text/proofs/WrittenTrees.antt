-- The text of trees from a place on, and what is known of the trees.
use Rattle.std.proofs.Common.{◌≡◌, ◌∙◌, ℕ, ◌+◌, ◌<◌, ◌≤◌, true, List, [], ◌∷◌, ◌++◌, length, map, Some, codes, refl}
use Rattle.std.proofs.Common.{sym, ap, subst, arith, max, append_assoc}
use Rattle.std.proofs.Math.Nat.{max-le, le-max_left, le-max_right}
use Rattle.std.specs.List.{list_all, flat_map}
use Rattle.list_lemmas.proofs.Lists.{Each, append-nothing}
use Rattle.sexp_read.specs.Tree.{Tree, Trees, Word, Branch, End, Then, tree_tokens, flatten, tree_depth, depth, list_of}
use Rattle.sexp_read.specs.Tree.{word_of, members_of, from_of}
use Rattle.pattern_core.specs.Pattern.{Pairwise}
use Rattle.pattern_text.specs.Text.{joined}
use Rattle.pattern_text.proofs.Spelling.{Ends, Spelled, is_word_byte, word-spelled, nothing-spelled, spelled-same}
use Rattle.pattern_text.proofs.Spelling.{after-space, after-line_feed, both-spelled, line-spelled, list_end}
use Rattle.pattern_text.proofs.Spelling.{in-parentheses}

-- a tree of at most so many lists within each other
pub record IsTreeOf (deep : ℕ) (Known : Tree → Type 0) (place : ℕ) (bytes : List ℕ) : Type 0 where
  pub tree : Tree
  pub spelled : Spelled place bytes (tree_tokens tree)
  pub shallow : tree_depth tree ≤ deep
  pub known : Known tree

pub record AreTreesOf (deep : ℕ) (Known : List Tree → Type 0) (place : ℕ) (bytes : List ℕ) : Type 0 where
  pub trees : Trees
  pub spelled : Spelled place bytes (flatten trees)
  pub shallow : depth trees ≤ deep
  pub known : Known (list_of trees)

-- ---- what is known

abbrev pub IsWordOf : List ℕ → Tree → Type 0
IsWordOf word tree = word_of tree ≡ Some word

-- a tree, and others after it
abbrev pub Headed : (Tree → Type 0) → (List Tree → Type 0) → List Tree → Type 0
Headed First Rest [] = ⊥
Headed First Rest (tree ∷ trees) = First tree × Rest trees

abbrev pub IsLast : List Tree → Type 0
IsLast trees = trees ≡ []

abbrev pub Parted : (List Tree → Type 0) → (List Tree → Type 0) → List Tree → Type 0
Parted Front Back trees =
    (front : List Tree) × (back : List Tree) × (trees ≡ front ++ back) × Front front × Back back

abbrev pub IsListOf : (List Tree → Type 0) → Tree → Type 0
IsListOf Known tree = (members : List Tree) × (members_of tree ≡ Some members) × Known members

pub tree-known : (deep : ℕ) (Known More : Tree → Type 0) (place : ℕ) (bytes : List ℕ)
    → ((tree : Tree) → Known tree → More tree) → IsTreeOf deep Known place bytes → IsTreeOf deep More place bytes
tree-known deep Known More place bytes more w =
    record { tree = w.tree; spelled = w.spelled; shallow = w.shallow; known = more w.tree w.known }

-- the same text
pub tree-same : (deep : ℕ) (Known : Tree → Type 0) (place : ℕ) (bs cs : List ℕ) → bs ≡ cs
    → IsTreeOf deep Known place bs → IsTreeOf deep Known place cs
tree-same deep Known place bs cs same w = subst (IsTreeOf deep Known place) same w

-- ---- one tree

pub word : (deep place : ℕ) (bytes : List ℕ) → 0 < length bytes → list_all is_word_byte bytes ≡ true
    → IsTreeOf deep (IsWordOf bytes) place bytes
word deep place bytes some letters = record {
  tree = Word place bytes;
  spelled = word-spelled place bytes some letters;
  shallow = omega arith;
  known = refl;
}

pub in-list : (deep : ℕ) (Known : List Tree → Type 0) (place : ℕ) (bytes : List ℕ)
    → AreTreesOf deep Known (place + 1) bytes
    → IsTreeOf (deep + 1) (IsListOf Known) place (codes "(" ++ bytes ++ codes ")")
in-list deep Known place bytes w =
    let few : depth w.trees ≤ deep = w.shallow in
    record {
      tree = Branch place (list_end place bytes) w.trees;
      spelled = in-parentheses place bytes (flatten w.trees) w.spelled;
      shallow = omega (arith, few);
      known = (list_of w.trees, refl, w.known);
    }

-- a list, which begins at its own place
abbrev pub IsListAt : ℕ → (List Tree → Type 0) → Tree → Type 0
IsListAt place Known tree = IsListOf Known tree × (from_of tree ≡ place)

pub list-at : (deep : ℕ) (Known : List Tree → Type 0) (place : ℕ) (bytes : List ℕ)
    → AreTreesOf deep Known (place + 1) bytes
    → IsTreeOf (deep + 1) (IsListAt place Known) place (codes "(" ++ bytes ++ codes ")")
list-at deep Known place bytes w =
    let few : depth w.trees ≤ deep = w.shallow in
    record {
      tree = Branch place (list_end place bytes) w.trees;
      spelled = in-parentheses place bytes (flatten w.trees) w.spelled;
      shallow = omega (arith, few);
      known = ((list_of w.trees, refl, w.known), refl);
    }

pub space-before : (deep : ℕ) (Known : Tree → Type 0) (place : ℕ) (bytes : List ℕ)
    → IsTreeOf deep Known (place + 1) bytes → IsTreeOf deep Known place (codes " " ++ bytes)
space-before deep Known place bytes w = record {
  tree = w.tree;
  spelled = after-space place bytes (tree_tokens w.tree) w.spelled;
  shallow = w.shallow;
  known = w.known;
}

pub in-line : (deep : ℕ) (Known : Tree → Type 0) (place : ℕ) (bytes : List ℕ) → IsTreeOf deep Known place bytes
    → IsTreeOf deep Known place (bytes ++ 10 ∷ [])
in-line deep Known place bytes w = record {
  tree = w.tree;
  spelled = line-spelled place bytes (tree_tokens w.tree) w.spelled;
  shallow = w.shallow;
  known = w.known;
}

-- ---- trees in a series

pub no-trees : (deep place : ℕ) (Known : List Tree → Type 0) → Known [] → AreTreesOf deep Known place []
no-trees deep place Known known =
    record { trees = End; spelled = nothing-spelled place; shallow = omega arith; known = known }

pub spaces-before : (deep : ℕ) (Known : List Tree → Type 0) (place : ℕ) (bytes : List ℕ)
    → AreTreesOf deep Known (place + 1) bytes → AreTreesOf deep Known place (codes " " ++ bytes)
spaces-before deep Known place bytes w = record {
  trees = w.trees;
  spelled = after-space place bytes (flatten w.trees) w.spelled;
  shallow = w.shallow;
  known = w.known;
}

pub line-before : (deep : ℕ) (Known : List Tree → Type 0) (place : ℕ) (bytes : List ℕ)
    → AreTreesOf deep Known (place + 1) bytes → AreTreesOf deep Known place (10 ∷ bytes)
line-before deep Known place bytes w = record {
  trees = w.trees;
  spelled = after-line_feed place bytes (flatten w.trees) w.spelled;
  shallow = w.shallow;
  known = w.known;
}

abbrev pub EndsWords : List ℕ → Type 0
EndsWords bytes = (rest : List ℕ) → Ends rest → Ends (bytes ++ rest)

pub one-tree : (deep : ℕ) (First : Tree → Type 0) (Rest : List Tree → Type 0) (place : ℕ) (bytes : List ℕ)
    → IsTreeOf deep First place bytes → Rest [] → AreTreesOf deep (Headed First Rest) place bytes
one-tree deep First Rest place bytes w rest = record {
  trees = Then w.tree End;
  spelled = spelled-same place bytes bytes (tree_tokens w.tree) (tree_tokens w.tree ++ []) refl
      (sym (append-nothing (tree_tokens w.tree))) w.spelled;
  shallow = max-le w.shallow (omega arith);
  known = (w.known, rest);
}

pub more-trees : (deep : ℕ) (First : Tree → Type 0) (Rest : List Tree → Type 0) (place : ℕ) (bs cs : List ℕ)
    → IsTreeOf deep First place bs → AreTreesOf deep Rest (place + length bs) cs → EndsWords cs
    → AreTreesOf deep (Headed First Rest) place (bs ++ cs)
more-trees deep First Rest place bs cs w v ends = record {
  trees = Then w.tree v.trees;
  spelled = both-spelled place bs cs (tree_tokens w.tree) (flatten v.trees) w.spelled v.spelled ends;
  shallow = max-le w.shallow v.shallow;
  known = (w.known, v.known);
}

-- a word, and what follows it after a space
pub word-and : (deep : ℕ) (First : Tree → Type 0) (Rest : List Tree → Type 0) (place : ℕ) (bs cs : List ℕ)
    → IsTreeOf deep First place bs → AreTreesOf deep Rest (place + length bs + 1) cs
    → AreTreesOf deep (Headed First Rest) place (bs ++ (codes " " ++ cs))
word-and deep First Rest place bs cs w v =
    more-trees deep First Rest place bs (codes " " ++ cs) w (spaces-before deep Rest (place + length bs) cs v)
    (λ rest e. refl)

-- ---- two series

abbrev add-trees : Trees → Trees → Trees
add-trees End vs = vs
add-trees (Then u us) vs = Then u (add-trees us vs)

flatten-add : (us vs : Trees) → flatten (add-trees us vs) ≡ flatten us ++ flatten vs
flatten-add End vs = refl
flatten-add (Then u us) vs =
    ap (λ ts. tree_tokens u ++ ts) (flatten-add us vs) ∙ sym (append_assoc (tree_tokens u) (flatten us) (flatten vs))

list-add : (us vs : Trees) → list_of (add-trees us vs) ≡ list_of us ++ list_of vs
list-add End vs = refl
list-add (Then u us) vs = ap (λ ts. u ∷ ts) (list-add us vs)

depth-add : (deep : ℕ) (us vs : Trees) → depth us ≤ deep → depth vs ≤ deep → depth (add-trees us vs) ≤ deep
depth-add deep End vs h k = k
depth-add deep (Then u us) vs h k =
    let first : tree_depth u ≤ deep = max-first (tree_depth u) (depth us) deep h in
    let rest : depth us ≤ deep = max-second (tree_depth u) (depth us) deep h in
    max-le first (depth-add deep us vs rest k)
  where
    max-first : (a b n : ℕ) → max a b ≤ n → a ≤ n
    max-first a b n h = omega (arith, h, le-max_left a b)

    max-second : (a b n : ℕ) → max a b ≤ n → b ≤ n
    max-second a b n h = omega (arith, h, le-max_right a b)

pub both-series : (deep : ℕ) (Front Back : List Tree → Type 0) (place : ℕ) (bs cs : List ℕ)
    → AreTreesOf deep Front place bs → AreTreesOf deep Back (place + length bs) cs → EndsWords cs
    → AreTreesOf deep (Parted Front Back) place (bs ++ cs)
both-series deep Front Back place bs cs w v ends = record {
  trees = add-trees w.trees v.trees;
  spelled = spelled-same place (bs ++ cs) (bs ++ cs) (flatten w.trees ++ flatten v.trees)
      (flatten (add-trees w.trees v.trees)) refl (sym (flatten-add w.trees v.trees))
      (both-spelled place bs cs (flatten w.trees) (flatten v.trees) w.spelled v.spelled ends);
  shallow = depth-add deep w.trees v.trees w.shallow v.shallow;
  known = (list_of w.trees, list_of v.trees, list-add w.trees v.trees, w.known, v.known);
}

-- ---- a tree for each of some elements

-- the text of an element, wherever it stands
abbrev pub IsTextOf : {A : Type 0} → ℕ → (A → Tree → Type 0) → (A → List ℕ) → A → Type 0
IsTextOf deep Known text x = (place : ℕ) → IsTreeOf deep (Known x) place (text x)

abbrev pub StartsApart : {A : Type 0} → (A → List ℕ) → Type 0
StartsApart {A = A} text = (x : A) (rest : List ℕ) → Ends (text x ++ rest)

pub series-ends : {A : Type 0} (text : A → List ℕ) → StartsApart text → (xs : List A) → EndsWords (flat_map text xs)
series-ends text apart [] rest e = e
series-ends text apart (x ∷ xs) rest e =
    subst Ends (sym (append_assoc (text x) (flat_map text xs) rest)) (apart x (flat_map text xs ++ rest))

pub series : {A : Type 0} (deep : ℕ) (Known : A → Tree → Type 0) (text : A → List ℕ) → StartsApart text → (xs : List A)
    → Each (IsTextOf deep Known text) xs → (place : ℕ) → AreTreesOf deep (Pairwise Known xs) place (flat_map text xs)
series deep Known text apart [] h place = no-trees deep place (Pairwise Known []) tt
series deep Known text apart (x ∷ xs) h place =
    let w = h.0 place in
    let v = series deep Known text apart xs h.1 (place + length (text x)) in
    record {
      trees = Then w.tree v.trees;
      spelled = both-spelled place (text x) (flat_map text xs) (tree_tokens w.tree) (flatten v.trees) w.spelled
          v.spelled (series-ends text apart xs);
      shallow = max-le w.shallow v.shallow;
      known = (w.known, v.known);
    }

-- with single spaces between
pub spaced-series : {A : Type 0} (deep : ℕ) (Known : A → Tree → Type 0) (text : A → List ℕ) (xs : List A)
    → Each (IsTextOf deep Known text) xs → (place : ℕ)
    → AreTreesOf deep (Pairwise Known xs) place (joined (map text xs))
spaced-series deep Known text [] h place = no-trees deep place (Pairwise Known []) tt
spaced-series deep Known text (x ∷ []) h place =
    let w = h.0 place in
    record {
      trees = Then w.tree End;
      spelled = spelled-same place (text x) (text x) (tree_tokens w.tree) (tree_tokens w.tree ++ []) refl
          (sym (append-nothing (tree_tokens w.tree))) w.spelled;
      shallow = max-le w.shallow (omega arith);
      known = (w.known, tt);
    }
spaced-series deep Known text (x ∷ y ∷ ys) h place =
    let w = h.0 place in
    let bytes : List ℕ = joined (map text (y ∷ ys)) in
    let v = spaced-series deep Known text (y ∷ ys) h.1 (place + length (text x) + 1) in
    record {
      trees = Then w.tree v.trees;
      spelled = both-spelled place (text x) (codes " " ++ bytes) (tree_tokens w.tree) (flatten v.trees) w.spelled
          (after-space (place + length (text x)) bytes (flatten v.trees) v.spelled) (λ rest e. refl);
      shallow = max-le w.shallow v.shallow;
      known = (w.known, v.known);
    }
