-- Trees of words and lists, and the tokens that spell them.
use Rattle.std.specs.Prelude.{ℕ, ◌+◌, max, List, [], ◌∷◌, ◌++◌, length, Option, Some, None}
use Rattle.sexp_read.specs.Token.{Token, Open, Close, Atom}

-- A word, with the place of its first byte and its bytes; or a list, with the place of its `(`, the
-- place after its `)`, and its members.
mutual
  pub data Tree : Type 0 where
    Word : ℕ → List ℕ → Tree
    Branch : ℕ → ℕ → Trees → Tree

  pub data Trees : Type 0 where
    End : Trees
    Then : Tree → Trees → Trees

-- the tokens, from left to right
abbrev mutual
  pub tree_tokens : Tree → List Token
  tree_tokens (Word first bytes) = Atom first bytes ∷ []
  tree_tokens (Branch from to members) = Open from ∷ (flatten members ++ Close to ∷ [])

  pub flatten : Trees → List Token
  flatten End = []
  flatten (Then tree trees) = tree_tokens tree ++ flatten trees

-- how many lists are open at once
abbrev mutual
  pub tree_depth : Tree → ℕ
  tree_depth (Word first bytes) = 0
  tree_depth (Branch from to members) = depth members + 1

  pub depth : Trees → ℕ
  depth End = 0
  depth (Then tree trees) = max (tree_depth tree) (depth trees)

-- how many words and lists there are, nested ones too
abbrev mutual
  pub tree_size : Tree → ℕ
  tree_size (Word first bytes) = 1
  tree_size (Branch from to members) = size members + 1

  pub size : Trees → ℕ
  size End = 0
  size (Then tree trees) = tree_size tree + size trees

-- how deep the lists of a text may be nested
abbrev pub depth_limit : ℕ
depth_limit = 256

-- a tree's span: the place of its first byte, and the place after its last
abbrev pub from_of : Tree → ℕ
from_of (Word first bytes) = first
from_of (Branch from to members) = from

abbrev pub to_of : Tree → ℕ
to_of (Word first bytes) = first + length bytes
to_of (Branch from to members) = to

-- the bytes of a word, and the members of a list
abbrev pub list_of : Trees → List Tree
list_of End = []
list_of (Then tree trees) = tree ∷ list_of trees

abbrev pub word_of : Tree → Option (List ℕ)
word_of (Word first bytes) = Some bytes
word_of (Branch from to members) = None

abbrev pub members_of : Tree → Option (List Tree)
members_of (Word first bytes) = None
members_of (Branch from to members) = Some (list_of members)
