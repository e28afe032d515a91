-- Which bytes are which file: the grammar, the names, the sorts, the rules on memory and the limits, without an order
-- in which they are looked at. The file format is this project's own; terms are those of SMT-LIB 2.6.
use Rattle.std.specs.Prelude.{◌≡◌, ℕ, ◌≤◌, List, [], ◌∷◌, length, map, Some, IsTrue, All}
use Rattle.std.specs.List.{list_all}
use Rattle.bv_terms.specs.Term.{Term}
use Rattle.sexp_read.specs.Token.{is_text_byte, tokens}
use Rattle.sexp_read.specs.Tree.{Tree, Trees, flatten, depth, depth_limit, list_of}
use Rattle.term_text.specs.Reading.{Scope}
use Rattle.term_text.specs.Grammar.{IsTermOf}
use Rattle.isel_spec.specs.File.{File, differ}
use Rattle.isel_spec.specs.Memory.{subterm_count, has_memory_shape, has_plain_pointers, accessed_bytes}
use Rattle.spec_reader.specs.Form.{Param, Parts, name_of, parts_in, head_in}
use Rattle.spec_reader.specs.Walk.{defined, scope_from, params_of, sorts_of, with_definition}

-- the trees are the terms, in order
abbrev pub AreTerms : ℕ → Scope → List Tree → List Term → Type 0
AreTerms p scope [] [] = Unit {0}
AreTerms p scope [] (t ∷ ts) = ⊥
AreTerms p scope (tree ∷ trees) [] = ⊥
AreTerms p scope (tree ∷ trees) (t ∷ ts) = IsTermOf p scope tree t × AreTerms p scope trees ts

-- names of at most 64 bytes, of which no two are equal
pub record AreNames (names : List (List ℕ)) : Type 0 where
  pub short : All (λ name. length name ≤ 64) names
  pub differing : IsTrue (differ names)

-- an item defines this, with these terms as results, where a pointer has p bits
pub record Defines (p : ℕ) (tree : Tree) (parts : Parts) (ts : List Term) : Type 0 where
  pub form : parts_in tree ≡ Some parts
  pub few_args : length parts.args ≤ 4
  pub few_attrs : length parts.attrs ≤ 2
  pub few_results : length parts.results ≤ 3
  pub cheap : parts.cost ≤ 65535
  pub names : AreNames (map (λ (q : Param). name_of q.name) (params_of parts))
  pub terms : AreTerms p (scope_from 0 (params_of parts)) parts.results ts
  pub few_subterms : subterm_count ts ≤ 256
  pub memory : IsTrue (has_memory_shape (sorts_of parts.args) ts)
  pub pointers : IsTrue parts.is_goal → IsTrue (has_plain_pointers ts)
  pub bytes : IsTrue parts.is_goal → accessed_bytes ts ≤ 32

-- items define what is added to a file, in order
abbrev pub Adds : File → List Tree → File → Type 0
Adds f [] g = f ≡ g
Adds f (tree ∷ trees) g =
    (parts : Parts) × (ts : List Term) × Defines f.pointer tree parts ts × Adds (with_definition f parts ts) trees g

-- the bytes are this file
pub record IsFile (bytes : List ℕ) (f : File) : Type 0 where
  pub trees : Trees
  pub text : IsTrue (list_all is_text_byte bytes)
  pub spelled : tokens bytes ≡ flatten trees
  pub nested : depth trees ≤ depth_limit
  pub head : Tree
  pub width : Tree
  pub items : List Tree
  pub parts : list_of trees ≡ head ∷ items
  pub begins : head_in head ≡ Some (width, f.pointer)
  pub wide : 1 ≤ f.pointer
  pub narrow : f.pointer ≤ 64
  pub added : Adds (record { pointer = f.pointer; ops = []; goals = [] }) items f
  pub names : AreNames (defined f)
  pub some_ops : 1 ≤ length f.ops
  pub few_ops : length f.ops ≤ 64
  pub some_goals : 1 ≤ length f.goals
  pub few_goals : length f.goals ≤ 256
