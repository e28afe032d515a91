-- The form of a rule and of an open claim, read off the trees of a text. The format is this project's own.
--
--   rule   := (rule (node*) (source*))      node := (OP ATTR* source*)      open := (open (OP*))
--   source := iK | nJ.R
--
-- ATTR, K, J and R are numerals of any length, and OP is any word.
use Rattle.std.specs.Prelude.{ℕ, ◌+◌, List, [], ◌∷◌, Option, Some, None, true, false, Bool, ◌==◌, take, drop}
use Rattle.std.specs.Prelude.{if◌then◌else◌, codes, option_and_then, option_map}
use Rattle.std.specs.List.{position, prefix_len}
use Rattle.std.specs.Option.{option_map_or, is_some}
use Rattle.std.specs.Str.{bytes_eq}
use Rattle.sexp_read.specs.Words.{is_numeral, decimal_value}
use Rattle.sexp_read.specs.Tree.{Tree, word_of, members_of}
use Rattle.pattern_core.specs.declared.pattern.Src.{Src}
use Rattle.pattern_core.specs.declared.pattern.Src.TheVariants.{Input, Out}

infixl 10 ◌>>=◌
abbrev pub ◌>>=◌ : {A B : Type 0} → Option A → (A → Option B) → Option B
o >>= f = option_and_then f o

abbrev pub where_true : {A : Type 0} → Bool → A → Option A
where_true true a = Some a
where_true false a = None

-- what each of them gives, where each gives something
abbrev pub each : {A B : Type 0} → (A → Option B) → List A → Option (List B)
each f [] = Some []
each f (x ∷ xs) = option_and_then (λ y. option_and_then (λ ys. Some (y ∷ ys)) (each f xs)) (f x)

-- the tree is this word
abbrev pub is_word : List ℕ → Tree → Bool
is_word word tree = option_map_or (bytes_eq word) (word_of tree) false

-- ---- sources

-- the number of a numeral, of any length
abbrev pub number : List ℕ → Option ℕ
number word = where_true (is_numeral word) (decimal_value word)

-- `J.R` after the `n`, parted at its first `.`
abbrev pub out_at : List ℕ → ℕ → Option Src
out_at word stop = do
  node ← number (take stop word)
  result ← number (drop (stop + 1) word)
  Some (Out node result)

abbrev pub out_of : List ℕ → Option Src
out_of word = position (λ b. b == 46) word >>= out_at word

-- `iK` or `nJ.R`
abbrev pub source_of : List ℕ → Option Src
source_of [] = None
source_of (b ∷ rest) =
    if b == 105 then option_map (λ k. Input k) (number rest)
    else if b == 110 then out_of rest
    else None

abbrev pub source_in : Tree → Option Src
source_in tree = word_of tree >>= source_of

-- ---- rules

abbrev pub number_in : Tree → Option ℕ
number_in tree = word_of tree >>= number

-- how many numerals are in front
abbrev pub attr_count : List Tree → ℕ
attr_count trees = prefix_len (λ t. is_some (number_in t)) trees

-- a node, with the tree of its operation's word
pub record NodeForm : Type 0 where
  pub op : Tree
  pub attrs : List ℕ
  pub args : List Src

abbrev pub node_of : Tree → List Tree → Option NodeForm
node_of op rest = do
  word ← word_of op
  attrs ← each number_in (take (attr_count rest) rest)
  args ← each source_in (drop (attr_count rest) rest)
  Some (record { op = op; attrs = attrs; args = args })

abbrev pub node_from : List Tree → Option NodeForm
node_from [] = None
node_from (op ∷ rest) = node_of op rest

abbrev pub node_in : Tree → Option NodeForm
node_in tree = members_of tree >>= node_from

pub record RuleForm : Type 0 where
  pub nodes : List NodeForm
  pub results : List Src

abbrev pub rule_of : Tree → Tree → Option RuleForm
rule_of nodes results = do
  ns ← members_of nodes >>= each node_in
  ss ← members_of results >>= each source_in
  Some (record { nodes = ns; results = ss })

abbrev pub rule_from : List Tree → Option RuleForm
rule_from (head ∷ nodes ∷ results ∷ []) = if is_word (codes "rule") head then rule_of nodes results else None
rule_from _ = None

abbrev pub rule_in : Tree → Option RuleForm
rule_in tree = members_of tree >>= rule_from

-- ---- open claims

-- the words of `(open (OP*))`
abbrev pub word_in : Tree → Option Tree
word_in tree = option_map (λ word. tree) (word_of tree)

abbrev pub open_from : List Tree → Option (List Tree)
open_from (head ∷ ops ∷ []) = if is_word (codes "open") head then members_of ops >>= each word_in else None
open_from _ = None

abbrev pub open_in : Tree → Option (List Tree)
open_in tree = members_of tree >>= open_from
