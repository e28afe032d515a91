-- Words of private functions: what a rule is read as where its numbers are small, as a node's places hold them.
use Rattle.std.specs.Prelude.{◌≡◌, ℕ, ◌-◌, ◌^◌, List, [], ◌∷◌, Option, Some, None, true, nat_le, take, drop, map}
use Rattle.std.specs.Prelude.{All, ◌<◌, ◌≤◌, ◌+◌, length}
use Rattle.std.specs.Prelude.{Result, Ok, Err}
use Rattle.std.specs.Option.{is_some, option_or}
use Rattle.sexp_read.specs.Tree.{Tree, members_of}
use Rattle.isel_spec.specs.File.{File, Operation}
use Rattle.pattern_core.specs.declared.pattern.Src.{Src}
use Rattle.pattern_core.specs.declared.pattern.Node.{Node}
use Rattle.pattern_core.specs.declared.pattern.Pattern.{Pattern}
use Rattle.pattern_text.specs.Form.{◌>>=◌, where_true, each, RuleForm, number_in, source_in, node_in, attr_count}
use Rattle.pattern_text.specs.declared.items.ClaimForm as items
use Rattle.pattern_text.specs.Items.{ClaimForm}
use Rattle.pattern_text.specs.Rules.{is_small_source, place_of, op_read, AreRules, IsPatternOf}
use Rattle.pattern_text.specs.declared.fault.LibFault.{LibFault}

abbrev pub small_attr : ℕ → Option ℕ
small_attr a = where_true (nat_le a (2 ^ 64 - 1)) a

abbrev pub small_source : Src → Option Src
small_source s = where_true (is_small_source s) s

abbrev pub small_attr_in : Tree → Option ℕ
small_attr_in tree = number_in tree >>= small_attr

abbrev pub small_source_in : Tree → Option Src
small_source_in tree = source_in tree >>= small_source

-- the node of an operation's tree and what follows it
abbrev pub small_node_of : File → Tree → List Tree → Option Node
small_node_of f op rest = do
  place ← place_of (map (λ (o : Operation). o.name) f.ops) op
  attrs ← each small_attr_in (take (attr_count rest) rest)
  args ← each small_source_in (drop (attr_count rest) rest)
  Some (record { op = place; attrs = attrs; args = args })

abbrev pub small_node_from : File → List Tree → Option Node
small_node_from f [] = None
small_node_from f (op ∷ rest) = small_node_of f op rest

abbrev pub small_node_in : File → Tree → Option Node
small_node_in f tree = members_of tree >>= small_node_from f

abbrev pub small_pattern : File → List Tree → List Tree → Option Pattern
small_pattern f nodes results = do
  ns ← each (small_node_in f) nodes
  ss ← each small_source_in results
  Some (record { nodes = ns; results = ss })

-- the fault of a step
abbrev pub fault_of : {A : Type 0} → Result A LibFault → Option LibFault
fault_of (Ok a) = None
fault_of (Err f) = Some f

-- the name of an operation that is unknown, of a node's members, of a node and the first of nodes
abbrev pub first_fault : File → List Tree → Option LibFault
first_fault f [] = None
first_fault f (op ∷ rest) = fault_of (op_read f op)

abbrev pub node_fault : File → Tree → Option LibFault
node_fault f tree = members_of tree >>= first_fault f

abbrev pub nodes_fault : File → List Tree → Option LibFault
nodes_fault f [] = None
nodes_fault f (tree ∷ trees) = option_or (node_fault f tree) (nodes_fault f trees)

-- the form of a rule by the two lists after the word
abbrev pub rule_by : List Tree → List Tree → Option RuleForm
rule_by nodes results = do
  ns ← each node_in nodes
  ss ← each source_in results
  Some (record { nodes = ns; results = ss })

-- what the reader keeps of an item, as what it stands for
abbrev pub claim_view : (ℕ → Tree) → items.ClaimForm → ClaimForm
claim_view tree c =
    record { name = tree c.name; state = c.state; rules = map tree c.rules.now; opens = map tree c.opens.now }

-- each of its items is one of so many
pub record IsWithin (size : ℕ) (c : items.ClaimForm) : Type 0 where
  pub name : c.name < size
  pub rules : All (λ item. item < size) c.rules.now
  pub opens : All (λ item. item < size) c.opens.now

-- the form of a rule is that of these lists, and their members are of the form
pub record AreParts (form : Option RuleForm) (nodes results : List Tree) : Type 0 where
  pub same : form ≡ rule_by nodes results
  pub nodes_formed : is_some (each node_in nodes) ≡ true
  pub results_formed : is_some (each source_in results) ≡ true

-- The rules so far: these patterns of a goal, with which the walk over all rules goes on as it does with those that are
-- left.
pub record IsSoFar (f : File) (place size before : ℕ) (done : List Pattern) (left all : List Tree) : Type 0 where
  pub goes_on : (outcome : Result (List Pattern) LibFault) → AreRules f place size before done left outcome
      → AreRules f place size before [] all outcome
  pub listed : All (IsPatternOf f place size) done
  pub few : before + length done ≤ 65536
