-- What a rule and an open claim say by a file, or what is wrong with them. Which fault is the first is this
-- project's own.
use Rattle.std.specs.Prelude.{◌≡◌, ℕ, ◌+◌, ◌-◌, ◌^◌, List, [], ◌∷◌, ◌++◌, length, map, Option, Result, Ok, Err}
use Rattle.std.specs.Prelude.{if◌then◌else◌}
use Rattle.std.specs.Prelude.{Bool, ◌&&◌, nat_lt, nat_le, slice_get, IsTrue, Contains, Some, unwrap_or}
use Rattle.std.specs.List.{list_all, position}
use Rattle.std.specs.Str.{bytes_eq}
use Rattle.sexp_read.specs.Tree.{Tree, word_of}
use Rattle.isel_spec.specs.File.{File, Operation, Goal}
use Rattle.multiset_rank.specs.Multisets.{never_falls}
use Rattle.pattern_core.specs.declared.pattern.Src.{Src}
use Rattle.pattern_core.specs.declared.pattern.Src.TheVariants.{Input, Out}
use Rattle.pattern_core.specs.declared.pattern.Node.{Node}
use Rattle.pattern_core.specs.declared.pattern.Pattern.{Pattern}
use Rattle.pattern_core.specs.Pattern.{IsWellFormed}
use Rattle.pattern_core.specs.Walk.{IsCanonical}
use Rattle.pattern_text.specs.declared.fault.LibFault.{LibFault}
use Rattle.pattern_text.specs.declared.fault.LibKind.TheVariants as fault
use Rattle.pattern_text.specs.Steps.{Span, span_of, fault_at, and_then, or_fault, IsThat, AndThen, Where}
use Rattle.pattern_text.specs.Form.{NodeForm, RuleForm, where_true, rule_in, open_in}

-- ---- names

-- the bytes of a word
abbrev pub bytes_of : Tree → List ℕ
bytes_of tree = unwrap_or (word_of tree) []

-- the first place of a name
abbrev pub place_of : List (List ℕ) → Tree → Option ℕ
place_of names tree = position (bytes_eq (bytes_of tree)) names

abbrev pub op_read : File → Tree → Result ℕ LibFault
op_read f tree = or_fault fault.Unknown (span_of tree) (place_of (map (λ (o : Operation). o.name) f.ops) tree)

abbrev pub goal_read : File → Tree → Result ℕ LibFault
goal_read f tree = or_fault fault.Unknown (span_of tree) (place_of (map (λ (g : Goal). g.name) f.goals) tree)

-- ---- rules

-- the nodes of a rule, with their operations by name
abbrev pub node_read : File → NodeForm → Result Node LibFault
node_read f n = and_then (op_read f n.op) (λ op. Ok (record { op = op; attrs = n.attrs; args = n.args }))

abbrev pub nodes_read : File → List NodeForm → Result (List Node) LibFault
nodes_read f [] = Ok []
nodes_read f (n ∷ ns) = and_then (node_read f n) (λ m. and_then (nodes_read f ns) (λ ms. Ok (m ∷ ms)))

abbrev pub pattern_read : File → RuleForm → Result Pattern LibFault
pattern_read f rule = and_then (nodes_read f rule.nodes) (λ ns. Ok (record { nodes = ns; results = rule.results }))

abbrev pub form_read : File → Tree → Result Pattern LibFault
form_read f tree = and_then (or_fault fault.Shape (span_of tree) (rule_in tree)) (pattern_read f)

-- the pattern of a rule that so many rules of the text come before
abbrev pub rule_read : File → ℕ → Tree → Result Pattern LibFault
rule_read f before tree =
    if nat_lt before 65536 then form_read f tree else Err (fault_at fault.Limit (span_of tree))

-- K at most 3, J at most 5 and R at most 2
abbrev pub is_small_source : Src → Bool
is_small_source (Input k) = nat_le k 3
is_small_source (Out node result) = nat_le node 5 && nat_le result 2

abbrev pub is_small_node : Node → Bool
is_small_node n = list_all (λ a. nat_le a (2 ^ 64 - 1)) n.attrs && list_all is_small_source n.args

abbrev pub is_small : Pattern → Bool
is_small p = list_all is_small_node p.nodes && list_all is_small_source p.results

-- a pattern that is one of a goal, the one at this place, with this many nodes
pub record IsPatternOf (f : File) (place size : ℕ) (p : Pattern) : Type 0 where
  pub small : IsTrue (is_small p)
  pub goal : Goal
  pub in_file : slice_get f.goals place ≡ Some goal
  pub well_formed : IsWellFormed f goal p
  pub of_size : length p.nodes ≡ size

-- what is said of a rule's pattern, after those of the goal's earlier rules
abbrev pub IsVerdict : File → ℕ → ℕ → List Pattern → Span → Pattern → Result Pattern LibFault → Type 0
IsVerdict f place size earlier span p =
    Where (IsPatternOf f place size p) (fault_at fault.Shape span)
    (Where (IsCanonical p) (fault_at fault.NotCanonical span)
    (Where (¬ Contains earlier p) (fault_at fault.Twice span) (IsThat (Ok p))))

-- a rule's pattern, where so many rules of the text come before
abbrev pub IsRule : File → ℕ → ℕ → ℕ → List Pattern → Tree → Result Pattern LibFault → Type 0
IsRule f place size before earlier tree =
    AndThen (IsThat (rule_read f before tree)) (IsVerdict f place size earlier (span_of tree))

-- the patterns of a goal's rules, where so many rules of other goals come before
abbrev pub AreRules : File → ℕ → ℕ → ℕ → List Pattern → List Tree → Result (List Pattern) LibFault → Type 0
AreRules f place size before earlier [] = IsThat (Ok earlier)
AreRules f place size before earlier (tree ∷ trees) =
    AndThen (IsRule f place size (before + length earlier) earlier tree)
    (λ p. AreRules f place size before (earlier ++ p ∷ []) trees)

-- ---- open claims

-- operations by name, in order
abbrev pub ops_read : File → List Tree → Result (List ℕ) LibFault
ops_read f [] = Ok []
ops_read f (tree ∷ trees) = and_then (op_read f tree) (λ op. and_then (ops_read f trees) (λ ops. Ok (op ∷ ops)))

abbrev pub multi_of : List ℕ → Option (List ℕ)
multi_of ops = where_true (nat_le (length ops) 6 && never_falls ops) ops

abbrev pub open_read : File → Tree → Result (List ℕ) LibFault
open_read f tree =
    and_then (or_fault fault.Shape (span_of tree) (open_in tree))
    (λ words. and_then (ops_read f words) (λ ops. or_fault fault.Shape (span_of tree) (multi_of ops)))

abbrev pub opens_read : File → List Tree → Result (List (List ℕ)) LibFault
opens_read f [] = Ok []
opens_read f (tree ∷ trees) =
    and_then (open_read f tree) (λ multi. and_then (opens_read f trees) (λ multis. Ok (multi ∷ multis)))
