-- What patterns and goals compute, over values and memories and over values alone, and which patterns are rules.
-- Rules: Buchwald, Fried, Hack, CGO 2018.
use Rattle.std.specs.Prelude.{◌≡◌, ℕ, ◌^◌, ◌<◌, List, [], ◌∷◌, ◌++◌, map, Option, Some, None, slice_get}
use Rattle.std.specs.Prelude.{unwrap_or, false, Contains}
use Rattle.bv_terms.specs.declared.value.Sort.{Sort}
use Rattle.bv_terms.specs.declared.value.Sort.TheVariants as sort
use Rattle.bv_terms.specs.declared.value.Value.{Value}
use Rattle.bv_terms.specs.declared.value.Value.TheVariants as val
use Rattle.bv_terms.specs.Term.{value}
use Rattle.bv_terms.specs.Sorts.{HasSort, HaveSorts}
use Rattle.bv_terms.specs.Memory.{Memory, Thing, Plain, Mem, thing, SameThing}
use Rattle.isel_spec.specs.File.{File, Operation, Goal}
use Rattle.pattern_core.specs.declared.pattern.Src.{Src}
use Rattle.pattern_core.specs.declared.pattern.Src.TheVariants.{Input, Out}
use Rattle.pattern_core.specs.declared.pattern.Node.{Node}
use Rattle.pattern_core.specs.declared.pattern.Pattern.{Pattern}
use Rattle.pattern_core.specs.Pattern.{Pairwise}

-- numbers as bit-vectors of these widths
abbrev pub attr_values : List ℕ → List ℕ → List Value
attr_values (w ∷ ws) (n ∷ ns) = val.Bits w n ∷ attr_values ws ns
attr_values _ _ = []

-- ---- over values and memories

-- what a source stands for, where the inputs and the nodes' results are these
abbrev pub source_thing : List Thing → List (List Thing) → Src → Thing
source_thing inputs outs (Input k) = unwrap_or (slice_get inputs k) (Plain (val.Bool false))
source_thing inputs outs (Out node result) =
    unwrap_or (slice_get (unwrap_or (slice_get outs node) []) result) (Plain (val.Bool false))

-- an operation's results at attributes and arguments, where a pointer has p bits
abbrev pub op_things : ℕ → Option Operation → List ℕ → List Thing → List Thing
op_things p None attrs args = []
op_things p (Some o) attrs args = map (thing p (args ++ map Plain (attr_values o.attrs attrs))) o.results

-- the results of each node, where the earlier nodes have these
abbrev pub things_from : File → List Thing → List (List Thing) → List Node → List (List Thing)
things_from f inputs outs [] = outs
things_from f inputs outs (n ∷ ns) =
    let args : List Thing = map (source_thing inputs outs) n.args in
    let results = op_things f.pointer (slice_get f.ops n.op) n.attrs args in
    things_from f inputs (outs ++ results ∷ []) ns

abbrev pub pattern_things : File → Pattern → List Thing → List Thing
pattern_things f p inputs = map (source_thing inputs (things_from f inputs [] p.nodes)) p.results

abbrev pub goal_things : File → Goal → List Thing → List Thing
goal_things f g inputs = map (thing f.pointer inputs) g.results

-- a memory that a goal may be given: a byte at each address, and no marks
pub record IsUnmarked (p : ℕ) (m : Memory) : Type 0 where
  pub byte : (a : ℕ) → a < 2 ^ p → m.byte a < 256
  pub is_read : (a : ℕ) → a < 2 ^ p → m.is_read a ≡ false
  pub is_written : (a : ℕ) → a < 2 ^ p → m.is_written a ≡ false

-- an input of a sort: a value of it, or an unmarked memory
abbrev pub IsInput : ℕ → Sort → Thing → Type 0
IsInput p s (Plain v) = HasSort s v
IsInput p sort.Mem (Mem m) = IsUnmarked p m
IsInput p _ (Mem m) = ⊥

-- the pattern gives the goal's results on every input, every memory included: bytes and both marks are compared
abbrev pub IsRule : File → Goal → Pattern → Type 0
IsRule f g p =
    (inputs : List Thing) → Pairwise (IsInput f.pointer) g.args inputs
    → Pairwise (SameThing f.pointer) (pattern_things f p inputs) (goal_things f g inputs)

-- ---- over values alone

-- the value of a source, where the inputs and the nodes' results have these values
abbrev pub source_value : List Value → List (List Value) → Src → Value
source_value inputs outs (Input k) = unwrap_or (slice_get inputs k) (val.Bool false)
source_value inputs outs (Out node result) =
    unwrap_or (slice_get (unwrap_or (slice_get outs node) []) result) (val.Bool false)

-- an operation's results at attributes and arguments
abbrev pub op_results : Option Operation → List ℕ → List Value → List Value
op_results None attrs args = []
op_results (Some o) attrs args = map (value (args ++ attr_values o.attrs attrs)) o.results

-- the results of each node, where the earlier nodes have these
abbrev pub outs_from : File → List Value → List (List Value) → List Node → List (List Value)
outs_from f inputs outs [] = outs
outs_from f inputs outs (n ∷ ns) =
    let results = op_results (slice_get f.ops n.op) n.attrs (map (source_value inputs outs) n.args) in
    outs_from f inputs (outs ++ results ∷ []) ns

abbrev pub pattern_results : File → Pattern → List Value → List Value
pattern_results f p inputs = map (source_value inputs (outs_from f inputs [] p.nodes)) p.results

abbrev pub goal_results : Goal → List Value → List Value
goal_results g inputs = map (value inputs) g.results

-- the pattern gives the goal's results on all values
abbrev pub IsPlainRule : File → Goal → Pattern → Type 0
IsPlainRule f g p =
    (inputs : List Value) → HaveSorts g.args inputs → pattern_results f p inputs ≡ goal_results g inputs

-- the goal takes no memory
abbrev pub TakesNoMemory : Goal → Type 0
TakesNoMemory g = ¬ Contains g.args sort.Mem

-- neither the operations nor the goal take a memory
pub record HasNoMemory (f : File) (g : Goal) : Type 0 where
  pub ops : (o : Operation) → Contains f.ops o → ¬ Contains o.args sort.Mem
  pub args : TakesNoMemory g
