-- When the values of the formula's inputs make all choices of a pattern, and give its attributes.
use Rattle.std.specs.Prelude.{◌≡◌, ◌<◌, ◌≤◌, ℕ, List, Some, true, length, slice_get}
use Rattle.bv_terms.specs.declared.value.Sort.TheVariants as sort
use Rattle.bv_terms.specs.declared.value.Value.{Value}
use Rattle.bv_terms.specs.declared.value.Value.TheVariants as val
use Rattle.isel_spec.specs.File.{File, Operation}
use Rattle.pattern_core.specs.Claim.{Claim}
use Rattle.pattern_core.specs.declared.pattern.Node.{Node}
use Rattle.pattern_core.specs.declared.pattern.Pattern.{Pattern}
use Rattle.pattern_core.specs.declared.pattern.Src.{Src}
use Rattle.loc_encode.specs.declared.slots.Slot.{Slot}
use Rattle.loc_encode.specs.declared.slots.Slot.TheVariants as slot
use Rattle.loc_encode.specs.Slots.{slot_number, IsSlot}

-- the choice of the slot is made
abbrev pub IsSet : Slot → List Value → Type 0
IsSet x env = slice_get env (slot_number x) ≡ Some (val.Bool true)

-- the slot's input is this bit-vector
abbrev pub IsNumber : Slot → ℕ → ℕ → List Value → Type 0
IsNumber x w a env = slice_get env (slot_number x) ≡ Some (val.Bits w a)

-- the first n arguments of the node at a line come from these sources
abbrev pub NameArgs : ℕ → List Src → ℕ → List Value → Type 0
NameArgs line args n env = (k : ℕ) (s : Src) → k < n → slice_get args k ≡ Some s → IsSet (slot.Arg line k s) env

-- the first n attributes of the node at a line, of an operation with attributes of these widths, are these numbers
abbrev pub HaveAttrs : ℕ → ℕ → List ℕ → List ℕ → ℕ → List Value → Type 0
HaveAttrs line op widths numbers n env =
    (k w : ℕ) → k < n → slice_get widths k ≡ Some w → (a : ℕ) → slice_get numbers k ≡ Some a
    → IsNumber (slot.Attr line op k) w a env

-- the values make the choices of the node at a line, and give its attributes
pub record MatchesNode (f : File) (line : ℕ) (m : Node) (env : List Value) : Type 0 where
  pub kind : IsSet (slot.Kind line m.op) env
  pub attrs : (o : Operation) → slice_get f.ops m.op ≡ Some o → (k w a : ℕ) → slice_get o.attrs k ≡ Some w
      → slice_get m.attrs k ≡ Some a → IsNumber (slot.Attr line m.op k) w a env
  pub args : (k : ℕ) (s : Src) → slice_get m.args k ≡ Some s → IsSet (slot.Arg line k s) env

-- those of the first n nodes
abbrev pub MatchesNodes : File → List Node → ℕ → List Value → Type 0
MatchesNodes f nodes n env = (k : ℕ) (m : Node) → k < n → slice_get nodes k ≡ Some m → MatchesNode f k m env

-- the first n results come from these sources
abbrev pub NameResults : List Src → ℕ → List Value → Type 0
NameResults results n env = (k : ℕ) (s : Src) → k < n → slice_get results k ≡ Some s → IsSet (slot.Result k s) env

-- those of the whole pattern
pub record Matches (f : File) (p : Pattern) (env : List Value) : Type 0 where
  pub nodes : (k : ℕ) (m : Node) → slice_get p.nodes k ≡ Some m → MatchesNode f k m env
  pub results : (k : ℕ) (s : Src) → slice_get p.results k ≡ Some s → IsSet (slot.Result k s) env

-- the choices and attributes of the node at a line are slots of the claim
pub record AreNodeSlots (c : Claim) (line : ℕ) (m : Node) : Type 0 where
  pub kind : IsSlot c (slot.Kind line m.op) sort.Bool
  pub attrs : (o : Operation) → slice_get c.file.ops m.op ≡ Some o → (k w : ℕ) → slice_get o.attrs k ≡ Some w
      → IsSlot c (slot.Attr line m.op k) (sort.Bits w)
  pub args : (k : ℕ) (s : Src) → slice_get m.args k ≡ Some s → IsSlot c (slot.Arg line k s) sort.Bool

-- and so are the results
abbrev pub AreResultSlots : Claim → List Src → Type 0
AreResultSlots c results = (k : ℕ) (s : Src) → slice_get results k ≡ Some s → IsSlot c (slot.Result k s) sort.Bool

-- an operation of the file, with an attribute for each width, and at most four arguments and two attributes
pub record IsSized (f : File) (m : Node) : Type 0 where
  pub op : m.op < length f.ops
  pub args : length m.args ≤ 4
  pub attrs : length m.attrs ≤ 2
  pub widths : (o : Operation) → slice_get f.ops m.op ≡ Some o → length o.attrs ≡ length m.attrs
