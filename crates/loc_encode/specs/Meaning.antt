-- What the terms of a claim at an example mean, where values stand for a pattern.
use Rattle.std.specs.Prelude.{◌≡◌, ℕ, ◌+◌, List, [], Option, Some, length, slice_get, Contains}
use Rattle.bv_terms.specs.declared.value.Sort.{Sort}
use Rattle.bv_terms.specs.declared.value.Sort.TheVariants as sort
use Rattle.bv_terms.specs.declared.value.Value.{Value}
use Rattle.bv_terms.specs.Term.{value}
use Rattle.pattern_core.specs.Claim.{Claim, IsPatternOf}
use Rattle.pattern_core.specs.declared.pattern.Node.{Node}
use Rattle.pattern_core.specs.declared.pattern.Pattern.{Pattern}
use Rattle.pattern_core.specs.declared.pattern.Src.{Src}
use Rattle.pattern_core.specs.declared.pattern.Src.TheVariants.{Out}
use Rattle.pattern_core.specs.Pattern.{source_sort}
use Rattle.pattern_core.specs.Rule.{source_value, outs_from}
use Rattle.loc_encode.specs.declared.taking.Taker.{Taker}
use Rattle.loc_encode.specs.declared.taking.Taker.TheVariants as taker
use Rattle.loc_encode.specs.Slots.{IsSlot, IsSourceAt}
use Rattle.loc_encode.specs.Standing.{StandsFor, arg_at}
use Rattle.list_lemmas.proofs.Members.{In}
use Rattle.loc_encode.specs.Parts.{IsOver}
use Rattle.loc_encode.specs.Lines.{Sourced, OfKind, slot_at}

-- the value and the sort of a source in a pattern
abbrev pub value_of : Claim → List Value → Pattern → Src → Value
value_of c inputs q source = source_value inputs (outs_from c.file inputs [] q.nodes) source

abbrev pub sort_in : Claim → Pattern → Src → Option Sort
sort_in c q source = source_sort c.file c.goal q.nodes (length q.nodes) source

-- the source that a pattern chooses
abbrev pub chosen_at : Pattern → Taker → Option Src
chosen_at q (taker.Arg line place) = arg_at (slice_get q.nodes line) place
chosen_at q (taker.Result place) = slice_get q.results place

-- a source before a line, whose term has its value in each pattern in which it is of the sort
pub record IsMeant (c : Claim) (inputs : List Value) (line : ℕ) (e : Sourced) : Type 0 where
  pub over : IsOver c e.term
  pub before : IsSourceAt c line e.sort e.source
  pub gives : (env : List Value) (q : Pattern) → IsPatternOf c q → StandsFor c env q
      → sort_in c q e.source ≡ Some e.sort → value env e.term ≡ value_of c inputs q e.source

-- a result of an operation at a line, whose term has its value in each pattern that has the operation there
pub record IsMeantKind (c : Claim) (inputs : List Value) (line : ℕ) (k : OfKind) : Type 0 where
  pub over : IsOver c k.term
  pub kind : Contains c.ops k.op
  pub source : IsSourceAt c (line + 1) k.sort (Out line k.result)
  pub gives : (env : List Value) (q : Pattern) (n : Node) → IsPatternOf c q → StandsFor c env q
      → slice_get q.nodes line ≡ Some n → n.op ≡ k.op → value env k.term ≡ value_of c inputs q (Out line k.result)

-- each source of the sort before the line has a slot there
abbrev pub HasSlots : Claim → ℕ → Taker → Sort → Type 0
HasSlots c line t s = (source : Src) → IsSourceAt c line s source → IsSlot c (slot_at t source) sort.Bool

-- a source of the sort is listed
abbrev pub IsListed : List Sourced → Src → Sort → Type 0
IsListed sources source s = (e : Sourced) × In sources e × (e.source ≡ source) × (e.sort ≡ s)

-- sources before a line: each is meant, and none is missing
pub record AreMeant (c : Claim) (inputs : List Value) (line : ℕ) (sources : List Sourced) : Type 0 where
  pub each : (e : Sourced) → In sources e → IsMeant c inputs line e
  pub all : (q : Pattern) → IsPatternOf c q → (source : Src) (s : Sort)
      → source_sort c.file c.goal q.nodes line source ≡ Some s → IsListed sources source s
