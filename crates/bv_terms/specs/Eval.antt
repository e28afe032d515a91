-- Values of nodes, as the evaluator keeps them by place.
use Rattle.std.specs.Prelude.{◌≡◌, ℕ, List, None, Some, map, slice_get, unwrap_or, false}
use Rattle.bv_terms.specs.declared.op.Op.{Op}
use Rattle.bv_terms.specs.declared.op.TermId.{TermId}
use Rattle.bv_terms.specs.declared.value.Sort.{Sort}
use Rattle.bv_terms.specs.declared.value.Value.{Value}
use Rattle.bv_terms.specs.declared.value.Value.TheVariants as val
use Rattle.bv_terms.specs.Sorts.{HaveSorts, AreSized}
use Rattle.bv_terms.specs.Signature.{refusal}
use Rattle.bv_terms.specs.Term.{op_value, value}
use Rattle.bv_terms.specs.Table.{Table, term_at}

-- the value in a node's place; past the end, where no argument leads, some value
abbrev pub value_in : List Value → TermId → Value
value_in room at = unwrap_or (slice_get room at.0) (val.Bool false)

-- the values in the places of arguments
abbrev pub values_in : List Value → List TermId → List Value
values_in room args = map (value_in room) args

-- the value is that of an operation over these, in each way in which they are of sorts over which it may stand
abbrev pub IsValueOf : List Value → Op → List Value → Value → Type 0
IsValueOf inputs o vs result =
    (p : ℕ) (ss : List Sort) → refusal p o ss ≡ None → AreSized ss → HaveSorts ss vs → result ≡ op_value inputs o vs

-- the room has the value of the node's term in the node's place
abbrev pub IsValued : Table → List Value → List Value → TermId → Type 0
IsValued table inputs room at = slice_get room at.0 ≡ Some (value inputs (term_at table at))
