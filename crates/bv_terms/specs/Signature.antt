-- What an operation takes and gives: its argument slots, what its own numbers have to meet, and its result's sort.
-- Source: SMT-LIB 2.6, theories Core and FixedSizeBitVectors, logic QF_BV. The memory operations are this project's
-- own.
use Rattle.std.specs.Prelude.{ℕ, ◌+◌, ◌-◌, ◌*◌, ◌^◌, List, [], ◌∷◌, length, Option, Some, None, position, zip}
use Rattle.std.specs.Prelude.{slice_get}
use Rattle.std.specs.Prelude.{unwrap_or, Bool, true, false, not, ◌&&◌, ◌||◌, ◌==◌, nat_lt, nat_le, if◌then◌else◌}
use Rattle.std.specs.Option.{option_map_or}
use Rattle.bv_terms.specs.declared.op.Op.{Op}
use Rattle.bv_terms.specs.declared.op.Op.TheVariants as op
use Rattle.bv_terms.specs.declared.op.MakeFault.{MakeFault}
use Rattle.bv_terms.specs.declared.op.MakeFault.TheVariants as fault
use Rattle.bv_terms.specs.declared.signature.Slot.{Slot}
use Rattle.bv_terms.specs.declared.signature.Slot.TheVariants.{Truth, Vector, NoMemory, SameAs, Memory, Pointer}
use Rattle.bv_terms.specs.declared.signature.Slot.TheVariants.{Accessed}
use Rattle.bv_terms.specs.declared.signature.IndexRule.{IndexRule}
use Rattle.bv_terms.specs.declared.signature.IndexRule.TheVariants.{Free, Sized, Number, Slice, Access}
use Rattle.bv_terms.specs.declared.signature.ResultRule.{ResultRule}
use Rattle.bv_terms.specs.declared.signature.ResultRule.TheVariants as result
use Rattle.bv_terms.specs.declared.value.Sort.{Sort}
use Rattle.bv_terms.specs.declared.value.Sort.TheVariants as sort
use Rattle.bv_terms.specs.Sorts.{is_bits, same_sort, width_of, is_width}

-- what an operation takes and gives
pub record Signature : Type 0 where
  pub slots : List Slot
  pub index : IndexRule
  pub result : ResultRule

-- an operation without numbers of its own
abbrev pub plain : List Slot → ResultRule → Signature
plain slots rule = record { slots = slots; index = Free; result = rule }

abbrev pub constant : IndexRule → Sort → Signature
constant rule s = record { slots = []; index = rule; result = result.Is s }

-- two truth values give one, two bit-vectors of one width give one of that width, or a truth value
abbrev pub connective : Signature
connective = plain (Truth ∷ Truth ∷ []) (result.Is sort.Bool)

abbrev pub arithmetic : Signature
arithmetic = plain (Vector ∷ SameAs 0 ∷ []) (result.SameAs 0)

abbrev pub comparison : Signature
comparison = plain (Vector ∷ SameAs 0 ∷ []) (result.Is sort.Bool)

abbrev pub signature : Op → Signature
signature (op.Input k s) = constant (Sized s) s
signature (op.Bool b) = constant Free sort.Bool
signature (op.Bits w n) = constant (Number w n) (sort.Bits w)
signature op.Not = plain (Truth ∷ []) (result.Is sort.Bool)
signature op.And = connective
signature op.Or = connective
signature op.Xor = connective
signature op.Implies = connective
signature op.Eq = plain (NoMemory ∷ SameAs 0 ∷ []) (result.Is sort.Bool)
signature op.Ite = plain (Truth ∷ NoMemory ∷ SameAs 1 ∷ []) (result.SameAs 1)
signature op.BvNot = plain (Vector ∷ []) (result.SameAs 0)
signature op.BvNeg = plain (Vector ∷ []) (result.SameAs 0)
signature op.BvAnd = arithmetic
signature op.BvOr = arithmetic
signature op.BvXor = arithmetic
signature op.BvAdd = arithmetic
signature op.BvSub = arithmetic
signature op.BvMul = arithmetic
signature op.BvUdiv = arithmetic
signature op.BvUrem = arithmetic
signature op.BvShl = arithmetic
signature op.BvLshr = arithmetic
signature op.BvAshr = arithmetic
signature op.BvUlt = comparison
signature op.BvUle = comparison
signature op.BvSlt = comparison
signature op.BvSle = comparison
signature op.Concat = plain (Vector ∷ Vector ∷ []) result.Joined
signature (op.Extract high low) =
    record { slots = Vector ∷ []; index = Slice high low; result = result.Slice high low }
signature (op.ZeroExtend by) = plain (Vector ∷ []) (result.Longer by)
signature (op.SignExtend by) = plain (Vector ∷ []) (result.Longer by)
signature (op.MLoad n) = record { slots = Memory ∷ Pointer ∷ []; index = Access n; result = result.Bytes n }
signature (op.MMark n) = record { slots = Memory ∷ Pointer ∷ []; index = Access n; result = result.Is sort.Mem }
signature (op.MStore n) =
    record { slots = Memory ∷ Pointer ∷ Accessed ∷ []; index = Access n; result = result.Is sort.Mem }

-- how many arguments an operation has
abbrev pub arity : Op → ℕ
arity o = length (signature o).slots

-- the width of an argument
abbrev pub width_at : List Sort → ℕ → ℕ
width_at ss k = option_map_or width_of (slice_get ss k) 0

-- how many bytes an operation accesses
abbrev pub accessed : IndexRule → ℕ
accessed (Access n) = n
accessed _ = 0

-- an argument of a sort may stand in a slot, where a pointer has p bits, among arguments of these sorts
abbrev pub fits : ℕ → IndexRule → List Sort → Slot → Sort → Bool
fits p index ss Truth s = same_sort s sort.Bool
fits p index ss Vector s = is_bits s
fits p index ss NoMemory s = not (same_sort s sort.Mem)
fits p index ss (SameAs k) s = option_map_or (same_sort s) (slice_get ss k) false
fits p index ss Memory s = same_sort s sort.Mem
fits p index ss Pointer s = same_sort s (sort.Bits p)
fits p index ss Accessed s = same_sort s (sort.Bits (8 * accessed index))

-- the place of the first argument that does not fit its slot
abbrev pub misfit : ℕ → IndexRule → List Slot → List Sort → Option ℕ
misfit p index slots ss = position (λ (e : Slot × Sort). not (fits p index ss e.0 e.1)) (zip slots ss)

-- an access is of 1, 2, 4 or 8 bytes, whose addresses differ
abbrev pub is_access : ℕ → ℕ → Bool
is_access p n = (n == 1 || n == 2 || n == 4 || n == 8) && nat_le n (2 ^ p)

-- the numbers of an operation meet its rule over arguments of these sorts, where a pointer has p bits
abbrev pub is_indexed : ℕ → IndexRule → List Sort → Bool
is_indexed p Free ss = true
is_indexed p (Sized (sort.Bits w)) ss = is_width w
is_indexed p (Sized _) ss = true
is_indexed p (Number w n) ss = is_width w && nat_lt n (2 ^ w)
is_indexed p (Slice high low) ss = nat_le low high && nat_lt high (width_at ss 0)
is_indexed p (Access n) ss = is_access p n

-- the sort of a result over arguments of these sorts
abbrev pub result_sort : ResultRule → List Sort → Sort
result_sort (result.Is s) ss = s
result_sort (result.SameAs k) ss = unwrap_or (slice_get ss k) sort.Bool
result_sort result.Joined ss = sort.Bits (width_at ss 0 + width_at ss 1)
result_sort (result.Longer by) ss = sort.Bits (width_at ss 0 + by)
result_sort (result.Slice high low) ss = sort.Bits (high - low + 1)
result_sort (result.Bytes n) ss = sort.Bits (8 * n)

-- why an operation of this signature cannot stand over arguments of these sorts, the first cause in this order; it
-- stands over them where there is none
abbrev pub fault_of_width : Sort → Option MakeFault
fault_of_width s = if nat_le (width_of s) 64 then None else Some fault.Width

abbrev pub fault_of_index : ℕ → Signature → List Sort → Option MakeFault
fault_of_index p sig ss =
    if is_indexed p sig.index ss then fault_of_width (result_sort sig.result ss) else Some fault.Index

abbrev pub fault_of : ℕ → Signature → List Sort → Option ℕ → Option MakeFault
fault_of p sig ss (Some place) = Some (fault.Sorts place)
fault_of p sig ss None = fault_of_index p sig ss

abbrev pub refusal : ℕ → Op → List Sort → Option MakeFault
refusal p o ss =
    if length ss == arity o
    then fault_of p (signature o) ss (misfit p (signature o).index (signature o).slots ss)
    else Some fault.Arity
