-- What is known of an operation by its signature.
use Rattle.std.proofs.Common.{◌≡◌, ℕ, zero, suc, ◌+◌, ◌^◌, ◌≤◌, Bool, true, false, cond, not, nat_le, eqb, List, []}
use Rattle.std.proofs.Common.{◌∷◌, length, Option, None, Some, refl, sym, ap, ◌∙◌, arith}
use Rattle.std.specs.List.{position_from}
use Rattle.std.specs.Prelude.{zip}
use Rattle.std.proofs.lemmas.Bool.Decides.{Decides-eqb, nat_tests}
use Rattle.std.proofs.lemmas.Iterator.Adapters.{position_from-zero}
use Rattle.std.proofs.Math.Nat.{one-le-pow}
use Rattle.bv_terms.specs.declared.op.Op.{Op}
use Rattle.bv_terms.specs.declared.op.Op.TheVariants as op
use Rattle.bv_terms.specs.declared.op.MakeFault.{MakeFault}
use Rattle.bv_terms.specs.declared.op.MakeFault.TheVariants as fault
use Rattle.bv_terms.specs.declared.signature.Slot.{Slot}
use Rattle.bv_terms.specs.declared.signature.Slot.TheVariants.{Truth, Vector, NoMemory, SameAs, Memory}
use Rattle.bv_terms.specs.declared.signature.IndexRule.{IndexRule}
use Rattle.bv_terms.specs.declared.value.Sort.{Sort}
use Rattle.bv_terms.specs.declared.value.Sort.TheVariants as sort
use Rattle.bv_terms.specs.Sorts.{is_bits, same_sort, width_of}
use Rattle.bv_terms.specs.Signature.{signature, arity, fits, misfit, is_indexed, result_sort, fault_of_width, fault_of}
use Rattle.bv_terms.specs.Signature.{refusal}

-- a memory has 2 bytes or more where a pointer has a bit, and so on
pub has_2 : (p : ℕ) → nat_le 1 p ≡ nat_le 2 (2 ^ p)
has_2 zero = refl
has_2 (suc p) = let one = one-le-pow p 2 (omega arith) in grind (arith, nat_tests)

pub has_4 : (p : ℕ) → nat_le 2 p ≡ nat_le 4 (2 ^ p)
has_4 zero = refl
has_4 (suc zero) = refl
has_4 (suc (suc p)) = let one = one-le-pow p 2 (omega arith) in grind (arith, nat_tests)

pub has_8 : (p : ℕ) → nat_le 3 p ≡ nat_le 8 (2 ^ p)
has_8 zero = refl
has_8 (suc zero) = refl
has_8 (suc (suc zero)) = refl
has_8 (suc (suc (suc p))) = let one = one-le-pow p 2 (omega arith) in grind (arith, nat_tests)

-- ---- no operation has more than three arguments

pub arity-at_most : (o : Op) → arity o ≤ 3
arity-at_most (op.Input k s) = omega arith
arity-at_most (op.Bool b) = omega arith
arity-at_most (op.Bits w n) = omega arith
arity-at_most op.Not = omega arith
arity-at_most op.And = omega arith
arity-at_most op.Or = omega arith
arity-at_most op.Xor = omega arith
arity-at_most op.Implies = omega arith
arity-at_most op.Eq = omega arith
arity-at_most op.Ite = omega arith
arity-at_most op.BvNot = omega arith
arity-at_most op.BvNeg = omega arith
arity-at_most op.BvAnd = omega arith
arity-at_most op.BvOr = omega arith
arity-at_most op.BvXor = omega arith
arity-at_most op.BvAdd = omega arith
arity-at_most op.BvSub = omega arith
arity-at_most op.BvMul = omega arith
arity-at_most op.BvUdiv = omega arith
arity-at_most op.BvUrem = omega arith
arity-at_most op.BvShl = omega arith
arity-at_most op.BvLshr = omega arith
arity-at_most op.BvAshr = omega arith
arity-at_most op.BvUlt = omega arith
arity-at_most op.BvUle = omega arith
arity-at_most op.BvSlt = omega arith
arity-at_most op.BvSle = omega arith
arity-at_most op.Concat = omega arith
arity-at_most (op.Extract h l) = omega arith
arity-at_most (op.ZeroExtend k) = omega arith
arity-at_most (op.SignExtend k) = omega arith
arity-at_most (op.MLoad n) = omega arith
arity-at_most (op.MMark n) = omega arith
arity-at_most (op.MStore n) = omega arith

-- ---- an operation that may stand over arguments of these sorts

-- each argument fits its slot
abbrev pub AllFit : ℕ → IndexRule → List Sort → List Slot → List Sort → Type 0
AllFit p index all (slot ∷ slots) (s ∷ ss) = (fits p index all slot s ≡ true) × AllFit p index all slots ss
AllFit p index all [] [] = Unit {0}
AllFit p index all _ _ = ⊥

all_fit : (p : ℕ) (index : IndexRule) (all : List Sort) (slots : List Slot) (ss : List Sort) (i : ℕ)
    → length ss ≡ length slots
    → position_from (λ (e : Slot × Sort). not (fits p index all e.0 e.1)) i (zip slots ss) ≡ None
    → AllFit p index all slots ss
all_fit p index all [] [] i l h = tt
all_fit p index all [] (s ∷ ss) i l h = absurd (omega (arith, l))
all_fit p index all (slot ∷ slots) [] i l h = absurd (omega (arith, l))
all_fit p index all (slot ∷ slots) (s ∷ ss) i l h =
    by (λ none. all_fit p index all slots ss (i + 1) (omega (arith, l)) none) (fits p index all slot s) refl h
  where
    Rest : Type 0
    Rest = position_from (λ (e : Slot × Sort). not (fits p index all e.0 e.1)) (i + 1) (zip slots ss) ≡ None

    by : (Rest → AllFit p index all slots ss) → (b : Bool) → fits p index all slot s ≡ b
        → cond (not b) (Some i)
        (position_from (λ (e : Slot × Sort). not (fits p index all e.0 e.1)) (i + 1) (zip slots ss)) ≡ None
        → (fits p index all slot s ≡ true) × AllFit p index all slots ss
    by rest true e h = (e, rest h)
    by rest false e h = cc

pub record IsFitting (p : ℕ) (o : Op) (ss : List Sort) : Type 0 where
  pub arity : length ss ≡ arity o
  pub fit : AllFit p (signature o).index ss (signature o).slots ss
  pub indexed : is_indexed p (signature o).index ss ≡ true
  pub narrow : width_of (result_sort (signature o).result ss) ≤ 64

unless_true : (b : Bool) (o : Option MakeFault) (f : MakeFault) → cond b o (Some f) ≡ None → (b ≡ true) × (o ≡ None)
unless_true true o f h = (refl, h)
unless_true false o f h = cc

narrow_of : (n : ℕ) → nat_le n 64 ≡ true → n ≤ 64
narrow_of n h = grind (arith, nat_tests)

fitting_past : (p : ℕ) (o : Op) (ss : List Sort) → length ss ≡ arity o → (r : Option ℕ)
    → misfit p (signature o).index (signature o).slots ss ≡ r → fault_of p (signature o) ss r ≡ None → IsFitting p o ss
fitting_past p o ss l (Some place) e h = cc
fitting_past p o ss l None e h =
    let sig = signature o in
    let index = unless_true (is_indexed p sig.index ss) (fault_of_width (result_sort sig.result ss)) fault.Index h in
    let width = unless_true (nat_le (width_of (result_sort sig.result ss)) 64) None fault.Width index.1 in
    record {
      arity = l;
      fit = all_fit p sig.index ss sig.slots ss 0 l
          (sym (position_from-zero (λ (e : Slot × Sort). not (fits p sig.index ss e.0 e.1)) (zip sig.slots ss)) ∙ e);
      indexed = index.0;
      narrow = narrow_of (width_of (result_sort sig.result ss)) width.0;
    }

pub IsFitting-of : (p : ℕ) (o : Op) (ss : List Sort) → refusal p o ss ≡ None → IsFitting p o ss
IsFitting-of p o ss h =
    let sig = signature o in
    let parts = unless_true (eqb (length ss) (arity o)) (fault_of p sig ss (misfit p sig.index sig.slots ss))
    fault.Arity h
    in
    fitting_past p o ss ((Decides-eqb (length ss) (arity o)).0 parts.0) (misfit p sig.index sig.slots ss) refl parts.1

-- ---- what a slot takes

pub same_sort-true : (s t : Sort) → same_sort s t ≡ true → s ≡ t
same_sort-true sort.Bool sort.Bool h = refl
same_sort-true sort.Bool (sort.Bits w) h = cc
same_sort-true sort.Bool sort.Mem h = cc
same_sort-true (sort.Bits v) sort.Bool h = cc
same_sort-true (sort.Bits v) (sort.Bits w) h = ap sort.Bits ((Decides-eqb v w).0 h)
same_sort-true (sort.Bits v) sort.Mem h = cc
same_sort-true sort.Mem sort.Bool h = cc
same_sort-true sort.Mem (sort.Bits w) h = cc
same_sort-true sort.Mem sort.Mem h = refl

vector_sort : (s : Sort) → is_bits s ≡ true → (w : ℕ) × (s ≡ sort.Bits w)
vector_sort sort.Bool h = cc
vector_sort (sort.Bits w) h = (w, refl)
vector_sort sort.Mem h = cc

-- the sorts over which an operation of these slots may stand
pub sorts_truth : (p : ℕ) (index : IndexRule) (ss all : List Sort) → AllFit p index all (Truth ∷ []) ss
    → ss ≡ sort.Bool ∷ []
sorts_truth p index (s ∷ []) all h = ap (λ s. s ∷ []) (same_sort-true s sort.Bool h.0)
sorts_truth p index [] all h = absurd h
sorts_truth p index (s ∷ t ∷ ss) all h = absurd h.1

pub sorts_truths : (p : ℕ) (index : IndexRule) (ss all : List Sort) → AllFit p index all (Truth ∷ Truth ∷ []) ss
    → ss ≡ sort.Bool ∷ sort.Bool ∷ []
sorts_truths p index [] all h = absurd h
sorts_truths p index (s ∷ ss) all h =
    ap (λ s. s ∷ ss) (same_sort-true s sort.Bool h.0) ∙ ap (λ ss. sort.Bool ∷ ss) (sorts_truth p index ss all h.1)

pub sorts_vector : (p : ℕ) (index : IndexRule) (ss all : List Sort) → AllFit p index all (Vector ∷ []) ss
    → (w : ℕ) × (ss ≡ sort.Bits w ∷ [])
sorts_vector p index (s ∷ []) all h = let word = vector_sort s h.0 in (word.0, ap (λ s. s ∷ []) word.1)
sorts_vector p index [] all h = absurd h
sorts_vector p index (s ∷ t ∷ ss) all h = absurd h.1

pub sorts_vectors : (p : ℕ) (index : IndexRule) (ss all : List Sort) → AllFit p index all (Vector ∷ Vector ∷ []) ss
    → (w v : ℕ) × (ss ≡ sort.Bits w ∷ sort.Bits v ∷ [])
sorts_vectors p index [] all h = absurd h
sorts_vectors p index (s ∷ ss) all h =
    let word = vector_sort s h.0 in
    let rest = sorts_vector p index ss all h.1 in
    (word.0, rest.0, ap (λ s. s ∷ ss) word.1 ∙ ap (λ ss. sort.Bits word.0 ∷ ss) rest.1)

pub sorts_same : (p : ℕ) (index : IndexRule) (ss : List Sort) → AllFit p index ss (Vector ∷ SameAs 0 ∷ []) ss
    → (w : ℕ) × (ss ≡ sort.Bits w ∷ sort.Bits w ∷ [])
sorts_same p index [] h = absurd h
sorts_same p index (s ∷ []) h = absurd h.1
sorts_same p index (s ∷ t ∷ []) h =
    let word = vector_sort s h.0 in
    let same = same_sort-true t s h.1.0 in
    (word.0, ap (λ t. s ∷ t ∷ []) same ∙ ap (λ s. s ∷ s ∷ []) word.1)
sorts_same p index (s ∷ t ∷ u ∷ ss) h = absurd h.1.1

pub sorts_equal : (p : ℕ) (index : IndexRule) (ss : List Sort) → AllFit p index ss (NoMemory ∷ SameAs 0 ∷ []) ss
    → (s : Sort) × (ss ≡ s ∷ s ∷ [])
sorts_equal p index [] h = absurd h
sorts_equal p index (s ∷ []) h = absurd h.1
sorts_equal p index (s ∷ t ∷ []) h = (s, ap (λ t. s ∷ t ∷ []) (same_sort-true t s h.1.0))
sorts_equal p index (s ∷ t ∷ u ∷ ss) h = absurd h.1.1

pub sorts_choice : (p : ℕ) (index : IndexRule) (ss : List Sort)
    → AllFit p index ss (Truth ∷ NoMemory ∷ SameAs 1 ∷ []) ss → (s : Sort) × (ss ≡ sort.Bool ∷ s ∷ s ∷ [])
sorts_choice p index [] h = absurd h
sorts_choice p index (r ∷ []) h = absurd h.1
sorts_choice p index (r ∷ s ∷ []) h = absurd h.1.1
sorts_choice p index (r ∷ s ∷ t ∷ []) h = (
  s,
  ap (λ r. r ∷ s ∷ t ∷ []) (same_sort-true r sort.Bool h.0)
      ∙ ap (λ t. sort.Bool ∷ s ∷ t ∷ []) (same_sort-true t s h.1.1.0),
)
sorts_choice p index (r ∷ s ∷ t ∷ u ∷ ss) h = absurd h.1.1.1

-- the first argument of an access is a memory
pub sorts_memory : (p : ℕ) (index : IndexRule) (ss all : List Sort) (slots : List Slot)
    → AllFit p index all (Memory ∷ slots) ss → (rest : List Sort) × (ss ≡ sort.Mem ∷ rest)
sorts_memory p index [] all slots h = absurd h
sorts_memory p index (s ∷ ss) all slots h = (ss, ap (λ s. s ∷ ss) (same_sort-true s sort.Mem h.0))

pub sorts_none : (p : ℕ) (index : IndexRule) (ss all : List Sort) → AllFit p index all [] ss → ss ≡ []
sorts_none p index [] all h = refl
sorts_none p index (s ∷ ss) all h = absurd h
