-- Where a memory comes from: an operation that gives one is an input, or its first argument is one.
use Rattle.std.proofs.Common.{◌≡◌, ℕ, zero, suc, Bool, true, false, List, [], ◌∷◌, Option, Some, None, ◌⊎◌, inl, inr}
use Rattle.std.proofs.Common.{slice_get, unwrap_or, refl, sym, ap, ◌∙◌, subst}
use Rattle.std.specs.Option.{option_map_or}
use Rattle.std.proofs.lemmas.Bool.{false≢true}
use Rattle.std.proofs.lemmas.Option.{same_Some}
use Rattle.bv_terms.specs.declared.op.Op.{Op}
use Rattle.bv_terms.specs.declared.op.Op.TheVariants as op
use Rattle.bv_terms.specs.declared.signature.Slot.{Slot}
use Rattle.bv_terms.specs.declared.signature.Slot.TheVariants.{Truth, Vector, NoMemory, SameAs, Memory, Pointer}
use Rattle.bv_terms.specs.declared.signature.Slot.TheVariants.{Accessed}
use Rattle.bv_terms.specs.declared.signature.IndexRule.{IndexRule}
use Rattle.bv_terms.specs.declared.signature.ResultRule.{ResultRule}
use Rattle.bv_terms.specs.declared.signature.ResultRule.TheVariants as result
use Rattle.bv_terms.specs.declared.value.Sort.{Sort}
use Rattle.bv_terms.specs.declared.value.Sort.TheVariants as sort
use Rattle.bv_terms.specs.Term.{Operands, Apply, End, Then}
use Rattle.bv_terms.specs.Signature.{signature, fits, result_sort}
use Rattle.bv_terms.specs.WellSorted.{sort_of, sorts_of}
use Rattle.bv_terms.proofs.SignatureLemmas.{IsFitting-of, AllFit, sorts_memory}
use Rattle.bv_terms.proofs.TermLemmas.{IsSorted-of, sorts_of-some}

-- ---- by slot and by rule

-- a slot in which no memory stands, whatever stands in the others
abbrev is_plain : Slot → Bool
is_plain Memory = false
is_plain (SameAs k) = false
is_plain _ = true

plain-refuses : (p : ℕ) (index : IndexRule) (all : List Sort) (slot : Slot) → is_plain slot ≡ true
    → fits p index all slot sort.Mem ≡ false
plain-refuses p index all Memory h = absurd (false≢true h)
plain-refuses p index all (SameAs k) h = absurd (false≢true h)
plain-refuses p index all Truth h = refl
plain-refuses p index all Vector h = refl
plain-refuses p index all NoMemory h = refl
plain-refuses p index all Pointer h = refl
plain-refuses p index all Accessed h = refl

is_plain_at : List Slot → ℕ → Bool
is_plain_at slots k = option_map_or is_plain (slice_get slots k) false

plain-at : (p : ℕ) (index : IndexRule) (all : List Sort) (slots : List Slot) (ss : List Sort) (k : ℕ)
    → AllFit p index all slots ss → is_plain_at slots k ≡ true → slice_get ss k ≡ Some sort.Mem → ⊥
unfolding is_plain_at
plain-at p index all [] ss k f h e = false≢true h
plain-at p index all (slot ∷ slots) [] k f h e = f
plain-at p index all (slot ∷ slots) (s ∷ ss) zero f h e =
    let fit = subst (λ s. fits p index all slot s ≡ true) (same_Some s sort.Mem e) f.0 in
    false≢true (sym (plain-refuses p index all slot h) ∙ fit)
plain-at p index all (slot ∷ slots) (s ∷ ss) (suc k) f h e = plain-at p index all slots ss k f.1 h e

begins_with_memory : List Slot → Bool
begins_with_memory (Memory ∷ slots) = true
begins_with_memory _ = false

-- the first argument is a memory
abbrev IsOverMemory : List Sort → Type 0
IsOverMemory ss = (rest : List Sort) × (ss ≡ sort.Mem ∷ rest)

over_memory : (p : ℕ) (index : IndexRule) (all : List Sort) (slots : List Slot) (ss : List Sort)
    → AllFit p index all slots ss → begins_with_memory slots ≡ true → IsOverMemory ss
unfolding begins_with_memory
over_memory p index all (Memory ∷ slots) ss f h = sorts_memory p index ss all slots f
over_memory p index all [] ss f h = absurd (false≢true h)
over_memory p index all (Truth ∷ slots) ss f h = absurd (false≢true h)
over_memory p index all (Vector ∷ slots) ss f h = absurd (false≢true h)
over_memory p index all (NoMemory ∷ slots) ss f h = absurd (false≢true h)
over_memory p index all (SameAs k ∷ slots) ss f h = absurd (false≢true h)
over_memory p index all (Pointer ∷ slots) ss f h = absurd (false≢true h)
over_memory p index all (Accessed ∷ slots) ss f h = absurd (false≢true h)

-- slots and a rule for the result that make a memory of a memory alone
keeps_memory : List Slot → ResultRule → Bool
keeps_memory slots (result.Is sort.Mem) = begins_with_memory slots
keeps_memory slots (result.SameAs k) = is_plain_at slots k
keeps_memory slots _ = true

sort_there : (ss : List Sort) (k : ℕ) → unwrap_or (slice_get ss k) sort.Bool ≡ sort.Mem
    → slice_get ss k ≡ Some sort.Mem
sort_there ss k h = by (slice_get ss k) h
  where
    by : (s : Option Sort) → unwrap_or s sort.Bool ≡ sort.Mem → s ≡ Some sort.Mem
    by None h = cc
    by (Some s) h = ap Some h

kept-memory : (p : ℕ) (index : IndexRule) (slots : List Slot) (rule : ResultRule) (ss : List Sort)
    → AllFit p index ss slots ss → keeps_memory slots rule ≡ true → result_sort rule ss ≡ sort.Mem → IsOverMemory ss
unfolding keeps_memory
kept-memory p index slots (result.Is sort.Bool) ss f keeps h = cc
kept-memory p index slots (result.Is (sort.Bits w)) ss f keeps h = cc
kept-memory p index slots (result.Is sort.Mem) ss f keeps h = over_memory p index ss slots ss f keeps
kept-memory p index slots (result.SameAs k) ss f keeps h =
    absurd (plain-at p index ss slots ss k f keeps (sort_there ss k h))
kept-memory p index slots result.Joined ss f keeps h = cc
kept-memory p index slots (result.Longer by) ss f keeps h = cc
kept-memory p index slots (result.Slice high low) ss f keeps h = cc
kept-memory p index slots (result.Bytes n) ss f keeps h = cc

-- ---- operations and terms

abbrev pub IsMemoryInput : Op → Type 0
IsMemoryInput o = (k : ℕ) × (o ≡ op.Input k sort.Mem)

-- an input is a memory, or the operation makes a memory of a memory alone
memory_rule : (o : Op) → IsMemoryInput o ⊎ (keeps_memory (signature o).slots (signature o).result ≡ true)
unfolding keeps_memory begins_with_memory is_plain_at
memory_rule (op.Input k sort.Bool) = inr refl
memory_rule (op.Input k (sort.Bits w)) = inr refl
memory_rule (op.Input k sort.Mem) = inl (k, refl)
memory_rule o = inr refl

-- the first operand is a memory
abbrev pub AreOverMemory : ℕ → Operands → Type 0
AreOverMemory p End = ⊥
AreOverMemory p (Then t ts) = sort_of p t ≡ Some sort.Mem

are_over_memory : (p : ℕ) (ts : Operands) (rest : List Sort) → sorts_of p ts ≡ Some (sort.Mem ∷ rest)
    → AreOverMemory p ts
unfolding sort_of
are_over_memory p End rest h = cc
are_over_memory p (Then t ts) rest h =
    let parts = sorts_of-some p t ts (sort.Mem ∷ rest) h in
    let same : parts.0 ≡ sort.Mem = let e = parts.2 in cc in
    parts.3 ∙ ap Some same

-- a term that is a memory is an input, or its first operand is a memory
pub memory_from : (p : ℕ) (o : Op) (ts : Operands) → sort_of p (Apply o ts) ≡ Some sort.Mem
    → IsMemoryInput o ⊎ AreOverMemory p ts
memory_from p o ts h =
    let sorted = IsSorted-of p o ts sort.Mem h in
    let fitting = IsFitting-of p o sorted.sorts sorted.fits in
    elim (memory_rule o) [
      | inl input ↦ inl input
      | inr keeps ↦ (let over =
          kept-memory p (signature o).index (signature o).slots (signature o).result sorted.sorts fitting.fit keeps
          sorted.result in
          inr (are_over_memory p ts over.0 (sorted.of_args ∙ ap Some over.1)))
    ]
