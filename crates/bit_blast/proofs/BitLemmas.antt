-- The listed bits of inputs, and the gates that they are.
use Rattle.std.proofs.Common.{◌≡◌, ℕ, zero, suc, ◌+◌, ◌<◌, Bool, List, [], ◌∷◌, ◌++◌, slice_get, Some, All}
use Rattle.std.proofs.Common.{Contains, refl, sym, ap, ◌∙◌, subst, arith, add-zero, inl, inr}
use Rattle.std.specs.List.{AllByRecursion}
use Rattle.std.proofs.lemmas.Option.{same_Some, slice_get_within}
use Rattle.std.proofs.lemmas.List.Elements.{All-from_recursion, All-contains, Contains-append_left}
use Rattle.bv_terms.specs.declared.value.Value.{Value}
use Rattle.circuit.specs.declared.gate.Gate.{Gate}
use Rattle.circuit.specs.declared.gate.Gate.TheVariants.{Input}
use Rattle.circuit.specs.Gate.{bits_from, Netlist, IsNetlist, IsRun}
use Rattle.bit_blast.specs.Bits.{bit_of, Agrees, IsListed}
use Rattle.list_lemmas.proofs.Lookups.{All-front, Contains-first, Contains-later}
use Rattle.list_lemmas.proofs.Lookups.{each_from_places}
use Rattle.list_lemmas.proofs.Members.{In, In-slice_get}
use Rattle.list_lemmas.proofs.Orders.{IsOrdered, once_in_order}

-- the number of an input, a bit of it, and its variable
abbrev pub Listed : Type 0
Listed = ℕ × ℕ × ℕ

-- the bit is that of a gate, where the first gate is that of variable n
abbrev IsGateBit : ℕ → List Gate → Listed → Type 0
IsGateBit n gs b = (j : ℕ) × (b.2 ≡ n + j) × (slice_get gs j ≡ Some (Input b.0 b.1))

later-bit : (n : ℕ) (g : Gate) (gs : List Gate) (b : Listed) → IsGateBit (n + 1) gs b → IsGateBit n (g ∷ gs) b
later-bit n g gs b at = (suc at.0, omega (arith, at.1), at.2)

gate-bit : (n : ℕ) (gs : List Gate) (b : Listed) → In (bits_from n gs) b → IsGateBit n gs b
gate-bit n [] b i = absurd i
gate-bit n (Input number place ∷ gs) b (inl e) = (
  0,
  let same : b.2 ≡ n + 0 = sym (ap (λ (c : Listed). c.2) e) ∙ sym (add-zero n) in same,
  ap (λ (c : Listed). Some (Input c.0 c.1)) e,
)
gate-bit n (Input number place ∷ gs) b (inr i) =
    later-bit n (Input number place) gs b (gate-bit (n + 1) gs b i)
gate-bit n (g ∷ gs) b i = later-bit n g gs b (gate-bit (n + 1) gs b i)

-- and each gate's bit is listed
bit-listed : (n : ℕ) (gs : List Gate) (j number place : ℕ) → slice_get gs j ≡ Some (Input number place)
    → Contains (bits_from n gs) (number, place, n + j)
bit-listed n [] j number place e = absurd (cc)
bit-listed n (Input m p ∷ gs) zero number place e =
    let same : Input m p ≡ Input number place = same_Some (Input m p) (Input number place) e in
    let first : m ≡ number = cc in
    let second : p ≡ place = cc in
    subst (λ (b : Listed). Contains ((m, p, n) ∷ bits_from (n + 1) gs) b)
    (ap (λ x. (x, p, n)) first ∙ ap (λ x. (number, x, n)) second ∙ ap (λ x. (number, place, x)) (sym (add-zero n)))
    (Contains-first (m, p, n) (bits_from (n + 1) gs))
bit-listed n (Input m p ∷ gs) (suc j) number place e =
    Contains-later (m, p, n) (number, place, n + suc j) (bits_from (n + 1) gs)
    (let next : n + 1 + j ≡ n + suc j = omega arith in
    subst (λ x. Contains (bits_from (n + 1) gs) (number, place, x)) next (bit-listed (n + 1) gs j number place e))
bit-listed n (g ∷ gs) zero number place e = absurd (cc)
bit-listed n (g ∷ gs) (suc j) number place e =
    let next : n + 1 + j ≡ n + suc j = omega arith in
    subst (λ x. Contains (bits_from (n + 1) gs) (number, place, x)) next (bit-listed (n + 1) gs j number place e)

pub gate-listed : (n : Netlist) → IsNetlist n → (k number place : ℕ) → slice_get n.gates k ≡ Some (Input number place)
    → Contains n.bits (number, place, k)
gate-listed n is k number place e =
    let none : 0 + k ≡ k = omega arith in
    subst (λ bits. Contains bits (number, place, k)) (sym is.bits)
    (subst (λ x. Contains (bits_from 0 n.gates) (number, place, x)) none (bit-listed 0 n.gates k number place e))

-- ---- variables rise

variables-rise : (n : ℕ) (gs : List Gate) → IsOrdered (λ (b c : Listed). b.2 < c.2) (bits_from n gs)
variables-rise n [] = tt
variables-rise n (Input number place ∷ gs) =
    (λ c i. let at = gate-bit (n + 1) gs c i in omega (arith, at.1), variables-rise (n + 1) gs)
variables-rise n (g ∷ gs) = variables-rise (n + 1) gs

-- no bit is listed twice
pub listed-once : (n : Netlist) → IsNetlist n → (i j number k x y : ℕ) → slice_get n.bits i ≡ Some (number, k, x)
    → slice_get n.bits j ≡ Some (number, k, y) → i ≡ j
listed-once n is i j number k x y first second =
    let at = listed-at n is i (number, k, x) first in
    let too = listed-at n is j (number, k, y) second in
    let one = is.distinct at.0 too.0 (Input number k) at.2 too.2 in
    let same : y ≡ x = omega (arith, at.1, too.1, one) in
    once_in_order (λ (b c : Listed). b.2 < c.2) (λ b less. omega (arith, less)) n.bits i j (number, k, x)
    (subst (IsOrdered (λ (b c : Listed). b.2 < c.2)) (sym is.bits) (variables-rise 0 n.gates)) first
    (second ∙ ap (λ z. Some (number, k, z)) same)
  where
    listed-at : (n : Netlist) → IsNetlist n → (i : ℕ) (b : Listed) → slice_get n.bits i ≡ Some b → IsGateBit 0 n.gates b
    listed-at n is i b e =
        gate-bit 0 n.gates b
        (In-slice_get (bits_from 0 n.gates) i b (ap (λ bs. slice_get bs i) (sym is.bits) ∙ e))

-- each variable of a listed bit is one of the circuit's
pub listed-variables : (n : Netlist) → IsNetlist n → All (λ (b : Listed). b.2 < n.formula.variables) n.bits
listed-variables n is = All-from_recursion (λ (b : Listed). b.2 < n.formula.variables) n.bits
    (each_from_places (λ (b : Listed). b.2 < n.formula.variables) n.bits (λ i b e.
    let at = gate-bit 0 n.gates b (In-slice_get (bits_from 0 n.gates) i b (ap (λ bs. slice_get bs i) (sym is.bits)
    ∙ e)) in
    let within = slice_get_within n.gates at.0 (Input b.0 b.1) at.2 in
    omega (arith, at.1, within, is.variables)))

-- ---- assignments that agree

-- an assignment that gives each input's bit its gate agrees on all bits
run-agrees : (v : ℕ → Bool) (bit : ℕ → ℕ → Bool) (n : ℕ) (gs : List Gate)
    → ((k number place : ℕ) → slice_get gs k ≡ Some (Input number place) → v (n + k) ≡ bit number place)
    → AllByRecursion (λ (b : Listed). v b.2 ≡ bit b.0 b.1) (bits_from n gs)
run-agrees v bit n [] has = tt
run-agrees v bit n (Input number place ∷ gs) has = (
  ap v (sym (add-zero n)) ∙ has 0 number place refl,
  run-agrees v bit (n + 1) gs (λ k m p e. next v n k ∙ has (suc k) m p e),
)
  where
    next : (v : ℕ → Bool) (n k : ℕ) → v (n + 1 + k) ≡ v (n + suc k)
    next v n k = let same : n + 1 + k ≡ n + suc k = omega arith in ap v same
run-agrees v bit n (g ∷ gs) has =
    run-agrees v bit (n + 1) gs (λ k m p e. (let same : n + 1 + k ≡ n + suc k = omega arith in ap v same)
    ∙ has (suc k) m p e)

pub IsRun-agrees : (n : Netlist) → IsNetlist n → (env : List Value) (v : ℕ → Bool) → IsRun n.gates (bit_of env) v
    → Agrees v n.bits env
IsRun-agrees n is env v run =
    subst (λ bits. All (λ (b : Listed). v b.2 ≡ bit_of env b.0 b.1) bits) (sym is.bits)
    (All-from_recursion (λ (b : Listed). v b.2 ≡ bit_of env b.0 b.1) (bits_from 0 n.gates)
    (run-agrees v (bit_of env) 0 n.gates (λ k number place e. (let none : 0 + k ≡ k = omega arith in ap v none)
    ∙ run.inputs k number place e)))

-- who agrees on more bits agrees on these
pub Agrees-front : (v : ℕ → Bool) (env : List Value) (old more new : List Listed) → new ≡ old ++ more → Agrees v new env
    → Agrees v old env
Agrees-front v env old more new e agrees =
    All-front (λ (b : Listed). v b.2 ≡ bit_of env b.0 b.1) old more
    (subst (λ bits. All (λ (b : Listed). v b.2 ≡ bit_of env b.0 b.1) bits) e agrees)

pub Listed-front : (old more new : List Listed) → new ≡ old ++ more → (number k : ℕ) → IsListed old number k
    → IsListed new number k
Listed-front old more new e number k at = (
  at.0,
  subst (λ bits. Contains bits (number, k, at.0)) (sym e) (Contains-append_left old more
      (number, k, at.0) at.1),
)

-- the gates of equal bits are the same variable, so the same value
pub listed-value : (v : ℕ → Bool) (env : List Value) (bits : List Listed) (number k x : ℕ) → Agrees v bits env
    → Contains bits (number, k, x) → v x ≡ bit_of env number k
listed-value v env bits number k x agrees at =
    All-contains (λ (b : Listed). v b.2 ≡ bit_of env b.0 b.1) bits (number, k, x) agrees at
