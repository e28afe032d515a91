-- The runs of a circuit: for each choice of the inputs' bits there is one, and no two differ on its variables.
use Rattle.std.proofs.Common.{◌≡◌, ℕ, zero, suc, ◌+◌, ◌<◌, ◌==◌, ◌&&◌, Bool, true, false, not, cond, if◌then◌else◌}
use Rattle.std.proofs.Common.{List, [], ◌∷◌, Some, length, slice_get, refl, sym, ap, ◌∙◌, arith}
use Rattle.std.proofs.Common.{below_more, add-zero}
use Rattle.std.specs.Bool.{beq}
use Rattle.std.specs.Cmp.{booleans_Decides}
use Rattle.std.proofs.lemmas.Bool.{eq-eqb, ne_eqb}
use Rattle.std.proofs.lemmas.Option.{same_Some}
use Rattle.cnf_core.specs.declared.clause.Lit.{Lit}
use Rattle.cnf_core.specs.Clause.{lit_true}
use Rattle.circuit.specs.declared.gate.Gate.{Gate}
use Rattle.circuit.specs.declared.gate.Gate.TheVariants.{Input, And, Xor, Choice, Majority, Parity}
use Rattle.circuit.specs.Gate.{xor, majority, parity, has_value, hold_from, IsGateOver, AreForward, IsRun}
use Rattle.list_lemmas.proofs.Bools.{and-both, and_left as and-left, and_right as and-right}

-- ---- the value of a gate

-- what a gate's value is where earlier variables have these values, and the inputs these bits
abbrev pub gate_value : (ℕ → Bool) → (ℕ → ℕ → Bool) → Gate → Bool
gate_value v bit (Input number place) = bit number place
gate_value v bit (And a b) = lit_true v a && lit_true v b
gate_value v bit (Xor a b) = xor (lit_true v a) (lit_true v b)
gate_value v bit (Choice a b c) = if lit_true v a then lit_true v b else lit_true v c
gate_value v bit (Majority a b c) = majority (lit_true v a) (lit_true v b) (lit_true v c)
gate_value v bit (Parity a b c) = parity (lit_true v a) (lit_true v b) (lit_true v c)

-- two assignments are the same below a variable
abbrev pub Agree : (ℕ → Bool) → (ℕ → Bool) → ℕ → Type 0
Agree u v n = (k : ℕ) → k < n → u k ≡ v k

lit-agrees : (u v : ℕ → Bool) (n : ℕ) (l : Lit) → Agree u v n → l.variable < n → lit_true u l ≡ lit_true v l
lit-agrees u v n l agree over = ap (λ x. if l.positive then x else not x) (agree l.variable over)

two : (f : Bool → Bool → Bool) (u v : ℕ → Bool) (n : ℕ) (a b : Lit) → Agree u v n →
    a.variable < n → b.variable < n → f (lit_true u a) (lit_true u b) ≡ f (lit_true v a) (lit_true v b)
two f u v n a b agree p q =
    ap (λ x. f x (lit_true u b)) (lit-agrees u v n a agree p) ∙ ap (f (lit_true v a)) (lit-agrees u v n b agree q)

three : (f : Bool → Bool → Bool → Bool) (u v : ℕ → Bool) (n : ℕ) (a b c : Lit) → Agree u v n →
    a.variable < n → b.variable < n → c.variable < n →
    f (lit_true u a) (lit_true u b) (lit_true u c) ≡ f (lit_true v a) (lit_true v b) (lit_true v c)
three f u v n a b c agree p q r =
    ap (λ x. f x (lit_true u b) (lit_true u c)) (lit-agrees u v n a agree p)
    ∙ two (f (lit_true v a)) u v n b c agree q r

-- it is by the values of earlier variables alone
pub value-agrees : (u v : ℕ → Bool) (bit : ℕ → ℕ → Bool) (n : ℕ) (g : Gate) → Agree u v n → IsGateOver n g →
    gate_value u bit g ≡ gate_value v bit g
value-agrees u v bit n (Input number place) agree over = refl
value-agrees u v bit n (And a b) agree over = two (λ x y. x && y) u v n a b agree over.0 over.1
value-agrees u v bit n (Xor a b) agree over = two xor u v n a b agree over.0 over.1
value-agrees u v bit n (Choice a b c) agree over =
    three (λ x y z. if x then y else z) u v n a b c agree over.0 over.1 over.2
value-agrees u v bit n (Majority a b c) agree over = three majority u v n a b c agree over.0 over.1 over.2
value-agrees u v bit n (Parity a b c) agree over = three parity u v n a b c agree over.0 over.1 over.2

from-test : (x y : Bool) → beq x y ≡ true → x ≡ y
from-test x y h = (booleans_Decides x y).0 h

to-test : (x y : Bool) → x ≡ y → beq x y ≡ true
to-test x y h = (booleans_Decides x y).1 h

pub value-from : (v : ℕ → Bool) (bit : ℕ → ℕ → Bool) (x : Bool) (g : Gate) → has_value v x g ≡ true →
    ((number place : ℕ) → g ≡ Input number place → x ≡ bit number place) → x ≡ gate_value v bit g
value-from v bit x (Input number place) h given = given number place refl
value-from v bit x (And a b) h given = from-test x _ h
value-from v bit x (Xor a b) h given = from-test x _ h
value-from v bit x (Choice a b c) h given = from-test x _ h
value-from v bit x (Majority a b c) h given = from-test x _ h
value-from v bit x (Parity a b c) h given = from-test x _ h

value-holds : (v : ℕ → Bool) (bit : ℕ → ℕ → Bool) (x : Bool) (g : Gate) → x ≡ gate_value v bit g →
    has_value v x g ≡ true
value-holds v bit x (Input number place) h = refl
value-holds v bit x (And a b) h = to-test x _ h
value-holds v bit x (Xor a b) h = to-test x _ h
value-holds v bit x (Choice a b c) h = to-test x _ h
value-holds v bit x (Majority a b c) h = to-test x _ h
value-holds v bit x (Parity a b c) h = to-test x _ h

-- ---- runs, gate by gate

-- each variable has the value of its gate, where the first is that of variable n
abbrev pub RunsFrom : (ℕ → Bool) → (ℕ → ℕ → Bool) → ℕ → List Gate → Type 0
RunsFrom v bit n [] = Unit {0}
RunsFrom v bit n (g ∷ gs) = (v n ≡ gate_value v bit g) × RunsFrom v bit (n + 1) gs

abbrev HasBits : (ℕ → Bool) → (ℕ → ℕ → Bool) → ℕ → List Gate → Type 0
HasBits v bit n gs = (k number place : ℕ) → slice_get gs k ≡ Some (Input number place) → v (n + k) ≡ bit number place

next-place : (v : ℕ → Bool) (n k : ℕ) → v (n + suc k) ≡ v ((n + 1) + k)
next-place v n k = let e : n + suc k ≡ (n + 1) + k = omega arith in ap v e

runs-from : (v : ℕ → Bool) (bit : ℕ → ℕ → Bool) (n : ℕ) (gs : List Gate) → hold_from v n gs ≡ true →
    HasBits v bit n gs → RunsFrom v bit n gs
runs-from v bit n [] h given = tt
runs-from v bit n (g ∷ gs) h given = (
  value-from v bit (v n) g (and-left (has_value v (v n) g) (hold_from v (n + 1) gs) h)
      (λ number place e. ap v (sym (add-zero n)) ∙ given 0 number place (ap Some e)),
  runs-from v bit (n + 1) gs (and-right (has_value v (v n) g) (hold_from v (n + 1) gs) h)
      (λ k number place e. sym (next-place v n k) ∙ given (suc k) number place e),
)

runs-hold : (v : ℕ → Bool) (bit : ℕ → ℕ → Bool) (n : ℕ) (gs : List Gate) → RunsFrom v bit n gs →
    hold_from v n gs ≡ true
runs-hold v bit n [] runs = refl
runs-hold v bit n (g ∷ gs) runs =
    and-both (has_value v (v n) g) (hold_from v (n + 1) gs) (value-holds v bit (v n) g runs.0)
    (runs-hold v bit (n + 1) gs runs.1)

runs-bits : (v : ℕ → Bool) (bit : ℕ → ℕ → Bool) (n : ℕ) (gs : List Gate) → RunsFrom v bit n gs → HasBits v bit n gs
runs-bits v bit n [] runs k number place e = absurd (cc)
runs-bits v bit n (g ∷ gs) runs zero number place e =
    ap v (add-zero n) ∙ runs.0 ∙ ap (gate_value v bit) (same_Some g (Input number place) e)
runs-bits v bit n (g ∷ gs) runs (suc k) number place e =
    next-place v n k ∙ runs-bits v bit (n + 1) gs runs.1 k number place e

-- ---- no two runs differ

runs-agree : (u v : ℕ → Bool) (bit : ℕ → ℕ → Bool) (n : ℕ) (gs : List Gate) → AreForward n gs →
    RunsFrom u bit n gs → RunsFrom v bit n gs → Agree u v n → Agree u v (n + length gs)
runs-agree u v bit n [] forward first second agree k lt = agree k (omega arith)
runs-agree u v bit n (g ∷ gs) forward first second agree k lt =
    let here : u n ≡ v n = first.0 ∙ value-agrees u v bit n g agree forward.0 ∙ sym second.0 in
    runs-agree u v bit (n + 1) gs forward.1 first.1 second.1 (below_more (λ j. u j ≡ v j) n agree here) k (omega arith)

pub one-run : (gates : List Gate) → AreForward 0 gates → (bit : ℕ → ℕ → Bool) (u v : ℕ → Bool) →
    IsRun gates bit u → IsRun gates bit v → (k : ℕ) → k < length gates → u k ≡ v k
one-run gates forward bit u v first second k lt =
    runs-agree u v bit 0 gates forward (of_run u first) (of_run v second) (λ j none. absurd (omega arith)) k
    (omega arith)
  where
    of_run : (w : ℕ → Bool) → IsRun gates bit w → RunsFrom w bit 0 gates
    of_run w run =
        runs-from w bit 0 gates run.hold
        (λ j number place e. ap w (let z : 0 + j ≡ j = omega arith in z) ∙ run.inputs j number place e)

-- ---- a run

-- an assignment with another value at one variable
with_value : (ℕ → Bool) → ℕ → Bool → ℕ → Bool
with_value v n b k = cond (k == n) b (v k)

with_value-same : (v : ℕ → Bool) (n : ℕ) (b : Bool) → with_value v n b n ≡ b
unfolding with_value
with_value-same v n b = ap (λ test. cond test b (v n)) (eq-eqb n n refl)

with_value-other : (v : ℕ → Bool) (n : ℕ) (b : Bool) (k : ℕ) → k < n → with_value v n b k ≡ v k
unfolding with_value
with_value-other v n b k lt = ap (λ test. cond test b (v k)) (ne_eqb k n (λ e. omega (arith, e)))

-- the values of gates, one after the other, over those of earlier variables
run_from : (ℕ → ℕ → Bool) → ℕ → (ℕ → Bool) → List Gate → ℕ → Bool
run_from bit n v [] = v
run_from bit n v (g ∷ gs) = run_from bit (n + 1) (with_value v n (gate_value v bit g)) gs

run_from-before : (bit : ℕ → ℕ → Bool) (n : ℕ) (v : ℕ → Bool) (gs : List Gate) → Agree (run_from bit n v gs) v n
unfolding run_from
run_from-before bit n v [] k lt = refl
run_from-before bit n v (g ∷ gs) k lt =
    run_from-before bit (n + 1) (with_value v n (gate_value v bit g)) gs k (omega arith)
    ∙ with_value-other v n (gate_value v bit g) k lt

run_from-here : (bit : ℕ → ℕ → Bool) (n : ℕ) (v : ℕ → Bool) (g : Gate) (gs : List Gate) →
    run_from bit n v (g ∷ gs) n ≡ gate_value v bit g
unfolding run_from
run_from-here bit n v g gs =
    run_from-before bit (n + 1) (with_value v n (gate_value v bit g)) gs n (omega arith)
    ∙ with_value-same v n (gate_value v bit g)

run_from-runs : (bit : ℕ → ℕ → Bool) (n : ℕ) (v : ℕ → Bool) (gs : List Gate) → AreForward n gs →
    RunsFrom (run_from bit n v gs) bit n gs
unfolding run_from
run_from-runs bit n v [] forward = tt
run_from-runs bit n v (g ∷ gs) forward = (
  run_from-here bit n v g gs
      ∙ value-agrees v (run_from bit n v (g ∷ gs)) bit n g (λ k lt. sym (run_from-before bit n v (g ∷ gs) k lt))
      forward.0,
  run_from-runs bit (n + 1) (with_value v n (gate_value v bit g)) gs forward.1,
)

pub some-run : (gates : List Gate) → AreForward 0 gates → (bit : ℕ → ℕ → Bool) → (v : ℕ → Bool) × IsRun gates bit v
some-run gates forward bit =
    let v = run_from bit 0 (λ (k : ℕ). false) gates in
    let runs = run_from-runs bit 0 (λ (k : ℕ). false) gates forward in (
      v,
      record {
        hold = runs-hold v bit 0 gates runs;
        inputs =
            λ k number place e.
            ap v (let z : k ≡ 0 + k = omega arith in z) ∙ runs-bits v bit 0 gates runs k number place e;
      },
    )
