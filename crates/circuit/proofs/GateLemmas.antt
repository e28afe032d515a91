-- A circuit with one gate more.
use Rattle.std.proofs.Common.{◌≡◌, ℕ, ◌+◌, ◌<◌, ◌&&◌, Bool, true, List, [], ◌∷◌, ◌++◌, Some, IsTrue, length, slice_get}
use Rattle.std.proofs.Common.{refl, sym, ap, subst, ◌∙◌, arith, ◌⊎◌, inl, inr, false, not, if◌then◌else◌, rules, tests}
use Rattle.std.specs.List.{list_any}
use Rattle.std.specs.Cmp.{IsEquivalence}
use Rattle.std.proofs.lemmas.Bool.{false≢true}
use Rattle.std.proofs.lemmas.List.{length_push}
use Rattle.std.proofs.lemmas.List.Folds.{list_all-append}
use Rattle.std.proofs.Math.Bool.{and-true}
use Rattle.cnf_core.specs.declared.clause.Clause.{Clause}
use Rattle.cnf_core.specs.Clause.{clause_true, is_model}
use Rattle.circuit.specs.declared.gate.Gate.{Gate}
use Rattle.circuit.specs.contracts.gate.GatePartialEq.TheImpl as equality
use Rattle.circuit.specs.contracts.gate.GateEq.TheImpl.Laws as laws
use Rattle.circuit.specs.declared.gate.Gate.TheVariants.{Input, And, Xor, Choice, Majority, Parity}
use Rattle.circuit.specs.Gate.{has_value, hold_from, hold, IsGateOver, AreForward, bits_from, Netlist, IsNetlist, Grows}
use Rattle.circuit.specs.Gate.{Lists}
use Rattle.cnf_core.specs.Formula.{Formula}
use Rattle.std.proofs.lemmas.List.{append-nil}
use Rattle.circuit.specs.Added.{AddsGate, IsFunction}
use Rattle.circuit.proofs.GrowthLemmas.{hold_from-append, forward-append, grows-itself}
use Rattle.list_lemmas.proofs.Bools.{and-both, and_left as and-left, and_right as and-right}
use Rattle.list_lemmas.proofs.Lookups.{push_cases, Contains-from_slice_get, slice_get-at_end}
use Rattle.std.proofs.lemmas.Map.Views.{list_any-from_Contains}

bits-append : (n m : ℕ) (gs hs : List Gate) → n + length gs ≡ m →
    bits_from n (gs ++ hs) ≡ bits_from n gs ++ bits_from m hs
bits-append n m [] hs e = let same : n ≡ m = omega arith in ap (λ k. bits_from k hs) same
bits-append n m (Input number bit ∷ gs) hs e =
    ap (λ bs. (number, bit, n) ∷ bs) (bits-append (n + 1) m gs hs (omega arith))
bits-append n m (And a b ∷ gs) hs e = bits-append (n + 1) m gs hs (omega arith)
bits-append n m (Xor a b ∷ gs) hs e = bits-append (n + 1) m gs hs (omega arith)
bits-append n m (Choice a b c ∷ gs) hs e = bits-append (n + 1) m gs hs (omega arith)
bits-append n m (Majority a b c ∷ gs) hs e = bits-append (n + 1) m gs hs (omega arith)
bits-append n m (Parity a b c ∷ gs) hs e = bits-append (n + 1) m gs hs (omega arith)

distinct-push : (gs : List Gate) (g : Gate) →
    ((j k : ℕ) (h : Gate) → slice_get gs j ≡ Some h → slice_get gs k ≡ Some h → j ≡ k) →
    ((k : ℕ) → slice_get gs k ≡ Some g → ⊥) →
    (j k : ℕ) (h : Gate) → slice_get (gs ++ g ∷ []) j ≡ Some h → slice_get (gs ++ g ∷ []) k ≡ Some h → j ≡ k
distinct-push gs g distinct absent j k h first second = by (push_cases gs g j h first) (push_cases gs g k h second)
  where
    by : ((j < length gs) × (slice_get gs j ≡ Some h)) ⊎ ((j ≡ length gs) × (g ≡ h)) →
        ((k < length gs) × (slice_get gs k ≡ Some h)) ⊎ ((k ≡ length gs) × (g ≡ h)) → j ≡ k
    by (inl p) (inl q) = distinct j k h p.1 q.1
    by (inl p) (inr q) = absurd (absent j (p.1 ∙ ap Some (sym q.1)))
    by (inr p) (inl q) = absurd (absent k (q.1 ∙ ap Some (sym p.1)))
    by (inr p) (inr q) = p.0 ∙ sym q.0

module _ (old new : Netlist) (g : Gate) (is : IsNetlist old) (gates : new.gates ≡ old.gates ++ g ∷ [])
    (added : AddsGate old.formula new.formula g) where
  gate-models : (v : ℕ → Bool) → is_model v new.formula.clauses
      ≡ (is_model v old.formula.clauses && hold_from v (length old.gates) (g ∷ []))
  gate-models v =
      ap (is_model v) added.clauses
      ∙ list_all-append (λ (c : Clause). clause_true v c.lits) old.formula.clauses added.more_clauses
      ∙ ap (λ b. is_model v old.formula.clauses && b) (added.models v
      ∙ ap (λ n. has_value v (v n) g) is.variables
      ∙ sym (and-true (has_value v (v (length old.gates)) g)))

  gate-hold : (v : ℕ → Bool) → IsTrue (is_model v new.formula.clauses) → IsTrue (hold v new.gates)
  gate-hold v h =
      let both = sym (gate-models v) ∙ h in
      ap (hold v) gates ∙ hold_from-append v 0 (length old.gates) old.gates (g ∷ []) (omega arith)
      ∙ and-both (hold v old.gates) (hold_from v (length old.gates) (g ∷ []))
      (is.models v (and-left (is_model v old.formula.clauses) (hold_from v (length old.gates) (g ∷ [])) both))
      (and-right (is_model v old.formula.clauses) (hold_from v (length old.gates) (g ∷ [])) both)

-- what the circuit keeps
netlist-gate : (old new : Netlist) (g : Gate) → IsNetlist old → IsGateOver (length old.gates) g →
    ((k : ℕ) → slice_get old.gates k ≡ Some g → ⊥) → new.gates ≡ old.gates ++ g ∷ [] →
    AddsGate old.formula new.formula g → new.bits ≡ old.bits ++ bits_from (length old.gates) (g ∷ []) → IsNetlist new
netlist-gate old new g is over absent gates added bits =
    record {
      variables =
          added.variables ∙ ap (λ n. n + 1) is.variables ∙ sym (length_push old.gates g) ∙ ap length (sym gates);
      forward =
          subst (AreForward 0) (sym gates)
          (forward-append 0 (length old.gates) old.gates (g ∷ []) (omega arith) is.forward (over, tt));
      distinct =
          subst
          (λ gs. (j k : ℕ) (h : Gate) → slice_get gs j ≡ Some h → slice_get gs k ≡ Some h → j ≡ k)
          (sym gates) (distinct-push old.gates g is.distinct absent);
      models = gate-hold old new g is gates added;
      bits =
          bits ∙ ap (λ bs. bs ++ bits_from (length old.gates) (g ∷ [])) is.bits
          ∙ sym (bits-append 0 (length old.gates) old.gates (g ∷ []) (omega arith))
          ∙ ap (bits_from 0) (sym gates);
    }

-- a function's gate lists no bit
no-bit : (n : ℕ) (g : Gate) → IsFunction g → bits_from n (g ∷ []) ≡ []
no-bit n (Input number bit) function = absurd function
no-bit n (And a b) function = refl
no-bit n (Xor a b) function = refl
no-bit n (Choice a b c) function = refl
no-bit n (Majority a b c) function = refl
no-bit n (Parity a b c) function = refl

grows-gate : (old new : Netlist) (g : Gate) → IsNetlist old → IsFunction g → IsGateOver (length old.gates) g →
    ((k : ℕ) → slice_get old.gates k ≡ Some g → ⊥) → new.gates ≡ old.gates ++ g ∷ [] →
    AddsGate old.formula new.formula g → new.bits ≡ old.bits → Grows old new
grows-gate old new g is function over absent gates added bits =
    record {
      netlist =
          netlist-gate old new g is over absent gates added
          (bits ∙ sym (append-nil old.bits)
          ∙ ap (λ bs. old.bits ++ bs) (sym (no-bit (length old.gates) g function)));
      more_gates = g ∷ [];
      gates = gates;
      bits = bits;
      more_clauses = added.more_clauses;
      clauses = added.clauses;
      models = gate-models old new g is gates added;
    }

lists-gate : (old new : Netlist) (number bit : ℕ) → IsNetlist old →
    ((k : ℕ) → slice_get old.gates k ≡ Some (Input number bit) → ⊥) → new.gates ≡ old.gates ++ Input number bit ∷ [] →
    AddsGate old.formula new.formula (Input number bit) → new.formula.clauses ≡ old.formula.clauses →
    new.bits ≡ old.bits ++ (number, bit, length old.gates) ∷ [] → Lists number bit old new
lists-gate old new number bit is absent gates added clauses bits =
    record {
      netlist = netlist-gate old new (Input number bit) is tt absent gates added bits;
      gates = inr gates;
      clauses = clauses;
    }

same-clauses : (old new : Formula) (number bit : ℕ) →
    IsFunction (Input number bit) ⊎ (new.clauses ≡ old.clauses) → new.clauses ≡ old.clauses
same-clauses old new number bit (inl function) = absurd function
same-clauses old new number bit (inr same) = same

-- ---- the set of gates

abbrev pub gate_eq : Gate → Gate → Bool
gate_eq = equality.eq-value.it

pub gate_eq-sound : (g h : Gate) → gate_eq g h ≡ true → g ≡ h
gate_eq-sound g h e = search (rules, tests)

gate_eq-laws : IsEquivalence gate_eq
gate_eq-laws = laws.laws-law

-- the gates with one more, where it is not there
abbrev pub inserted : List Gate → Gate → List Gate
inserted gs g = if list_any (gate_eq g) gs then gs else gs ++ g ∷ []

absent-gate : (gs : List Gate) (g : Gate) → list_any (gate_eq g) gs ≡ false → (k : ℕ) → slice_get gs k ≡ Some g → ⊥
absent-gate gs g none k at =
    false≢true (sym none ∙ list_any-from_Contains gate_eq-laws g gs (Contains-from_slice_get gs k g at))

-- ---- a gate that was found, and one that was added

same-netlist : (mid new : Netlist) (g : Gate) → new.gates ≡ inserted mid.gates g →
    list_any (gate_eq g) mid.gates ≡ true → new.formula ≡ mid.formula → new.bits ≡ mid.bits → mid ≡ new
same-netlist mid new g gates there formula bits =
    let found : inserted mid.gates g ≡ mid.gates = ap (λ b. if b then mid.gates else mid.gates ++ g ∷ []) there in
    λ i. record { formula = sym formula i; gates = sym (gates ∙ found) i; bits = sym bits i }

pub grows-found : (mid old new : Netlist) (g : Gate) → mid ≡ old → IsNetlist old → new.gates ≡ inserted mid.gates g →
    list_any (gate_eq g) mid.gates ≡ true → new.formula ≡ mid.formula → new.bits ≡ mid.bits → Grows old new
grows-found mid old new g view is gates there formula bits =
    subst (Grows old) (sym view ∙ same-netlist mid new g gates there formula bits) (grows-itself is)

pub lists-found : (mid old new : Netlist) (number bit : ℕ) → mid ≡ old → IsNetlist old →
    new.gates ≡ inserted mid.gates (Input number bit) → list_any (gate_eq (Input number bit)) mid.gates ≡ true →
    new.formula ≡ mid.formula → new.bits ≡ mid.bits → Lists number bit old new
lists-found mid old new number bit view is gates there formula bits =
    subst (Lists number bit old) (sym view ∙ same-netlist mid new (Input number bit) gates there formula bits)
    (record { netlist = is; gates = inl refl; clauses = refl })

appended : (gs : List Gate) (g : Gate) (new : List Gate) → new ≡ inserted gs g → list_any (gate_eq g) gs ≡ false →
    new ≡ gs ++ g ∷ []
appended gs g new e none = e ∙ ap (λ b. if b then gs else gs ++ g ∷ []) none

pub grows-added : (mid old new : Netlist) (g : Gate) → mid ≡ old → IsNetlist old → IsFunction g →
    IsGateOver (length old.gates) g → new.gates ≡ inserted mid.gates g → list_any (gate_eq g) mid.gates ≡ false →
    AddsGate mid.formula new.formula g → new.bits ≡ mid.bits → Grows old new
grows-added mid old new g view is function over gates none added bits =
    subst (λ o. Grows o new) view
    (grows-gate mid new g (subst IsNetlist (sym view) is) function
    (subst (λ o. IsGateOver (length o.gates) g) (sym view) over) (absent-gate mid.gates g none)
    (appended mid.gates g new.gates gates none) added bits)

pub lists-added : (mid old new : Netlist) (number bit : ℕ) → mid ≡ old → IsNetlist old →
    new.gates ≡ inserted mid.gates (Input number bit) → list_any (gate_eq (Input number bit)) mid.gates ≡ false →
    AddsGate mid.formula new.formula (Input number bit) →
    IsFunction (Input number bit) ⊎ (new.formula.clauses ≡ mid.formula.clauses) →
    new.bits ≡ mid.bits ++ (number, bit, mid.formula.variables) ∷ [] → Lists number bit old new
lists-added mid old new number bit view is gates none added clauses bits =
    let there = subst IsNetlist (sym view) is in
    subst (λ o. Lists number bit o new) view
    (lists-gate mid new number bit there (absent-gate mid.gates (Input number bit) none)
    (appended mid.gates (Input number bit) new.gates gates none) added
    (same-clauses mid.formula new.formula number bit clauses)
    (bits ∙ ap (λ n. mid.bits ++ (number, bit, n) ∷ []) there.variables))

-- the variable of the gate that was added
pub stands-added : (mid old : Netlist) (new : List Gate) (g : Gate) (k : ℕ) → mid ≡ old → IsNetlist old →
    new ≡ inserted mid.gates g → list_any (gate_eq g) mid.gates ≡ false → k ≡ mid.formula.variables →
    slice_get new k ≡ Some g
stands-added mid old new g k view is gates none at =
    ap (λ gs. slice_get gs k) (appended mid.gates g new gates none)
    ∙ slice_get-at_end mid.gates g [] k (at ∙ (subst IsNetlist (sym view) is).variables)

pub was-found : (found added : Bool) → added ≡ not found → added ≡ false → found ≡ true
was-found true added e h = refl
was-found false added e h = absurd (false≢true (sym h ∙ e))

pub was-missing : (found added : Bool) → added ≡ not found → added ≡ true → found ≡ false
was-missing true added e h = sym h ∙ e
was-missing false added e h = refl
