-- What a circuit keeps as it grows, and as more is asserted.
use Rattle.std.proofs.Common.{◌≡◌, ℕ, ◌+◌, ◌≤◌, ◌&&◌, Bool, true, List, [], ◌∷◌, ◌++◌, IsTrue, length}
use Rattle.std.proofs.Common.{refl, sym, ap, subst, ◌∙◌, arith, append_assoc, All, slice_get}
use Rattle.std.proofs.lemmas.List.{append-nil, length-append}
use Rattle.std.proofs.lemmas.List.Elements.{All-weaker}
use Rattle.std.proofs.Math.Bool.{and_assoc, and-true}
use Rattle.cnf_core.specs.Clause.{is_model}
use Rattle.circuit.specs.declared.gate.Gate.{Gate}
use Rattle.circuit.specs.declared.signal.Signal.{Signal}
use Rattle.circuit.specs.declared.signal.Signal.TheVariants.{Constant, Literal}
use Rattle.circuit.specs.Signal.{signal_true, IsSignalOver}
use Rattle.circuit.specs.Gate.{has_value, hold_from, hold, AreForward, Netlist, IsNetlist}
use Rattle.circuit.specs.Gate.{Grows, Asserts, IsSignalOf, IsVariableOf}
use Rattle.list_lemmas.proofs.Bools.{and_left as and-left}
use Rattle.list_lemmas.proofs.Lookups.{slice_get-left}

-- ---- more gates

pub hold_from-append : (v : ℕ → Bool) (n m : ℕ) (gs hs : List Gate) → n + length gs ≡ m →
    hold_from v n (gs ++ hs) ≡ (hold_from v n gs && hold_from v m hs)
hold_from-append v n m [] hs e = let same : n ≡ m = omega arith in ap (λ k. hold_from v k hs) same
hold_from-append v n m (g ∷ gs) hs e =
    ap (λ b. has_value v (v n) g && b) (hold_from-append v (n + 1) m gs hs (omega arith))
    ∙ sym (and_assoc (has_value v (v n) g) (hold_from v (n + 1) gs) (hold_from v m hs))

pub forward-append : (n m : ℕ) (gs hs : List Gate) → n + length gs ≡ m → AreForward n gs → AreForward m hs →
    AreForward n (gs ++ hs)
forward-append n m [] hs e first second =
    let same : m ≡ n = omega arith in subst (λ k. AreForward k hs) same second
forward-append n m (g ∷ gs) hs e first second =
    (first.0, forward-append (n + 1) m gs hs (omega arith) first.1 second)

-- where a circuit's gates have their values, so have those of the circuit that it grew from
pub hold-before : (v : ℕ → Bool) (gs hs : List Gate) → IsTrue (hold v (gs ++ hs)) → IsTrue (hold v gs)
hold-before v gs hs h =
    and-left (hold v gs) (hold_from v (0 + length gs) hs) (sym (hold_from-append v 0 (0 + length gs) gs hs refl) ∙ h)

-- ---- growth

pub grows-itself : {n : Netlist} → IsNetlist n → Grows n n
grows-itself {n} is =
    record {
      netlist = is;
      more_gates = [];
      gates = sym (append-nil n.gates);
      bits = refl;
      more_clauses = [];
      clauses = sym (append-nil n.formula.clauses);
      models = λ v. sym (and-true (is_model v n.formula.clauses));
    }

pub grows-then : {old mid new : Netlist} → Grows old mid → Grows mid new → Grows old new
grows-then {old} {mid} {new} first second =
    record {
      netlist = second.netlist;
      more_gates = first.more_gates ++ second.more_gates;
      gates =
          second.gates ∙ ap (λ gs. gs ++ second.more_gates) first.gates
          ∙ append_assoc old.gates first.more_gates second.more_gates;
      bits = second.bits ∙ first.bits;
      more_clauses = first.more_clauses ++ second.more_clauses;
      clauses =
          second.clauses ∙ ap (λ cs. cs ++ second.more_clauses) first.clauses
          ∙ append_assoc old.formula.clauses first.more_clauses second.more_clauses;
      models = both;
    }
  where
    lengths : length old.gates + length first.more_gates ≡ length mid.gates
    lengths = sym (ap length first.gates ∙ length-append old.gates first.more_gates)

    both : (v : ℕ → Bool) → is_model v new.formula.clauses
        ≡ (is_model v old.formula.clauses && hold_from v (length old.gates) (first.more_gates ++ second.more_gates))
    both v =
        second.models v
        ∙ ap (λ b. b && hold_from v (length mid.gates) second.more_gates) (first.models v)
        ∙ and_assoc (is_model v old.formula.clauses) (hold_from v (length old.gates) first.more_gates)
        (hold_from v (length mid.gates) second.more_gates)
        ∙ ap (λ b. is_model v old.formula.clauses && b)
        (sym (hold_from-append v (length old.gates) (length mid.gates) first.more_gates second.more_gates lengths))

pub grows-hold : {old new : Netlist} → Grows old new → (v : ℕ → Bool) → IsTrue (hold v new.gates) →
    IsTrue (hold v old.gates)
grows-hold {old} {new} growth v h =
    hold-before v old.gates growth.more_gates (sym (ap (hold v) growth.gates) ∙ h)

grows-length : {old new : Netlist} (growth : Grows old new) →
    length new.gates ≡ length old.gates + length growth.more_gates
grows-length {old} {new} growth = ap length growth.gates ∙ length-append old.gates growth.more_gates

-- the models of a circuit that grew are models of the circuit that it grew from
pub grows-model : {old new : Netlist} → Grows old new → (v : ℕ → Bool) → is_model v new.formula.clauses ≡ true →
    is_model v old.formula.clauses ≡ true
grows-model {old} {new} growth v h =
    and-left (is_model v old.formula.clauses) (hold_from v (length old.gates) growth.more_gates)
    (sym (growth.models v) ∙ h)

-- ---- signals

pub over-more : (m n : ℕ) (s : Signal) → m ≤ n → IsSignalOver m s → IsSignalOver n s
over-more m n (Constant value) le over = tt
over-more m n (Literal l) le over = omega (arith, over)

pub over-grows : {old new : Netlist} → Grows old new → (s : Signal) → IsSignalOver (length old.gates) s →
    IsSignalOver (length new.gates) s
over-grows {old} {new} growth s over =
    over-more (length old.gates) (length new.gates) s (omega (arith, grows-length growth)) over

pub all-over-grows : {old new : Netlist} → Grows old new → (signals : List Signal) →
    All (IsSignalOver (length old.gates)) signals → All (IsSignalOver (length new.gates)) signals
all-over-grows {old} {new} growth signals over =
    All-weaker (IsSignalOver (length old.gates)) (IsSignalOver (length new.gates)) (over-grows growth) signals over

pub signal-grows : {old new : Netlist} → Grows old new → (f : (ℕ → Bool) → Bool) (s : Signal) → IsSignalOf old f s →
    IsSignalOf new f s
signal-grows {old} {new} growth f s is =
    record {
      over = over-grows growth s is.over;
      value = λ v h. is.value v (grows-hold growth v h);
    }

pub variable-grows : {old new : Netlist} → Grows old new → (g : Gate) (s : Signal) → IsVariableOf old g s →
    IsVariableOf new g s
variable-grows {old} {new} growth g s is = (
  is.0,
  ap (λ gs. slice_get gs is.0) growth.gates ∙ slice_get-left old.gates growth.more_gates is.0 g is.1,
  is.2,
)

-- a signal of one function is one of another that has the same values
pub signal-as : {n : Netlist} (f g : (ℕ → Bool) → Bool) (s : Signal) →
    ((v : ℕ → Bool) → IsTrue (hold v n.gates) → f v ≡ g v) → IsSignalOf n f s → IsSignalOf n g s
signal-as {n} f g s same is = record { over = is.over; value = λ v h. is.value v h ∙ same v h }

-- a signal is one of its own truth value
pub signal-itself : {n : Netlist} (s : Signal) → IsSignalOver (length n.gates) s → IsSignalOf n (λ v. signal_true v s) s
signal-itself {n} s over = record { over = over; value = λ v h. refl }

-- ---- what is asserted

pub asserts-nothing : {n : Netlist} → IsNetlist n → Asserts n n (λ v. true)
asserts-nothing {n} is =
    record {
      netlist = is;
      gates = refl;
      more_clauses = [];
      clauses = sym (append-nil n.formula.clauses);
      models = λ v. sym (and-true (is_model v n.formula.clauses));
    }

pub asserts-as : {old new : Netlist} (s t : (ℕ → Bool) → Bool) → ((v : ℕ → Bool) → s v ≡ t v) → Asserts old new s →
    Asserts old new t
asserts-as {old} {new} s t same is =
    record {
      netlist = is.netlist;
      gates = is.gates;
      more_clauses = is.more_clauses;
      clauses = is.clauses;
      models = λ v. is.models v ∙ ap (λ b. is_model v old.formula.clauses && b) (same v);
    }

pub asserts-then : {old mid new : Netlist} (s t : (ℕ → Bool) → Bool) → Asserts old mid s → Asserts mid new t →
    Asserts old new (λ v. s v && t v)
asserts-then {old} {mid} {new} s t first second =
    record {
      netlist = second.netlist;
      gates = second.gates ∙ first.gates;
      more_clauses = first.more_clauses ++ second.more_clauses;
      clauses =
          second.clauses ∙ ap (λ cs. cs ++ second.more_clauses) first.clauses
          ∙ append_assoc old.formula.clauses first.more_clauses second.more_clauses;
      models =
          λ v. second.models v ∙ ap (λ b. b && t v) (first.models v)
          ∙ and_assoc (is_model v old.formula.clauses) (s v) (t v);
    }

pub asserts-hold : {old new : Netlist} (t : (ℕ → Bool) → Bool) → Asserts old new t → (v : ℕ → Bool) →
    IsTrue (hold v new.gates) → IsTrue (hold v old.gates)
asserts-hold {old} {new} t is v h = sym (ap (hold v) is.gates) ∙ h

pub over-asserts : {old new : Netlist} (t : (ℕ → Bool) → Bool) → Asserts old new t → (s : Signal) →
    IsSignalOver (length old.gates) s → IsSignalOver (length new.gates) s
over-asserts {old} {new} t is s over = subst (λ gs. IsSignalOver (length gs) s) (sym is.gates) over

pub signal-asserts : {old new : Netlist} (t : (ℕ → Bool) → Bool) → Asserts old new t → (f : (ℕ → Bool) → Bool)
    (s : Signal) → IsSignalOf old f s → IsSignalOf new f s
signal-asserts {old} {new} t asserts f s is =
    record {
      over = over-asserts t asserts s is.over;
      value = λ v h. is.value v (asserts-hold t asserts v h);
    }

pub variable-asserts : {old new : Netlist} (t : (ℕ → Bool) → Bool) → Asserts old new t → (g : Gate) (s : Signal) →
    IsVariableOf old g s → IsVariableOf new g s
variable-asserts {old} {new} t asserts g s is =
    (is.0, ap (λ gs. slice_get gs is.0) asserts.gates ∙ is.1, is.2)
