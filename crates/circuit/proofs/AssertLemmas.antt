-- A circuit in which one clause more is asserted.
use Rattle.std.proofs.Common.{◌≡◌, ℕ, ◌≤◌, ◌&&◌, ◌||◌, Bool, List, length, drop, IsTrue, sym, ap, ◌∙◌, subst, Some}
use Rattle.std.proofs.Common.{slice_get, ◌+◌, ◌<◌, get_or, [], ◌∷◌, ◌++◌, All, false}
use Rattle.std.proofs.lemmas.List.Elements.{All-push, All-get_or}
use Rattle.std.specs.List.{list_any}
use Rattle.std.proofs.lemmas.List.{at_drop_all, at_drop_more}
use Rattle.std.proofs.lemmas.List.Folds.{list_all-append, list_any-append}
use Rattle.std.proofs.Math.Bool.{or-false, or_assoc}
use Rattle.cnf_core.specs.declared.clause.Clause.{Clause}
use Rattle.cnf_core.specs.declared.clause.Lit.{Lit}
use Rattle.cnf_core.specs.Clause.{clause_true, is_model, lit_true, IsOver}
use Rattle.circuit.specs.declared.signal.Signal.{Signal}
use Rattle.circuit.specs.declared.signal.Signal.TheVariants.{Constant, Literal}
use Rattle.circuit.specs.Signal.{signal_true, IsSignalOver}
use Rattle.circuit.specs.Gate.{hold, AreForward, bits_from, Netlist, IsNetlist, Asserts}
use Rattle.circuit.specs.declared.gate.Gate.{Gate}
use Rattle.circuit.specs.Added.{Adds}
use Rattle.list_lemmas.proofs.Bools.{and_left as and-left}

-- the tests of a list are those that are done where none is left
pub any-done : {X : Type 0} (p : X → Bool) (xs : List X) (i : ℕ) (done all : Bool) → length xs ≤ i →
    (done || list_any p (drop i xs)) ≡ all → done ≡ all
any-done p xs i done all past h =
    sym (or-false done) ∙ ap (λ b. done || b) (sym (at_drop_all (list_any p) xs i past)) ∙ h

-- the tests of a list with one more of them done
any-next : {X : Type 0} (p : X → Bool) (xs : List X) (i : ℕ) (d x : X) (done next all : Bool) → i < length xs →
    get_or xs i d ≡ x → (done || p x) ≡ next → (done || list_any p (drop i xs)) ≡ all →
    (next || list_any p (drop (i + 1) xs)) ≡ all
any-next p xs i d x done next all lt at e h =
    ap (λ b. b || list_any p (drop (i + 1) xs)) (sym e)
    ∙ or_assoc done (p x) (list_any p (drop (i + 1) xs))
    ∙ ap (λ y. done || (p y || list_any p (drop (i + 1) xs))) (sym at)
    ∙ ap (λ b. done || b) (sym (at_drop_more (list_any p) xs i d lt))
    ∙ h

-- literals that say together with the signals from a place on what all signals say
pub record AreSoFar (n : ℕ) (signals : List Signal) (i : ℕ) (lits : List Lit) : Type 0 where
  pub over : IsOver n lits
  pub test : (v : ℕ → Bool) → (clause_true v lits || list_any (signal_true v) (drop i signals))
      ≡ list_any (signal_true v) signals

pub so_far-false : (n : ℕ) (signals : List Signal) (i : ℕ) (lits : List Lit) (d : Signal) → i < length signals →
    get_or signals i d ≡ Constant false → AreSoFar n signals i lits → AreSoFar n signals (i + 1) lits
so_far-false n signals i lits d lt at is =
    record {
      over = is.over;
      test =
          λ v. any-next (signal_true v) signals i d (Constant false) (clause_true v lits) (clause_true v lits) _ lt at
          (or-false (clause_true v lits)) (is.test v);
    }

pub so_far-literal : (n : ℕ) (signals : List Signal) (i : ℕ) (lits : List Lit) (d : Signal) (l : Lit) →
    i < length signals → get_or signals i d ≡ Literal l → All (IsSignalOver n) signals → AreSoFar n signals i lits →
    AreSoFar n signals (i + 1) (lits ++ l ∷ [])
so_far-literal n signals i lits d l lt at over is =
    record {
      over =
          All-push (λ (m : Lit). m.variable < n) lits l is.over
          (subst (IsSignalOver n) at (All-get_or (IsSignalOver n) signals i d lt over));
      test =
          λ v. any-next (signal_true v) signals i d (Literal l) (clause_true v lits) (clause_true v (lits ++ l ∷ [])) _
          lt at
          (ap (λ b. clause_true v lits || b) (sym (or-false (lit_true v l)))
          ∙ sym (list_any-append (lit_true v) lits (l ∷ [])))
          (is.test v);
    }

-- no gate stands at two places
abbrev HasDistinct : List Gate → Type 0
HasDistinct gs = (j k : ℕ) (g : Gate) → slice_get gs j ≡ Some g → slice_get gs k ≡ Some g → j ≡ k

module _ (old new : Netlist) (test : (ℕ → Bool) → Bool) (is : IsNetlist old) (gates : new.gates ≡ old.gates)
    (added : Adds old.formula new.formula test) where
  asserted-models : (v : ℕ → Bool) → is_model v new.formula.clauses ≡ (is_model v old.formula.clauses && test v)
  asserted-models v =
      ap (is_model v) added.clauses
      ∙ list_all-append (λ (c : Clause). clause_true v c.lits) old.formula.clauses added.more_clauses
      ∙ ap (λ b. is_model v old.formula.clauses && b) (added.models v)

  asserted-hold : (v : ℕ → Bool) → IsTrue (is_model v new.formula.clauses) → IsTrue (hold v new.gates)
  asserted-hold v h =
      ap (hold v) gates
      ∙ is.models v (and-left (is_model v old.formula.clauses) (test v) (sym (asserted-models v) ∙ h))

asserts-here : (old new : Netlist) (test : (ℕ → Bool) → Bool) → IsNetlist old → new.gates ≡ old.gates →
    new.bits ≡ old.bits → Adds old.formula new.formula test → Asserts old new test
asserts-here old new test is gates bits added =
    record {
      netlist =
          record {
            variables = added.variables ∙ is.variables ∙ ap length (sym gates);
            forward = subst (AreForward 0) (sym gates) is.forward;
            distinct = subst HasDistinct (sym gates) is.distinct;
            models = asserted-hold old new test is gates added;
            bits = bits ∙ is.bits ∙ ap (bits_from 0) (sym gates);
          };
      gates = gates;
      more_clauses = added.more_clauses;
      clauses = added.clauses;
      models = asserted-models old new test is gates added;
    }

pub asserts-added : (mid old new : Netlist) (test : (ℕ → Bool) → Bool) → mid ≡ old → IsNetlist old →
    new.gates ≡ mid.gates → new.bits ≡ mid.bits → Adds mid.formula new.formula test → Asserts old new test
asserts-added mid old new test view is gates bits added =
    subst (λ o. Asserts o new test) view
    (asserts-here mid new test (subst IsNetlist (sym view) is) gates bits added)
