-- What words keep as circuits grow, as words are added, and as more is asserted.
use Rattle.std.proofs.Common.{◌≡◌, ◌∙◌, ℕ, zero, suc, ◌+◌, ◌<◌, ◌≤◌, ◌&&◌, Bool, true, List, [], ◌++◌, length}
use Rattle.std.proofs.Common.{All, IsTrue, refl, sym, ap, subst, arith, ⊎_elim, append_assoc}
use Rattle.std.proofs.lemmas.List.{append-nil, length-append}
use Rattle.std.proofs.lemmas.List.Elements.{All-nil, All-weaker, All-append, All-contains}
use Rattle.std.proofs.Math.Bool.{and_assoc, and-true}
use Rattle.bv_terms.specs.declared.op.Op.TheVariants as op
use Rattle.bv_terms.specs.declared.op.TermId.{TermId}
use Rattle.bv_terms.specs.declared.value.Sort.{Sort}
use Rattle.bv_terms.specs.declared.value.Value.{Value}
use Rattle.bv_terms.specs.Sorts.{width_of}
use Rattle.bv_terms.specs.Term.{Term, Apply, End}
use Rattle.bv_terms.specs.WellSorted.{InputsFit}
use Rattle.bv_terms.specs.Subterm.{IsSubterm}
use Rattle.bv_terms.specs.Table.{Table, operands, terms_of, term_at, IsTable}
use Rattle.bv_terms.proofs.SubtermLemmas.{InputsFit-subterm, entry-at, among-argument}
use Rattle.bv_terms.proofs.TableLemmas.{term_at-node}
use Rattle.cnf_core.specs.Clause.{is_model}
use Rattle.circuit.specs.declared.gate.Gate.{Gate}
use Rattle.circuit.specs.declared.signal.Signal.{Signal}
use Rattle.circuit.specs.Signal.{IsSignalOver}
use Rattle.circuit.specs.Gate.{Netlist, IsNetlist, Grows, Asserts, hold, hold_from, bits_from}
use Rattle.circuit.proofs.GrowthLemmas.{over-more, hold_from-append, grows-hold, asserts-hold}
use Rattle.word_circuits.specs.Word.{AreOver}
use Rattle.bit_blast.specs.Bits.{Agrees, IsListed, IsBitOf}
use Rattle.bit_blast.specs.Words.{IsTermWord, Wiring, wiring, HasWord, AreWords, AreListed, Widens, Moves, IsPartSignal}
use Rattle.bit_blast.proofs.BitLemmas.{Listed, Agrees-front, Listed-front}
use Rattle.bit_blast.proofs.NodeFacts.{bit-through}
use Rattle.list_lemmas.proofs.Bools.{and_right}

-- ---- circuits that grow

pub over-longer : (old new : Netlist) → length old.gates ≤ length new.gates → (word : List Signal) → AreOver old word
    → AreOver new word
over-longer old new longer word over =
    All-weaker (IsSignalOver (length old.gates)) (IsSignalOver (length new.gates))
    (λ s h. over-more (length old.gates) (length new.gates) s longer h) word over

pub widens-itself : (P : ℕ → ℕ → Type 0) (n : Netlist) → IsNetlist n → Widens P n n
widens-itself P n is = record {
  netlist = is;
  longer = omega arith;
  holds = λ v h. h;
  more_clauses = [];
  clauses = sym (append-nil n.formula.clauses);
  models = λ v h. refl;
  more_bits = [];
  bits = sym (append-nil n.bits);
  from = All-nil (λ (b : Listed). P b.0 b.1);
}

pub widens-then : (P : ℕ → ℕ → Type 0) (a b c : Netlist) → Widens P a b → Widens P b c → Widens P a c
widens-then P a b c first second = record {
  netlist = second.netlist;
  longer = omega (arith, first.longer, second.longer);
  holds = λ v h. first.holds v (second.holds v h);
  more_clauses = first.more_clauses ++ second.more_clauses;
  clauses = second.clauses ∙ ap (λ cs. cs ++ second.more_clauses) first.clauses
      ∙ append_assoc a.formula.clauses first.more_clauses second.more_clauses;
  models = λ v h. second.models v h ∙ first.models v (second.holds v h);
  more_bits = first.more_bits ++ second.more_bits;
  bits = second.bits ∙ ap (λ bs. bs ++ second.more_bits) first.bits
      ∙ append_assoc a.bits first.more_bits second.more_bits;
  from = All-append (λ (b : Listed). P b.0 b.1) first.more_bits second.more_bits first.from second.from;
}

pub grows-widens : (P : ℕ → ℕ → Type 0) (old new : Netlist) → Grows old new → Widens P old new
grows-widens P old new growth = record {
  netlist = growth.netlist;
  longer = omega (arith, ap length growth.gates, length-append old.gates growth.more_gates);
  holds = λ v h. grows-hold growth v h;
  more_clauses = growth.more_clauses;
  clauses = growth.clauses;
  models = λ v h. growth.models v ∙ ap (λ b. is_model v old.formula.clauses && b) (more v h)
      ∙ and-true (is_model v old.formula.clauses);
  more_bits = [];
  bits = growth.bits ∙ sym (append-nil old.bits);
  from = All-nil (λ (b : Listed). P b.0 b.1);
}
  where
    more : (v : ℕ → Bool) → IsTrue (hold v new.gates)
        → hold_from v (length old.gates) growth.more_gates ≡ true
    more v h =
        let none : 0 + length old.gates ≡ length old.gates = omega arith in
        and_right (hold v old.gates) (hold_from v (length old.gates) growth.more_gates)
        (sym (hold_from-append v 0 (length old.gates) old.gates growth.more_gates none)
        ∙ sym (ap (hold v) growth.gates) ∙ h)

-- ---- words in them

pub IsTermWord-widens : (P : ℕ → ℕ → Type 0) (old new : Netlist) → Widens P old new → (p : ℕ) (t : Term)
    (word : List Signal) → IsTermWord p old t word → IsTermWord p new t word
IsTermWord-widens P old new more p t word is = record {
  kind = is.kind;
  sorted = is.sorted;
  places = is.places;
  some = is.some;
  over = over-longer old new more.longer word is.over;
  value = λ v env h agrees fit.
      is.value v env (more.holds v h) (Agrees-front v env old.bits more.more_bits new.bits more.bits agrees) fit;
  listed = λ number k s e less. Listed-front old.bits more.more_bits new.bits more.bits number k
      (is.listed number k s e less);
}

pub AreWords-widens : (P : ℕ → ℕ → Type 0) (table : Table) (old new : Netlist) (words : List (TermId × List Signal))
    → Widens P old new → AreWords table (wiring old words) → AreWords table (wiring new words)
AreWords-widens P table old new words more are = record {
  netlist = more.netlist;
  within = are.within;
  arguments = are.arguments;
  words = λ at word has.
      IsTermWord-widens P old new more table.pointer (term_at table at) word (are.words at word has);
}

-- ---- what is below a node with a word is listed

covered : (table : Table) → IsTable table → (w : Wiring) → AreWords table w → (n : ℕ) (at : TermId) → at.0 < n
    → HasWord w.words at → (number k : ℕ) (s : Sort) → k < width_of s
    → IsSubterm (Apply (op.Input number s) End) (term_at table at) → IsListed w.netlist.bits number k
unfolding IsSubterm
covered table is w are zero at less has number k s narrow below = absurd (omega (arith, less))
covered table is w are (suc n) at less has number k s narrow below =
    let e = entry-at table at.0 (are.within at has) in
    let term = term_at-node table is at e.0 e.1 in
    let opened : IsSubterm (Apply (op.Input number s) End) (Apply e.0.op (operands (terms_of table) e.0.args)) =
    subst (IsSubterm (Apply (op.Input number s) End)) term below in
    ⊎_elim (λ same. (are.words at has.0 has.1).listed number k s (term ∙ sym same) narrow)
    (λ among.
    let arg = among-argument (terms_of table) e.0.args (Apply (op.Input number s) End) among in
    let smaller = All-contains (λ (a : TermId). a.0 < at.0) e.0.args arg.0 (is.earlier at.0 e.0 e.1) arg.1 in
    covered table is w are n arg.0 (omega (arith, smaller, less))
    (All-contains (HasWord w.words) e.0.args arg.0 (are.arguments at e.0 has e.1) arg.1) number k s narrow arg.2)
    opened

pub word-covers : (table : Table) → IsTable table → (w : Wiring) → AreWords table w → (at : TermId)
    → HasWord w.words at → AreListed w.netlist.bits (term_at table at)
word-covers table is w are at has = λ number k bit.
    covered table is w are (suc at.0) at (omega arith) has number k bit.0 bit.2 bit.1

-- ---- steps

pub moves-none : (table : Table) (t : Term) (w : Wiring) → AreWords table w → Moves table t (λ env. true) w w
moves-none table t w are = record {
  words = are;
  kept = λ at has. has;
  longer = omega arith;
  holds = λ v h. h;
  more_clauses = [];
  clauses = sym (append-nil w.netlist.formula.clauses);
  models = λ v env h agrees fit. sym (and-true (is_model v w.netlist.formula.clauses));
  more_bits = [];
  bits = sym (append-nil w.netlist.bits);
  from = All-nil (λ (b : Listed). IsBitOf t b.0 b.1);
}

bits-through : (t u : Term) → IsSubterm t u → (bits : List Listed) → All (λ (b : Listed). IsBitOf t b.0 b.1) bits
    → All (λ (b : Listed). IsBitOf u b.0 b.1) bits
bits-through t u below bits all =
    All-weaker (λ (b : Listed). IsBitOf t b.0 b.1) (λ (b : Listed). IsBitOf u b.0 b.1)
    (λ b at. bit-through t u below b.0 b.1 at) bits all

pub moves-then : (table : Table) (t u whole : Term) (f g : List Value → Bool) (a b c : Wiring)
    → IsSubterm t whole → IsSubterm u whole → Moves table t f a b → Moves table u g b c
    → Moves table whole (λ env. f env && g env) a c
moves-then table t u whole f g a b c below under first second = record {
  words = second.words;
  kept = λ at has. second.kept at (first.kept at has);
  longer = omega (arith, first.longer, second.longer);
  holds = λ v h. first.holds v (second.holds v h);
  more_clauses = first.more_clauses ++ second.more_clauses;
  clauses = second.clauses ∙ ap (λ cs. cs ++ second.more_clauses) first.clauses
      ∙ append_assoc a.netlist.formula.clauses first.more_clauses second.more_clauses;
  models = λ v env h agrees fit.
      second.models v env h agrees (InputsFit-subterm env whole fit u under)
      ∙ ap (λ b. b && g env) (first.models v env (second.holds v h)
      (Agrees-front v env b.netlist.bits second.more_bits c.netlist.bits second.bits agrees)
      (InputsFit-subterm env whole fit t below))
      ∙ and_assoc (is_model v a.netlist.formula.clauses) (f env) (g env);
  more_bits = first.more_bits ++ second.more_bits;
  bits = second.bits ∙ ap (λ bs. bs ++ second.more_bits) first.bits
      ∙ append_assoc a.netlist.bits first.more_bits second.more_bits;
  from = All-append (λ (b : Listed). IsBitOf whole b.0 b.1) first.more_bits second.more_bits
      (bits-through t whole below first.more_bits first.from)
      (bits-through u whole under second.more_bits second.from);
}

pub moves-as : (table : Table) (t : Term) (f g : List Value → Bool) (a b : Wiring)
    → ((env : List Value) → InputsFit env t → f env ≡ g env) → Moves table t f a b → Moves table t g a b
moves-as table t f g a b same moves = record {
  words = moves.words;
  kept = moves.kept;
  longer = moves.longer;
  holds = moves.holds;
  more_clauses = moves.more_clauses;
  clauses = moves.clauses;
  models = λ v env h agrees fit. moves.models v env h agrees fit
      ∙ ap (λ x. is_model v a.netlist.formula.clauses && x) (same env fit);
  more_bits = moves.more_bits;
  bits = moves.bits;
  from = moves.from;
}

-- listed bits stay so
pub moves-listed : (table : Table) (t u : Term) (f : List Value → Bool) (a b : Wiring) → Moves table t f a b
    → AreListed a.netlist.bits u → AreListed b.netlist.bits u
moves-listed table t u f a b moves listed = λ number k at.
    Listed-front a.netlist.bits moves.more_bits b.netlist.bits moves.bits number k (listed number k at)

-- a signal keeps its meaning
pub moves-signal : (table : Table) (t u : Term) (f g : List Value → Bool) (a b : Wiring) → Moves table t f a b
    → (s : Signal) → IsPartSignal a.netlist u g s → IsPartSignal b.netlist u g s
moves-signal table t u f g a b moves s is = record {
  over = over-more (length a.netlist.gates) (length b.netlist.gates) s moves.longer is.over;
  value = λ v env h agrees fit. is.value v env (moves.holds v h)
      (Agrees-front v env a.netlist.bits moves.more_bits b.netlist.bits moves.bits agrees) fit;
}

-- ---- what is asserted of signals

pub asserts-bits : (old new : Netlist) (test : (ℕ → Bool) → Bool) → IsNetlist old → Asserts old new test
    → new.bits ≡ old.bits
asserts-bits old new test is asserts =
    asserts.netlist.bits ∙ ap (bits_from 0) asserts.gates ∙ sym is.bits

pub asserts-moves : (table : Table) (t : Term) (old new : Netlist) (words : List (TermId × List Signal))
    (test : (ℕ → Bool) → Bool) (says : List Value → Bool)
    → AreWords table (wiring old words) → Asserts old new test
    → ((v : ℕ → Bool) (env : List Value) → IsTrue (hold v old.gates) → Agrees v old.bits env → InputsFit env t
    → test v ≡ says env)
    → Moves table t says (wiring old words) (wiring new words)
asserts-moves table t old new words test says are asserts same =
    let bits = asserts-bits old new test are.netlist asserts in
    let size = ap length asserts.gates in
    record {
      words = record {
        netlist = asserts.netlist;
        within = are.within;
        arguments = are.arguments;
        words = λ at word has. kept at word bits (are.words at word has);
      };
      kept = λ at has. has;
      longer = omega (arith, size);
      holds = λ v h. asserts-hold test asserts v h;
      more_clauses = asserts.more_clauses;
      clauses = asserts.clauses;
      models = λ v env h agrees fit. asserts.models v ∙ ap (λ b. is_model v old.formula.clauses && b)
          (same v env (asserts-hold test asserts v h) (subst (λ bs. Agrees v bs env) bits agrees) fit);
      more_bits = [];
      bits = bits ∙ sym (append-nil old.bits);
      from = All-nil (λ (b : Listed). IsBitOf t b.0 b.1);
    }
  where
    kept : (at : TermId) (word : List Signal) → new.bits ≡ old.bits
        → IsTermWord table.pointer old (term_at table at) word → IsTermWord table.pointer new (term_at table at) word
    kept at word bits is = record {
      kind = is.kind;
      sorted = is.sorted;
      places = is.places;
      some = is.some;
      over = subst (λ (gs : List Gate). All (IsSignalOver (length gs)) word) (sym asserts.gates) is.over;
      value = λ v env h agrees fit. is.value v env (asserts-hold test asserts v h)
          (subst (λ bs. Agrees v bs env) bits agrees) fit;
      listed = λ number k s e less. subst (λ bs. IsListed bs number k) (sym bits) (is.listed number k s e less);
    }
