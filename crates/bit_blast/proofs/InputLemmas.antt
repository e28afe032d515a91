-- The words of inputs.
use Rattle.std.proofs.Common.{◌≡◌, ◌∙◌, ℕ, zero, suc, ◌+◌, ◌*◌, ◌/◌, ◌%◌, ◌^◌, ◌<◌, ◌≤◌, ◌==◌, Bool, true, false}
use Rattle.std.proofs.Common.{List, [], ◌∷◌}
use Rattle.std.proofs.Common.{◌++◌, length, slice_get, unwrap_or, Some, refl, sym, ap, subst}
use Rattle.std.proofs.Common.{arith, ⊎_elim, add-one}
use Rattle.std.proofs.lemmas.List.{append-nil, length-append}
use Rattle.std.proofs.lemmas.List.Elements.{All-nil, All-push, All-weaker}
use Rattle.std.proofs.lemmas.Nat.{pow_pos}
use Rattle.std.proofs.lemmas.Bool.{cases_lt}
use Rattle.std.proofs.Math.Arith.{mod-mul}
use Rattle.std.proofs.Math.Bool.{and-true}
use Rattle.std.proofs.Math.Nat.{pow-suc, pow-succ', mod-eq_of_lt, mod-one}
use Rattle.bv_terms.specs.declared.op.Op.{Op}
use Rattle.bv_terms.specs.declared.op.Op.TheVariants as op
use Rattle.bv_terms.specs.declared.op.TermId.{TermId}
use Rattle.bv_terms.specs.declared.value.Sort.{Sort}
use Rattle.bv_terms.specs.declared.value.Sort.TheVariants as sort
use Rattle.bv_terms.specs.declared.value.Value.{Value}
use Rattle.bv_terms.specs.declared.value.Value.TheVariants as val
use Rattle.bv_terms.specs.Sorts.{HasSort, width_of}
use Rattle.bv_terms.specs.Signature.{signature, arity, result_sort}
use Rattle.bv_terms.specs.Term.{Term, Apply, End, value}
use Rattle.bv_terms.specs.WellSorted.{sort_of, InputsFit}
use Rattle.bv_terms.specs.Subterm.{IsSubterm}
use Rattle.bv_terms.specs.Table.{Table, operands, terms_of, term_at}
use Rattle.bv_terms.proofs.TermLemmas.{sort_of-sized}
use Rattle.bv_terms.proofs.SubtermLemmas.{IsSubterm-itself}
use Rattle.cnf_core.specs.Clause.{is_model}
use Rattle.circuit.specs.declared.gate.Gate.{Gate}
use Rattle.circuit.specs.declared.gate.Gate.TheVariants.{Input}
use Rattle.circuit.specs.declared.signal.Signal.{Signal}
use Rattle.circuit.specs.Signal.{signal_true, IsSignalOver}
use Rattle.circuit.specs.Gate.{Netlist, IsNetlist, Lists, hold, bits_from, IsVariableOf}
use Rattle.circuit.proofs.GrowthLemmas.{hold_from-append}
use Rattle.word_circuits.specs.Word.{bit, word_number}
use Rattle.bit_blast.specs.Bits.{value_bit, bit_of, IsListed, IsBitOf}
use Rattle.bit_blast.specs.Clauses.{HasNoMemory}
use Rattle.bit_blast.specs.Words.{value_of, IsTermWord, Widens}
use Rattle.bit_blast.specs.Operations.{IsBitOfInput, number_of_bits, IsInputWord}
use Rattle.bit_blast.proofs.BitLemmas.{Listed, Agrees-front, Listed-front, gate-listed, listed-value}
use Rattle.bit_blast.proofs.MoveLemmas.{over-longer}
use Rattle.bit_blast.proofs.NodeFacts.{IsNode}
use Rattle.bit_blast.proofs.TermWordLemmas.{some_bit}
use Rattle.list_lemmas.proofs.Lists.{empty_list}
use Rattle.list_lemmas.proofs.Lookups.{All-one}

-- ---- one bit more

bits-push : (n : ℕ) (gs : List Gate) (number place : ℕ)
    → bits_from n (gs ++ Input number place ∷ []) ≡ bits_from n gs ++ (number, place, n + length gs) ∷ []
bits-push n [] number place = let none : n ≡ n + 0 = omega arith in ap (λ k. (number, place, k) ∷ []) none
bits-push n (Input m p ∷ gs) number place =
    let next : n + 1 + length gs ≡ n + suc (length gs) = omega arith in
    ap (λ bs. (m, p, n) ∷ bs) (bits-push (n + 1) gs number place)
    ∙ ap (λ k. (m, p, n) ∷ bits_from (n + 1) gs ++ (number, place, k) ∷ []) next
bits-push n (g ∷ gs) number place =
    let next : n + 1 + length gs ≡ n + suc (length gs) = omega arith in
    bits-push (n + 1) gs number place ∙ ap (λ k. bits_from (n + 1) gs ++ (number, place, k) ∷ []) next

pub lists-widens : (number place width : ℕ) (old new : Netlist) → IsNetlist old → place < width
    → Lists number place old new → Widens (IsBitOfInput number width) old new
lists-widens number place width old new is less lists = ⊎_elim same more lists.gates
  where
    clauses : (v : ℕ → Bool) → is_model v new.formula.clauses ≡ is_model v old.formula.clauses
    clauses v = ap (is_model v) lists.clauses

    same : new.gates ≡ old.gates → Widens (IsBitOfInput number width) old new
    same e = record {
      netlist = lists.netlist;
      longer = omega (arith, ap length e);
      holds = λ v h. sym (ap (hold v) e) ∙ h;
      more_clauses = [];
      clauses = lists.clauses ∙ sym (append-nil old.formula.clauses);
      models = λ v h. clauses v;
      more_bits = [];
      bits = lists.netlist.bits ∙ ap (bits_from 0) e ∙ sym is.bits ∙ sym (append-nil old.bits);
      from = All-nil (λ (b : Listed). IsBitOfInput number width b.0 b.1);
    }

    more : new.gates ≡ old.gates ++ Input number place ∷ [] → Widens (IsBitOfInput number width) old new
    more e = record {
      netlist = lists.netlist;
      longer = omega (arith, ap length e, length-append old.gates (Input number place ∷ []));
      holds = λ v h. sym (and-true (hold v old.gates))
          ∙ sym (hold_from-append v 0 (0 + length old.gates) old.gates (Input number place ∷ []) refl)
          ∙ sym (ap (hold v) e) ∙ h;
      more_clauses = [];
      clauses = lists.clauses ∙ sym (append-nil old.formula.clauses);
      models = λ v h. clauses v;
      more_bits = (number, place, 0 + length old.gates) ∷ [];
      bits = lists.netlist.bits ∙ ap (bits_from 0) e ∙ bits-push 0 old.gates number place
          ∙ ap (λ bs. bs ++ (number, place, 0 + length old.gates) ∷ []) (sym is.bits);
      from = All-one (λ (b : Listed). IsBitOfInput number width b.0 b.1) (number, place, 0 + length old.gates)
          (refl, less);
    }

-- ---- numbers of words

pub word_number-push : (v : ℕ → Bool) (word : List Signal) (s : Signal)
    → word_number v (word ++ s ∷ []) ≡ word_number v word + 2 ^ length word * bit (signal_true v s)
word_number-push v [] s = omega arith
word_number-push v (x ∷ word) s =
    let rest = word_number-push v word s in
    let power = ap (λ q. q * bit (signal_true v s)) (pow-suc 2 (length word)) in
    omega (arith, rest, power)

pub IsInputWord-none : (n : Netlist) (number : ℕ) → IsInputWord n number 0 []
IsInputWord-none n number = record {
  over = All-nil (IsSignalOver (length n.gates));
  places = refl;
  listed = λ k less. absurd (omega (arith, less));
  value = λ v env agrees. refl;
}

next-place : (n : Netlist) (number k : ℕ) → IsListed n.bits number k → ((j : ℕ) → j < k → IsListed n.bits number j)
    → (j : ℕ) → j < k + 1 → IsListed n.bits number j
next-place n number k here below j less =
    ⊎_elim (λ l. below j l) (λ m. let same : k ≡ j = omega (arith, less, m) in subst (IsListed n.bits number) same here)
    (cases_lt j k)

-- the next bit at the end of a word of an input
pub IsInputWord-more : (P : ℕ → ℕ → Type 0) (old new : Netlist) (number k : ℕ) (word : List Signal) (s : Signal)
    → Widens P old new → IsInputWord old number k word → IsSignalOver (length new.gates) s
    → IsVariableOf new (Input number k) s → IsInputWord new number (k + 1) (word ++ s ∷ [])
IsInputWord-more P old new number k word s widens is over variable =
    let here = gate-listed new widens.netlist variable.0 number k variable.1 in
    record {
      over = All-push (IsSignalOver (length new.gates)) word s (over-longer old new widens.longer word is.over) over;
      places = omega (arith, is.places, length-append word (s ∷ []));
      listed = next-place new number k (variable.0, here)
          (λ j less. Listed-front old.bits widens.more_bits new.bits widens.bits number j (is.listed j less));
      value = λ v env agrees.
          word_number-push v word s
          ∙ ap (λ m. m + 2 ^ length word * bit (signal_true v s))
          (is.value v env (Agrees-front v env old.bits widens.more_bits new.bits widens.bits agrees))
          ∙ ap (λ m. number_of_bits (bit_of env number) k + 2 ^ m * bit (signal_true v s)) is.places
          ∙ ap (λ b. number_of_bits (bit_of env number) k + 2 ^ k * bit b)
          (ap (signal_true v) variable.2 ∙ listed-value v env new.bits number k variable.0 agrees here)
          ∙ ap (number_of_bits (bit_of env number)) (sym (add-one k));
    }

-- ---- an input's value

half : (m : ℕ) → bit (m % 2 == 1) ≡ m % 2
half m = by (m % 2) (below m)
  where
    below : (m : ℕ) → m % 2 < 2
    below m = omega arith

    by : (r : ℕ) → r < 2 → bit (r == 1) ≡ r
    by zero less = refl
    by (suc zero) less = refl
    by (suc (suc r)) less = absurd (omega (arith, less))

bits-number : (w n k : ℕ) → number_of_bits (value_bit (val.Bits w n)) k ≡ n % 2 ^ k
bits-number w n zero = sym (mod-one n)
bits-number w n (suc k) =
    ap (λ m. m + 2 ^ k * bit (n / 2 ^ k % 2 == 1)) (bits-number w n k)
    ∙ ap (λ b. n % 2 ^ k + 2 ^ k * b) (half (n / 2 ^ k))
    ∙ low_bits (n / 2 ^ k % 2) (n % 2 ^ k) (2 ^ k) ∙ sym (mod-mul n {m = 2} {c = 2 ^ k} (omega arith) (pow_pos k))
    ∙ ap (λ q. n % q) (sym (pow-succ' 2 k))
  where
    low_bits : (b r q : ℕ) → r + q * b ≡ b * q + r
    low_bits b r q = grind arith

pub input-value : (s : Sort) (u : Value) → HasSort s u → value_of s (number_of_bits (value_bit u) (width_of s)) ≡ u
input-value sort.Bool (val.Bool false) has = refl
input-value sort.Bool (val.Bool true) has = refl
input-value sort.Bool (val.Bits w n) has = absurd has
input-value (sort.Bits w) (val.Bits v n) has =
    ap (val.Bits w) (bits-number v n w ∙ mod-eq_of_lt has.1) ∙ ap (λ x. val.Bits x n) (sym has.0)
input-value (sort.Bits w) (val.Bool b) has = absurd has
input-value sort.Mem u has = absurd has

input-fits : (env : List Value) (number : ℕ) (s : Sort) → InputsFit env (Apply (op.Input number s) End)
    → (u : Value) × (slice_get env number ≡ Some u) × HasSort s u
unfolding InputsFit
input-fits env number s fit = fit.0

value-input : (env : List Value) (number : ℕ) (s : Sort)
    → value env (Apply (op.Input number s) End) ≡ unwrap_or (slice_get env number) (val.Bool false)
unfolding value
value-input env number s = refl

input-only : (number m : ℕ) (s r : Sort) → Apply (op.Input number s) End ≡ Apply (op.Input m r) End
    → (number ≡ m) × (s ≡ r)
input-only number m s r e = (let a : number ≡ m = cc in a, let b : s ≡ r = cc in b)

pub input-word : (p : ℕ) (n : Netlist) (t : Term) (number : ℕ) (s : Sort) (word : List Signal)
    → t ≡ Apply (op.Input number s) End → sort_of p t ≡ Some s → 1 ≤ width_of s → IsInputWord n number (width_of s) word
    → IsTermWord p n t word
input-word p n t number s word same sorted some is = record {
  kind = s;
  sorted = sorted;
  places = is.places;
  some = omega (arith, is.places, some);
  over = is.over;
  value = λ v env h agrees fit.
      let fits = input-fits env number s (subst (InputsFit env) same fit) in
      let here = ap (λ o. unwrap_or o (val.Bool false)) fits.1 in
      ap (value_of s) (is.value v env agrees)
      ∙ ap (λ u. value_of s (number_of_bits (value_bit u) (width_of s))) here
      ∙ input-value s fits.0 fits.2 ∙ sym here ∙ sym (value-input env number s) ∙ ap (value env) (sym same);
  listed = λ m k r e less.
      let one = input-only number m s r (sym same ∙ e) in
      subst (λ x. IsListed n.bits x k) one.0 (is.listed k (subst (λ x. k < width_of x) (sym one.1) less));
}

-- ---- the node of an input

input-term : (table : Table) (at : TermId) (o : Op) (args : List TermId) (number : ℕ) (s : Sort)
    → IsNode table at o args → o ≡ op.Input number s → term_at table at ≡ Apply (op.Input number s) End
input-term table at o args number s node same =
    let none : length args < 1 = omega (arith, node.count, ap arity same) in
    node.term ∙ ap (λ o. Apply o (operands (terms_of table) args)) same
    ∙ ap (λ xs. Apply (op.Input number s) (operands (terms_of table) xs)) (empty_list args none)

pub input-widens : (table : Table) (at : TermId) (o : Op) (args : List TermId) (number width : ℕ) (s : Sort)
    → IsNode table at o args → o ≡ op.Input number s → width ≡ width_of s → (old new : Netlist)
    → Widens (IsBitOfInput number width) old new → Widens (IsBitOf (term_at table at)) old new
input-widens table at o args number width s node same wide old new widens = record {
  netlist = widens.netlist;
  longer = widens.longer;
  holds = widens.holds;
  more_clauses = widens.more_clauses;
  clauses = widens.clauses;
  models = widens.models;
  more_bits = widens.more_bits;
  bits = widens.bits;
  from = All-weaker (λ (b : Listed). IsBitOfInput number width b.0 b.1) (λ (b : Listed). IsBitOf
      (term_at table at) b.0 b.1)
      (λ b is. (
        s,
        subst (λ m. IsSubterm (Apply (op.Input m s) End) (term_at table at)) (sym is.0)
            (subst (IsSubterm (Apply (op.Input number s) End)) (sym (input-term table at o args number s node same))
            (IsSubterm-itself (Apply (op.Input number s) End))),
        subst (λ w. b.1 < w) wide is.1,
      ))
      widens.more_bits widens.from;
}

pub input-kind : (table : Table) (at : TermId) (o : Op) (args : List TermId) (number width : ℕ) (s : Sort)
    → IsNode table at o args → o ≡ op.Input number s → width ≡ width_of s → HasNoMemory (term_at table at)
    → (n : Netlist) (word : List Signal) → IsInputWord n number width word
    → IsTermWord table.pointer n (term_at table at) word
input-kind table at o args number width s node same wide memory n word is =
    let term = input-term table at o args number s node same in
    let kind : node.kind ≡ s = sym node.sorted.result
    ∙ ap (λ o. result_sort (signature o).result node.sorted.sorts) same in
    let sorted : sort_of table.pointer (term_at table at) ≡ Some s = node.sorted_term ∙ ap Some kind in
    input-word table.pointer n (term_at table at) number s word term sorted
    (some_bit s (sort_of-sized table.pointer (term_at table at) s sorted) (no_memory s term))
    (subst (λ w. IsInputWord n number w word) wide is)
  where
    no_memory : (s : Sort) → term_at table at ≡ Apply (op.Input number s) End → s ≡ sort.Mem → ⊥
    no_memory s term mem = memory number
        (subst (λ r. IsSubterm (Apply (op.Input number r) End) (term_at table at)) mem
        (subst (IsSubterm (Apply (op.Input number s) End)) (sym term) (IsSubterm-itself (Apply
        (op.Input number s) End))))
