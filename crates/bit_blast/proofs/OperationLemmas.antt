-- The words of operations, operation by operation.
use Rattle.std.proofs.Common.{◌≡◌, ◌∙◌, ℕ, zero, suc, ◌+◌, ◌-◌, ◌*◌, ◌/◌, ◌%◌, ◌^◌, ◌<◌, ◌≤◌, ◌==◌, ◌&&◌, ◌||◌, ◌⊎◌}
use Rattle.std.proofs.Common.{Bool, true, false}
use Rattle.std.proofs.Common.{not, List, [], ◌∷◌, length, get_or, None, IsTrue, refl, sym, ap, subst, arith, ⊎_elim}
use Rattle.std.proofs.Common.{nat_lt, nat_le}
use Rattle.std.proofs.Common.{Result, Ok, Err}
use Rattle.std.specs.Prelude.{OnOk, IfOk, if◌then◌else◌}
use Rattle.std.specs.Bool.{beq}
use Rattle.std.proofs.lemmas.Bool.{false≢true}
use Rattle.std.proofs.lemmas.Bool.Decides.{nat_tests}
use Rattle.std.proofs.Math.Nat.{pow-suc, mod-eq_of_lt}
use Rattle.bv_terms.specs.declared.op.Op.{Op}
use Rattle.bv_terms.specs.declared.op.Op.TheVariants as op
use Rattle.bv_terms.specs.declared.signature.IndexRule.TheVariants.{Free, Number, Slice}
use Rattle.bv_terms.specs.declared.value.Sort.{Sort}
use Rattle.bv_terms.specs.declared.value.Sort.TheVariants as sort
use Rattle.bv_terms.specs.declared.value.Value.{Value}
use Rattle.bv_terms.specs.declared.value.Value.TheVariants as val
use Rattle.bv_terms.specs.Sorts.{width_of, is_width}
use Rattle.bv_terms.specs.Words.{slt, sign_extended}
use Rattle.bv_terms.specs.Signature.{Signature, signature, refusal, result_sort, connective, arithmetic}
use Rattle.bv_terms.specs.Term.{bits, op_value}
use Rattle.bv_terms.proofs.SignatureLemmas.{IsFitting-of, AllFit, sorts_none, sorts_truth, sorts_truths, sorts_vector}
use Rattle.bv_terms.proofs.SignatureLemmas.{sorts_vectors, sorts_same, sorts_equal, sorts_choice, same_sort-true}
use Rattle.circuit.specs.declared.signal.Signal.{Signal}
use Rattle.circuit.specs.Signal.{signal_true, IsSignalOver}
use Rattle.circuit.specs.Gate.{Netlist, IsSignalOf, hold}
use Rattle.word_circuits.specs.Word.{bit, word_number, IsWordOf}
use Rattle.bit_blast.specs.Words.{value_of}
use Rattle.bit_blast.specs.Parts.{is_true}
use Rattle.bit_blast.specs.Operations.{AreWide, values_of, MayStand, IsOpWord, IsArithmetic}
use Rattle.bit_blast.specs.Operations.{is_connective, is_comparison, is_shift, is_arithmetic}
use Rattle.list_lemmas.proofs.Bools.{or-right}
use Rattle.list_lemmas.proofs.Lookups.{All-one}

-- ---- numbers of words

pub word_number-below : (v : ℕ → Bool) (word : List Signal) → word_number v word < 2 ^ length word
word_number-below v [] = omega arith
word_number-below v (s ∷ word) =
    let rest = word_number-below v word in
    let power = pow-suc 2 (length word) in
    omega (arith, rest, power, small (signal_true v s))
  where
    small : (b : Bool) → bit b < 2
    small false = omega arith
    small true = omega arith

-- the number of a word is what its bits are modulo 2^width
bits-number : (v : ℕ → Bool) (word : List Signal) (w : ℕ) → length word ≡ w
    → val.Bits w (word_number v word) ≡ bits w (word_number v word)
bits-number v word w places =
    ap (val.Bits w) (sym (mod-eq_of_lt (subst (λ w. word_number v word < 2 ^ w) places (word_number-below v word))))

-- a word of one signal
pub one-signal : (b : Bool) → bit b + 2 * 0 == 1 ≡ b
one-signal false = refl
one-signal true = refl

-- ---- of one word

one-wide : (s : Sort) (word : List Signal) → AreWide (s ∷ []) (word ∷ []) → length word ≡ width_of s
one-wide s word wide = wide.0.0

-- an operation over one bit-vector
over-word : (P : List Sort → Type 0) (p : ℕ) (o : Op) (ss : List Sort) (word : List Signal)
    → (w : ℕ) × (ss ≡ sort.Bits w ∷ []) → AreWide ss (word ∷ [])
    → ((w : ℕ) → length word ≡ w → P (sort.Bits w ∷ [])) → P ss
over-word P p o ss word at wide all =
    subst P (sym at.1) (all at.0 (subst (λ ss. AreWide ss (word ∷ [])) at.1 wide).0.0)

abbrev Places : List Signal → Op → List Sort → Type 0
Places word o ss = length word ≡ width_of (result_sort (signature o).result ss)

abbrev Values : Netlist → Op → List (List Signal) → List Signal → List Sort → Type 0
Values n o words word ss =
    (inputs : List Value) (v : ℕ → Bool) → IsTrue (hold v n.gates)
    → value_of (result_sort (signature o).result ss) (word_number v word) ≡ op_value inputs o (values_of v ss words)

opposite_bit : (m : ℕ) → m < 2 → (1 - m) == 1 ≡ not (m == 1)
opposite_bit zero less = refl
opposite_bit (suc zero) less = refl
opposite_bit (suc (suc m)) less = absurd (omega (arith, less))

inverted-not : (n : Netlist) (word r : List Signal)
    → IsWordOf n (length word) (λ v. 2 ^ length word - 1 - word_number v word) r → IsOpWord n op.Not (word ∷ []) r
inverted-not n word r is = record {
  over = is.over;
  places = λ p ss allowed wide.
      let sorts = truth p ss allowed in
      subst (Places r op.Not) (sym sorts)
      (is.places ∙ (subst (λ ss. AreWide ss (word ∷ [])) sorts wide).0.0);
  value = λ p ss allowed wide.
      let sorts = truth p ss allowed in
      let one = (subst (λ ss. AreWide ss (word ∷ [])) sorts wide).0.0 in
      subst (Values n op.Not (word ∷ []) r) (sym sorts) (λ inputs v h.
      ap (λ m. val.Bool (m == 1)) (is.number v h ∙ ap (λ w. 2 ^ w - 1 - word_number v word) one)
      ∙ ap val.Bool (opposite_bit (word_number v word)
      (subst (λ w. word_number v word < 2 ^ w) one (word_number-below v word))));
}
  where
    truth : (p : ℕ) (ss : List Sort) → refusal p op.Not ss ≡ None → ss ≡ sort.Bool ∷ []
    truth p ss allowed = sorts_truth p Free ss ss (IsFitting-of p op.Not ss allowed).fit

inverted-bvnot : (n : Netlist) (word r : List Signal)
    → IsWordOf n (length word) (λ v. 2 ^ length word - 1 - word_number v word) r → IsOpWord n op.BvNot (word ∷ []) r
inverted-bvnot n word r is = record {
  over = is.over;
  places = λ p ss allowed wide.
      over-word (Places r op.BvNot) p op.BvNot ss word (vector p ss allowed) wide (λ w places. is.places ∙ places);
  value = λ p ss allowed wide.
      over-word (Values n op.BvNot (word ∷ []) r) p op.BvNot ss word (vector p ss allowed) wide
      (λ w places inputs v h. bits-number v r w (is.places ∙ places) ∙ ap (bits w) (is.number v h)
      ∙ ap (λ x. bits w (2 ^ x - 1 - word_number v word)) places);
}
  where
    vector : (p : ℕ) (ss : List Sort) → refusal p op.BvNot ss ≡ None → (w : ℕ) × (ss ≡ sort.Bits w ∷ [])
    vector p ss allowed = sorts_vector p Free ss ss (IsFitting-of p op.BvNot ss allowed).fit

pub inverted-word : (o : Op) (n : Netlist) (word r : List Signal) → (o ≡ op.Not) ⊎ (o ≡ op.BvNot)
    → IsWordOf n (length word) (λ v. 2 ^ length word - 1 - word_number v word) r → IsOpWord n o (word ∷ []) r
inverted-word o n word r which is = ⊎_elim
    (λ e. subst (λ o. IsOpWord n o (word ∷ []) r) (sym e) (inverted-not n word r is))
    (λ e. subst (λ o. IsOpWord n o (word ∷ []) r) (sym e) (inverted-bvnot n word r is)) which

pub part-word : (high low : ℕ) (n : Netlist) (word r : List Signal)
    → IsWordOf n (high - low + 1) (λ v. word_number v word / 2 ^ low % 2 ^ (high - low + 1)) r
    → IsOpWord n (op.Extract high low) (word ∷ []) r
part-word high low n word r is = record {
  over = is.over;
  places = λ p ss allowed wide. is.places;
  value = λ p ss allowed wide.
      over-word (Values n (op.Extract high low) (word ∷ []) r) p (op.Extract high low) ss word
      (vector p ss allowed) wide
      (λ w places inputs v h. ap (val.Bits (high - low + 1)) (is.number v h));
}
  where
    vector : (p : ℕ) (ss : List Sort) → refusal p (op.Extract high low) ss ≡ None → (w : ℕ) × (ss ≡ sort.Bits w ∷ [])
    vector p ss allowed = sorts_vector p (Slice high low) ss ss (IsFitting-of p (op.Extract high low) ss allowed).fit

pub zeros-word : (by : ℕ) (n : Netlist) (word r : List Signal)
    → IsWordOf n (length word + by) (λ v. word_number v word) r → IsOpWord n (op.ZeroExtend by) (word ∷ []) r
zeros-word by n word r is = record {
  over = is.over;
  places = λ p ss allowed wide.
      over-word (Places r (op.ZeroExtend by)) p (op.ZeroExtend by) ss word (vector p ss allowed) wide
      (λ w places. is.places ∙ ap (λ w. w + by) places);
  value = λ p ss allowed wide.
      over-word (Values n (op.ZeroExtend by) (word ∷ []) r) p (op.ZeroExtend by) ss word (vector p ss allowed) wide
      (λ w places inputs v h. ap (val.Bits (w + by)) (is.number v h));
}
  where
    vector : (p : ℕ) (ss : List Sort) → refusal p (op.ZeroExtend by) ss ≡ None → (w : ℕ) × (ss ≡ sort.Bits w ∷ [])
    vector p ss allowed = sorts_vector p Free ss ss (IsFitting-of p (op.ZeroExtend by) ss allowed).fit

pub signs-word : (by : ℕ) (n : Netlist) (word r : List Signal)
    → IsWordOf n (length word + by) (λ v. sign_extended (length word) (length word + by) (word_number v word)) r
    → IsOpWord n (op.SignExtend by) (word ∷ []) r
signs-word by n word r is = record {
  over = is.over;
  places = λ p ss allowed wide.
      over-word (Places r (op.SignExtend by)) p (op.SignExtend by) ss word (vector p ss allowed) wide
      (λ w places. is.places ∙ ap (λ w. w + by) places);
  value = λ p ss allowed wide.
      over-word (Values n (op.SignExtend by) (word ∷ []) r) p (op.SignExtend by) ss word (vector p ss allowed) wide
      (λ w places inputs v h. bits-number v r (w + by) (is.places ∙ ap (λ w. w + by) places)
      ∙ ap (bits (w + by)) (is.number v h)
      ∙ ap (λ x. bits (w + by) (sign_extended x (x + by) (word_number v word))) places);
}
  where
    vector : (p : ℕ) (ss : List Sort) → refusal p (op.SignExtend by) ss ≡ None → (w : ℕ) × (ss ≡ sort.Bits w ∷ [])
    vector p ss allowed = sorts_vector p Free ss ss (IsFitting-of p (op.SignExtend by) ss allowed).fit

-- ---- of two words: bit by bit, or by arithmetic

pub arithmetic-as : (o given : Op) → o ≡ given → (n : Netlist) (left right word : List Signal) (F : ℕ → ℕ → ℕ)
    → ((inputs : List Value) (m k : ℕ)
    → op_value inputs given (val.Bits (length left) m ∷ val.Bits (length left) k ∷ []) ≡ bits (length left) (F m k))
    → IsWordOf n (length left) (λ v. F (word_number v left) (word_number v right)) word
    → IsArithmetic n o left right word
arithmetic-as o given same n left right word F says is =
    subst (λ o. IsArithmetic n o left right word) (sym same) (record {
      over = is.over;
      places = is.places;
      value = λ inputs v h.
          bits-number v word (length left) is.places ∙ ap (bits (length left)) (is.number v h)
          ∙ sym (says inputs (word_number v left) (word_number v right));
    })

abbrev pub is_alike : Op → Bool
is_alike o = is_arithmetic o || is_shift o

arithmetic-signature : (o : Op) → is_alike o ≡ true → signature o ≡ arithmetic
arithmetic-signature op.BvAnd h = refl
arithmetic-signature op.BvOr h = refl
arithmetic-signature op.BvXor h = refl
arithmetic-signature op.BvAdd h = refl
arithmetic-signature op.BvSub h = refl
arithmetic-signature op.BvMul h = refl
arithmetic-signature op.BvUdiv h = refl
arithmetic-signature op.BvUrem h = refl
arithmetic-signature op.BvShl h = refl
arithmetic-signature op.BvLshr h = refl
arithmetic-signature op.BvAshr h = refl
arithmetic-signature o h = absurd (false≢true h)

same-vectors : (p : ℕ) (o : Op) (ss : List Sort) → is_alike o ≡ true → refusal p o ss ≡ None
    → (w : ℕ) × (ss ≡ sort.Bits w ∷ sort.Bits w ∷ [])
same-vectors p o ss alike allowed =
    sorts_same p Free ss (subst (λ sig. AllFit p sig.index ss sig.slots ss) (arithmetic-signature o alike)
    (IsFitting-of p o ss allowed).fit)

over-words : (P : List Sort → Type 0) (ss : List Sort) (left right : List Signal)
    → (w : ℕ) × (ss ≡ sort.Bits w ∷ sort.Bits w ∷ []) → AreWide ss (left ∷ right ∷ [])
    → ((w : ℕ) → length left ≡ w → P (sort.Bits w ∷ sort.Bits w ∷ [])) → P ss
over-words P ss left right at wide all =
    subst P (sym at.1) (all at.0 (subst (λ ss. AreWide ss (left ∷ right ∷ [])) at.1 wide).0.0)

-- two words of one width, from 1 to 64
pub record AreAlike (left right : List Signal) : Type 0 where
  pub width : length right ≡ length left
  pub some : 1 ≤ length left
  pub narrow : length left ≤ 64

alike-words : (ss : List Sort) (left right : List Signal) → (s : Sort) × (ss ≡ s ∷ s ∷ [])
    → AreWide ss (left ∷ right ∷ []) → AreAlike left right
alike-words ss left right at wide =
    let both = subst (λ ss. AreWide ss (left ∷ right ∷ [])) at.1 wide in
    record { width = both.1.0.0 ∙ sym both.0.0; some = both.0.1; narrow = both.0.2 }

pub arithmetic-alike : (o : Op) (left right : List Signal) → is_alike o ≡ true → MayStand o (left ∷ right ∷ [])
    → AreAlike left right
arithmetic-alike o left right alike stands =
    let at = same-vectors stands.pointer o stands.sorts alike stands.allowed in
    alike-words stands.sorts left right (sort.Bits at.0, at.1) stands.wide

pub arithmetic-word : (o : Op) (n : Netlist) (left right word : List Signal) → is_alike o ≡ true
    → IsArithmetic n o left right word → IsOpWord n o (left ∷ right ∷ []) word
arithmetic-word o n left right word alike is = record {
  over = is.over;
  places = λ p ss allowed wide.
      over-words (Places word o) ss left right (same-vectors p o ss alike allowed) wide
      (λ w places. is.places ∙ places ∙ ap width_of (result-is w));
  value = λ p ss allowed wide.
      over-words (Values n o (left ∷ right ∷ []) word) ss left right (same-vectors p o ss alike allowed) wide
      (λ w places inputs v h.
      ap (λ s. value_of s (word_number v word)) (sym (result-is w))
      ∙ ap (λ w. val.Bits w (word_number v word)) (sym places) ∙ is.value inputs v h
      ∙ ap (λ w. op_value inputs o (val.Bits w (word_number v left) ∷ val.Bits w (word_number v right) ∷ [])) places);
}
  where
    result-is : (w : ℕ) → sort.Bits w ≡ result_sort (signature o).result (sort.Bits w ∷ sort.Bits w ∷ [])
    result-is w = ap (λ (sig : Signature). result_sort sig.result (sort.Bits w ∷ sort.Bits w ∷ []))
        (sym (arithmetic-signature o alike))

-- ---- connectives

connective-signature : (o : Op) → is_connective o ≡ true → signature o ≡ connective
connective-signature op.And h = refl
connective-signature op.Or h = refl
connective-signature op.Xor h = refl
connective-signature op.Implies h = refl
connective-signature o h = absurd (false≢true h)

connective-value : (o : Op) → is_connective o ≡ true → (inputs : List Value) (p q : Bool)
    → val.Bool (is_true (op_value [] o (val.Bool p ∷ val.Bool q ∷ []))) ≡ op_value inputs o
    (val.Bool p ∷ val.Bool q ∷ [])
connective-value op.And h inputs p q = refl
connective-value op.Or h inputs p q = refl
connective-value op.Xor h inputs p q = refl
connective-value op.Implies h inputs p q = refl
connective-value o h inputs p q = absurd (false≢true h)

two-truths : (p : ℕ) (o : Op) (ss : List Sort) → is_connective o ≡ true → refusal p o ss ≡ None
    → ss ≡ sort.Bool ∷ sort.Bool ∷ []
two-truths p o ss is allowed =
    sorts_truths p Free ss ss (subst (λ sig. AllFit p sig.index ss sig.slots ss) (connective-signature o is)
    (IsFitting-of p o ss allowed).fit)

one_of : (word : List Signal) (d : Signal) → length word ≡ 1 → word ≡ get_or word 0 d ∷ []
one_of [] d h = absurd (omega (arith, h))
one_of (s ∷ []) d h = refl
one_of (s ∷ t ∷ word) d h = absurd (omega (arith, h))

-- the truth value of a word of one signal
pub word-truth : (v : ℕ → Bool) (word : List Signal) (d : Signal) → length word ≡ 1
    → word_number v word == 1 ≡ signal_true v (get_or word 0 d)
word-truth v word d one =
    ap (λ w. word_number v w == 1) (one_of word d one) ∙ one-signal (signal_true v (get_or word 0 d))

pub connective-word : (o : Op) (n : Netlist) (left right : List Signal) (d e s : Signal) → is_connective o ≡ true
    → IsSignalOf n (λ v. is_true (op_value [] o
    (val.Bool (signal_true v (get_or left 0 d)) ∷ val.Bool (signal_true v (get_or right 0 e)) ∷ []))) s
    → (word : List Signal) → word ≡ s ∷ [] → IsOpWord n o (left ∷ right ∷ []) word
connective-word o n left right d e s con is word same =
    subst (IsOpWord n o (left ∷ right ∷ [])) (sym same) (record {
      over = All-one (IsSignalOver (length n.gates)) s is.over;
      places = λ p ss allowed wide. ap width_of (result-is ss);
      value = λ p ss allowed wide.
          let sorts = two-truths p o ss con allowed in
          let both = subst (λ ss. AreWide ss (left ∷ right ∷ [])) sorts wide in
          subst (Values n o (left ∷ right ∷ []) (s ∷ [])) (sym sorts) (λ inputs v h.
          ap (λ r. value_of r (word_number v (s ∷ []))) (sym (result-is (sort.Bool ∷ sort.Bool ∷ [])))
          ∙ ap val.Bool (one-signal (signal_true v s) ∙ is.value v h)
          ∙ connective-value o con inputs _ _
          ∙ ap (λ b. op_value inputs o (val.Bool b ∷ val.Bool (signal_true v (get_or right 0 e)) ∷ []))
          (sym (word-truth v left d both.0.0))
          ∙ ap (λ b. op_value inputs o (val.Bool (word_number v left == 1) ∷ val.Bool b ∷ []))
          (sym (word-truth v right e both.1.0.0)));
    })
  where
    result-is : (ss : List Sort) → sort.Bool ≡ result_sort (signature o).result ss
    result-is ss = ap (λ (sig : Signature). result_sort sig.result ss) (sym (connective-signature o con))

-- the words of truth values have a signal
pub connective-some : (o : Op) (left right : List Signal) → MayStand o (left ∷ right ∷ [])
    → (1 ≤ length left) × (1 ≤ length right)
connective-some o left right stands = by stands.sorts stands.wide
  where
    by : (ss : List Sort) → AreWide ss (left ∷ right ∷ []) → (1 ≤ length left) × (1 ≤ length right)
    by [] wide = absurd wide
    by (s ∷ []) wide = absurd wide.1
    by (s ∷ r ∷ []) wide = (wide.0.1, wide.1.0.1)
    by (s ∷ r ∷ t ∷ ss) wide = absurd wide.1.1

-- ---- comparisons

one_sort : (p : ℕ) (o : Op) (ss : List Sort) → is_comparison o ≡ true → refusal p o ss ≡ None
    → (s : Sort) × (ss ≡ s ∷ s ∷ [])
one_sort p op.Eq ss h allowed = sorts_equal p Free ss (IsFitting-of p op.Eq ss allowed).fit
one_sort p op.BvUlt ss h allowed =
    let at = sorts_same p Free ss (IsFitting-of p op.BvUlt ss allowed).fit in (sort.Bits at.0, at.1)
one_sort p op.BvUle ss h allowed =
    let at = sorts_same p Free ss (IsFitting-of p op.BvUle ss allowed).fit in (sort.Bits at.0, at.1)
one_sort p op.BvSlt ss h allowed =
    let at = sorts_same p Free ss (IsFitting-of p op.BvSlt ss allowed).fit in (sort.Bits at.0, at.1)
one_sort p op.BvSle ss h allowed =
    let at = sorts_same p Free ss (IsFitting-of p op.BvSle ss allowed).fit in (sort.Bits at.0, at.1)
one_sort p o ss h allowed = absurd (false≢true h)

pub comparison-alike : (o : Op) (left right : List Signal) → is_comparison o ≡ true → MayStand o (left ∷ right ∷ [])
    → AreAlike left right
comparison-alike o left right is stands =
    alike-words stands.sorts left right (one_sort stands.pointer o stands.sorts is stands.allowed) stands.wide

comparison-result : (o : Op) (ss : List Sort) → is_comparison o ≡ true
    → sort.Bool ≡ result_sort (signature o).result ss
comparison-result op.Eq ss h = refl
comparison-result op.BvUlt ss h = refl
comparison-result op.BvUle ss h = refl
comparison-result op.BvSlt ss h = refl
comparison-result op.BvSle ss h = refl
comparison-result o ss h = absurd (false≢true h)

compared-bits : (o : Op) → is_comparison o ≡ true → (inputs : List Value) (w m k : ℕ)
    → val.Bool (is_true (op_value [] o (val.Bits w m ∷ val.Bits w k ∷ [])))
    ≡ op_value inputs o (val.Bits w m ∷ val.Bits w k ∷ [])
compared-bits op.Eq h inputs w m k = refl
compared-bits op.BvUlt h inputs w m k = refl
compared-bits op.BvUle h inputs w m k = refl
compared-bits op.BvSlt h inputs w m k = refl
compared-bits op.BvSle h inputs w m k = refl
compared-bits o h inputs w m k = absurd (false≢true h)

pub same-truths : (m k : ℕ) → m < 2 → k < 2 → (m == k) ≡ beq (m == 1) (k == 1)
same-truths zero zero h l = refl
same-truths zero (suc zero) h l = refl
same-truths (suc zero) zero h l = refl
same-truths (suc zero) (suc zero) h l = refl
same-truths (suc (suc m)) k h l = absurd (omega (arith, h))
same-truths m (suc (suc k)) h l = absurd (omega (arith, l))

-- truth values can only be compared for equality
compared-truths : (p : ℕ) (o : Op) → is_comparison o ≡ true → refusal p o (sort.Bool ∷ sort.Bool ∷ []) ≡ None
    → (inputs : List Value) (m k : ℕ) → m < 2 → k < 2
    → val.Bool (is_true (op_value [] o (val.Bits 1 m ∷ val.Bits 1 k ∷ [])))
    ≡ op_value inputs o (val.Bool (m == 1) ∷ val.Bool (k == 1) ∷ [])
compared-truths p op.Eq h allowed inputs m k less small = ap val.Bool (same-truths m k less small)
compared-truths p op.BvUlt h allowed inputs m k less small = absurd (cc)
compared-truths p op.BvUle h allowed inputs m k less small = absurd (cc)
compared-truths p op.BvSlt h allowed inputs m k less small = absurd (cc)
compared-truths p op.BvSle h allowed inputs m k less small = absurd (cc)
compared-truths p o h allowed inputs m k less small = absurd (false≢true h)

compared-sort : (p : ℕ) (o : Op) (n : Netlist) (left right : List Signal) (s : Signal) (kind : Sort)
    → is_comparison o ≡ true → refusal p o (kind ∷ kind ∷ []) ≡ None
    → AreWide (kind ∷ kind ∷ []) (left ∷ right ∷ [])
    → IsSignalOf n (λ v. is_true (op_value [] o
    (val.Bits (length left) (word_number v left) ∷ val.Bits (length left) (word_number v right) ∷ []))) s
    → (inputs : List Value) (v : ℕ → Bool) → IsTrue (hold v n.gates)
    → val.Bool (signal_true v s) ≡ op_value inputs o (values_of v (kind ∷ kind ∷ []) (left ∷ right ∷ []))
compared-sort p o n left right s sort.Bool con allowed wide is inputs v h =
    let one : length left ≡ 1 = wide.0.0 in
    let too : length right ≡ 1 = wide.1.0.0 in
    ap val.Bool (is.value v h)
    ∙ ap (λ w. val.Bool (is_true (op_value [] o (val.Bits w (word_number v left) ∷ val.Bits w
    (word_number v right) ∷ []))))
    one
    ∙ compared-truths p o con allowed inputs (word_number v left) (word_number v right)
    (subst (λ w. word_number v left < 2 ^ w) one (word_number-below v left))
    (subst (λ w. word_number v right < 2 ^ w) too (word_number-below v right))
compared-sort p o n left right s (sort.Bits w) con allowed wide is inputs v h =
    ap val.Bool (is.value v h)
    ∙ compared-bits o con inputs (length left) (word_number v left) (word_number v right)
    ∙ ap (λ w. op_value inputs o (val.Bits w (word_number v left) ∷ val.Bits w (word_number v right) ∷ [])) wide.0.0
compared-sort p o n left right s sort.Mem con allowed wide is inputs v h =
    absurd (omega (arith, wide.0.0, wide.0.1))

pub compared-word : (o : Op) (n : Netlist) (left right : List Signal) (s : Signal) → is_comparison o ≡ true
    → IsSignalOf n (λ v. is_true (op_value [] o
    (val.Bits (length left) (word_number v left) ∷ val.Bits (length left) (word_number v right) ∷ []))) s
    → (word : List Signal) → word ≡ s ∷ [] → IsOpWord n o (left ∷ right ∷ []) word
compared-word o n left right s con is word same =
    subst (IsOpWord n o (left ∷ right ∷ [])) (sym same) (record {
      over = All-one (IsSignalOver (length n.gates)) s is.over;
      places = λ p ss allowed wide. ap width_of (comparison-result o ss con);
      value = λ p ss allowed wide inputs v h.
          let at = one_sort p o ss con allowed in
          ap (λ r. value_of r (word_number v (s ∷ []))) (sym (comparison-result o ss con))
          ∙ ap val.Bool (one-signal (signal_true v s))
          ∙ compared-sort p o n left right s at.0 con (subst (λ ss. refusal p o ss ≡ None) at.1 allowed)
          (subst (λ ss. AreWide ss (left ∷ right ∷ [])) at.1 wide) is inputs v h
          ∙ ap (λ ss. op_value inputs o (values_of v ss (left ∷ right ∷ []))) (sym at.1);
    })

-- at most is not more
not-less : (m k : ℕ) → not (nat_lt k m) ≡ nat_le m k
not-less m k = grind (arith, nat_tests)

not-more : (p q : Bool) (m k : ℕ) → not ((q && not p) || (beq q p && nat_lt k m))
    ≡ ((p && not q) || (beq p q && nat_le m k))
not-more false false m k = not-less m k
not-more false true m k = refl
not-more true false m k = refl
not-more true true m k = not-less m k

pub at_most : (o : Op) → o ≡ op.BvUle → (w m k : ℕ)
    → not (nat_lt k m) ≡ is_true (op_value [] o (val.Bits w m ∷ val.Bits w k ∷ []))
at_most o e w m k =
    not-less m k ∙ ap (λ o. is_true (op_value [] o (val.Bits w m ∷ val.Bits w k ∷ []))) (sym e)

pub signed_at_most : (o : Op) → o ≡ op.BvSle → (w m k : ℕ)
    → not (slt w k m) ≡ is_true (op_value [] o (val.Bits w m ∷ val.Bits w k ∷ []))
signed_at_most o e w m k =
    not-more (nat_le (2 ^ w) (2 * m)) (nat_le (2 ^ w) (2 * k)) m k
    ∙ ap (λ o. is_true (op_value [] o (val.Bits w m ∷ val.Bits w k ∷ []))) (sym e)

-- a signal of the opposite
pub opposite-signal : (n : Netlist) (s r : Signal) (f g : (ℕ → Bool) → Bool)
    → IsSignalOf n f s → ((v : ℕ → Bool) → signal_true v r ≡ not (signal_true v s))
    → IsSignalOver (length n.gates) r → ((v : ℕ → Bool) → not (f v) ≡ g v) → IsSignalOf n g r
opposite-signal n s r f g is opposite over same = record {
  over = over;
  value = λ v h. opposite v ∙ ap not (is.value v h) ∙ same v;
}

-- ---- joined

pub joined-word : (n : Netlist) (high low r : List Signal)
    → IsWordOf n (length high + length low) (λ v. word_number v high * 2 ^ length low + word_number v low) r
    → IsOpWord n op.Concat (high ∷ low ∷ []) r
joined-word n high low r is = record {
  over = is.over;
  places = λ p ss allowed wide.
      let at = vectors p ss allowed in
      let both = subst (λ ss. AreWide ss (high ∷ low ∷ [])) at.2 wide in
      subst (Places r op.Concat) (sym at.2)
      (is.places ∙ ap (λ w. w + length low) both.0.0 ∙ ap (λ w. at.0 + w) both.1.0.0);
  value = λ p ss allowed wide.
      let at = vectors p ss allowed in
      let both = subst (λ ss. AreWide ss (high ∷ low ∷ [])) at.2 wide in
      subst (Values n op.Concat (high ∷ low ∷ []) r) (sym at.2) (λ inputs v h.
      ap (val.Bits (at.0 + at.1)) (is.number v h
      ∙ ap (λ w. word_number v high * 2 ^ w + word_number v low) both.1.0.0));
}
  where
    vectors : (p : ℕ) (ss : List Sort) → refusal p op.Concat ss ≡ None
        → (w v : ℕ) × (ss ≡ sort.Bits w ∷ sort.Bits v ∷ [])
    vectors p ss allowed = sorts_vectors p Free ss ss (IsFitting-of p op.Concat ss allowed).fit

-- ---- constants

constant_fits : (w m : ℕ) → (is_width w && nat_lt m (2 ^ w)) ≡ true → m < 2 ^ w
constant_fits w m h = grind (arith, nat_tests)

pub constant-word : (w m given : ℕ) → given ≡ w → MayStand (op.Bits w m) [] → (n : Netlist) (r : List Signal)
    → IsWordOf n given (λ v. m % 2 ^ given) r → IsOpWord n (op.Bits w m) [] r
constant-word w m given same stands n r is = record {
  over = is.over;
  places = λ p ss allowed wide. is.places ∙ same;
  value = λ p ss allowed wide inputs v h.
      let none = sorts_none p (Number w m) ss ss (IsFitting-of p (op.Bits w m) ss allowed).fit in
      let small = constant_fits w m (IsFitting-of p (op.Bits w m) ss allowed).indexed in
      ap (val.Bits w) (is.number v h ∙ ap (λ w. m % 2 ^ w) same ∙ mod-eq_of_lt small)
      ∙ ap (λ ss. op_value inputs (op.Bits w m) (values_of v ss [])) (sym none);
}

-- an operation over nothing is a constant or an input
pub none-else : (o : Op) → ((b : Bool) → o ≡ op.Bool b → ⊥) → ((w m : ℕ) → o ≡ op.Bits w m → ⊥)
    → ((number : ℕ) (s : Sort) → o ≡ op.Input number s → ⊥) → MayStand o [] → ⊥
none-else o bool word input stands = by o stands.sorts bool word input stands.allowed stands.wide
  where
    refused : (o : Op) (p : ℕ) → ((b : Bool) → o ≡ op.Bool b → ⊥) → ((w m : ℕ) → o ≡ op.Bits w m → ⊥)
        → ((number : ℕ) (s : Sort) → o ≡ op.Input number s → ⊥) → refusal p o [] ≡ None → ⊥
    refused (op.Bool b) p bool word input allowed = bool b refl
    refused (op.Bits w m) p bool word input allowed = word w m refl
    refused (op.Input number s) p bool word input allowed = input number s refl
    refused o p bool word input allowed = cc

    by : (o : Op) (ss : List Sort) → ((b : Bool) → o ≡ op.Bool b → ⊥) → ((w m : ℕ) → o ≡ op.Bits w m → ⊥)
        → ((number : ℕ) (s : Sort) → o ≡ op.Input number s → ⊥) → refusal stands.pointer o ss ≡ None → AreWide ss [] → ⊥
    by o [] bool word input allowed wide = refused o stands.pointer bool word input allowed
    by o (s ∷ ss) bool word input allowed wide = wide

-- ---- as the code returns them

pub on-ok : {T E P : Type 0} (r : Result T E) → P → OnOk r P
on-ok (Ok x) p = p
on-ok (Err e) p = tt

pub part-as : (o : Op) (high low h l : ℕ) → o ≡ op.Extract high low → h ≡ high → l ≡ low → (n : Netlist)
    (word r : List Signal) → IsWordOf n (h - l + 1) (λ v. word_number v word / 2 ^ l % 2 ^ (h - l + 1)) r
    → IsOpWord n o (word ∷ []) r
part-as o high low h l same eh el n word r is =
    subst (λ o. IsOpWord n o (word ∷ []) r) (sym same) (part-word high low n word r
    (subst (λ h. IsWordOf n (h - low + 1) (λ v. word_number v word / 2 ^ low % 2 ^ (h - low + 1)) r) eh
    (subst (λ l. IsWordOf n (h - l + 1) (λ v. word_number v word / 2 ^ l % 2 ^ (h - l + 1)) r) el is)))

pub zeros-as : (o : Op) (by b : ℕ) → o ≡ op.ZeroExtend by → b ≡ by → (n : Netlist) (word r : List Signal)
    → IsWordOf n (length word + b) (λ v. word_number v word) r → IsOpWord n o (word ∷ []) r
zeros-as o by b same e n word r is =
    subst (λ o. IsOpWord n o (word ∷ []) r) (sym same) (zeros-word by n word r
    (subst (λ b. IsWordOf n (length word + b) (λ v. word_number v word) r) e is))

pub signs-as : (o : Op) (by b : ℕ) → o ≡ op.SignExtend by → b ≡ by → (n : Netlist) (word r : List Signal)
    → IsWordOf n (length word + b) (λ v. sign_extended (length word) (length word + b) (word_number v word)) r
    → IsOpWord n o (word ∷ []) r
signs-as o by b same e n word r is =
    subst (λ o. IsOpWord n o (word ∷ []) r) (sym same) (signs-word by n word r
    (subst (λ b. IsWordOf n (length word + b)
    (λ v. sign_extended (length word) (length word + b) (word_number v word)) r) e is))

pub ok-both : {T E P : Type 0} (Q R : T → Type 0) (r : Result T E) → OnOk r P → IfOk r Q → ((x : T) → P → Q x → R x)
    → IfOk r R
ok-both Q R (Ok x) p q make = make x p q
ok-both Q R (Err e) p q make = tt

-- an operation over two words that is of no other kind
refused : (o : Op) (p : ℕ) (s t : Sort) (left right : List Signal) → AreWide (s ∷ t ∷ []) (left ∷ right ∷ [])
    → refusal p o (s ∷ t ∷ []) ≡ None → is_connective o ≡ false → is_comparison o ≡ false → is_shift o ≡ false
    → (o ≡ op.Concat → ⊥) → is_arithmetic o ≡ true
refused op.BvAnd p s t left right wide allowed a b c d = refl
refused op.BvOr p s t left right wide allowed a b c d = refl
refused op.BvXor p s t left right wide allowed a b c d = refl
refused op.BvAdd p s t left right wide allowed a b c d = refl
refused op.BvSub p s t left right wide allowed a b c d = refl
refused op.BvMul p s t left right wide allowed a b c d = refl
refused op.BvUdiv p s t left right wide allowed a b c d = refl
refused op.BvUrem p s t left right wide allowed a b c d = refl
refused op.Concat p s t left right wide allowed a b c d = absurd (d refl)
refused (op.MLoad n) p s t left right wide allowed a b c d =
    let fit = (IsFitting-of p (op.MLoad n) (s ∷ t ∷ []) allowed).fit in
    let none : length left ≡ 0 = wide.0.0 ∙ ap width_of (same_sort-true s sort.Mem fit.0) in
    absurd (omega (arith, wide.0.1, none))
refused (op.MMark n) p s t left right wide allowed a b c d =
    let fit = (IsFitting-of p (op.MMark n) (s ∷ t ∷ []) allowed).fit in
    let none : length left ≡ 0 = wide.0.0 ∙ ap width_of (same_sort-true s sort.Mem fit.0) in
    absurd (omega (arith, wide.0.1, none))
refused o p s t left right wide allowed a b c d = cc

pub two-else : (o : Op) (left right : List Signal) → MayStand o (left ∷ right ∷ [])
    → is_connective o ≡ false → is_comparison o ≡ false → is_shift o ≡ false
    → (o ≡ op.Concat → ⊥) → is_arithmetic o ≡ true
two-else o left right stands a b c d = by stands.sorts stands.allowed stands.wide
  where
    by : (ss : List Sort) → refusal stands.pointer o ss ≡ None → AreWide ss (left ∷ right ∷ []) → is_arithmetic o ≡ true
    by [] allowed wide = absurd wide
    by (s ∷ []) allowed wide = absurd wide.1
    by (s ∷ t ∷ []) allowed wide = refused o stands.pointer s t left right wide allowed a b c d
    by (s ∷ t ∷ u ∷ ss) allowed wide = absurd wide.1.1

pub alike-arithmetic : (o : Op) → is_arithmetic o ≡ true → is_alike o ≡ true
alike-arithmetic o h = ap (λ b. b || is_shift o) h

pub alike-shift : (o : Op) → is_shift o ≡ true → is_alike o ≡ true
alike-shift o h = or-right (is_arithmetic o) (is_shift o) h

-- ---- a choice

chosen-value : (s : Sort) (b : Bool) (m k : ℕ)
    → value_of s (if b then m else k) ≡ (if b then value_of s m else value_of s k)
chosen-value s false m k = refl
chosen-value s true m k = refl

pub choice-word : (o : Op) → o ≡ op.Ite → (n : Netlist) (condition chosen otherwise : List Signal) (d : Signal)
    (word : List Signal)
    → IsWordOf n (length chosen)
    (λ v. if signal_true v (get_or condition 0 d) then word_number v chosen else word_number v otherwise) word
    → IsOpWord n o (condition ∷ chosen ∷ otherwise ∷ []) word
choice-word o same n condition chosen otherwise d word is =
    subst (λ o. IsOpWord n o (condition ∷ chosen ∷ otherwise ∷ []) word) (sym same) (record {
      over = is.over;
      places = λ p ss allowed wide.
          let at = sorts p ss allowed in
          subst (Places word op.Ite) (sym at.1)
          (is.places ∙ (subst (λ ss. AreWide ss (condition ∷ chosen ∷ otherwise ∷ [])) at.1 wide).1.0.0);
      value = λ p ss allowed wide.
          let at = sorts p ss allowed in
          let one : length condition ≡ 1 =
          (subst (λ ss. AreWide ss (condition ∷ chosen ∷ otherwise ∷ [])) at.1 wide).0.0 in
          subst (Values n op.Ite (condition ∷ chosen ∷ otherwise ∷ []) word) (sym at.1) (λ inputs v h.
          ap (value_of at.0) (is.number v h)
          ∙ chosen-value at.0 (signal_true v (get_or condition 0 d)) (word_number v chosen) (word_number v otherwise)
          ∙ ap (λ b. if b then value_of at.0 (word_number v chosen) else value_of at.0 (word_number v otherwise))
          (sym (word-truth v condition d one)));
    })
  where
    sorts : (p : ℕ) (ss : List Sort) → refusal p op.Ite ss ≡ None → (s : Sort) × (ss ≡ sort.Bool ∷ s ∷ s ∷ [])
    sorts p ss allowed = sorts_choice p Free ss (IsFitting-of p op.Ite ss allowed).fit
