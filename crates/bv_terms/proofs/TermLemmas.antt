-- What is known of a well-sorted term: its sort has a width from 1 to 64, and its value is of its sort.
use Rattle.std.proofs.Common.{slice_get, zero, suc, ◌≡◌, ℕ, ◌+◌, ◌*◌, ◌-◌, ◌^◌, ◌<◌, ◌≤◌, Bool, true, false, cond, ◌&&◌}
use Rattle.std.proofs.Common.{nat_lt, List, [], ◌∷◌, unwrap_or, Option, None, Some}
use Rattle.std.proofs.Common.{option_and_then, refl, sym, ap, ◌∙◌, subst, arith}
use Rattle.std.proofs.lemmas.Bool.Decides.{nat_tests}
use Rattle.std.proofs.lemmas.Nat.{pow_pos, mod_below, pow-add}
use Rattle.std.proofs.Math.Nat.{mul-le-mul_right, le-mul_of_pos_right}
use Rattle.std.proofs.lemmas.Option.{same_Some}
use Rattle.bv_terms.specs.declared.op.Op.{Op}
use Rattle.bv_terms.specs.declared.op.Op.TheVariants as op
use Rattle.bv_terms.specs.declared.op.MakeFault.{MakeFault}
use Rattle.bv_terms.specs.declared.signature.Slot.{Slot}
use Rattle.bv_terms.specs.declared.signature.Slot.TheVariants.{Truth, Vector, NoMemory, SameAs, Memory, Pointer}
use Rattle.bv_terms.specs.declared.signature.Slot.TheVariants.{Accessed}
use Rattle.bv_terms.specs.declared.signature.IndexRule.{IndexRule}
use Rattle.bv_terms.specs.declared.signature.IndexRule.TheVariants.{Free, Sized, Number, Slice, Access}
use Rattle.bv_terms.specs.declared.value.Sort.{Sort}
use Rattle.bv_terms.specs.declared.value.Sort.TheVariants as sort
use Rattle.bv_terms.specs.declared.value.Value.{Value}
use Rattle.bv_terms.specs.declared.value.Value.TheVariants as val
use Rattle.bv_terms.specs.Term.{Term, Operands, Apply, End, Then, bits, op_value, value, values}
use Rattle.bv_terms.specs.Sorts.{HasSort, HaveSorts, is_width, IsSized, AreSized}
use Rattle.bv_terms.specs.Signature.{signature, refusal, result_sort, is_access, width_at}
use Rattle.bv_terms.specs.WellSorted.{op_sort, sort_unless, sort_of, sorts_of, InputFits, InputsFit, AllInputsFit}
use Rattle.bv_terms.proofs.SignatureLemmas.{IsFitting, IsFitting-of, AllFit, sorts_none, sorts_truth, sorts_truths}
use Rattle.bv_terms.proofs.SignatureLemmas.{sorts_vector, sorts_vectors, sorts_same, sorts_equal, sorts_choice}
use Rattle.bv_terms.proofs.SignatureLemmas.{sorts_memory}
use Rattle.list_lemmas.proofs.Bools.{and_left as and_first}

-- how an operation over terms is well-sorted
pub record IsSorted (p : ℕ) (o : Op) (ts : Operands) (s : Sort) : Type 0 where
  pub sorts : List Sort
  pub of_args : sorts_of p ts ≡ Some sorts
  pub fits : refusal p o sorts ≡ None
  pub result : result_sort (signature o).result sorts ≡ s

sort_unless-some : (r : Option MakeFault) (t s : Sort) → sort_unless r t ≡ Some s → (r ≡ None) × (t ≡ s)
sort_unless-some None t s h = (refl, cc)
sort_unless-some (Some f) t s h = cc

pub IsSorted-of : (p : ℕ) (o : Op) (ts : Operands) (s : Sort) → sort_of p (Apply o ts) ≡ Some s → IsSorted p o ts s
unfolding sort_of
IsSorted-of p o ts s h = by (sorts_of p ts) refl h
  where
    by : (r : Option (List Sort)) → sorts_of p ts ≡ r → option_and_then (op_sort p o) r ≡ Some s → IsSorted p o ts s
    by None e h = cc
    by (Some ss) e h =
        let parts = sort_unless-some (refusal p o ss) (result_sort (signature o).result ss) s h in
        record { sorts = ss; of_args = e; fits = parts.0; result = parts.1 }

-- the sorts of operands, one by one
pub sorts_of-some : (p : ℕ) (t : Term) (ts : Operands) (ss : List Sort) → sorts_of p (Then t ts) ≡ Some ss
    → (s : Sort) × (rest : List Sort) × (ss ≡ s ∷ rest) × (sort_of p t ≡ Some s) × (sorts_of p ts ≡ Some rest)
unfolding sort_of
sorts_of-some p t ts ss h = by (sort_of p t) refl (sorts_of p ts) refl h
  where
    by : (r : Option Sort) → sort_of p t ≡ r → (q : Option (List Sort)) → sorts_of p ts ≡ q
        → option_and_then (λ s. option_and_then (λ (rest : List Sort). Some (s ∷ rest)) q) r ≡ Some ss
        → (s : Sort) × (rest : List Sort) × (ss ≡ s ∷ rest) × (sort_of p t ≡ Some s) × (sorts_of p ts ≡ Some rest)
    by None e q f h = cc
    by (Some s) e None f h = cc
    by (Some s) e (Some rest) f h = (s, rest, cc, e, f)

-- ---- a width from 1 to 64

is_width-true : (w : ℕ) → is_width w ≡ true → (1 ≤ w) × (w ≤ 64)
is_width-true w h = grind (arith, nat_tests)

IsSized-at : (ss : List Sort) (k : ℕ) → AreSized ss → IsSized (unwrap_or (slice_get ss k) sort.Bool)
IsSized-at [] k h = tt
IsSized-at (s ∷ ss) zero h = h.0
IsSized-at (s ∷ ss) (suc k) h = IsSized-at ss k h.1

-- a result that is at most 64 bits wide has a bit where its first argument has one
longer-sized : (p : ℕ) (index : IndexRule) (ss all : List Sort) (by : ℕ) → AllFit p index all (Vector ∷ []) ss
    → AreSized ss → width_at ss 0 + by ≤ 64 → IsSized (sort.Bits (width_at ss 0 + by))
longer-sized p index ss all by f h narrow =
    let word = sorts_vector p index ss all f in
    let sized = subst AreSized word.1 h in
    (omega (arith, sized.0.0, ap (λ ss. width_at ss 0) word.1), narrow)

joined-sized : (p : ℕ) (index : IndexRule) (ss all : List Sort) → AllFit p index all (Vector ∷ Vector ∷ []) ss
    → AreSized ss → width_at ss 0 + width_at ss 1 ≤ 64 → IsSized (sort.Bits (width_at ss 0 + width_at ss 1))
joined-sized p index ss all f h narrow =
    let words = sorts_vectors p index ss all f in
    let sized = subst AreSized words.2 h in
    (omega (arith, sized.0.0, ap (λ ss. width_at ss 0) words.2), narrow)

access-some : (p n : ℕ) → is_access p n ≡ true → 1 ≤ n
access-some p n h = grind (arith, nat_tests)

pub result_sort-sized : (p : ℕ) (o : Op) (ss : List Sort) → IsFitting p o ss → AreSized ss
    → IsSized (result_sort (signature o).result ss)
result_sort-sized p (op.Input k sort.Bool) ss f h = tt
result_sort-sized p (op.Input k (sort.Bits w)) ss f h = is_width-true w f.indexed
result_sort-sized p (op.Input k sort.Mem) ss f h = tt
result_sort-sized p (op.Bool b) ss f h = tt
result_sort-sized p (op.Bits w n) ss f h = is_width-true w (and_first (is_width w) (nat_lt n (2 ^ w)) f.indexed)
result_sort-sized p op.Not ss f h = tt
result_sort-sized p op.And ss f h = tt
result_sort-sized p op.Or ss f h = tt
result_sort-sized p op.Xor ss f h = tt
result_sort-sized p op.Implies ss f h = tt
result_sort-sized p op.Eq ss f h = tt
result_sort-sized p op.BvUlt ss f h = tt
result_sort-sized p op.BvUle ss f h = tt
result_sort-sized p op.BvSlt ss f h = tt
result_sort-sized p op.BvSle ss f h = tt
result_sort-sized p op.Ite ss f h = IsSized-at ss 1 h
result_sort-sized p op.BvNot ss f h = IsSized-at ss 0 h
result_sort-sized p op.BvNeg ss f h = IsSized-at ss 0 h
result_sort-sized p op.BvAnd ss f h = IsSized-at ss 0 h
result_sort-sized p op.BvOr ss f h = IsSized-at ss 0 h
result_sort-sized p op.BvXor ss f h = IsSized-at ss 0 h
result_sort-sized p op.BvAdd ss f h = IsSized-at ss 0 h
result_sort-sized p op.BvSub ss f h = IsSized-at ss 0 h
result_sort-sized p op.BvMul ss f h = IsSized-at ss 0 h
result_sort-sized p op.BvUdiv ss f h = IsSized-at ss 0 h
result_sort-sized p op.BvUrem ss f h = IsSized-at ss 0 h
result_sort-sized p op.BvShl ss f h = IsSized-at ss 0 h
result_sort-sized p op.BvLshr ss f h = IsSized-at ss 0 h
result_sort-sized p op.BvAshr ss f h = IsSized-at ss 0 h
result_sort-sized p op.Concat ss f h = joined-sized p Free ss ss f.fit h f.narrow
result_sort-sized p (op.Extract high low) ss f h = (omega arith, f.narrow)
result_sort-sized p (op.ZeroExtend by) ss f h = longer-sized p Free ss ss by f.fit h f.narrow
result_sort-sized p (op.SignExtend by) ss f h = longer-sized p Free ss ss by f.fit h f.narrow
result_sort-sized p (op.MLoad n) ss f h = let some = access-some p n f.indexed in (omega (arith, some), f.narrow)
result_sort-sized p (op.MMark n) ss f h = tt
result_sort-sized p (op.MStore n) ss f h = tt

mutual
  unfolding sort_of

  pub sort_of-sized : (p : ℕ) (t : Term) (s : Sort) → sort_of p t ≡ Some s → IsSized s
  sort_of-sized p (Apply o ts) s h =
      let sorted = IsSorted-of p o ts s h in
      subst IsSized sorted.result
      (result_sort-sized p o sorted.sorts (IsFitting-of p o sorted.sorts sorted.fits)
      (sorts_of-sized p ts sorted.sorts sorted.of_args))

  pub sorts_of-sized : (p : ℕ) (ts : Operands) (ss : List Sort) → sorts_of p ts ≡ Some ss → AreSized ss
  sorts_of-sized p End ss h = subst AreSized (same_Some [] ss h) tt
  sorts_of-sized p (Then t ts) ss h =
      let parts = sorts_of-some p t ts ss h in
      subst AreSized (sym parts.2) (sort_of-sized p t parts.0 parts.3, sorts_of-sized p ts parts.1 parts.4)

-- ---- values of sorts

word_of : (w : ℕ) (v : Value) → HasSort (sort.Bits w) v → (n : ℕ) × (v ≡ val.Bits w n) × (n < 2 ^ w)
word_of w (val.Bool b) h = absurd h
word_of w (val.Bits v n) h = (n, ap (λ v. val.Bits v n) h.0, h.1)

truth_of : (v : Value) → HasSort sort.Bool v → (b : Bool) × (v ≡ val.Bool b)
truth_of (val.Bool b) h = (b, refl)
truth_of (val.Bits w n) h = absurd h

one_value : (s : Sort) (vs : List Value) → HaveSorts (s ∷ []) vs → (v : Value) × (vs ≡ v ∷ []) × HasSort s v
one_value s [] h = absurd h
one_value s (v ∷ []) h = (v, refl, h.0)
one_value s (v ∷ u ∷ vs) h = absurd h.1

two_values : (s t : Sort) (vs : List Value) → HaveSorts (s ∷ t ∷ []) vs
    → (u v : Value) × (vs ≡ u ∷ v ∷ []) × HasSort s u × HasSort t v
two_values s t [] h = absurd h
two_values s t (u ∷ vs) h =
    let rest = one_value t vs h.1 in
    (u, rest.0, ap (λ vs. u ∷ vs) rest.1, h.0, rest.2)

no_value : (vs : List Value) → HaveSorts [] vs → vs ≡ []
no_value [] h = refl
no_value (v ∷ vs) h = absurd h

-- ---- what holds of all values that fit an operation's slots holds of those that are there

-- a statement on the sorts of arguments and their values
abbrev pub Claim : Type 1
Claim = List Sort → List Value → Type 0

pub on_none : (P : Claim) → P [] [] → (p : ℕ) (index : IndexRule) (ss : List Sort) (vs : List Value)
    → AllFit p index ss [] ss → HaveSorts ss vs → P ss vs
on_none P all p index ss vs f h =
    let none = sorts_none p index ss ss f in
    subst (λ ss. P ss vs) (sym none) (subst (P []) (sym (no_value vs (subst (λ ss. HaveSorts ss vs) none h))) all)

pub on_truth : (P : Claim) → ((b : Bool) → P (sort.Bool ∷ []) (val.Bool b ∷ []))
    → (p : ℕ) (index : IndexRule) (ss : List Sort) (vs : List Value)
    → AllFit p index ss (Truth ∷ []) ss → HaveSorts ss vs → P ss vs
on_truth P all p index ss vs f h =
    let sorts = sorts_truth p index ss ss f in
    let one = one_value sort.Bool vs (subst (λ ss. HaveSorts ss vs) sorts h) in
    let truth = truth_of one.0 one.2 in
    subst (λ ss. P ss vs) (sym sorts)
    (subst (P (sort.Bool ∷ [])) (sym (one.1 ∙ ap (λ v. v ∷ []) truth.1)) (all truth.0))

pub on_truths : (P : Claim) → ((a b : Bool) → P (sort.Bool ∷ sort.Bool ∷ []) (val.Bool a ∷ val.Bool b ∷ []))
    → (p : ℕ) (index : IndexRule) (ss : List Sort) (vs : List Value)
    → AllFit p index ss (Truth ∷ Truth ∷ []) ss → HaveSorts ss vs → P ss vs
on_truths P all p index ss vs f h =
    let sorts = sorts_truths p index ss ss f in
    let two = two_values sort.Bool sort.Bool vs (subst (λ ss. HaveSorts ss vs) sorts h) in
    let first = truth_of two.0 two.3 in
    let second = truth_of two.1 two.4 in
    subst (λ ss. P ss vs) (sym sorts)
    (subst (P (sort.Bool ∷ sort.Bool ∷ []))
    (sym (two.2 ∙ ap (λ u. u ∷ two.1 ∷ []) first.1 ∙ ap (λ v. val.Bool first.0 ∷ v ∷ []) second.1))
    (all first.0 second.0))

pub on_word : (P : Claim) → ((w n : ℕ) → n < 2 ^ w → P (sort.Bits w ∷ []) (val.Bits w n ∷ []))
    → (p : ℕ) (index : IndexRule) (ss : List Sort) (vs : List Value)
    → AllFit p index ss (Vector ∷ []) ss → HaveSorts ss vs → P ss vs
on_word P all p index ss vs f h =
    let sorts = sorts_vector p index ss ss f in
    let w = sorts.0 in
    let one = one_value (sort.Bits w) vs (subst (λ ss. HaveSorts ss vs) sorts.1 h) in
    let word = word_of w one.0 one.2 in
    subst (λ ss. P ss vs) (sym sorts.1)
    (subst (P (sort.Bits w ∷ [])) (sym (one.1 ∙ ap (λ v. v ∷ []) word.1)) (all w word.0 word.2))

pub on_words : (P : Claim) → ((w v m n : ℕ) → m < 2 ^ w → n < 2 ^ v
    → P (sort.Bits w ∷ sort.Bits v ∷ []) (val.Bits w m ∷ val.Bits v n ∷ []))
    → (p : ℕ) (index : IndexRule) (ss : List Sort) (vs : List Value)
    → AllFit p index ss (Vector ∷ Vector ∷ []) ss → HaveSorts ss vs → P ss vs
on_words P all p index ss vs f h =
    let sorts = sorts_vectors p index ss ss f in
    let w = sorts.0 in
    let v = sorts.1 in
    let two = two_values (sort.Bits w) (sort.Bits v) vs (subst (λ ss. HaveSorts ss vs) sorts.2 h) in
    let first = word_of w two.0 two.3 in
    let second = word_of v two.1 two.4 in
    subst (λ ss. P ss vs) (sym sorts.2)
    (subst (P (sort.Bits w ∷ sort.Bits v ∷ []))
    (sym (two.2 ∙ ap (λ u. u ∷ two.1 ∷ []) first.1 ∙ ap (λ u. val.Bits w first.0 ∷ u ∷ []) second.1))
    (all w v first.0 second.0 first.2 second.2))

pub on_same_words : (P : Claim) → ((w m n : ℕ) → m < 2 ^ w → n < 2 ^ w
    → P (sort.Bits w ∷ sort.Bits w ∷ []) (val.Bits w m ∷ val.Bits w n ∷ []))
    → (p : ℕ) (index : IndexRule) (ss : List Sort) (vs : List Value)
    → AllFit p index ss (Vector ∷ SameAs 0 ∷ []) ss → HaveSorts ss vs → P ss vs
on_same_words P all p index ss vs f h =
    let sorts = sorts_same p index ss f in
    let w = sorts.0 in
    let two = two_values (sort.Bits w) (sort.Bits w) vs (subst (λ ss. HaveSorts ss vs) sorts.1 h) in
    let first = word_of w two.0 two.3 in
    let second = word_of w two.1 two.4 in
    subst (λ ss. P ss vs) (sym sorts.1)
    (subst (P (sort.Bits w ∷ sort.Bits w ∷ []))
    (sym (two.2 ∙ ap (λ u. u ∷ two.1 ∷ []) first.1 ∙ ap (λ u. val.Bits w first.0 ∷ u ∷ []) second.1))
    (all w first.0 second.0 first.2 second.2))

pub on_equal : (P : Claim) → ((s : Sort) (u v : Value) → HasSort s u → HasSort s v → P (s ∷ s ∷ []) (u ∷ v ∷ []))
    → (p : ℕ) (index : IndexRule) (ss : List Sort) (vs : List Value)
    → AllFit p index ss (NoMemory ∷ SameAs 0 ∷ []) ss → HaveSorts ss vs → P ss vs
on_equal P all p index ss vs f h =
    let sorts = sorts_equal p index ss f in
    let s = sorts.0 in
    let two = two_values s s vs (subst (λ ss. HaveSorts ss vs) sorts.1 h) in
    subst (λ ss. P ss vs) (sym sorts.1) (subst (P (s ∷ s ∷ [])) (sym two.2) (all s two.0 two.1 two.3 two.4))

pub on_choice : (P : Claim) → ((b : Bool) (s : Sort) (u v : Value) → HasSort s u → HasSort s v
    → P (sort.Bool ∷ s ∷ s ∷ []) (val.Bool b ∷ u ∷ v ∷ []))
    → (p : ℕ) (index : IndexRule) (ss : List Sort) (vs : List Value)
    → AllFit p index ss (Truth ∷ NoMemory ∷ SameAs 1 ∷ []) ss → HaveSorts ss vs → P ss vs
on_choice P all p index ss [] f h =
    absurd (subst (λ ss. HaveSorts ss []) (sorts_choice p index ss f).1 h)
on_choice P all p index ss (c ∷ vs) f h =
    let sorts = sorts_choice p index ss f in
    let s = sorts.0 in
    let have = subst (λ ss. HaveSorts ss (c ∷ vs)) sorts.1 h in
    let truth = truth_of c have.0 in
    let two = two_values s s vs have.1 in
    subst (λ ss. P ss (c ∷ vs)) (sym sorts.1)
    (subst (P (sort.Bool ∷ s ∷ s ∷ [])) (sym (ap (λ c. c ∷ vs) truth.1 ∙ ap (λ vs. val.Bool truth.0 ∷ vs) two.2))
    (all truth.0 s two.0 two.1 two.3 two.4))

-- a memory is no value
pub on_memory : (P : Claim) (p : ℕ) (index : IndexRule) (ss : List Sort) (slots : List Slot) (vs : List Value)
    → AllFit p index ss (Memory ∷ slots) ss → HaveSorts ss vs → P ss vs
on_memory P p index ss slots [] f h = absurd (subst (λ ss. HaveSorts ss []) (sorts_memory p index ss ss slots f).1 h)
on_memory P p index ss slots (v ∷ vs) f h =
    absurd (subst (λ ss. HaveSorts ss (v ∷ vs)) (sorts_memory p index ss ss slots f).1 h).0

-- ---- an operation's value is of its result's sort

bits-sorted : (w n : ℕ) → HasSort (sort.Bits w) (bits w n)
bits-sorted w n = (refl, mod_below n (2 ^ w) (pow_pos w))

constant_fits : (w n : ℕ) → (is_width w && nat_lt n (2 ^ w)) ≡ true → n < 2 ^ w
constant_fits w n h = grind (arith, nat_tests)

-- the first number above the second's bits
joined_below : (a b m n : ℕ) → m < a → n < b → m * b + n < a * b
joined_below a b m n h k = let more = mul-le-mul_right b h in omega (arith, more, k)

below_more : (n a b : ℕ) → n < a → 0 < b → n < a * b
below_more n a b h k = let more = le-mul_of_pos_right a k in omega (arith, h, more)

abbrev Gives : List Value → Op → Claim
Gives inputs o = λ ss vs. HasSort (result_sort (signature o).result ss) (op_value inputs o vs)

chosen : (s : Sort) (u v : Value) → HasSort s u → HasSort s v → (b : Bool) → HasSort s (cond b u v)
chosen s u v h k true = h
chosen s u v h k false = k

pub op_value-sorted : (p : ℕ) (inputs : List Value) (o : Op) (ss : List Sort) (vs : List Value) → IsFitting p o ss
    → InputFits inputs o → HaveSorts ss vs → HasSort (result_sort (signature o).result ss) (op_value inputs o vs)
op_value-sorted p inputs (op.Input k s) ss vs f i h =
    on_none (Gives inputs (op.Input k s)) (subst (λ r. HasSort s (unwrap_or r (val.Bool false))) (sym i.1) i.2)
    p (Sized s) ss vs f.fit h
op_value-sorted p inputs (op.Bool b) ss vs f i h = on_none (Gives inputs (op.Bool b)) tt p Free ss vs f.fit h
op_value-sorted p inputs (op.Bits w n) ss vs f i h =
    on_none (Gives inputs (op.Bits w n)) (refl, constant_fits w n f.indexed) p (Number w n) ss vs f.fit h
op_value-sorted p inputs op.Not ss vs f i h = on_truth (Gives inputs op.Not) (λ b. tt) p Free ss vs f.fit h
op_value-sorted p inputs op.And ss vs f i h = on_truths (Gives inputs op.And) (λ a b. tt) p Free ss vs f.fit h
op_value-sorted p inputs op.Or ss vs f i h = on_truths (Gives inputs op.Or) (λ a b. tt) p Free ss vs f.fit h
op_value-sorted p inputs op.Xor ss vs f i h = on_truths (Gives inputs op.Xor) (λ a b. tt) p Free ss vs f.fit h
op_value-sorted p inputs op.Implies ss vs f i h = on_truths (Gives inputs op.Implies) (λ a b. tt) p Free ss vs f.fit h
op_value-sorted p inputs op.Eq ss vs f i h = on_equal (Gives inputs op.Eq) (λ s u v hu hv. tt) p Free ss vs f.fit h
op_value-sorted p inputs op.Ite ss vs f i h =
    on_choice (Gives inputs op.Ite) (λ b s u v hu hv. chosen s u v hu hv b) p Free ss vs f.fit h
op_value-sorted p inputs op.BvNot ss vs f i h =
    on_word (Gives inputs op.BvNot) (λ w n l. bits-sorted w _) p Free ss vs f.fit h
op_value-sorted p inputs op.BvNeg ss vs f i h =
    on_word (Gives inputs op.BvNeg) (λ w n l. bits-sorted w _) p Free ss vs f.fit h
op_value-sorted p inputs op.BvAnd ss vs f i h =
    on_same_words (Gives inputs op.BvAnd) (λ w m n l k. bits-sorted w _) p Free ss vs f.fit h
op_value-sorted p inputs op.BvOr ss vs f i h =
    on_same_words (Gives inputs op.BvOr) (λ w m n l k. bits-sorted w _) p Free ss vs f.fit h
op_value-sorted p inputs op.BvXor ss vs f i h =
    on_same_words (Gives inputs op.BvXor) (λ w m n l k. bits-sorted w _) p Free ss vs f.fit h
op_value-sorted p inputs op.BvAdd ss vs f i h =
    on_same_words (Gives inputs op.BvAdd) (λ w m n l k. bits-sorted w _) p Free ss vs f.fit h
op_value-sorted p inputs op.BvSub ss vs f i h =
    on_same_words (Gives inputs op.BvSub) (λ w m n l k. bits-sorted w _) p Free ss vs f.fit h
op_value-sorted p inputs op.BvMul ss vs f i h =
    on_same_words (Gives inputs op.BvMul) (λ w m n l k. bits-sorted w _) p Free ss vs f.fit h
op_value-sorted p inputs op.BvUdiv ss vs f i h =
    on_same_words (Gives inputs op.BvUdiv) (λ w m n l k. bits-sorted w _) p Free ss vs f.fit h
op_value-sorted p inputs op.BvUrem ss vs f i h =
    on_same_words (Gives inputs op.BvUrem) (λ w m n l k. bits-sorted w _) p Free ss vs f.fit h
op_value-sorted p inputs op.BvShl ss vs f i h =
    on_same_words (Gives inputs op.BvShl) (λ w m n l k. bits-sorted w _) p Free ss vs f.fit h
op_value-sorted p inputs op.BvLshr ss vs f i h =
    on_same_words (Gives inputs op.BvLshr) (λ w m n l k. bits-sorted w _) p Free ss vs f.fit h
op_value-sorted p inputs op.BvAshr ss vs f i h =
    on_same_words (Gives inputs op.BvAshr) (λ w m n l k. bits-sorted w _) p Free ss vs f.fit h
op_value-sorted p inputs op.BvUlt ss vs f i h =
    on_same_words (Gives inputs op.BvUlt) (λ w m n l k. tt) p Free ss vs f.fit h
op_value-sorted p inputs op.BvUle ss vs f i h =
    on_same_words (Gives inputs op.BvUle) (λ w m n l k. tt) p Free ss vs f.fit h
op_value-sorted p inputs op.BvSlt ss vs f i h =
    on_same_words (Gives inputs op.BvSlt) (λ w m n l k. tt) p Free ss vs f.fit h
op_value-sorted p inputs op.BvSle ss vs f i h =
    on_same_words (Gives inputs op.BvSle) (λ w m n l k. tt) p Free ss vs f.fit h
op_value-sorted p inputs op.Concat ss vs f i h =
    on_words (Gives inputs op.Concat)
    (λ w v m n l k. (
      refl,
      subst (λ top. m * 2 ^ v + n < top) (sym (pow-add 2 w v)) (joined_below (2 ^ w) (2 ^ v) m n l k),
    )) p Free ss vs f.fit h
op_value-sorted p inputs (op.Extract high low) ss vs f i h =
    on_word (Gives inputs (op.Extract high low)) (λ w n l. bits-sorted (high - low + 1) _) p (Slice high low) ss vs
    f.fit h
op_value-sorted p inputs (op.ZeroExtend by) ss vs f i h =
    on_word (Gives inputs (op.ZeroExtend by))
    (λ w n l. (refl, subst (λ top. n < top) (sym (pow-add 2 w by)) (below_more n (2 ^ w) (2 ^ by) l (pow_pos by))))
    p Free ss vs f.fit h
op_value-sorted p inputs (op.SignExtend by) ss vs f i h =
    on_word (Gives inputs (op.SignExtend by)) (λ w n l. bits-sorted (w + by) _) p Free ss vs f.fit h
op_value-sorted p inputs (op.MLoad n) ss vs f i h =
    on_memory (Gives inputs (op.MLoad n)) p (Access n) ss (Pointer ∷ []) vs f.fit h
op_value-sorted p inputs (op.MMark n) ss vs f i h =
    on_memory (Gives inputs (op.MMark n)) p (Access n) ss (Pointer ∷ []) vs f.fit h
op_value-sorted p inputs (op.MStore n) ss vs f i h =
    on_memory (Gives inputs (op.MStore n)) p (Access n) ss (Pointer ∷ Accessed ∷ []) vs f.fit h

-- a well-sorted term has a value of its sort, where its inputs have values of theirs
mutual
  unfolding sort_of value InputsFit

  pub value-sorted : (p : ℕ) (inputs : List Value) (t : Term) (s : Sort) → sort_of p t ≡ Some s → InputsFit inputs t
      → HasSort s (value inputs t)
  value-sorted p inputs (Apply o ts) s h i =
      let sorted = IsSorted-of p o ts s h in
      subst (λ s. HasSort s (op_value inputs o (values inputs ts))) sorted.result
      (op_value-sorted p inputs o sorted.sorts (values inputs ts) (IsFitting-of p o sorted.sorts sorted.fits) i.0
      (values-sorted p inputs ts sorted.sorts sorted.of_args i.1))

  pub values-sorted : (p : ℕ) (inputs : List Value) (ts : Operands) (ss : List Sort) → sorts_of p ts ≡ Some ss
      → AllInputsFit inputs ts → HaveSorts ss (values inputs ts)
  values-sorted p inputs End ss h i = subst (λ ss. HaveSorts ss []) (same_Some [] ss h) tt
  values-sorted p inputs (Then t ts) ss h i =
      let parts = sorts_of-some p t ts ss h in
      subst (λ ss. HaveSorts ss (value inputs t ∷ values inputs ts)) (sym parts.2)
      (value-sorted p inputs t parts.0 parts.3 i.0, values-sorted p inputs ts parts.1 parts.4 i.1)

-- ---- sorts one by one

-- the value in a place is of the sort in that place
pub HaveSorts-at : (ss : List Sort) (vs : List Value) → HaveSorts ss vs → (k : ℕ) (s : Sort) → slice_get ss k ≡ Some s
    → (v : Value) × (slice_get vs k ≡ Some v) × HasSort s v
HaveSorts-at [] vs h k s e = cc
HaveSorts-at (t ∷ ss) [] h k s e = absurd h
HaveSorts-at (t ∷ ss) (v ∷ vs) h zero s e = (v, refl, subst (λ s. HasSort s v) (same_Some t s e) h.0)
HaveSorts-at (t ∷ ss) (v ∷ vs) h (suc k) s e = HaveSorts-at ss vs h.1 k s e
