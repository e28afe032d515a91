-- The values that are read for an operation's arguments, and the sorts of two bit-vectors.
use Rattle.std.proofs.Common.{◌≡◌, ℕ, ◌^◌, ◌<◌, ◌≤◌, List, [], ◌∷◌, length, take, slice_get, slice_index_or, unwrap_or}
use Rattle.std.proofs.Common.{None, All, false, sym, ap, ◌∙◌, subst, arith}
use Rattle.std.proofs.lemmas.List.Elements.{All-head, All-tail}
use Rattle.std.proofs.lemmas.Option.{slice_get-get_or}
use Rattle.bv_terms.specs.declared.op.Op.{Op}
use Rattle.bv_terms.specs.declared.op.Op.TheVariants as op
use Rattle.bv_terms.specs.declared.op.TermId.{TermId}
use Rattle.bv_terms.specs.declared.value.Sort.{Sort}
use Rattle.bv_terms.specs.declared.value.Sort.TheVariants as sort
use Rattle.bv_terms.specs.declared.value.Value.{Value}
use Rattle.bv_terms.specs.declared.value.Value.TheVariants as val
use Rattle.bv_terms.specs.Term.{op_value}
use Rattle.bv_terms.specs.Sorts.{HaveSorts, AreSized}
use Rattle.bv_terms.specs.Signature.{arity, refusal}
use Rattle.bv_terms.specs.Eval.{value_in, values_in, IsValueOf}

value_at : (room : List Value) (k : ℕ) (d : Value) → k < length room
    → slice_index_or room k d ≡ unwrap_or (slice_get room k) (val.Bool false)
value_at room k d h = sym (ap (λ o. unwrap_or o (val.Bool false)) (slice_get-get_or room k d h))

below-head : (n : ℕ) (a : TermId) (args : List TermId) → All (λ (a : TermId). a.0 < n) (a ∷ args) → a.0 < n
below-head n a args h = All-head (λ (a : TermId). a.0 < n) a args h

below-tail : (n : ℕ) (a : TermId) (args : List TermId) → All (λ (a : TermId). a.0 < n) (a ∷ args)
    → All (λ (a : TermId). a.0 < n) args
below-tail n a args h = All-tail (λ (a : TermId). a.0 < n) a args h

-- the values that are read for the first argument, the first two and the first three
abbrev read : List Value → List TermId → ℕ → TermId → Value → Value
read room args k d e = slice_index_or room (slice_index_or args k d).0 e

first_value : (room : List Value) (args : List TermId) (d : TermId) (e : Value) → 1 ≤ length args
    → All (λ (a : TermId). a.0 < length room) args → values_in room (take 1 args) ≡ read room args 0 d e ∷ []
first_value room [] d e l h = absurd (omega arith)
first_value room (a ∷ args) d e l h =
    ap (λ v. v ∷ []) (sym (value_at room a.0 e (below-head (length room) a args h)))

first_values : (room : List Value) (args : List TermId) (d f : TermId) (e g : Value) → 2 ≤ length args
    → All (λ (a : TermId). a.0 < length room) args
    → values_in room (take 2 args) ≡ read room args 0 d e ∷ read room args 1 f g ∷ []
first_values room [] d f e g l h = absurd (omega arith)
first_values room (a ∷ args) d f e g l h =
    ap (λ vs. value_in room a ∷ vs) (first_value room args f g (omega (arith, l)) (below-tail (length room) a args h))
    ∙ ap (λ v. v ∷ read room args 0 f g ∷ []) (sym (value_at room a.0 e (below-head (length room) a args h)))

-- so a value over what was read is one over the arguments
pub value-one : (inputs room : List Value) (o : Op) (args : List TermId) (d : TermId) (e r : Value)
    → arity o ≡ 1 → length args ≡ 3 → All (λ (a : TermId). a.0 < length room) args
    → IsValueOf inputs o (read room args 0 d e ∷ []) r → IsValueOf inputs o (values_in room (take (arity o) args)) r
value-one inputs room o args d e r one l h is =
    subst (λ vs. IsValueOf inputs o vs r)
    (sym (ap (λ k. values_in room (take k args)) one ∙ first_value room args d e (omega arith) h)) is

pub value-two : (inputs room : List Value) (o : Op) (args : List TermId) (d f : TermId) (e g r : Value)
    → arity o ≡ 2 → length args ≡ 3 → All (λ (a : TermId). a.0 < length room) args
    → IsValueOf inputs o (read room args 0 d e ∷ read room args 1 f g ∷ []) r
    → IsValueOf inputs o (values_in room (take (arity o) args)) r
value-two inputs room o args d f e g r two l h is =
    subst (λ vs. IsValueOf inputs o vs r)
    (sym (ap (λ k. values_in room (take k args)) two ∙ first_values room args d f e g (omega arith) h)) is

pub value-choice : (inputs room : List Value) (o : Op) (args : List TermId) (d f i : TermId) (e g j r : Value)
    → o ≡ op.Ite → length args ≡ 3 → All (λ (a : TermId). a.0 < length room) args
    → r ≡ op_value inputs op.Ite (read room args 0 d e ∷ read room args 1 f g ∷ read room args 2 i j ∷ [])
    → IsValueOf inputs o (values_in room (take (arity o) args)) r
value-choice inputs room o [] d f i e g j r same l h is = absurd (omega arith)
value-choice inputs room o (a ∷ args) d f i e g j r same l h is = λ p ss fits sized have.
    is ∙ sym (ap (λ o. op_value inputs o (values_in room (take (arity o) (a ∷ args)))) same
    ∙ ap (λ vs. op_value inputs op.Ite (value_in room a ∷ vs))
    (first_values room args f i g j (omega (arith, l)) (below-tail (length room) a args h))
    ∙ ap (λ v. op_value inputs op.Ite (v ∷ read room args 0 f g ∷ read room args 1 i j ∷ []))
    (sym (value_at room a.0 e (below-head (length room) a args h))))

-- two bit-vectors of sorts have their widths as these sorts
sorts_of_words : (ss : List Sort) (w s v t : ℕ) → HaveSorts ss (val.Bits w s ∷ val.Bits v t ∷ [])
    → (ss ≡ sort.Bits w ∷ sort.Bits v ∷ []) × (s < 2 ^ w) × (t < 2 ^ v)
sorts_of_words [] w s v t h = absurd h
sorts_of_words (sort.Bool ∷ ss) w s v t h = absurd h.0
sorts_of_words (sort.Mem ∷ ss) w s v t h = absurd h.0
sorts_of_words (sort.Bits a ∷ []) w s v t h = absurd h.1
sorts_of_words (sort.Bits a ∷ sort.Bool ∷ ss) w s v t h = absurd h.1.0
sorts_of_words (sort.Bits a ∷ sort.Mem ∷ ss) w s v t h = absurd h.1.0
sorts_of_words (sort.Bits a ∷ sort.Bits b ∷ r ∷ ss) w s v t h = absurd h.1.1
sorts_of_words (sort.Bits a ∷ sort.Bits b ∷ []) w s v t h = (
  ap (λ a. sort.Bits a ∷ sort.Bits b ∷ []) (sym h.0.0) ∙ ap (λ b. sort.Bits w ∷ sort.Bits b ∷ []) (sym h.1.0.0),
  subst (λ a. s < 2 ^ a) (sym h.0.0) h.0.1,
  subst (λ b. t < 2 ^ b) (sym h.1.0.0) h.1.0.1,
)

-- so what is the value over bit-vectors of these two sorts is so over two values that are such bit-vectors
pub value-words : (o : Op) (u v : Value) (w s q t : ℕ) (r : Value) → u ≡ val.Bits w s → v ≡ val.Bits q t
    → ((p : ℕ) → refusal p o (sort.Bits w ∷ sort.Bits q ∷ []) ≡ None → w ≤ 64 → s < 2 ^ w → t < 2 ^ q
    → (inputs : List Value) → r ≡ op_value inputs o (val.Bits w s ∷ val.Bits q t ∷ []))
    → (inputs : List Value) → IsValueOf inputs o (u ∷ v ∷ []) r
value-words o u v w s q t r first second says inputs =
    subst (λ vs. IsValueOf inputs o vs r) (sym (ap (λ u. u ∷ v ∷ []) first ∙ ap (λ v. val.Bits w s ∷ v ∷ []) second))
    (λ p ss fits sized have. let words = sorts_of_words ss w s q t have in
    says p (subst (λ ss. refusal p o ss ≡ None) words.0 fits) (subst AreSized words.0 sized).0.1 words.1 words.2 inputs)
