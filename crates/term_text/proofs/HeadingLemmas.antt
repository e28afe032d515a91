-- The list that an operation is written as, by its head.
use Rattle.std.proofs.Common.{◌≡◌, ℕ, ◌+◌, ◌-◌, ◌^◌, ◌<◌, ◌≤◌, true, cond, nat_lt, nat_le, List, [], ◌∷◌, ◌++◌}
use Rattle.std.proofs.Common.{length, codes, None, Some, option_map, option_and_then, Ok, refl, sym, ap}
use Rattle.std.proofs.Common.{◌∙◌, subst, arith, ◌&&◌, append_assoc}
use Rattle.std.specs.List.{list_all}
use Rattle.std.specs.Fmt.{decimal}
use Rattle.std.proofs.lemmas.Bool.Decides.{nat_tests}
use Rattle.std.proofs.lemmas.Bool.{ltb-true}
use Rattle.list_lemmas.proofs.Bools.{and_parts}
use Rattle.bv_terms.specs.declared.op.Op.{Op}
use Rattle.bv_terms.specs.declared.op.Op.TheVariants as op
use Rattle.bv_terms.specs.declared.value.Sort.{Sort}
use Rattle.bv_terms.specs.declared.value.Sort.TheVariants as sort
use Rattle.bv_terms.specs.Sorts.{AreSized}
use Rattle.bv_terms.specs.Signature.{arity, width_at, is_access}
use Rattle.bv_terms.specs.Term.{Term}
use Rattle.bv_terms.proofs.SignatureLemmas.{IsFitting}
use Rattle.sexp_read.specs.Token.{Atom}
use Rattle.sexp_read.specs.Words.{numeral_between}
use Rattle.sexp_read.specs.Tree.{Tree, Trees, Word, Branch, End, Then, tree_tokens, flatten, list_of}
use Rattle.term_text.specs.declared.fault.TermKind.TheVariants.{Index}
use Rattle.term_text.specs.declared.head.Head.TheVariants.{Applied, Accessing}
use Rattle.term_text.specs.declared.head.Access.{Access}
use Rattle.term_text.specs.declared.head.Access.TheVariants.{Load, Mark, Store}
use Rattle.term_text.specs.declared.operator.Operator.{Operator}
use Rattle.term_text.specs.declared.operator.Operator.TheVariants.{Operation, Left, Equal, Implies}
use Rattle.term_text.specs.declared.operator.Operator.TheVariants.{Extract, ZeroExtend, SignExtend}
use Rattle.term_text.specs.declared.operator.LeftAssociative.TheVariants as left
use Rattle.term_text.specs.Operator.{judge}
use Rattle.term_text.specs.Written.{applied, written}
use Rattle.term_text.specs.Head.{Span, span_of, or_fault, head_of, access_of, access_size, where_access}
use Rattle.term_text.specs.Reading.{Scope, and_then, sorts_in, judged, over, headed, term_read, terms_read, later_read}
use Rattle.term_text.specs.Reading.{let_read}
use Rattle.term_text.specs.Text.{op_text}
use Rattle.term_text.proofs.SpellingLemmas.{Ends, Spelled, is_word_byte, word-spelled, joined, spaced, in-parentheses}
use Rattle.term_text.proofs.SpellingLemmas.{list_end}
use Rattle.term_text.proofs.DecimalLemmas.{decimal-read, decimal-word, decimal-some}
use Rattle.term_text.proofs.OperatorLemmas.{IsWrittenBy, by-operation, by-left, by-equal, by-implies, by-extract}
use Rattle.term_text.proofs.OperatorLemmas.{by-zero_extend, by-sign_extend}
use Rattle.term_text.proofs.OperatorNames.{is_word, IsNamed}
use Rattle.term_text.proofs.OperatorNames.{not-named, and-named, or-named, xor-named, implies-named, eq-named}
use Rattle.term_text.proofs.OperatorNames.{ite-named, bvnot-named, bvneg-named, bvand-named, bvor-named, bvxor-named}
use Rattle.term_text.proofs.OperatorNames.{bvadd-named, bvsub-named, bvmul-named, bvudiv-named, bvurem-named}
use Rattle.term_text.proofs.OperatorNames.{bvshl-named, bvlshr-named, bvashr-named, bvult-named, bvule-named}
use Rattle.term_text.proofs.OperatorNames.{bvslt-named, bvsle-named, concat-named}

-- what an operation puts before the trees of its operands, in a list whose members begin at a place
pub record Heading (p : ℕ) (o : Op) (ss : List Sort) (place : ℕ) : Type 0 where
  pub trees : Trees → Trees
  pub spelled : (bytes : List ℕ) (rest : Trees) → Spelled (place + length (op_text o)) bytes (flatten rest)
      → ((after : List ℕ) → Ends after → Ends (bytes ++ after))
      → Spelled place (op_text o ++ bytes) (flatten (trees rest))
  pub read : (scope : Scope) (from to : ℕ) (rest : Trees) (ts : List Term) → terms_read p scope rest ≡ Ok ts
      → sorts_in p ts ≡ ss → length ts ≡ length ss → term_read p scope (Branch from to (trees rest)) ≡ Ok (applied o ts)

over-read : (p : ℕ) (span : Span) (args : List Tree) (o : Op) (by : Operator) (ss : List Sort) (ts : List Term)
    → sorts_in p ts ≡ ss → IsWrittenBy p o by ss ts → over p span args by ts ≡ Ok (applied o ts)
over-read p span args o by ss ts same w =
    ap (λ ss. judged span args (judge p by ss) (written by ss ts)) same
    ∙ ap (λ r. judged span args r (written by ss ts)) w.judged
    ∙ ap Ok w.term

-- ---- one tree at the head

by-tree : (p : ℕ) (o : Op) (by : Operator) (ss : List Sort) (place : ℕ) (head : Tree)
    → Spelled place (op_text o) (tree_tokens head)
    → ((span : Span) (rest : List Tree) → head_of span head rest ≡ Ok (Applied by))
    → ((ts : List Term) → length ts ≡ length ss → IsWrittenBy p o by ss ts) → Heading p o ss place
by-tree p o by ss place head s h w = record {
  trees = λ rest. Then head rest;
  spelled = λ bytes rest r ends. joined place (op_text o) bytes (tree_tokens head) (flatten rest) s r ends;
  read = λ scope from to rest ts r same count.
      ap (λ h. headed p (from, to) (list_of rest) h (terms_read p scope rest) (later_read p scope rest)
      (let_read p scope (from, to) rest)) (h (from, to) (list_of rest))
      ∙ ap (λ r. and_then r (over p (from, to) (list_of rest) by)) r
      ∙ over-read p (from, to) (list_of rest) o by ss ts same (w ts count);
}

spelled-word : (place : ℕ) (word : List ℕ) → is_word word ≡ true → Spelled place word (Atom place word ∷ [])
spelled-word place word h =
    let parts = and_parts (nat_lt 0 (length word)) (list_all is_word_byte word) h in
    let some : 0 < length word = ltb-true 0 (length word) parts.0 in
    word-spelled place word some parts.1

spelled-decimal : (place n : ℕ) → n < 2 ^ 64 → Spelled place (decimal n) (Atom place (decimal n) ∷ [])
spelled-decimal place n h = word-spelled place (decimal n) (decimal-some n h) (decimal-word n h)

by-name : (p : ℕ) (o : Op) (by : Operator) (ss : List Sort) (place : ℕ) → IsNamed o by
    → ((ts : List Term) → length ts ≡ length ss → IsWrittenBy p o by ss ts) → Heading p o ss place
by-name p o by ss place n w =
    by-tree p o by ss place (Word place (op_text o)) (spelled-word place (op_text o) n.word)
    (λ span rest. n.head span place rest) w

named-operation : (p : ℕ) (o : Op) (ss : List Sort) (place : ℕ) → IsNamed o (Operation o) → IsFitting p o ss
    → Heading p o ss place
named-operation p o ss place n f = by-name p o (Operation o) ss place n (λ ts same. by-operation p o ss ts f)

-- ---- an operator with numbers

-- `(_ WORD K)`, and `(_ WORD K L)`
abbrev numbered : ℕ → List ℕ → ℕ → Tree
numbered place word k =
    let name : ℕ = place + 1 + 1 + 1 in
    let index : ℕ = name + length word + 1 in
    Branch place (list_end place (codes "_" ++ (codes " " ++ (word ++ (codes " " ++ decimal k)))))
    (Then (Word (place + 1) (codes "_")) (Then (Word name word) (Then (Word index (decimal k)) End)))

numbered-spelled : (place : ℕ) (word : List ℕ) (k : ℕ) → is_word word ≡ true → k < 2 ^ 64
    → Spelled place (codes "(" ++ (codes "_" ++ (codes " " ++ (word ++ (codes " " ++ decimal k)))) ++ codes ")")
    (tree_tokens (numbered place word k))
numbered-spelled place word k h small =
    let name : ℕ = place + 1 + 1 + 1 in
    let index : ℕ = name + length word + 1 in
    in-parentheses place (codes "_" ++ (codes " " ++ (word ++ (codes " " ++ decimal k))))
    (Atom (place + 1) (codes "_") ∷ Atom name word ∷ Atom index (decimal k) ∷ [])
    (spaced (place + 1) (codes "_") (word ++ (codes " " ++ decimal k)) (Atom (place + 1) (codes "_") ∷ [])
    (Atom name word ∷ Atom index (decimal k) ∷ []) (spelled-word (place + 1) (codes "_") refl)
    (spaced name word (decimal k) (Atom name word ∷ []) (Atom index (decimal k) ∷ []) (spelled-word name word h)
    (spelled-decimal index k small)))

abbrev twice_numbered : ℕ → List ℕ → ℕ → ℕ → Tree
twice_numbered place word k l =
    let name : ℕ = place + 1 + 1 + 1 in
    let first : ℕ = name + length word + 1 in
    let second : ℕ = first + length (decimal k) + 1 in
    Branch place
    (list_end place (codes "_" ++ (codes " " ++ (word ++ (codes " " ++ (decimal k ++ (codes " " ++ decimal l)))))))
    (Then (Word (place + 1) (codes "_")) (Then (Word name word) (Then (Word first (decimal k))
    (Then (Word second (decimal l)) End))))

twice_numbered-spelled : (place : ℕ) (word : List ℕ) (k l : ℕ) → is_word word ≡ true → k < 2 ^ 64 → l < 2 ^ 64
    → Spelled place
    (codes "(" ++ (codes "_" ++ (codes " " ++ (word ++ (codes " " ++ (decimal k ++ (codes " " ++ decimal l))))))
    ++ codes ")")
    (tree_tokens (twice_numbered place word k l))
twice_numbered-spelled place word k l h small less =
    let name : ℕ = place + 1 + 1 + 1 in
    let first : ℕ = name + length word + 1 in
    let second : ℕ = first + length (decimal k) + 1 in
    in-parentheses place (codes "_" ++ (codes " " ++ (word ++ (codes " " ++ (decimal k ++ (codes " " ++ decimal l))))))
    (Atom (place + 1) (codes "_") ∷ Atom name word ∷ Atom first (decimal k) ∷ Atom second (decimal l) ∷ [])
    (spaced (place + 1) (codes "_") (word ++ (codes " " ++ (decimal k ++ (codes " " ++ decimal l))))
    (Atom (place + 1) (codes "_") ∷ []) (Atom name word ∷ Atom first (decimal k) ∷ Atom second (decimal l) ∷ [])
    (spelled-word (place + 1) (codes "_") refl)
    (spaced name word (decimal k ++ (codes " " ++ decimal l)) (Atom name word ∷ [])
    (Atom first (decimal k) ∷ Atom second (decimal l) ∷ []) (spelled-word name word h)
    (spaced first (decimal k) (decimal l) (Atom first (decimal k) ∷ []) (Atom second (decimal l) ∷ [])
    (spelled-decimal first k small) (spelled-decimal second l less))))

-- the number of an operator is read back
index-read : (k : ℕ) → k ≤ 64 → numeral_between 0 (2 ^ 32 - 1) (decimal k) ≡ Some k
index-read k h = decimal-read 0 (2 ^ 32 - 1) k (omega arith) (omega arith) (omega arith)

width-sized : (ss : List Sort) → AreSized ss → width_at ss 0 ≤ 64
width-sized [] h = omega arith
width-sized (sort.Bool ∷ ss) h = omega arith
width-sized (sort.Bits w ∷ ss) h = h.0.1
width-sized (sort.Mem ∷ ss) h = omega arith

zero_extend-heading : (p k : ℕ) (ss : List Sort) (place : ℕ) → IsFitting p (op.ZeroExtend k) ss
    → Heading p (op.ZeroExtend k) ss place
zero_extend-heading p k ss place f =
    let small : k ≤ 64 = omega (arith, f.narrow) in
    by-tree p (op.ZeroExtend k) (ZeroExtend k) ss place (numbered place (codes "zero_extend") k)
    (numbered-spelled place (codes "zero_extend") k refl (omega arith))
    (λ span rest. ap (λ o. or_fault Index (span_of (numbered place (codes "zero_extend") k))
    (option_map Applied (option_map ZeroExtend o))) (index-read k small))
    (λ ts same. by-zero_extend p k ss ts f)

sign_extend-heading : (p k : ℕ) (ss : List Sort) (place : ℕ) → IsFitting p (op.SignExtend k) ss
    → Heading p (op.SignExtend k) ss place
sign_extend-heading p k ss place f =
    let small : k ≤ 64 = omega (arith, f.narrow) in
    by-tree p (op.SignExtend k) (SignExtend k) ss place (numbered place (codes "sign_extend") k)
    (numbered-spelled place (codes "sign_extend") k refl (omega arith))
    (λ span rest. ap (λ o. or_fault Index (span_of (numbered place (codes "sign_extend") k))
    (option_map Applied (option_map SignExtend o))) (index-read k small))
    (λ ts same. by-sign_extend p k ss ts f)

slice-low : (low high w : ℕ) → (nat_le low high && nat_lt high w) ≡ true → low ≤ high
slice-low low high w h = grind (arith, nat_tests)

slice-high : (low high w : ℕ) → (nat_le low high && nat_lt high w) ≡ true → high < w
slice-high low high w h = grind (arith, nat_tests)

extract-heading : (p high low : ℕ) (ss : List Sort) (place : ℕ) → IsFitting p (op.Extract high low) ss → AreSized ss
    → Heading p (op.Extract high low) ss place
extract-heading p high low ss place f sized =
    let first : high ≤ 64 = omega (arith, slice-high low high (width_at ss 0) f.indexed, width-sized ss sized) in
    let second : low ≤ 64 = omega (arith, slice-low low high (width_at ss 0) f.indexed, first) in
    let tree = twice_numbered place (codes "extract") high low in
    by-tree p (op.Extract high low) (Extract high low) ss place tree
    (subst (λ bs. Spelled place (codes "(_ extract " ++ (bs ++ codes ")")) (tree_tokens tree))
    (sym (append_assoc (decimal high) (codes " ") (decimal low)))
    (twice_numbered-spelled place (codes "extract") high low refl (omega arith) (omega arith)))
    (λ span rest.
    ap (λ o. or_fault Index (span_of tree) (option_map Applied (option_map (λ (k : ℕ × ℕ). Extract k.0 k.1)
    (option_and_then (λ i. option_map (λ j. (i, j)) (numeral_between 0 (2 ^ 32 - 1) (decimal low))) o))))
    (index-read high first)
    ∙ ap (λ o. or_fault Index (span_of tree) (option_map Applied (option_map (λ (k : ℕ × ℕ). Extract k.0 k.1)
    (option_map (λ j. (high, j)) o))))
    (index-read low second))
    (λ ts same. by-extract p high low ss ts f)

-- ---- an access to a memory

access-size : (p n : ℕ) → is_access p n ≡ true → (1 ≤ n) × (n ≤ 8)
access-size p n h = grind (arith, nat_tests)

size-read : (p n place : ℕ) → is_access p n ≡ true → access_size p (Word place (decimal n)) ≡ Some n
size-read p n place h =
    let size = access-size p n h in
    ap (option_and_then (where_access p))
    (decimal-read 1 8 n (omega (arith, size)) size.0 size.1)
    ∙ ap (λ b. cond b (Some n) None) h

accessed-spelled : (place : ℕ) (word : List ℕ) (n : ℕ) → is_word word ≡ true → n ≤ 8
    → Spelled place (word ++ (codes " " ++ decimal n))
    (Atom place word ∷ Atom (place + length word + 1) (decimal n) ∷ [])
accessed-spelled place word n h small =
    let size : ℕ = place + length word + 1 in
    spaced place word (decimal n) (Atom place word ∷ []) (Atom size (decimal n) ∷ []) (spelled-word place word h)
    (spelled-decimal size n (omega arith))

by-access : (p : ℕ) (access : Access) (n : ℕ) (ss : List Sort) (place : ℕ) (word : List ℕ) → is_word word ≡ true
    → word ++ (codes " " ++ decimal n) ≡ op_text (access_of access n) → is_access p n ≡ true
    → ((span : Span) (rest : List Tree) → head_of span (Word place word) rest ≡ Ok (Accessing access))
    → IsFitting p (access_of access n) ss → Heading p (access_of access n) ss place
by-access p access n ss place word named text is head f =
    let o : Op = access_of access n in
    let number : Tree = Word (place + length word + 1) (decimal n) in
    let own : Spelled place (op_text o) (Atom place word ∷ Atom (place + length word + 1) (decimal n) ∷ []) =
    subst (λ bs. Spelled place bs (Atom place word ∷ Atom (place + length word + 1) (decimal n) ∷ [])) text
    (accessed-spelled place word n named (access-size p n is).1) in
    record {
      trees = λ rest. Then (Word place word) (Then number rest);
      spelled = λ bytes rest r ends. joined place (op_text o) bytes
          (Atom place word ∷ Atom (place + length word + 1) (decimal n) ∷ []) (flatten rest) own r ends;
      read = λ scope from to rest ts r same count.
          let members : Trees = Then number rest in
          ap (λ h. headed p (from, to) (list_of members) h (terms_read p scope members) (later_read p scope members)
          (let_read p scope (from, to) members)) (head (from, to) (list_of members))
          ∙ ap (λ q. and_then (or_fault Index (span_of number) q)
          (λ n. and_then (terms_read p scope rest) (over p (from, to) (list_of rest) (Operation (access_of access n)))))
          (size-read p n (place + length word + 1) is)
          ∙ ap (λ r. and_then r (over p (from, to) (list_of rest) (Operation o))) r
          ∙ over-read p (from, to) (list_of rest) o (Operation o) ss ts same (by-operation p o ss ts f);
    }

load-heading : (p n : ℕ) (ss : List Sort) (place : ℕ) → IsFitting p (op.MLoad n) ss → Heading p (op.MLoad n) ss place
load-heading p n ss place f =
    by-access p Load n ss place (codes "mload") refl refl f.indexed (λ span rest. refl) f

mark-heading : (p n : ℕ) (ss : List Sort) (place : ℕ) → IsFitting p (op.MMark n) ss → Heading p (op.MMark n) ss place
mark-heading p n ss place f =
    by-access p Mark n ss place (codes "mmark") refl refl f.indexed (λ span rest. refl) f

store-heading : (p n : ℕ) (ss : List Sort) (place : ℕ) → IsFitting p (op.MStore n) ss
    → Heading p (op.MStore n) ss place
store-heading p n ss place f =
    by-access p Store n ss place (codes "mstore") refl refl f.indexed (λ span rest. refl) f

-- ---- each operation that has operands

no-operands : (p : ℕ) (o : Op) (ss : List Sort) → IsFitting p o ss → 0 < length ss → arity o ≡ 0 → ⊥
no-operands p o ss f some none = omega (arith, f.arity)

pub heading : (p : ℕ) (o : Op) (ss : List Sort) (place : ℕ) → IsFitting p o ss → AreSized ss → 0 < length ss
    → Heading p o ss place
heading p (op.Input k s) ss place f sized some = absurd (no-operands p (op.Input k s) ss f some refl)
heading p (op.Bool b) ss place f sized some = absurd (no-operands p (op.Bool b) ss f some refl)
heading p (op.Bits w n) ss place f sized some = absurd (no-operands p (op.Bits w n) ss f some refl)
heading p op.Not ss place f sized some = named-operation p op.Not ss place not-named f
heading p op.And ss place f sized some =
    by-name p op.And (Left left.And) ss place and-named (λ ts same. by-left p left.And ss ts f same)
heading p op.Or ss place f sized some =
    by-name p op.Or (Left left.Or) ss place or-named (λ ts same. by-left p left.Or ss ts f same)
heading p op.Xor ss place f sized some =
    by-name p op.Xor (Left left.Xor) ss place xor-named (λ ts same. by-left p left.Xor ss ts f same)
heading p op.Implies ss place f sized some =
    by-name p op.Implies Implies ss place implies-named (λ ts same. by-implies p ss ts f same)
heading p op.Eq ss place f sized some =
    by-name p op.Eq Equal ss place eq-named (λ ts same. by-equal p ss ts f same)
heading p op.Ite ss place f sized some = named-operation p op.Ite ss place ite-named f
heading p op.BvNot ss place f sized some = named-operation p op.BvNot ss place bvnot-named f
heading p op.BvNeg ss place f sized some = named-operation p op.BvNeg ss place bvneg-named f
heading p op.BvAnd ss place f sized some =
    by-name p op.BvAnd (Left left.BvAnd) ss place bvand-named (λ ts same. by-left p left.BvAnd ss ts f same)
heading p op.BvOr ss place f sized some =
    by-name p op.BvOr (Left left.BvOr) ss place bvor-named (λ ts same. by-left p left.BvOr ss ts f same)
heading p op.BvXor ss place f sized some =
    by-name p op.BvXor (Left left.BvXor) ss place bvxor-named (λ ts same. by-left p left.BvXor ss ts f same)
heading p op.BvAdd ss place f sized some =
    by-name p op.BvAdd (Left left.BvAdd) ss place bvadd-named (λ ts same. by-left p left.BvAdd ss ts f same)
heading p op.BvSub ss place f sized some = named-operation p op.BvSub ss place bvsub-named f
heading p op.BvMul ss place f sized some =
    by-name p op.BvMul (Left left.BvMul) ss place bvmul-named (λ ts same. by-left p left.BvMul ss ts f same)
heading p op.BvUdiv ss place f sized some = named-operation p op.BvUdiv ss place bvudiv-named f
heading p op.BvUrem ss place f sized some = named-operation p op.BvUrem ss place bvurem-named f
heading p op.BvShl ss place f sized some = named-operation p op.BvShl ss place bvshl-named f
heading p op.BvLshr ss place f sized some = named-operation p op.BvLshr ss place bvlshr-named f
heading p op.BvAshr ss place f sized some = named-operation p op.BvAshr ss place bvashr-named f
heading p op.BvUlt ss place f sized some = named-operation p op.BvUlt ss place bvult-named f
heading p op.BvUle ss place f sized some = named-operation p op.BvUle ss place bvule-named f
heading p op.BvSlt ss place f sized some = named-operation p op.BvSlt ss place bvslt-named f
heading p op.BvSle ss place f sized some = named-operation p op.BvSle ss place bvsle-named f
heading p op.Concat ss place f sized some =
    by-name p op.Concat (Left left.Concat) ss place concat-named (λ ts same. by-left p left.Concat ss ts f same)
heading p (op.Extract high low) ss place f sized some = extract-heading p high low ss place f sized
heading p (op.ZeroExtend k) ss place f sized some = zero_extend-heading p k ss place f
heading p (op.SignExtend k) ss place f sized some = sign_extend-heading p k ss place f
heading p (op.MLoad n) ss place f sized some = load-heading p n ss place f
heading p (op.MMark n) ss place f sized some = mark-heading p n ss place f
heading p (op.MStore n) ss place f sized some = store-heading p n ss place f
