-- The text of a term is a text of one tree, and that tree is read as the term.
use Rattle.std.proofs.Common.{◌≡◌, ℕ, ◌+◌, ◌-◌, ◌^◌, ◌<◌, ◌≤◌, Bool, true, false, cond, eqb, not, nat_le, nat_lt, ◌&&◌}
use Rattle.std.proofs.Common.{List, [], ◌∷◌, ◌++◌, length, codes, None, Some, option_map, option_and_then}
use Rattle.std.proofs.Common.{unwrap_or, Ok, refl, sym, ap, ◌∙◌, subst, arith, append_assoc, slice_get}
use Rattle.std.proofs.Common.{◌||◌, inl}
use Rattle.std.specs.List.{list_all}
use Rattle.std.specs.Fmt.{decimal}
use Rattle.std.specs.Option.{option_or}
use Rattle.std.specs.Str.{bytes_eq}
use Rattle.std.proofs.lemmas.Bool.Decides.{nat_tests}
use Rattle.std.proofs.lemmas.List.{length-map}
use Rattle.std.proofs.lemmas.Option.{same_Some}
use Rattle.std.proofs.Math.Nat.{pow-le-pow_right}
use Rattle.list_lemmas.proofs.Bools.{and_parts, and-both, le-from_test}
use Rattle.std.proofs.lemmas.Bool.{ltb-true}
use Rattle.list_lemmas.proofs.Lists.{append-nothing}
use Rattle.collections.specs.Named.{named}
use Rattle.bv_terms.specs.declared.op.Op.{Op}
use Rattle.bv_terms.specs.declared.op.Op.TheVariants as op
use Rattle.bv_terms.specs.declared.op.TermId.{TermId}
use Rattle.bv_terms.specs.declared.value.Sort.{Sort}
use Rattle.bv_terms.specs.declared.value.Sort.TheVariants as sort
use Rattle.bv_terms.specs.Signature.{arity}
use Rattle.bv_terms.specs.Term as term
use Rattle.bv_terms.specs.Term.{Term, Operands, Apply}
use Rattle.bv_terms.specs.Table.{Table, IsTable, term_at}
use Rattle.bv_terms.specs.WellSorted.{sort_of, sorts_of}
use Rattle.bv_terms.proofs.SignatureLemmas.{IsFitting, IsFitting-of}
use Rattle.bv_terms.proofs.TermLemmas.{IsSorted-of, sorts_of-some, sorts_of-sized}
use Rattle.bv_terms.proofs.MakeLemmas.{sorts_of-end, node-sorted}
use Rattle.sexp_read.specs.Token.{Open, Close, Atom, tokens}
use Rattle.sexp_read.specs.Words.{is_name, is_name_byte, is_alphabetic, starts_alphabetic, is_truth_value}
use Rattle.sexp_read.specs.Words.{numeral_between}
use Rattle.sexp_read.specs.Tree.{Tree, Trees, Word, Branch, End, Then, tree_tokens, flatten, list_of}
use Rattle.term_text.specs.declared.head.Head.TheVariants.{Constant}
use Rattle.term_text.specs.declared.fault.TermKind.TheVariants as kind
use Rattle.term_text.specs.Written.{operands_of}
use Rattle.term_text.specs.Literal.{literal, decimal_literal, truth_value}
use Rattle.term_text.specs.Head.{Span, or_fault}
use Rattle.term_text.specs.Reading.{Scope, constant_term, begins_with_hash, in_scope, word_read, sorts_in, and_then}
use Rattle.term_text.specs.Reading.{headed, term_read, terms_read, later_read, let_read}
use Rattle.term_text.specs.Text.{op_text, term_text, operands_text, InputIsNamed, InputsAreNamed}
use Rattle.term_text.specs.Text.{AllInputsAreNamed, InputsAreInScope, AllInputsAreInScope, IsTextOf}
use Rattle.term_text.proofs.SpellingLemmas.{Ends, Spelled, is_word_byte, word-byte, word-spelled, nothing-spelled}
use Rattle.term_text.proofs.SpellingLemmas.{spelled-same, after-space, joined, spaced, in-parentheses, list_end}
use Rattle.term_text.proofs.DecimalLemmas.{decimal-read, decimal-word, decimal-some}
use Rattle.term_text.proofs.HeadingLemmas.{heading}

-- ---- names

name-byte : (b : ℕ) → is_name_byte b ≡ true → is_word_byte b ≡ true
name-byte b h =
    let low : 42 ≤ b = grind (arith, nat_tests) in
    let high : b ≤ 126 = grind (arith, nat_tests) in
    let other : eqb b 59 ≡ false = grind (arith, nat_tests) in
    word-byte b low high other

name-bytes : (word : List ℕ) → list_all is_name_byte word ≡ true → list_all is_word_byte word ≡ true
name-bytes [] h = refl
name-bytes (b ∷ word) h =
    let parts = and_parts (is_name_byte b) (list_all is_name_byte word) h in
    and-both (is_word_byte b) (list_all is_word_byte word) (name-byte b parts.0) (name-bytes word parts.1)

-- what a name is
record Named (word : List ℕ) : Type 0 where
  alphabetic : starts_alphabetic word ≡ true
  bytes : list_all is_name_byte word ≡ true
  no_truth : not (is_truth_value word) ≡ true

named-of : (word : List ℕ) → is_name word ≡ true → Named word
named-of word h =
    let parts = and_parts (starts_alphabetic word && list_all is_name_byte word) (not (is_truth_value word)) h in
    let first = and_parts (starts_alphabetic word) (list_all is_name_byte word) parts.0 in
    record { alphabetic = first.0; bytes = first.1; no_truth = parts.1 }

some-name : (word : List ℕ) → starts_alphabetic word ≡ true → 0 < length word
some-name [] h = absurd (cc h)
some-name (b ∷ word) h = omega arith

no-hash : (word : List ℕ) → starts_alphabetic word ≡ true → begins_with_hash word ≡ false
no-hash [] h = refl
no-hash (b ∷ word) h = by b h
  where
    by : (b : ℕ) → is_alphabetic b ≡ true → eqb b 35 ≡ false
    by b h = grind (arith, nat_tests)

neither : (a b : Bool) → not (a || b) ≡ true → (a ≡ false) × (b ≡ false)
neither true b h = cc
neither false true h = cc
neither false false h = (refl, refl)

no-truth : (word : List ℕ) → not (is_truth_value word) ≡ true → truth_value word ≡ None
no-truth word h =
    let parts = neither (bytes_eq word (codes "true")) (bytes_eq word (codes "false")) h in
    ap (λ b. cond b (Some (op.Bool true)) (cond (bytes_eq word (codes "false")) (Some (op.Bool false)) None)) parts.0
    ∙ ap (λ b. cond b (Some (op.Bool false)) None) parts.1

name-read : (scope : Scope) (span : Span) (word : List ℕ) (t : Term) → is_name word ≡ true
    → named scope word ≡ Some t → word_read scope span word ≡ Ok t
name-read scope span word t is found =
    let n = named-of word is in
    ap (λ b. cond b (or_fault kind.Literal span (option_map constant_term (literal word)))
    (or_fault kind.Unknown span (option_or (option_map constant_term (truth_value word)) (in_scope scope word))))
    (no-hash word n.alphabetic)
    ∙ ap (λ o. or_fault kind.Unknown span (option_or (option_map constant_term o) (in_scope scope word)))
    (no-truth word n.no_truth)
    ∙ ap (λ b. or_fault kind.Unknown span (cond b (named scope word) None)) is
    ∙ ap (or_fault kind.Unknown span) found

-- ---- constants

-- a term's text from a place on, and the tree that is read as the term
pub record IsWritten (p : ℕ) (names : List (List ℕ)) (t : Term) (place : ℕ) : Type 0 where
  pub tree : Tree
  pub spelled : Spelled place (term_text names t) (tree_tokens tree)
  pub read : (scope : Scope) → InputsAreInScope names scope t → term_read p scope tree ≡ Ok t

input-written : (p : ℕ) (names : List (List ℕ)) (k : ℕ) (s : Sort) (place : ℕ) → InputIsNamed names (op.Input k s)
    → IsWritten p names (Apply (op.Input k s) term.End) place
unfolding term_text InputsAreInScope
input-written p names k s place name =
    let word = name.0 in
    let n = named-of word name.2 in
    record {
      tree = Word place word;
      spelled = spelled-same place word (unwrap_or (slice_get names k) []) (Atom place word ∷ []) (Atom place word ∷ [])
          (sym (ap (λ o. unwrap_or o []) name.1)) refl
          (word-spelled place word (some-name word n.alphabetic) (name-bytes word n.bytes));
      read = λ scope h.
          let same = same_Some h.0.0 word (sym h.0.1 ∙ name.1) in
          name-read scope (place, place + length word) word (Apply (op.Input k s) term.End) name.2
          (ap (named scope) (sym same) ∙ h.0.2);
    }

true-written : (p : ℕ) (names : List (List ℕ)) (place : ℕ)
    → IsWritten p names (Apply (op.Bool true) term.End) place
unfolding term_text InputsAreInScope
true-written p names place = record {
  tree = Word place (codes "true");
  spelled = word-spelled place (codes "true") (omega arith) refl;
  read = λ scope h. refl;
}

false-written : (p : ℕ) (names : List (List ℕ)) (place : ℕ)
    → IsWritten p names (Apply (op.Bool false) term.End) place
unfolding term_text InputsAreInScope
false-written p names place = record {
  tree = Word place (codes "false");
  spelled = word-spelled place (codes "false") (omega arith) refl;
  read = λ scope h. refl;
}

literal-read : (w n : ℕ) → 1 ≤ w → w ≤ 64 → n < 2 ^ w → n < 2 ^ 64
    → decimal_literal (codes "bv" ++ decimal n) (decimal w) ≡ Some (op.Bits w n)
literal-read w n some small below fits =
    let most : n ≤ 2 ^ w - 1 = omega (arith, below) in
    ap (option_and_then (λ v. option_map (op.Bits v) (numeral_between 0 (2 ^ v - 1) (decimal n))))
    (decimal-read 1 64 w (omega arith) some small)
    ∙ ap (option_map (op.Bits w)) (decimal-read 0 (2 ^ w - 1) n fits (omega arith) most)

bits-spelled : (place w n : ℕ) → w < 2 ^ 64 → n < 2 ^ 64
    → Spelled place (codes "(" ++ (codes "_" ++ (codes " " ++ ((codes "bv" ++ decimal n) ++ (codes " " ++ decimal w))))
    ++ codes ")")
    (Open place ∷ (Atom (place + 1) (codes "_") ∷ Atom (place + 1 + 1 + 1) (codes "bv" ++ decimal n)
    ∷ Atom (place + 1 + 1 + 1 + length (codes "bv" ++ decimal n) + 1) (decimal w)
    ∷ Close (list_end place (codes "_" ++ (codes " " ++ ((codes "bv" ++ decimal n) ++ (codes " " ++ decimal w)))))
    ∷ []))
bits-spelled place w n small fits =
    let number : ℕ = place + 1 + 1 + 1 in
    let word = codes "bv" ++ decimal n in
    let width : ℕ = number + length word + 1 in
    in-parentheses place (codes "_" ++ (codes " " ++ (word ++ (codes " " ++ decimal w))))
    (Atom (place + 1) (codes "_") ∷ Atom number word ∷ Atom width (decimal w) ∷ [])
    (spaced (place + 1) (codes "_") (word ++ (codes " " ++ decimal w)) (Atom (place + 1) (codes "_") ∷ [])
    (Atom number word ∷ Atom width (decimal w) ∷ [])
    (word-spelled (place + 1) (codes "_") (omega arith) refl)
    (spaced number word (decimal w) (Atom number word ∷ []) (Atom width (decimal w) ∷ [])
    (word-spelled number word (omega arith) (decimal-word n fits))
    (word-spelled width (decimal w) (decimal-some w small) (decimal-word w small))))

bits-written : (p : ℕ) (names : List (List ℕ)) (w n : ℕ) (place : ℕ) → 1 ≤ w → w ≤ 64 → n < 2 ^ w
    → IsWritten p names (Apply (op.Bits w n) term.End) place
unfolding term_text InputsAreInScope
bits-written p names w n place some small below =
    let fits : n < 2 ^ 64 = omega (arith, below, pow-le-pow_right {n = 2} (omega arith) small) in
    let word = codes "bv" ++ decimal n in
    let number : ℕ = place + 1 + 1 + 1 in
    let width : ℕ = number + length word + 1 in
    let to : ℕ = list_end place (codes "_" ++ (codes " " ++ (word ++ (codes " " ++ decimal w)))) in
    let rest : Trees = Then (Word number word) (Then (Word width (decimal w)) End) in
    record {
      tree = Branch place to (Then (Word (place + 1) (codes "_")) rest);
      spelled = subst (λ bs. Spelled place (codes "(_ bv" ++ (bs ++ codes ")"))
          (tree_tokens (Branch place to (Then (Word (place + 1) (codes "_")) rest))))
          (sym (append_assoc (decimal n) (codes " ") (decimal w))) (bits-spelled place w n (omega arith) fits);
      read = λ scope h.
          ap (λ o. headed p (place, to) (list_of rest) (or_fault kind.Literal (place, to) (option_map Constant o))
          (terms_read p scope rest) (later_read p scope rest) (let_read p scope (place, to) rest))
          (literal-read w n some small below fits);
    }

number-fits : (w n : ℕ) → ((nat_le 1 w && nat_le w 64) && nat_lt n (2 ^ w)) ≡ true
    → (1 ≤ w) × (w ≤ 64) × (n < 2 ^ w)
number-fits w n h =
    let parts = and_parts (nat_le 1 w && nat_le w 64) (nat_lt n (2 ^ w)) h in
    let width = and_parts (nat_le 1 w) (nat_le w 64) parts.0 in
    (le-from_test 1 w width.0, le-from_test w 64 width.1, ltb-true n (2 ^ w) parts.1)

constant-written : (p : ℕ) (names : List (List ℕ)) (o : Op) (ss : List Sort) (place : ℕ) → IsFitting p o ss
    → arity o ≡ 0 → InputIsNamed names o → IsWritten p names (Apply o term.End) place
constant-written p names (op.Input k s) ss place f none named = input-written p names k s place named
constant-written p names (op.Bool true) ss place f none named = true-written p names place
constant-written p names (op.Bool false) ss place f none named = false-written p names place
constant-written p names (op.Bits w n) ss place f none named =
    let number = number-fits w n f.indexed in
    bits-written p names w n place number.0 number.1 number.2
constant-written p names o ss place f none named = absurd (omega (arith, none))

-- ---- operands

abbrev terms_in : Operands → List Term
terms_in term.End = []
terms_in (term.Then t ts) = t ∷ terms_in ts

operands-back : (ts : Operands) → operands_of (terms_in ts) ≡ ts
operands-back term.End = refl
operands-back (term.Then t ts) = ap (term.Then t) (operands-back ts)

sorts-back : (p : ℕ) (ts : Operands) (ss : List Sort) → sorts_of p ts ≡ Some ss → sorts_in p (terms_in ts) ≡ ss
sorts-back p term.End ss h = same_Some [] ss (sym (sorts_of-end p) ∙ h)
sorts-back p (term.Then t ts) ss h =
    let parts = sorts_of-some p t ts ss h in
    ap (λ o. unwrap_or o sort.Bool ∷ sorts_in p (terms_in ts)) parts.3
    ∙ ap (λ ss. parts.0 ∷ ss) (sorts-back p ts parts.1 parts.4) ∙ sym parts.2

count-back : (p : ℕ) (ts : Operands) (ss : List Sort) → sorts_of p ts ≡ Some ss → length (terms_in ts) ≡ length ss
count-back p ts ss h =
    sym (length-map (terms_in ts) (λ t. unwrap_or (sort_of p t) sort.Bool)) ∙ ap length (sorts-back p ts ss h)

-- the text of operands from a place on, and the trees that are read as them
pub record AreWritten (p : ℕ) (names : List (List ℕ)) (ts : Operands) (place : ℕ) : Type 0 where
  pub trees : Trees
  pub spelled : Spelled place (operands_text names ts) (flatten trees)
  pub ends : (rest : List ℕ) → Ends rest → Ends (operands_text names ts ++ rest)
  pub read : (scope : Scope) → AllInputsAreInScope names scope ts → terms_read p scope trees ≡ Ok (terms_in ts)

no-operands-written : (p : ℕ) (names : List (List ℕ)) (place : ℕ) → AreWritten p names term.End place
unfolding term_text InputsAreInScope
no-operands-written p names place = record {
  trees = End;
  spelled = nothing-spelled place;
  ends = λ rest e. e;
  read = λ scope h. refl;
}

more-operands-written : (p : ℕ) (names : List (List ℕ)) (t : Term) (ts : Operands) (place : ℕ)
    → IsWritten p names t (place + 1) → AreWritten p names ts (place + length (codes " " ++ term_text names t))
    → AreWritten p names (term.Then t ts) place
unfolding term_text InputsAreInScope
more-operands-written p names t ts place first rest = record {
  trees = Then first.tree rest.trees;
  spelled = joined place (codes " " ++ term_text names t) (operands_text names ts) (tree_tokens first.tree)
      (flatten rest.trees) (after-space place (term_text names t) (tree_tokens first.tree) first.spelled) rest.spelled
      rest.ends;
  ends = λ after e. inl refl;
  read = λ scope h.
      ap (λ r. and_then r (λ u. and_then (terms_read p scope rest.trees) (λ us. Ok (u ∷ us)))) (first.read scope h.0)
      ∙ ap (λ r. and_then r (λ us. Ok (t ∷ us))) (rest.read scope h.1);
}

-- an operation over operands
list-written : (p : ℕ) (names : List (List ℕ)) (o : Op) (t : Term) (ts : Operands) (ss : List Sort) (place : ℕ)
    → IsFitting p o ss → sorts_of p (term.Then t ts) ≡ Some ss
    → AreWritten p names (term.Then t ts) (place + 1 + length (op_text o))
    → IsWritten p names (Apply o (term.Then t ts)) place
unfolding term_text InputsAreInScope
list-written p names o t ts ss place f h rest =
    let count = count-back p (term.Then t ts) ss h in
    let some : 0 < length ss = omega (arith, count) in
    let head = heading p o ss (place + 1) f (sorts_of-sized p (term.Then t ts) ss h) some in
    let bytes = op_text o ++ operands_text names (term.Then t ts) in
    let to : ℕ = list_end place bytes in
    let members = head.trees rest.trees in
    record {
      tree = Branch place to members;
      spelled = in-parentheses place bytes (flatten members)
          (head.spelled (operands_text names (term.Then t ts)) rest.trees rest.spelled rest.ends);
      read = λ scope h'.
          head.read scope place to rest.trees (terms_in (term.Then t ts)) (rest.read scope h'.1)
          (sorts-back p (term.Then t ts) ss h) count
          ∙ ap (λ us. Ok (Apply o us)) (operands-back (term.Then t ts));
    }

apply-written : (p : ℕ) (names : List (List ℕ)) (o : Op) (ts : Operands) (s : Sort) (place : ℕ)
    → sort_of p (Apply o ts) ≡ Some s → InputIsNamed names o
    → AreWritten p names ts (place + 1 + length (op_text o)) → IsWritten p names (Apply o ts) place
apply-written p names o term.End s place h named rest =
    let sorted = IsSorted-of p o term.End s h in
    let fit = IsFitting-of p o sorted.sorts sorted.fits in
    let none : arity o ≡ 0 =
    sym fit.arity ∙ ap length (sym (same_Some [] sorted.sorts (sym (sorts_of-end p) ∙ sorted.of_args))) in
    constant-written p names o sorted.sorts place fit none named
apply-written p names o (term.Then t ts) s place h named rest =
    let sorted = IsSorted-of p o (term.Then t ts) s h in
    list-written p names o t ts sorted.sorts place (IsFitting-of p o sorted.sorts sorted.fits) sorted.of_args rest

mutual
  unfolding InputsAreNamed

  pub term-written : (p : ℕ) (names : List (List ℕ)) (t : Term) (s : Sort) (place : ℕ) → sort_of p t ≡ Some s
      → InputsAreNamed names t → IsWritten p names t place
  term-written p names (Apply o ts) s place h named =
      let sorted = IsSorted-of p o ts s h in
      apply-written p names o ts s place h named.0
      (operands-written p names ts sorted.sorts (place + 1 + length (op_text o)) sorted.of_args named.1)

  pub operands-written : (p : ℕ) (names : List (List ℕ)) (ts : Operands) (ss : List Sort) (place : ℕ)
      → sorts_of p ts ≡ Some ss → AllInputsAreNamed names ts → AreWritten p names ts place
  operands-written p names term.End ss place h named = no-operands-written p names place
  operands-written p names (term.Then t ts) ss place h named =
      let parts = sorts_of-some p t ts ss h in
      more-operands-written p names t ts place
      (term-written p names t parts.0 (place + 1) parts.3 named.0)
      (operands-written p names ts parts.1 (place + length (codes " " ++ term_text names t)) parts.4 named.1)

-- ---- the text of a node's term

text-of : (bytes : List ℕ) (tree : Tree) → Spelled 0 bytes (tree_tokens tree) → IsTextOf bytes tree
text-of bytes tree s = record {
  text = s.text;
  spelled = ap tokens (sym (append-nothing bytes)) ∙ s.spelled [] tt;
}

pub text-read_back : (table : Table) → IsTable table → (at : TermId) → at.0 < length table.nodes
    → (names : List (List ℕ)) → InputsAreNamed names (term_at table at) → (text : List ℕ)
    → text ≡ term_text names (term_at table at)
    → (tree : Tree) × IsTextOf text tree
    × ((scope : Scope) → InputsAreInScope names scope (term_at table at)
    → term_read table.pointer scope tree ≡ Ok (term_at table at))
text-read_back table is at within names named text same =
    let sorted = node-sorted table is at.0 within in
    let w = term-written table.pointer names (term_at table at) sorted.0 0 sorted.1 named in
    let text = text-of (term_text names (term_at table at)) w.tree w.spelled in
    (w.tree, subst (λ bs. IsTextOf bs w.tree) (sym same) text, w.read)
