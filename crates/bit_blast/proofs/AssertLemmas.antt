-- What is asserted of words and of parts.
use Rattle.std.proofs.Common.{◌≡◌, ◌∙◌, ℕ, ◌+◌, ◌*◌, ◌^◌, ◌<◌, ◌≤◌, ◌==◌, ◌&&◌, ◌||◌, ⊎_elim, Bool, true, false}
use Rattle.std.proofs.Common.{not, List, [], ◌∷◌, ◌++◌, length, get_or, All, Contains, IsTrue, refl, sym, ap}
use Rattle.std.proofs.Common.{subst, arith}
use Rattle.std.specs.Bool.{beq}
use Rattle.std.specs.List.{list_all, list_any}
use Rattle.std.proofs.lemmas.Bool.{eq-eqb, false≢true}
use Rattle.std.proofs.lemmas.Bool.Decides.{Decides-eqb}
use Rattle.std.proofs.lemmas.List.Elements.{All-nil, All-push, All-weaker, Contains-push_cases}
use Rattle.std.proofs.lemmas.Option.{same_Some}
use Rattle.bv_terms.specs.declared.op.TermId.{TermId}
use Rattle.bv_terms.specs.declared.value.Sort.{Sort}
use Rattle.bv_terms.specs.declared.value.Sort.TheVariants as sort
use Rattle.bv_terms.specs.declared.value.Value.{Value}
use Rattle.bv_terms.specs.Sorts.{width_of}
use Rattle.bv_terms.specs.Term.{Term, same_value, value}
use Rattle.bv_terms.specs.WellSorted.{sort_of, InputsFit}
use Rattle.bv_terms.specs.Subterm.{IsSubterm}
use Rattle.bv_terms.specs.Table.{Table, term_at, IsTable}
use Rattle.bv_terms.proofs.SubtermLemmas.{IsSubterm-itself, InputsFit-subterm}
use Rattle.circuit.specs.declared.signal.Signal.{Signal}
use Rattle.circuit.specs.Signal.{signal_true, IsSignalOver}
use Rattle.circuit.specs.Gate.{Netlist, Asserts, hold}
use Rattle.circuit.proofs.GrowthLemmas.{over-more}
use Rattle.word_circuits.specs.Word.{bit, word_number}
use Rattle.bit_blast.specs.declared.parts.Part.{Part}
use Rattle.bit_blast.specs.declared.parts.Join.{Join}
use Rattle.bit_blast.specs.declared.parts.Join.TheVariants as join
use Rattle.bit_blast.specs.Bits.{Agrees}
use Rattle.bit_blast.specs.Words.{value_of, IsTermWord, Wiring, wiring, HasWord, AreWords, AreListed, Moves}
use Rattle.bit_blast.specs.Words.{IsPartSignal}
use Rattle.bit_blast.specs.Parts.{is_true, node_true, part_true, IsFormulaNode, IsEquation, AreParts}
use Rattle.bit_blast.proofs.BitLemmas.{Agrees-front}
use Rattle.bit_blast.proofs.InputLemmas.{word_number-push}
use Rattle.bit_blast.proofs.OperationLemmas.{word_number-below, word-truth, same-truths}
use Rattle.bit_blast.proofs.MemberLemmas.{true-is}
use Rattle.bit_blast.proofs.MoveLemmas.{moves-then, moves-as, moves-listed, asserts-moves, word-covers, moves-none}
use Rattle.list_lemmas.proofs.Bools.{same_test}

-- ---- equal words, bit by bit

test-of : (m n : ℕ) (b : Bool) → (m ≡ n → b ≡ true) → (b ≡ true → m ≡ n) → b ≡ (m == n)
test-of m n b to from =
    same_test b (m == n) (λ h. (Decides-eqb m n).1 (from h)) (λ h. to ((Decides-eqb m n).0 h))

-- the bits of a place are equal where both clauses are true
equal-step : (p m n : ℕ) (a b : Bool) → m < p → n < p
    → (((m == n) && (not a || (b || false))) && (a || (not b || false))) ≡ (m + p * bit a == n + p * bit b)
equal-step p m n false false less small =
    let left : m ≡ m + p * 0 = omega arith in
    let right : n ≡ n + p * 0 = omega arith in
    twice (m == n) ∙ ap (λ x. x == n) left ∙ ap (λ y. m + p * 0 == y) right
  where
    twice : (b : Bool) → ((b && true) && true) ≡ b
    twice false = refl
    twice true = refl
equal-step p m n false true less small =
    test-of (m + p * 0) (n + p * 1) _ (λ e. absurd (omega (arith, e, less))) (λ h. absurd (no (m == n) h))
  where
    no : (b : Bool) → ((b && true) && false) ≡ true → ⊥
    no false h = false≢true h
    no true h = false≢true h
equal-step p m n true false less small =
    test-of (m + p * 1) (n + p * 0) _ (λ e. absurd (omega (arith, e, small))) (λ h. absurd (no (m == n) h))
  where
    no : (b : Bool) → ((b && false) && true) ≡ true → ⊥
    no false h = false≢true h
    no true h = false≢true h
equal-step p m n true true less small =
    test-of (m + p * 1) (n + p * 1) _ (λ e. let same : m ≡ n = omega (arith, e) in
    ap (λ b. (b && true) && true) ((Decides-eqb m n).1 same))
    (λ h. let same = (Decides-eqb m n).0 (twice (m == n) h) in omega (arith, same))
  where
    twice : (b : Bool) → ((b && true) && true) ≡ true → b ≡ true
    twice false h = absurd (false≢true h)
    twice true h = refl

-- words so far, with one more bit each
pub equal-more : (v : ℕ → Bool) (left right more most : List Signal) (a b na nb : Signal)
    → length right ≡ length left → more ≡ left ++ a ∷ [] → most ≡ right ++ b ∷ []
    → signal_true v na ≡ not (signal_true v a) → signal_true v nb ≡ not (signal_true v b)
    → (((word_number v left == word_number v right) && list_any (signal_true v) (na ∷ b ∷ []))
    && list_any (signal_true v) (a ∷ nb ∷ []))
    ≡ (word_number v more == word_number v most)
equal-more v left right more most a b na nb same l r opposite other =
    let m = word_number v left in
    let n = word_number v right in
    let x = signal_true v a in
    let y = signal_true v b in
    ap (λ t. ((m == n) && (t || (y || false))) && (x || (signal_true v nb || false))) opposite
    ∙ ap (λ t. ((m == n) && (not x || (y || false))) && (x || (t || false))) other
    ∙ equal-step (2 ^ length left) m n x y (word_number-below v left)
    (subst (λ w. n < 2 ^ w) same (word_number-below v right))
    ∙ ap (λ q. q == n + 2 ^ length left * bit y) (sym (ap (word_number v) l ∙ word_number-push v left a))
    ∙ ap (λ q. word_number v more == q) (ap (λ w. n + 2 ^ w * bit y) (sym same)
    ∙ sym (ap (word_number v) r ∙ word_number-push v right b))

-- ---- an equation

pub same-places : (table : Table) (n : Netlist) (a b : TermId) (left right : List Signal)
    → sort_of table.pointer (term_at table a) ≡ sort_of table.pointer (term_at table b)
    → IsTermWord table.pointer n (term_at table a) left → IsTermWord table.pointer n (term_at table b) right
    → length right ≡ length left
same-places table n a b left right same first second =
    let kind = same_Some first.kind second.kind (sym first.sorted ∙ same ∙ second.sorted) in
    second.places ∙ ap width_of (sym kind) ∙ sym first.places

same-words : (k : Sort) (v : ℕ → Bool) (left right : List Signal) → length left ≡ width_of k → length right ≡ width_of k
    → 1 ≤ length left
    → (word_number v left == word_number v right)
    ≡ same_value (value_of k (word_number v left)) (value_of k (word_number v right))
same-words sort.Bool v left right one too some =
    same-truths (word_number v left) (word_number v right)
    (subst (λ w. word_number v left < 2 ^ w) one (word_number-below v left))
    (subst (λ w. word_number v right < 2 ^ w) too (word_number-below v right))
same-words (sort.Bits w) v left right one too some =
    ap (λ b. b && word_number v left == word_number v right) (sym (eq-eqb w w refl))
same-words sort.Mem v left right one too some = absurd (omega (arith, one, some))

pub equation-moves : (table : Table) → IsTable table
    → (part : Part) (a b : TermId) (old mid now : Wiring) (new : Netlist)
    (left right : List Signal) → IsEquation table part a b
    → Moves table (term_at table a) (λ env. true) old mid → HasWord mid.words a
    → Moves table (term_at table b) (λ env. true) mid now
    → Contains now.words (a, left) → Contains now.words (b, right)
    → Asserts now.netlist new (λ v. word_number v left == word_number v right)
    → Moves table (term_at table part.at) (λ env. part_true table env part) old (wiring new now.words)
equation-moves table is part a b old mid now new left right eq first has second l r asserts =
    let whole = term_at table part.at in
    let wl = second.words.words a left l in
    let wr = second.words.words b right r in
    let says = λ (env : List Value). same_value (value env (term_at table a)) (value env (term_at table b)) in
    let kind = same_Some wl.kind wr.kind (sym wl.sorted ∙ eq.same_sort ∙ wr.sorted) in
    let last = asserts-moves table whole now.netlist new now.words
    (λ v. word_number v left == word_number v right) says second.words asserts
    (λ v env h agrees fit.
    same-words wl.kind v left right wl.places (wr.places ∙ ap width_of (sym kind)) wl.some
    ∙ ap (λ u. same_value u (value_of wl.kind (word_number v right)))
    (wl.value v env h agrees (InputsFit-subterm env whole fit (term_at table a) eq.left_below))
    ∙ ap (λ k. same_value (value env (term_at table a)) (value_of k (word_number v right))) kind
    ∙ ap (same_value (value env (term_at table a)))
    (wr.value v env h agrees (InputsFit-subterm env whole fit (term_at table b) eq.right_below))) in
    let both = moves-then table (term_at table a) (term_at table b) whole (λ env. true) (λ env. true) old mid now
    eq.left_below eq.right_below first second in
    let all = moves-then table whole whole whole (λ env. true) says old now (wiring new now.words)
    (IsSubterm-itself whole) (IsSubterm-itself whole) both last in
    moves-as table whole says (λ env. part_true table env part) old (wiring new now.words)
    (λ env fit. sym (eq.value env fit)) all

pub equation-listed : (table : Table) → IsTable table → (part : Part) (a b : TermId) (w : Wiring)
    → IsEquation table part a b → AreWords table w → HasWord w.words a → HasWord w.words b
    → AreListed w.netlist.bits (term_at table part.at)
equation-listed table is part a b w eq are first second = λ number k at.
    ⊎_elim (λ left. word-covers table is w are a first number k left)
    (λ right. word-covers table is w are b second number k right) (eq.bits number k at)

-- ---- the signal of a part

pub part-signal : (table : Table) (part : Part) (w : Wiring) (word : List Signal) (d r : Signal)
    → IsFormulaNode table part.at → AreWords table w → Contains w.words (part.at, word)
    → ((v : ℕ → Bool) → signal_true v r ≡ beq (signal_true v (get_or word 0 d)) part.holds)
    → IsSignalOver (length w.netlist.gates) r
    → IsPartSignal w.netlist (term_at table part.at) (λ env. part_true table env part) r
part-signal table part w word d r formula are c turned over =
    let is = are.words part.at word c in
    let kind = same_Some is.kind sort.Bool (sym is.sorted ∙ formula.1.truth) in
    let one : length word ≡ 1 = is.places ∙ ap width_of kind in
    record {
      over = over;
      value = λ v env h agrees fit.
          turned v
          ∙ ap (λ b. beq b part.holds) (sym (word-truth v word d one)
          ∙ ap is_true (ap (λ k. value_of k (word_number v word)) (sym kind) ∙ is.value v env h agrees fit));
    }

-- ---- a clause of parts

-- signals of the parts so far
pub record IsClause (table : Table) (t : Term) (old new : Wiring) (parts : List Part)
    (signals : List Signal) : Type 0 where
  pub moves : Moves table t (λ env. true) old new
  pub over : All (IsSignalOver (length new.netlist.gates)) signals
  pub listed : (part : Part) → Contains parts part → AreListed new.netlist.bits (term_at table part.at)
  pub value : (v : ℕ → Bool) (env : List Value) → IsTrue (hold v new.netlist.gates) → Agrees v new.netlist.bits env
      → InputsFit env t → list_any (signal_true v) signals ≡ list_any (part_true table env) parts

pub clause-none : (table : Table) (t : Term) (w : Wiring) → AreWords table w → IsClause table t w w [] []
clause-none table t w are = record {
  moves = moves-none table t w are;
  over = All-nil (IsSignalOver (length w.netlist.gates));
  listed = λ part c. absurd (omega (arith, c.1));
  value = λ v env h agrees fit. refl;
}

any-push : {A : Type 0} (p : A → Bool) (xs : List A) (x : A) → list_any p (xs ++ x ∷ []) ≡ (list_any p xs || p x)
any-push p [] x = by (p x)
  where
    by : (b : Bool) → (b || false) ≡ (false || b)
    by false = refl
    by true = refl
any-push p (y ∷ xs) x = ap (λ b. p y || b) (any-push p xs x) ∙ grouped (p y) (list_any p xs) (p x)
  where
    grouped : (a b c : Bool) → (a || (b || c)) ≡ ((a || b) || c)
    grouped false b c = refl
    grouped true b c = refl

pub clause-more : (table : Table) (t : Term) (old now new : Wiring) (parts most : List Part)
    (signals more : List Signal)
    (part : Part) (s : Signal)
    → IsClause table t old now parts signals → IsSubterm (term_at table part.at) t
    → Moves table (term_at table part.at) (λ env. true) now new
    → AreListed new.netlist.bits (term_at table part.at)
    → IsPartSignal new.netlist (term_at table part.at) (λ env. part_true table env part) s
    → most ≡ parts ++ part ∷ [] → more ≡ signals ++ s ∷ []
    → IsClause table t old new most more
clause-more table t old now new parts most signals more part s so_far below step listed is e d =
    let u = term_at table part.at in
    subst (λ ps. IsClause table t old new ps more) (sym e) (subst (IsClause table t old new (parts ++ part ∷ []))
    (sym d)
    (record {
      moves = moves-then table t u t (λ env. true) (λ env. true) old now new
          (IsSubterm-itself t) below so_far.moves step;
      over = All-push (IsSignalOver (length new.netlist.gates)) signals s
          (All-weaker (IsSignalOver (length now.netlist.gates)) (IsSignalOver (length new.netlist.gates))
          (λ x h. over-more (length now.netlist.gates) (length new.netlist.gates) x step.longer h) signals so_far.over)
          is.over;
      listed = λ p c. ⊎_elim
          (λ early. moves-listed table u (term_at table p.at) (λ env. true) now new step (so_far.listed p early))
          (λ same. subst (λ (p : Part). AreListed new.netlist.bits (term_at table p.at)) same listed)
          (Contains-push_cases parts part p c);
      value = λ v env h agrees fit.
          any-push (signal_true v) signals s
          ∙ ap (λ b. b || signal_true v s) (so_far.value v env (step.holds v h)
          (Agrees-front v env now.netlist.bits step.more_bits new.netlist.bits step.bits agrees) fit)
          ∙ ap (λ b. list_any (part_true table env) parts || b)
          (is.value v env h agrees (InputsFit-subterm env t fit u below))
          ∙ sym (any-push (part_true table env) parts part);
    }))

pub clause-moves : (table : Table) (part : Part) (parts : List Part) (old now : Wiring) (new : Netlist)
    (signals : List Signal) → AreParts table join.Any part parts
    → IsClause table (term_at table part.at) old now parts signals
    → Asserts now.netlist new (λ v. list_any (signal_true v) signals)
    → Moves table (term_at table part.at) (λ env. part_true table env part) old (wiring new now.words)
clause-moves table part parts old now new signals are clause asserts =
    let whole = term_at table part.at in
    let says = λ (env : List Value). list_any (part_true table env) parts in
    let last = asserts-moves table whole now.netlist new now.words (λ v. list_any (signal_true v) signals) says
    clause.moves.words asserts clause.value in
    moves-as table whole says (λ env. part_true table env part) old (wiring new now.words)
    (λ env fit. sym (are.value env fit))
    (moves-then table whole whole whole (λ env. true) says old now (wiring new now.words) (IsSubterm-itself whole)
    (IsSubterm-itself whole) clause.moves last)

-- all parts are listed, so the whole is
pub parts-listed : (table : Table) (j : Join) (part : Part) (parts : List Part) (bits : List (ℕ × ℕ × ℕ))
    → AreParts table j part parts
    → ((p : Part) → Contains parts p → AreListed bits (term_at table p.at)) → AreListed bits (term_at table part.at)
parts-listed table j part parts bits are listed = λ number k at.
    let in_part = are.bits number k at in
    listed in_part.0 in_part.1 number k in_part.2

-- ---- all parts

-- the parts so far are asserted
pub record AreAsserted (table : Table) (t : Term) (old new : Wiring) (parts : List Part) : Type 0 where
  pub moves : Moves table t (λ env. list_all (part_true table env) parts) old new
  pub listed : (part : Part) → Contains parts part → AreListed new.netlist.bits (term_at table part.at)

pub asserted-none : (table : Table) (t : Term) (w : Wiring) → AreWords table w → AreAsserted table t w w []
asserted-none table t w are = record {
  moves = moves-none table t w are;
  listed = λ part c. absurd (omega (arith, c.1));
}

pub all-push : {A : Type 0} (p : A → Bool) (xs : List A) (x : A) → (list_all p xs && p x) ≡ list_all p (xs ++ x ∷ [])
all-push p [] x = by (p x)
  where
    by : (b : Bool) → (true && b) ≡ (b && true)
    by false = refl
    by true = refl
all-push p (y ∷ xs) x = grouped (p y) (list_all p xs) (p x) ∙ ap (λ b. p y && b) (all-push p xs x)
  where
    grouped : (a b c : Bool) → ((a && b) && c) ≡ (a && (b && c))
    grouped false b c = refl
    grouped true b c = refl

pub asserted-more : (table : Table) (t : Term) (old now new : Wiring) (parts most : List Part) (part : Part)
    → AreAsserted table t old now parts → IsSubterm (term_at table part.at) t
    → Moves table (term_at table part.at) (λ env. part_true table env part) now new
    → AreListed new.netlist.bits (term_at table part.at)
    → most ≡ parts ++ part ∷ [] → AreAsserted table t old new most
asserted-more table t old now new parts most part so_far below step listed e =
    let u = term_at table part.at in
    let says = λ (env : List Value). part_true table env part in
    subst (AreAsserted table t old new) (sym e) (record {
      moves = moves-as table t (λ env. list_all (part_true table env) parts && part_true table env part)
          (λ env. list_all (part_true table env) (parts ++ part ∷ [])) old new
          (λ env fit. all-push (part_true table env) parts part)
          (moves-then table t u t (λ env. list_all (part_true table env) parts) says old now new (IsSubterm-itself t)
          below so_far.moves step);
      listed = λ p c. ⊎_elim
          (λ early. moves-listed table u (term_at table p.at) says now new step (so_far.listed p early))
          (λ same. subst (λ (p : Part). AreListed new.netlist.bits (term_at table p.at)) same listed)
          (Contains-push_cases parts part p c);
    })

pub asserted-formula : (table : Table) (part : Part) (parts done : List Part) (old new : Wiring) → part.holds ≡ true
    → done ≡ parts → AreParts table join.All part parts → AreAsserted table (term_at table part.at) old new done
    → Moves table (term_at table part.at) (λ env. node_true table env part.at) old new
asserted-formula table part parts done old new holds e are asserted =
    let whole = term_at table part.at in
    moves-as table whole (λ env. list_all (part_true table env) done) (λ env. node_true table env part.at) old new
    (λ env fit. ap (list_all (part_true table env)) e ∙ sym (are.value env fit)
    ∙ ap (beq (node_true table env part.at)) holds ∙ true-is (node_true table env part.at))
    asserted.moves

pub clause-as : (table : Table) (t : Term) (old new : Wiring) (parts most : List Part) (signals more : List Signal)
    → parts ≡ most → more ≡ signals → IsClause table t old new parts signals → IsClause table t old new most more
clause-as table t old new parts most signals more e d clause =
    subst (λ ps. IsClause table t old new ps more) e (subst (IsClause table t old new parts) (sym d) clause)
