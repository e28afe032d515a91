-- The word of a node's operation is the word of its term.
use Rattle.std.proofs.Common.{◌≡◌, ◌∙◌, ℕ, ◌≤◌, Bool, List, [], ◌∷◌, length, Some}
use Rattle.std.proofs.Common.{IsTrue, refl, sym, ap, subst, arith, ⊎_elim}
use Rattle.std.proofs.lemmas.Option.{same_Some}
use Rattle.bv_terms.specs.declared.op.Op.{Op}
use Rattle.bv_terms.specs.declared.op.Op.TheVariants as op
use Rattle.bv_terms.specs.declared.op.TermId.{TermId}
use Rattle.bv_terms.specs.declared.value.Sort.{Sort}
use Rattle.bv_terms.specs.declared.value.Sort.TheVariants as sort
use Rattle.bv_terms.specs.declared.value.Value.{Value}
use Rattle.bv_terms.specs.Sorts.{width_of, IsSized}
use Rattle.bv_terms.specs.Term.{Term, Operands, Apply, End, Then, op_value, value, values}
use Rattle.bv_terms.specs.WellSorted.{sort_of, sorts_of, InputsFit, AllInputsFit}
use Rattle.bv_terms.specs.Table.{Table, operands, terms_of, term_at}
use Rattle.bv_terms.proofs.TermLemmas.{sorts_of-some, sort_of-sized}
use Rattle.bv_terms.proofs.MakeLemmas.{sorts_of-end}
use Rattle.bv_terms.proofs.NoMemory.{AreOverMemory, memory_from}
use Rattle.circuit.specs.declared.signal.Signal.{Signal}
use Rattle.circuit.specs.Gate.{Netlist, Grows, hold}
use Rattle.word_circuits.specs.Word.{word_number}
use Rattle.bit_blast.specs.Bits.{Agrees, IsBitOf}
use Rattle.bit_blast.specs.Words.{value_of, IsTermWord, Widens}
use Rattle.bit_blast.specs.Operations.{AreWide, values_of, MayStand, IsOpWord}
use Rattle.bit_blast.proofs.MoveLemmas.{IsTermWord-widens, grows-widens}
use Rattle.bit_blast.proofs.NodeFacts.{IsNode, value-apply}

-- words of nodes, one each
abbrev pub AreWordsOf : Table → Netlist → List TermId → List (List Signal) → Type 0
AreWordsOf table n [] [] = Unit {0}
AreWordsOf table n (a ∷ args) (w ∷ ws) =
    IsTermWord table.pointer n (term_at table a) w × AreWordsOf table n args ws
AreWordsOf table n _ _ = ⊥

pub AreWordsOf-widens : (P : ℕ → ℕ → Type 0) (table : Table) (old new : Netlist) → Widens P old new
    → (args : List TermId) (ws : List (List Signal)) → AreWordsOf table old args ws → AreWordsOf table new args ws
AreWordsOf-widens P table old new more [] [] are = tt
AreWordsOf-widens P table old new more [] (w ∷ ws) are = absurd are
AreWordsOf-widens P table old new more (a ∷ args) [] are = absurd are
AreWordsOf-widens P table old new more (a ∷ args) (w ∷ ws) are = (
  IsTermWord-widens P old new more table.pointer (term_at table a) w are.0,
  AreWordsOf-widens P table old new more args ws are.1,
)

narrow : (s : Sort) → IsSized s → width_of s ≤ 64
narrow sort.Bool sized = omega arith
narrow (sort.Bits w) sized = sized.1
narrow sort.Mem sized = omega arith

wide : (table : Table) (n : Netlist) (args : List TermId) (ws : List (List Signal)) (ss : List Sort)
    → sorts_of table.pointer (operands (terms_of table) args) ≡ Some ss → AreWordsOf table n args ws → AreWide ss ws
wide table n [] [] ss e are = subst (λ ss. AreWide ss []) (same_Some [] ss (sym (sorts_of-end table.pointer) ∙ e)) tt
wide table n [] (w ∷ ws) ss e are = absurd are
wide table n (a ∷ args) [] ss e are = absurd are
wide table n (a ∷ args) (w ∷ ws) ss e are =
    let parts = sorts_of-some table.pointer (term_at table a) (operands (terms_of table) args) ss e in
    let same = same_Some are.0.kind parts.0 (sym are.0.sorted ∙ parts.3) in
    let places : length w ≡ width_of parts.0 = are.0.places ∙ ap width_of same in
    let small = narrow parts.0 (sort_of-sized table.pointer (term_at table a) parts.0 parts.3) in
    subst (λ ss. AreWide ss (w ∷ ws)) (sym parts.2)
    ((places, are.0.some, omega (arith, places, small)), wide table n args ws parts.1 parts.4 are.1)

-- where the words stand for nodes, the operation may stand over them
pub may-stand : (table : Table) (at : TermId) (o : Op) (args : List TermId) (n : Netlist) (ws : List (List Signal))
    → IsNode table at o args → AreWordsOf table n args ws → MayStand o ws
may-stand table at o args n ws node are = record {
  pointer = table.pointer;
  sorts = node.sorted.sorts;
  allowed = node.sorted.fits;
  wide = wide table n args ws node.sorted.sorts node.sorted.of_args are;
}

-- ---- values

fits-parts : (env : List Value) (o : Op) (ts : Operands) → InputsFit env (Apply o ts) → AllInputsFit env ts
unfolding InputsFit
fits-parts env o ts fit = fit.1

fits-first : (env : List Value) (t : Term) (ts : Operands) → AllInputsFit env (Then t ts)
    → InputsFit env t × AllInputsFit env ts
unfolding InputsFit
fits-first env t ts fit = fit

values-end : (env : List Value) → values env End ≡ []
unfolding value
values-end env = refl

values-then : (env : List Value) (t : Term) (ts : Operands) → values env (Then t ts) ≡ value env t ∷ values env ts
unfolding value
values-then env t ts = refl

same-values : (table : Table) (n : Netlist) (v : ℕ → Bool) (env : List Value) → IsTrue (hold v n.gates)
    → Agrees v n.bits env → (args : List TermId) (ws : List (List Signal)) (ss : List Sort)
    → sorts_of table.pointer (operands (terms_of table) args) ≡ Some ss → AreWordsOf table n args ws
    → AllInputsFit env (operands (terms_of table) args)
    → values_of v ss ws ≡ values env (operands (terms_of table) args)
same-values table n v env h agrees [] [] ss e are fit =
    ap (λ ss. values_of v ss []) (sym (same_Some [] ss (sym (sorts_of-end table.pointer) ∙ e))) ∙ sym (values-end env)
same-values table n v env h agrees [] (w ∷ ws) ss e are fit = absurd are
same-values table n v env h agrees (a ∷ args) [] ss e are fit = absurd are
same-values table n v env h agrees (a ∷ args) (w ∷ ws) ss e are fit =
    let t = term_at table a in
    let ts = operands (terms_of table) args in
    let parts = sorts_of-some table.pointer t ts ss e in
    let same = same_Some are.0.kind parts.0 (sym are.0.sorted ∙ parts.3) in
    let fits = fits-first env t ts fit in
    ap (λ ss. values_of v ss (w ∷ ws)) parts.2
    ∙ ap (λ s. value_of s (word_number v w) ∷ values_of v parts.1 ws) (sym same)
    ∙ ap (λ u. u ∷ values_of v parts.1 ws) (are.0.value v env h agrees fits.0)
    ∙ ap (λ us. value env t ∷ us) (same-values table n v env h agrees args ws parts.1 parts.4 are.1 fits.1)
    ∙ sym (values-then env t ts)

-- ---- no word is a memory's

no_memory_first : (table : Table) (n : Netlist) (args : List TermId) (ws : List (List Signal))
    → AreWordsOf table n args ws → AreOverMemory table.pointer (operands (terms_of table) args) → ⊥
no_memory_first table n [] ws are over = over
no_memory_first table n (a ∷ args) [] are over = are
no_memory_first table n (a ∷ args) (w ∷ ws) are over =
    let same = same_Some are.0.kind sort.Mem (sym are.0.sorted ∙ over) in
    let none : length w ≡ 0 = are.0.places ∙ ap width_of same in
    omega (arith, are.0.some, none)

pub some_bit : (s : Sort) → IsSized s → (s ≡ sort.Mem → ⊥) → 1 ≤ width_of s
some_bit sort.Bool sized other = omega arith
some_bit (sort.Bits w) sized other = sized.0
some_bit sort.Mem sized other = absurd (other refl)

pub not-memory : (table : Table) (at : TermId) (o : Op) (args : List TermId) (n : Netlist) (ws : List (List Signal))
    → IsNode table at o args → AreWordsOf table n args ws → ((number : ℕ) (s : Sort) → o ≡ op.Input number s → ⊥)
    → (kind : Sort) → sort_of table.pointer (term_at table at) ≡ Some kind → kind ≡ sort.Mem → ⊥
not-memory table at o args n ws node are other kind sorted mem =
    let ts = operands (terms_of table) args in
    let whole : sort_of table.pointer (Apply o ts) ≡ Some sort.Mem =
    ap (sort_of table.pointer) (sym node.term) ∙ sorted ∙ ap Some mem in
    ⊎_elim (λ input. other input.0 sort.Mem input.1) (λ over. no_memory_first table n args ws are over)
    (memory_from table.pointer o ts whole)

input-apply : (o : Op) (ts : Operands) (number : ℕ) (s : Sort) → Apply o ts ≡ Apply (op.Input number s) End
    → o ≡ op.Input number s
input-apply o ts number s e = cc

-- the word of an operation over the words of a node's arguments is one of its term
pub op-word : (table : Table) (at : TermId) (o : Op) (args : List TermId) (n : Netlist) (ws : List (List Signal))
    (word : List Signal) → IsNode table at o args → AreWordsOf table n args ws
    → ((number : ℕ) (s : Sort) → o ≡ op.Input number s → ⊥)
    → IsOpWord n o ws word → IsTermWord table.pointer n (term_at table at) word
op-word table at o args n ws word node are other is =
    let ts = operands (terms_of table) args in
    let ss = node.sorted.sorts in
    let w = wide table n args ws ss node.sorted.of_args are in
    let kind = node.kind in
    let places : length word ≡ width_of kind =
    is.places table.pointer ss node.sorted.fits w ∙ ap width_of node.sorted.result in
    let sized = sort_of-sized table.pointer (term_at table at) kind node.sorted_term in
    let some = some_bit kind sized (not-memory table at o args n ws node are other kind node.sorted_term) in
    record {
      kind = kind;
      sorted = node.sorted_term;
      places = places;
      some = omega (arith, places, some);
      over = is.over;
      value = λ v env h agrees fit.
          ap (λ s. value_of s (word_number v word)) (sym node.sorted.result)
          ∙ is.value table.pointer ss node.sorted.fits w env v h
          ∙ ap (op_value env o) (same-values table n v env h agrees args ws ss node.sorted.of_args are
          (fits-parts env o ts (subst (InputsFit env) node.term fit)))
          ∙ sym (value-apply env o ts) ∙ ap (value env) (sym node.term);
      listed = λ number k s e less. absurd (other number s (input-apply o ts number s (sym node.term ∙ e)));
    }

-- the same where the circuit has grown since the words were found
pub op-grown : (table : Table) (at : TermId) (o : Op) (args : List TermId) (old new : Netlist) (ws : List (List Signal))
    (word : List Signal) → IsNode table at o args → AreWordsOf table old args ws
    → ((number : ℕ) (s : Sort) → o ≡ op.Input number s → ⊥)
    → Grows old new → IsOpWord new o ws word → IsTermWord table.pointer new (term_at table at) word
op-grown table at o args old new ws word node are other growth is =
    let P = IsBitOf (term_at table at) in
    op-word table at o args new ws word node
    (AreWordsOf-widens P table old new (grows-widens P old new growth) args ws are) other is
