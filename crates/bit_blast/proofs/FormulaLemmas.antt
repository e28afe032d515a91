-- Whether a term is a formula over values, by the nodes of its subterms.
use Rattle.std.proofs.Common.{◌≡◌, ℕ, zero, suc, ◌<◌, ◌==◌, inl, inr, Bool, true, false, ◌&&◌, ◌||◌, ◌↔◌}
use Rattle.std.proofs.Common.{IsTrue, not, List, [], ◌∷◌, length, Some, Contains, refl, sym, ap, ◌∙◌, subst, arith}
use Rattle.std.proofs.Common.{slice_get}
use Rattle.std.proofs.lemmas.Bool.Decides.{nat_tests}
use Rattle.std.specs.List.{list_any}
use Rattle.bv_terms.specs.declared.op.Op.{Op}
use Rattle.bv_terms.specs.declared.op.Op.TheVariants as op
use Rattle.bv_terms.specs.declared.op.TermId.{TermId}
use Rattle.bv_terms.specs.declared.value.Sort.{Sort}
use Rattle.bv_terms.specs.declared.value.Sort.TheVariants as sort
use Rattle.bv_terms.specs.Sorts.{same_sort}
use Rattle.bv_terms.specs.Term.{Term, Apply, End, Then}
use Rattle.bv_terms.specs.WellSorted.{sort_of}
use Rattle.bv_terms.specs.Subterm.{IsSubterm, AreSubterms}
use Rattle.bv_terms.specs.Table.{Table, term_at, terms_of, operands, IsTable}
use Rattle.bv_terms.proofs.TableLemmas.{term_at-node}
use Rattle.bv_terms.proofs.SubtermLemmas.{among-argument, argument-subterm, entry-at}
use Rattle.list_lemmas.proofs.Lookups.{Contains-cases, Contains-first, Contains-later, only_one}
use Rattle.bit_blast.specs.Clauses.{HasNoMemory, IsFormula}
use Rattle.bit_blast.specs.Memory.{reads_memory, is_memory}

-- ---- a node

no_operands : (o : Op) (ts : List Term) (args : List TermId)
    → ((length args == 0) && reads_memory o) ≡ is_memory (Apply o (operands ts args))
no_operands o ts [] = refl
no_operands o ts (a ∷ args) =
    let some : (suc (length args) == 0) ≡ false = grind (arith, nat_tests) in
    ap (λ b. b && reads_memory o) some

pub is_memory-at : (table : Table) → IsTable table → (at : TermId) (o : Op) (args : List TermId) (none : Bool)
    → slice_get table.nodes at.0 ≡ Some (record { op = o; args = args }) → none ≡ (length args == 0)
    → (none && reads_memory o) ≡ is_memory (term_at table at)
is_memory-at table is at o args none e h =
    ap (λ b. b && reads_memory o) h ∙ no_operands o (terms_of table) args
    ∙ ap is_memory (sym (term_at-node table is at (record { op = o; args = args }) e))

-- ---- a subterm of a node's term is the term of a node

subterm-below : (table : Table) → IsTable table → (n : ℕ) (at : TermId) (s : Term) → at.0 < n
    → at.0 < length table.nodes → IsSubterm s (term_at table at)
    → (x : TermId) × (x.0 < length table.nodes) × (term_at table x ≡ s)
unfolding IsSubterm
subterm-below table is zero at s l there h = absurd (omega (arith, l))
subterm-below table is (suc n) at s l there h =
    let e = entry-at table at.0 there in
    let here : term_at table at ≡ Apply e.0.op (operands (terms_of table) e.0.args) =
    term_at-node table is at e.0 e.1 in
    let below : IsSubterm s (Apply e.0.op (operands (terms_of table) e.0.args)) = subst (IsSubterm s) here h in
    elim below [
      | inl same ↦ (at, there, here ∙ sym same)
      | inr among ↦ (let a = among-argument (terms_of table) e.0.args s among in
          let less = argument-subterm table is at e.0 e.1 a.0 a.1 in
          subterm-below table is n a.0 s (omega (arith, less.0, l)) (omega (arith, less.0, there)) a.2)
    ]

pub subterm-node : (table : Table) → IsTable table → (at : TermId) (s : Term) → at.0 < length table.nodes
    → IsSubterm s (term_at table at) → (x : TermId) × (x.0 < length table.nodes) × (term_at table x ≡ s)
subterm-node table is at s there h = subterm-below table is (suc at.0) at s (omega arith) there h

-- ---- no memory among the nodes, none in the term

-- an input that is a memory, as a term
memory-is : (t : Term) → is_memory t ≡ true → (k : ℕ) × (t ≡ Apply (op.Input k sort.Mem) End)
memory-is (Apply (op.Input k sort.Mem) End) h = (k, refl)
memory-is (Apply o (Then t ts)) h = absurd (let no : false ≡ true = h in cc)
memory-is (Apply (op.Input k sort.Bool) End) h = absurd (let no : false ≡ true = h in cc)
memory-is (Apply (op.Input k (sort.Bits w)) End) h = absurd (let no : false ≡ true = h in cc)
memory-is (Apply o End) h = absurd (let no : false ≡ true = h in cc)

none-of : {A : Type 0} (test : A → Bool) (xs : List A) → list_any test xs ≡ false → (x : A) → Contains xs x
    → test x ≡ false
none-of test [] h x c = absurd (omega (arith, c.1))
none-of test (y ∷ xs) h x c = by (test y) refl h (none-of test xs)
  where
    by : (b : Bool) → test y ≡ b → (b || list_any test xs) ≡ false
        → (list_any test xs ≡ false → (z : _) → Contains xs z → test z ≡ false) → test x ≡ false
    by true e h rest = absurd (cc)
    by false e h rest = elim (Contains-cases y x xs c) [
      | inl first ↦ subst (λ z. test z ≡ false) first e
      | inr later ↦ rest h x later
    ]

some-of : {A : Type 0} (test : A → Bool) (xs : List A) → list_any test xs ≡ true
    → (x : A) × Contains xs x × (test x ≡ true)
some-of test [] h = absurd (let no : false ≡ true = h in cc)
some-of test (y ∷ xs) h = by (test y) refl h (some-of test xs)
  where
    by : (b : Bool) → test y ≡ b → (b || list_any test xs) ≡ true
        → (list_any test xs ≡ true → (z : _) × Contains xs z × (test z ≡ true))
        → (z : _) × Contains (y ∷ xs) z × (test z ≡ true)
    by true e h rest = (y, Contains-first y xs, e)
    by false e h rest = let found = rest h in (found.0, Contains-later y found.0 xs found.1, found.2)

pub HasNoMemory-from : (table : Table) → IsTable table → (at : TermId) (nodes : List TermId)
    → at.0 < length table.nodes → AreSubterms table (at ∷ []) nodes
    → list_any (λ (x : TermId). is_memory (term_at table x)) nodes ≡ false → HasNoMemory (term_at table at)
HasNoMemory-from table is at nodes there h none k below =
    let x = subterm-node table is at (Apply (op.Input k sort.Mem) End) there below in
    let among : Contains nodes x.0 = (h.exact x.0).1
    (x.1, (at, Contains-first at [], subst (λ s. IsSubterm s (term_at table at)) (sym x.2) below)) in
    let no = none-of (λ (x : TermId). is_memory (term_at table x)) nodes none x.0 among in
    let yes : is_memory (term_at table x.0) ≡ true = ap is_memory x.2 in
    absurd (let bad : true ≡ false = sym yes ∙ no in cc)

pub HasNoMemory-not : (table : Table) (at : TermId) (nodes : List TermId) → AreSubterms table (at ∷ []) nodes
    → list_any (λ (x : TermId). is_memory (term_at table x)) nodes ≡ true → ¬ HasNoMemory (term_at table at)
HasNoMemory-not table at nodes h some none =
    let x = some-of (λ (x : TermId). is_memory (term_at table x)) nodes some in
    let t = memory-is (term_at table x.0) x.2 in
    let node = (h.exact x.0).0 x.1 in
    let r = node.1 in
    let same : r.0 ≡ at = sym (only_one at r.0 r.1) in
    none t.0 (subst (λ s. IsSubterm s (term_at table at)) t.1
    (subst (λ (q : TermId). IsSubterm (term_at table x.0) (term_at table q)) same r.2))

truth-is : (s : Sort) → same_sort s sort.Bool ≡ true → s ≡ sort.Bool
truth-is sort.Bool h = refl
truth-is (sort.Bits w) h = absurd (let no : false ≡ true = h in cc)
truth-is sort.Mem h = absurd (let no : false ≡ true = h in cc)

pub IsFormula-by : (table : Table) → IsTable table → (at : TermId) (nodes : List TermId) (s : Sort) (memory : Bool)
    → at.0 < length table.nodes → AreSubterms table (at ∷ []) nodes
    → sort_of table.pointer (term_at table at) ≡ Some s → same_sort s sort.Bool ≡ true
    → memory ≡ list_any (λ (x : TermId). is_memory (term_at table x)) nodes
    → IsTrue (not memory) ↔ IsFormula table.pointer (term_at table at)
IsFormula-by table is at nodes s false there h sorted same e = (
  λ yes. record {
    truth = sorted ∙ ap Some (truth-is s same);
    no_memory = HasNoMemory-from table is at nodes there h (sym e);
  },
  λ formula. refl,
)
IsFormula-by table is at nodes s true there h sorted same e = (
  λ yes. absurd (let bad : false ≡ true = yes in cc),
  λ formula. absurd (HasNoMemory-not table at nodes h (sym e) formula.no_memory),
)
