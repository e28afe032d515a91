-- What is right has clauses that stand for its formulas, and is right over every table that extends its own.
use Rattle.std.proofs.Common.{◌≡◌, ℕ, ◌<◌, ◌↔◌, Bool, true, List, [], ◌∷◌, ◌++◌, length, map, slice_get, All}
use Rattle.std.proofs.Common.{Contains, IsTrue, refl, sym, ap, ◌∙◌, ◌&&◌, subst, arith, ⊎_elim}
use Rattle.std.specs.List.{AllByRecursion, list_all}
use Rattle.std.proofs.lemmas.List.Elements.{All-from_recursion, recursion_from_All, All-weaker, All-push, All-contains}
use Rattle.std.proofs.lemmas.List.Elements.{Contains-push, Contains-push_cases, Contains-append_left}
use Rattle.std.proofs.lemmas.List.Elements.{Contains-append_cases}
use Rattle.bv_terms.specs.declared.op.TermId.{TermId}
use Rattle.bv_terms.specs.declared.value.Value.{Value}
use Rattle.bv_terms.specs.declared.value.Value.TheVariants as val
use Rattle.bv_terms.specs.Term.{Term, value}
use Rattle.bv_terms.specs.WellSorted.{InputsFit}
use Rattle.bv_terms.specs.Table.{Entry, Table, term_at, Extends}
use Rattle.bv_terms.proofs.GraftLemmas.{Extends-longer, Extends-term, Extends-terms}
use Rattle.cnf_core.specs.Clause.{is_model}
use Rattle.cnf_core.specs.Formula.{Formula}
use Rattle.circuit.specs.declared.signal.Signal.{Signal}
use Rattle.circuit.specs.Gate.{Netlist}
use Rattle.circuit.proofs.RunLemmas.{some-run}
use Rattle.bit_blast.specs.Bits.{bit_of, Agrees, IsListed, IsBitOf}
use Rattle.bit_blast.specs.Clauses.{IsTrueAt, AreClausesFor}
use Rattle.bit_blast.specs.Words.{IsTermWord, Wiring, wiring, AreWords, AreListed, Moves}
use Rattle.bit_blast.specs.Parts.{is_true, term_true, node_true}
use Rattle.bit_blast.specs.Blast.{Blast, IsRight, Continues}
use Rattle.bit_blast.proofs.AssertLemmas.{all-push}
use Rattle.bit_blast.proofs.BitLemmas.{IsRun-agrees, listed-once, listed-variables, Agrees-front, Listed-front}
use Rattle.list_lemmas.proofs.Bools.{and_parts, and-both}
use Rattle.list_lemmas.proofs.Lists.{map-push}
use Rattle.list_lemmas.proofs.Lookups.{slice_get-append_left, All-front}

is_true-value : (u : Value) → is_true u ≡ true → u ≡ val.Bool true
is_true-value (val.Bool b) h = ap val.Bool h
is_true-value (val.Bits w n) h = absurd (cc)

all-true : (env : List Value) (ts : List Term) → AllByRecursion (IsTrueAt env) ts → list_all (term_true env) ts ≡ true
all-true env [] all = refl
all-true env (t ∷ ts) all =
    and-both (term_true env t) (list_all (term_true env) ts) (ap is_true all.0) (all-true env ts all.1)

true-all : (env : List Value) (ts : List Term) → list_all (term_true env) ts ≡ true → AllByRecursion (IsTrueAt env) ts
true-all env [] h = tt
true-all env (t ∷ ts) h =
    let parts = and_parts (term_true env t) (list_all (term_true env) ts) h in
    (is_true-value (value env t) parts.0, true-all env ts parts.1)

-- ---- the clauses

pub right-clauses : (b : Blast) (table : Table) → IsRight b table → (cnf : Formula) (bits : List (ℕ × ℕ × ℕ))
    → cnf ≡ b.netlist.formula → bits ≡ b.netlist.bits → AreClausesFor (map (term_at table) b.formulas) cnf bits
right-clauses b table right cnf bits same_cnf same_bits =
    subst (λ cnf. AreClausesFor (map (term_at table) b.formulas) cnf bits) (sym same_cnf)
    (subst (λ bits. AreClausesFor (map (term_at table) b.formulas) b.netlist.formula bits) (sym same_bits)
    (record {
      models = λ env fit. (
        λ all. to_model env fit (all-true env ts (recursion_from_All (IsTrueAt env) ts all)),
        λ m. All-from_recursion (IsTrueAt env) ts (true-all env ts
            (sym (right.models m.0 env (right.words.netlist.models m.0 m.1) m.2 fit) ∙ m.1)),
      );
      listed = right.listed;
      once = listed-once b.netlist right.words.netlist;
      variables = listed-variables b.netlist right.words.netlist;
    }))
  where
    ts : List Term
    ts = map (term_at table) b.formulas

    to_model : (env : List Value) → All (InputsFit env) ts → list_all (term_true env) ts ≡ true
        → (v : ℕ → Bool) × IsTrue (is_model v b.netlist.formula.clauses) × Agrees v b.netlist.bits env
    to_model env fit all =
        let run = some-run b.netlist.gates right.words.netlist.forward (bit_of env) in
        let agrees = IsRun-agrees b.netlist right.words.netlist env run.0 run.1 in
        (run.0, right.models run.0 env run.1.hold agrees fit ∙ all, agrees)

-- ---- over larger tables

pub AreWords-extends : (old new : Table) → Extends old new
    → (n : Netlist) (words : List (TermId × List Signal)) → AreWords old (wiring n words)
    → AreWords new (wiring n words)
AreWords-extends old new more n words are = record {
  netlist = are.netlist;
  within = λ at has. omega (arith, are.within at has, Extends-longer old new more);
  arguments = λ at e has entry. are.arguments at e has
      (sym (slice_get-append_left old.nodes more.more at.0 (are.within at has))
      ∙ ap (λ (ns : List Entry). slice_get ns at.0) (sym more.nodes) ∙ entry);
  words = λ at word has.
      subst (λ p. IsTermWord p n (term_at new at) word) (sym more.pointer)
      (subst (λ t. IsTermWord old.pointer n t word)
      (sym (Extends-term old new more at (are.within at (word, has)))) (are.words at word has));
}

pub IsRight-extends : (b : Blast) (old new : Table) → Extends old new → IsRight b old → IsRight b new
IsRight-extends b old new more right =
    let same = Extends-terms old new more b.formulas right.formulas in
    record {
      formulas = All-weaker (λ (at : TermId). at.0 < length old.nodes) (λ (at : TermId). at.0 < length new.nodes)
          (λ at less. omega (arith, less, Extends-longer old new more)) b.formulas right.formulas;
      words = AreWords-extends old new more b.netlist b.words right.words;
      models = λ v env holds agrees fit.
          right.models v env holds agrees (subst (All (InputsFit env)) same fit)
          ∙ ap (list_all (term_true env)) (sym same);
      listed = λ number k. subst (Says number k) (sym same) (right.listed number k);
    }
  where
    Says : ℕ → ℕ → List Term → Type 0
    Says number k ts = IsListed b.netlist.bits number k ↔ ((t : Term) × Contains ts t × IsBitOf t number k)

-- ---- one formula more

pub asserted-right : (b : Blast) (table : Table) → IsRight b table → (f : TermId) → f.0 < length table.nodes
    → (n : Netlist) (words : List (TermId × List Signal))
    → Moves table (term_at table f) (λ env. node_true table env f) (wiring b.netlist b.words) (wiring n words)
    → AreListed n.bits (term_at table f)
    → IsRight (record { formulas = b.formulas ++ f ∷ []; netlist = n; words = words }) table
asserted-right b table right f there n words moves covered = record {
  formulas = All-push (λ (at : TermId). at.0 < length table.nodes) b.formulas f right.formulas there;
  words = moves.words;
  models = λ v env h agrees fit.
      let fits = subst (All (InputsFit env)) pushed fit in
      moves.models v env h agrees (All-contains (InputsFit env) (old_terms ++ t ∷ []) t fits
      (Contains-push old_terms t))
      ∙ ap (λ x. x && term_true env t) (right.models v env (moves.holds v h)
      (Agrees-front v env b.netlist.bits moves.more_bits n.bits moves.bits agrees)
      (All-front (InputsFit env) old_terms (t ∷ []) fits))
      ∙ all-push (term_true env) old_terms t ∙ ap (list_all (term_true env)) (sym pushed);
  listed = λ number k. subst (λ ts. IsListed n.bits number k ↔ Says number k ts) (sym pushed)
      (to number k, from number k);
}
  where
    t : Term
    t = term_at table f

    old_terms : List Term
    old_terms = map (term_at table) b.formulas

    pushed : map (term_at table) (b.formulas ++ f ∷ []) ≡ old_terms ++ t ∷ []
    pushed = map-push (term_at table) b.formulas f

    Says : ℕ → ℕ → List Term → Type 0
    Says number k ts = (u : Term) × Contains ts u × IsBitOf u number k

    to : (number k : ℕ) → IsListed n.bits number k → Says number k (old_terms ++ t ∷ [])
    to number k at = ⊎_elim
        (λ old. let before = (right.listed number k).0 (at.0, old) in
        (before.0, Contains-append_left old_terms (t ∷ []) before.0 before.1, before.2))
        (λ new. (
          t,
          Contains-push old_terms t,
          All-contains (λ (b : ℕ × ℕ × ℕ). IsBitOf t b.0 b.1) moves.more_bits (number, k, at.0) moves.from new,
        ))
        (Contains-append_cases b.netlist.bits moves.more_bits (number, k, at.0)
        (subst (λ bits. Contains bits (number, k, at.0)) moves.bits at.1))

    from : (number k : ℕ) → Says number k (old_terms ++ t ∷ []) → IsListed n.bits number k
    from number k says = ⊎_elim
        (λ old. Listed-front b.netlist.bits moves.more_bits n.bits moves.bits number k
        ((right.listed number k).1 (says.0, old, says.2)))
        (λ same. covered number k (subst (λ u. IsBitOf u number k) (sym same) says.2))
        (Contains-push_cases old_terms t says.0 says.1)

pub moves-continue : (table : Table) (t : Term) (f : List Value → Bool) (old new : Wiring) → AreWords table old
    → Moves table t f old new → Continues old.netlist new.netlist
moves-continue table t f old new are moves = record {
  variables = omega (arith, are.netlist.variables, moves.words.netlist.variables, moves.longer);
  more_clauses = moves.more_clauses;
  clauses = moves.clauses;
  more_bits = moves.more_bits;
  bits = moves.bits;
}
