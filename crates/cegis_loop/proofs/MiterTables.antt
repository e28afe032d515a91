-- Nodes of a table for the formula that two lists of terms differ, and for inputs.
use Rattle.std.proofs.Common.{◌≡◌, ◌∙◌, ℕ, zero, suc, ◌+◌, ◌<◌, ◌≤◌, min, List, [], ◌∷◌, ◌++◌, length, map, drop}
use Rattle.std.proofs.Common.{get_or}
use Rattle.std.proofs.Common.{refl, sym, ap, subst, arith, append_assoc}
use Rattle.std.proofs.lemmas.List.{append-nil}
use Rattle.std.proofs.lemmas.List.Elements.{All-push}
use Rattle.bv_terms.specs.declared.op.Op.TheVariants as op
use Rattle.bv_terms.specs.declared.op.TermId.{TermId}
use Rattle.bv_terms.specs.declared.value.Sort.{Sort}
use Rattle.bv_terms.specs.Term.{Term, Apply, End}
use Rattle.bv_terms.specs.Table.{Table, term_at, Extends, IsTable}
use Rattle.bv_terms.proofs.GraftLemmas.{Extends-itself, Extends-further, Extends-term, Extends-terms}
use Rattle.list_lemmas.proofs.Lists.{map-push}
use Rattle.pattern_core.specs.Symbolic.{AreIn}
use Rattle.pattern_core.proofs.SymbolicTables.{AreIn-longer}
use Rattle.cegis_loop.specs.Miter.{inputs_from, equal, both, unequal, either, never, or_differ, and_inputs}

-- ---- lists that differ

or_differ-step : (f : TermId → Term) (t : Term) (ls rs : List TermId) (i : ℕ) (d e : TermId) → i < length ls
    → i < length rs → or_differ t (drop i (map f ls)) (drop i (map f rs))
    ≡ or_differ (either t (unequal (f (get_or ls i d)) (f (get_or rs i e)))) (drop (suc i) (map f ls))
    (drop (suc i) (map f rs))
or_differ-step f t [] rs i d e l k = absurd (omega (arith, l))
or_differ-step f t (x ∷ ls) [] i d e l k = absurd (omega (arith, k))
or_differ-step f t (x ∷ ls) (y ∷ rs) zero d e l k = refl
or_differ-step f t (x ∷ ls) (y ∷ rs) (suc i) d e l k =
    or_differ-step f t ls rs i d e (omega (arith, l)) (omega (arith, k))

or_differ-end : (f : TermId → Term) (t : Term) (ls rs : List TermId) (i : ℕ) → i ≡ min (length ls) (length rs)
    → or_differ t (drop i (map f ls)) (drop i (map f rs)) ≡ t
or_differ-end f t [] [] zero e = refl
or_differ-end f t [] (y ∷ rs) zero e = refl
or_differ-end f t (x ∷ ls) [] zero e = refl
or_differ-end f t (x ∷ ls) (y ∷ rs) zero e = absurd (omega (arith, e))
or_differ-end f t [] rs (suc i) e = absurd (omega (arith, e))
or_differ-end f t (x ∷ ls) [] (suc i) e = absurd (omega (arith, e))
or_differ-end f t (x ∷ ls) (y ∷ rs) (suc i) e = or_differ-end f t ls rs i (omega (arith, e))

-- the formula that the nodes before a place differ, in a table that extends an older one
pub record IsDiffering (old table : Table) (left right : List TermId) (place : ℕ) (at : TermId) : Type 0 where
  pub is_table : IsTable table
  pub extends : Extends old table
  pub within : at.0 < length table.nodes
  pub term : or_differ (term_at table at) (drop place (map (term_at old) left)) (drop place (map (term_at old) right))
      ≡ or_differ never (map (term_at old) left) (map (term_at old) right)

pub IsDiffering-none : (old table : Table) (left right : List TermId) (at : TermId) → IsTable table
    → Extends old table → at.0 < length table.nodes → term_at table at ≡ never
    → IsDiffering old table left right 0 at
IsDiffering-none old table left right at is grows within term = record {
  is_table = is;
  extends = grows;
  within = within;
  term = ap (λ t. or_differ t (map (term_at old) left) (map (term_at old) right)) term;
}

pub IsDiffering-more : (old table new : Table) (left right : List TermId) (place : ℕ) (at next d e : TermId)
    → IsDiffering old table left right place at → AreIn old left → AreIn old right → place < length left
    → place < length right → IsTable new → Extends table new → next.0 < length new.nodes
    → term_at new next
    ≡ either (term_at table at) (unequal (term_at table (get_or left place d)) (term_at table (get_or right place e)))
    → IsDiffering old new left right (place + 1) next
IsDiffering-more old table new left right place at next d e h ls rs l k is grows within term =
    let n : suc place ≡ place + 1 = omega arith in
    let here = Extends-term old table h.extends (get_or left place d) (ls place d l) in
    let there = Extends-term old table h.extends (get_or right place e) (rs place e k) in
    let now : term_at new next
    ≡ either (term_at table at) (unequal (term_at old (get_or left place d)) (term_at old (get_or right place e))) =
    term ∙ (λ i. either (term_at table at) (unequal (here i) (there i))) in
    record {
      is_table = is;
      extends = Extends-further old table new h.extends grows;
      within = within;
      term = ap (λ t. or_differ t (drop (place + 1) (map (term_at old) left))
          (drop (place + 1) (map (term_at old) right)))
          now
          ∙ subst (λ m. or_differ
          (either (term_at table at) (unequal (term_at old (get_or left place d)) (term_at old (get_or right place e))))
          (drop m (map (term_at old) left)) (drop m (map (term_at old) right))
          ≡ or_differ (term_at table at) (drop place (map (term_at old) left)) (drop place (map (term_at old) right))) n
          (sym (or_differ-step (term_at old) (term_at table at) left right place d e l k))
          ∙ h.term;
    }

pub IsDiffering-all : (old table : Table) (left right : List TermId) (place : ℕ) (at : TermId)
    → IsDiffering old table left right place at → place ≡ min (length left) (length right)
    → term_at table at ≡ or_differ never (map (term_at old) left) (map (term_at old) right)
IsDiffering-all old table left right place at h e =
    sym (or_differ-end (term_at old) (term_at table at) left right place e) ∙ h.term

-- ---- a formula over inputs

and_inputs-step : (f : TermId → Term) (t : Term) (is : List TermId) (i : ℕ) (d : TermId) → i < length is
    → and_inputs t (drop i (map f is))
    ≡ and_inputs (both t (equal (f (get_or is i d)) (f (get_or is i d)))) (drop (suc i) (map f is))
and_inputs-step f t [] i d l = absurd (omega (arith, l))
and_inputs-step f t (x ∷ is) zero d l = refl
and_inputs-step f t (x ∷ is) (suc i) d l = and_inputs-step f t is i d (omega (arith, l))

and_inputs-end : (f : TermId → Term) (t : Term) (is : List TermId) (i : ℕ) → length is ≤ i
    → and_inputs t (drop i (map f is)) ≡ t
and_inputs-end f t [] zero l = refl
and_inputs-end f t [] (suc i) l = refl
and_inputs-end f t (x ∷ is) zero l = absurd (omega (arith, l))
and_inputs-end f t (x ∷ is) (suc i) l = and_inputs-end f t is i (omega (arith, l))

-- the formula over the inputs before a place, in a table that extends an older one
pub record IsOverInputs (old table : Table) (formula : TermId) (inputs : List TermId) (place : ℕ)
    (at : TermId) : Type 0 where
  pub is_table : IsTable table
  pub extends : Extends old table
  pub within : at.0 < length table.nodes
  pub term : and_inputs (term_at table at) (drop place (map (term_at old) inputs))
      ≡ and_inputs (term_at old formula) (map (term_at old) inputs)

pub IsOverInputs-none : (old : Table) (formula : TermId) (inputs : List TermId) → IsTable old
    → formula.0 < length old.nodes → IsOverInputs old old formula inputs 0 formula
IsOverInputs-none old formula inputs is within =
    record { is_table = is; extends = Extends-itself old; within = within; term = refl }

pub IsOverInputs-more : (old table new : Table) (formula : TermId) (inputs : List TermId) (place : ℕ)
    (at next d : TermId) → IsOverInputs old table formula inputs place at → AreIn old inputs → place < length inputs
    → IsTable new → Extends table new → next.0 < length new.nodes
    → term_at new next
    ≡ both (term_at table at) (equal (term_at table (get_or inputs place d)) (term_at table (get_or inputs place d)))
    → IsOverInputs old new formula inputs (place + 1) next
IsOverInputs-more old table new formula inputs place at next d h are l is grows within term =
    let n : suc place ≡ place + 1 = omega arith in
    let x : Term = term_at old (get_or inputs place d) in
    let here = Extends-term old table h.extends (get_or inputs place d) (are place d l) in
    let now : term_at new next ≡ both (term_at table at) (equal x x) =
    term ∙ (λ i. both (term_at table at) (equal (here i) (here i))) in
    record {
      is_table = is;
      extends = Extends-further old table new h.extends grows;
      within = within;
      term = ap (λ t. and_inputs t (drop (place + 1) (map (term_at old) inputs))) now
          ∙ subst (λ m. and_inputs (both (term_at table at) (equal x x)) (drop m (map (term_at old) inputs))
          ≡ and_inputs (term_at table at) (drop place (map (term_at old) inputs))) n
          (sym (and_inputs-step (term_at old) (term_at table at) inputs place d l))
          ∙ h.term;
    }

pub IsOverInputs-all : (old table : Table) (formula : TermId) (inputs : List TermId) (place : ℕ) (at : TermId)
    → IsOverInputs old table formula inputs place at → length inputs ≤ place
    → term_at table at ≡ and_inputs (term_at old formula) (map (term_at old) inputs)
IsOverInputs-all old table formula inputs place at h l =
    sym (and_inputs-end (term_at old) (term_at table at) inputs place l) ∙ h.term

-- ---- inputs

inputs-step : (ss : List Sort) (i k : ℕ) (d : Sort) → i < length ss
    → inputs_from k (drop i ss) ≡ Apply (op.Input k (get_or ss i d)) End ∷ inputs_from (k + 1) (drop (suc i) ss)
inputs-step [] i k d l = absurd (omega (arith, l))
inputs-step (s ∷ ss) zero k d l = refl
inputs-step (s ∷ ss) (suc i) k d l = inputs-step ss i k d (omega (arith, l))

inputs-end : (ss : List Sort) (i k : ℕ) → length ss ≤ i → inputs_from k (drop i ss) ≡ []
inputs-end [] zero k l = refl
inputs-end [] (suc i) k l = refl
inputs-end (s ∷ ss) zero k l = absurd (omega (arith, l))
inputs-end (s ∷ ss) (suc i) k l = inputs-end ss i k (omega (arith, l))

-- the nodes of the inputs before a place, in a table that extends an older one
pub record AreInputNodes (old table : Table) (sorts : List Sort) (place : ℕ) (nodes : List TermId) : Type 0 where
  pub is_table : IsTable table
  pub extends : Extends old table
  pub within : AreIn table nodes
  pub terms : map (term_at table) nodes ++ inputs_from place (drop place sorts) ≡ inputs_from 0 sorts

pub AreInputNodes-none : (old : Table) (sorts : List Sort) (nodes : List TermId) → IsTable old → nodes ≡ []
    → AreInputNodes old old sorts 0 nodes
AreInputNodes-none old sorts nodes is none =
    subst (AreInputNodes old old sorts 0) (sym none) (record {
      is_table = is;
      extends = Extends-itself old;
      within = λ k d l. absurd (omega (arith, l));
      terms = refl;
    })

pub AreInputNodes-more : (old table new : Table) (sorts : List Sort) (place number : ℕ) (nodes more : List TermId)
    (at : TermId) (d : Sort) → AreInputNodes old table sorts place nodes → place < length sorts → number ≡ place
    → IsTable new → Extends table new → at.0 < length new.nodes
    → term_at new at ≡ Apply (op.Input number (get_or sorts place d)) End → more ≡ nodes ++ at ∷ []
    → AreInputNodes old new sorts (place + 1) more
AreInputNodes-more old table new sorts place number nodes more at d h l same is grows within term pushed =
    let n : suc place ≡ place + 1 = omega arith in
    let t : Term = Apply (op.Input place (get_or sorts place d)) End in
    let rest : List Term = inputs_from (place + 1) (drop (place + 1) sorts) in
    let step : inputs_from place (drop place sorts) ≡ t ∷ rest =
    subst (λ m. inputs_from place (drop place sorts) ≡ t ∷ inputs_from (place + 1) (drop m sorts)) n
    (inputs-step sorts place place d l) in
    let here : term_at new at ≡ t = term ∙ ap (λ m. Apply (op.Input m (get_or sorts place d)) End) same in
    let old_terms = Extends-terms table new grows nodes h.within in
    let made : map (term_at new) more ≡ map (term_at table) nodes ++ t ∷ [] =
    ap (map (term_at new)) pushed ∙ map-push (term_at new) nodes at ∙ (λ i. old_terms i ++ here i ∷ []) in
    record {
      is_table = is;
      extends = Extends-further old table new h.extends grows;
      within = subst (AreIn new) (sym pushed)
          (All-push (λ (a : TermId). a.0 < length new.nodes) nodes at (AreIn-longer table new grows nodes h.within)
          within);
      terms = ap (λ ts. ts ++ rest) made ∙ append_assoc (map (term_at table) nodes) (t ∷ []) rest
          ∙ ap (λ ts. map (term_at table) nodes ++ ts) (sym step) ∙ h.terms;
    }

pub AreInputNodes-all : (old table : Table) (sorts : List Sort) (place : ℕ) (nodes : List TermId)
    → AreInputNodes old table sorts place nodes → length sorts ≤ place
    → map (term_at table) nodes ≡ inputs_from 0 sorts
AreInputNodes-all old table sorts place nodes h l =
    sym (append-nil (map (term_at table) nodes))
    ∙ ap (λ ts. map (term_at table) nodes ++ ts) (sym (inputs-end sorts place place l)) ∙ h.terms
