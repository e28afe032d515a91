-- The tests of terms and accesses say whether two are the same, and the list of subterms has the subterms.
use Rattle.std.proofs.Common.{◌≡◌, ℕ, true, [], refl, sym, ap, ◌∙◌, ⊎_elim, inl, inr, eqb}
use Rattle.std.proofs.lemmas.Bool.{false≢true}
use Rattle.std.proofs.lemmas.Bool.Decides.{Decides-eqb}
use Rattle.bv_terms.specs.declared.op.Op.{Op}
use Rattle.bv_terms.specs.declared.node.Node.{Node}
use Rattle.bv_terms.specs.contracts.op.OpEq.TheImpl.Laws as laws
use Rattle.bv_terms.specs.Term.{Term, Operands, Apply, End, Then}
use Rattle.bv_terms.specs.Subterm.{IsSubterm, IsSubtermAmong}
use Rattle.bv_terms.proofs.NodeLemmas.{node_eq-sound}
use Rattle.isel_spec.specs.Memory.{same_op, same_term, same_operands, same_access, subterms, subterms_among}
use Rattle.list_lemmas.proofs.Bools.{and_parts, and-both}
use Rattle.list_lemmas.proofs.Members.{In, In-append_cases, In-append_left, In-append_right}
use Rattle.spec_reader.proofs.OnceLemmas.{Tells}

-- ---- equal terms

same_op-itself : (o : Op) → same_op o o ≡ true
same_op-itself o = laws.laws-law.refl o

same_op-one : (o q : Op) → same_op o q ≡ true → o ≡ q
same_op-one o q h =
    let bare : Op → Node = λ o. record { op = o; args = [] } in
    ap (λ (n : Node). n.op) (node_eq-sound (bare o) (bare q) (and-both (same_op o q) true h refl))

mutual
  unfolding same_term

  same_term-itself : (t : Term) → same_term t t ≡ true
  same_term-itself (Apply o ts) =
      and-both (same_op o o) (same_operands ts ts) (same_op-itself o) (same_operands-itself ts)

  same_operands-itself : (ts : Operands) → same_operands ts ts ≡ true
  same_operands-itself End = refl
  same_operands-itself (Then t ts) =
      and-both (same_term t t) (same_operands ts ts) (same_term-itself t) (same_operands-itself ts)

mutual
  unfolding same_term

  same_term-one : (t u : Term) → same_term t u ≡ true → t ≡ u
  same_term-one (Apply o ts) (Apply q us) h =
      let parts = and_parts (same_op o q) (same_operands ts us) h in
      ap (λ o. Apply o ts) (same_op-one o q parts.0) ∙ ap (Apply q) (same_operands-one ts us parts.1)

  same_operands-one : (ts us : Operands) → same_operands ts us ≡ true → ts ≡ us
  same_operands-one End End h = refl
  same_operands-one End (Then u us) h = absurd (false≢true h)
  same_operands-one (Then t ts) End h = absurd (false≢true h)
  same_operands-one (Then t ts) (Then u us) h =
      let parts = and_parts (same_term t u) (same_operands ts us) h in
      ap (λ t. Then t ts) (same_term-one t u parts.0) ∙ ap (Then u) (same_operands-one ts us parts.1)

pub same_term-tells : Tells same_term
same_term-tells = record { itself = same_term-itself; one = same_term-one }

pub same_access-tells : Tells same_access
same_access-tells = record {
  itself = λ a. and-both (eqb a.0 a.0) (same_term a.1 a.1) ((Decides-eqb a.0 a.0).1 refl) (same_term-itself a.1);
  one = λ a b h.
      let parts = and_parts (eqb a.0 b.0) (same_term a.1 b.1) h in
      ap (λ (n : ℕ). (n, a.1)) ((Decides-eqb a.0 b.0).0 parts.0)
      ∙ ap (λ (t : Term). (b.0, t)) (same_term-one a.1 b.1 parts.1);
}

-- ---- subterms

mutual
  unfolding subterms IsSubterm

  pub subterm-stands : (t s : Term) → In (subterms t) s → IsSubterm s t
  subterm-stands (Apply o ts) s h = ⊎_elim (λ e. inl (sym e)) (λ k. inr (subterm-among ts s k)) h

  subterm-among : (ts : Operands) (s : Term) → In (subterms_among ts) s → IsSubtermAmong s ts
  subterm-among End s h = absurd h
  subterm-among (Then t ts) s h =
      ⊎_elim (λ k. inl (subterm-stands t s k)) (λ k. inr (subterm-among ts s k))
      (In-append_cases (subterms t) (subterms_among ts) s h)

mutual
  unfolding subterms IsSubterm

  pub stands-subterm : (t s : Term) → IsSubterm s t → In (subterms t) s
  stands-subterm (Apply o ts) s h = ⊎_elim (λ e. inl (sym e)) (λ k. inr (among-subterm ts s k)) h

  among-subterm : (ts : Operands) (s : Term) → IsSubtermAmong s ts → In (subterms_among ts) s
  among-subterm End s h = absurd h
  among-subterm (Then t ts) s h =
      ⊎_elim (λ k. In-append_left (subterms t) (subterms_among ts) s (stands-subterm t s k))
      (λ k. In-append_right (subterms t) (subterms_among ts) s (among-subterm ts s k)) h
