-- What a solver's answer for the formula says of the pattern, and what trying all inputs does.
use Rattle.std.proofs.Common.{◌≡◌, ◌∙◌, ℕ, zero, suc, ◌+◌, ◌^◌, ◌<◌, ◌≤◌, ◌⊎◌, ⊎_elim, inl, inr, Bool, true, List, []}
use Rattle.std.proofs.Common.{◌∷◌, length, Some, slice_get, refl, sym, subst, arith, sum_by}
use Rattle.std.specs.Prelude.{◌↔◌, IsTrue, Result, Ok, Err, IfOk}
use Rattle.std.specs.declared.alloc.AllocError.{AllocError}
use Rattle.std.proofs.Math.Pow.{pow_mono}
use Rattle.std.proofs.lemmas.Bool.{false≢true}
use Rattle.std.proofs.lemmas.Option.{same_Some, slice_get_within}
use Rattle.bv_terms.specs.declared.op.Op.TheVariants as op
use Rattle.bv_terms.specs.declared.value.Sort.{Sort}
use Rattle.bv_terms.specs.declared.value.Value.{Value}
use Rattle.bv_terms.specs.Sorts.{HasSort, HaveSorts, width_of}
use Rattle.bv_terms.specs.Term.{Term, Apply, End, same_value}
use Rattle.bv_terms.specs.WellSorted.{InputsFit}
use Rattle.bv_terms.specs.Subterm.{IsSubterm}
use Rattle.bv_terms.proofs.SubtermLemmas.{InputsFit-subterm}
use Rattle.cnf_core.specs.Clause.{is_model}
use Rattle.cnf_core.specs.Formula.{Formula}
use Rattle.cnf_core.specs.Resolution.{AreNewClauses}
use Rattle.bit_blast.specs.Clauses.{IsFormula, IsTrueAt, AreClausesFor}
use Rattle.bv_query.specs.Inputs.{HaveOneSort}
use Rattle.bv_query.specs.Decision.{OnYes, OnNo, OnSpent, OnClauses, OnLog, IsWitness, HaveNoWitness}
use Rattle.bv_query.specs.declared.decision.Decision.{Decision}
use Rattle.bv_query.specs.declared.decision.Decision.TheVariants as answer
use Rattle.isel_spec.specs.File.{File, Goal}
use Rattle.list_lemmas.proofs.Bools.{true-or-false}
use Rattle.list_lemmas.proofs.Lookups.{All-one, only_one}
use Rattle.pattern_core.specs.declared.pattern.Example.{Example}
use Rattle.pattern_core.specs.declared.pattern.Pattern.{Pattern}
use Rattle.pattern_core.specs.Claim.{Claim}
use Rattle.pattern_core.specs.Rule.{pattern_results, goal_results, IsRule, IsPlainRule, TakesNoMemory}
use Rattle.plain_search.specs.Agreement.{AgreesAt}
use Rattle.plain_search.specs.Inputs.{inputs_numbered}
use Rattle.plain_search.proofs.AgreementLemmas.{AgreesBelow, AgreesBelow-more, rule_from_all, goal_inputs}
use Rattle.cegis_loop.specs.declared.answer.Tried.{Tried}
use Rattle.cegis_loop.specs.declared.answer.Confirm.{Confirm}
use Rattle.cegis_loop.specs.declared.answer.Confirm.TheVariants as confirm
use Rattle.cegis_loop.specs.Answer.{IsCall, IsAnswer, IsAsked, IsFoundAt}
use Rattle.cegis_loop.specs.Miter.{IsMiterOf}
use Rattle.cegis_loop.proofs.MiterLemmas.{same_value-itself, same_value-true}
use Rattle.cegis_loop.proofs.ModelLemmas.{model-witness}

-- ---- equal or not

value-or-not : (u v : Value) → (u ≡ v) ⊎ (u ≡ v → ⊥)
value-or-not u v =
    ⊎_elim (λ same. inl (same_value-true u v same))
    (λ differ. inr (λ e. false≢true (sym differ ∙ subst (λ w. same_value u w ≡ true) e (same_value-itself u))))
    (true-or-false (same_value u v))

values-or-not : (us vs : List Value) → (us ≡ vs) ⊎ (us ≡ vs → ⊥)
values-or-not [] [] = inl refl
values-or-not [] (v ∷ vs) = inr (λ e. absurd (cc))
values-or-not (u ∷ us) [] = inr (λ e. absurd (cc))
values-or-not (u ∷ us) (v ∷ vs) =
    ⊎_elim
    (λ (here : u ≡ v). ⊎_elim (λ (rest : us ≡ vs). inl (λ i. here i ∷ rest i))
    (λ (differ : us ≡ vs → ⊥). inr (λ e. differ (let same : us ≡ vs = cc in same))) (values-or-not us vs))
    (λ (differ : u ≡ v → ⊥). inr (λ e. differ (let same : u ≡ v = cc in same))) (value-or-not u v)

-- ---- a witness

HaveSorts-from : (ss : List Sort) (vs : List Value)
    → ((k : ℕ) (s : Sort) → slice_get ss k ≡ Some s → (u : Value) × (slice_get vs k ≡ Some u) × HasSort s u)
    → length vs ≤ length ss → HaveSorts ss vs
HaveSorts-from [] [] at l = tt
HaveSorts-from [] (v ∷ vs) at l = absurd (omega (arith, l))
HaveSorts-from (s ∷ ss) [] at l = absurd (let bad = (at zero s refl).1 in cc)
HaveSorts-from (s ∷ ss) (v ∷ vs) at l =
    let here = at zero s refl in (
      subst (HasSort s) (sym (same_Some v here.0 here.1)) here.2,
      HaveSorts-from ss vs (λ k r e. at (suc k) r e) (omega (arith, l)),
    )

own-fits : (env : List Value) (k : ℕ) (s : Sort) → InputsFit env (Apply (op.Input k s) End)
    → (u : Value) × (slice_get env k ≡ Some u) × HasSort s u
unfolding InputsFit
own-fits env k s fit = fit.0

no-longer : (ss : List Sort) (vs : List Value)
    → ((number : ℕ) → length vs ≡ number + 1 → (s : Sort) × (slice_get ss number ≡ Some s)) → length vs ≤ length ss
no-longer ss [] last = omega arith
no-longer ss (v ∷ vs) last =
    let at = last (length vs) (omega arith) in
    omega (arith, slice_get_within ss (length vs) at.0 at.1)

module _ (f : File) (g : Goal) (p : Pattern) (t : Term) (m : IsMiterOf f g p t) where
  pub one-sort : HaveOneSort (t ∷ [])
  one-sort number r s first second =
      same_Some r s (sym ((m.inputs number r).0 first) ∙ (m.inputs number s).0 second)

  witness-sorts : (env : List Value) → IsWitness (t ∷ []) env → HaveSorts g.args env
  witness-sorts env w =
      HaveSorts-from g.args env
      (λ k s e. let stands = (m.inputs k s).1 e in
      let fit : InputsFit env t = w.fits 0 t (omega arith) in
      own-fits env k s (InputsFit-subterm env t fit (Apply (op.Input k s) End)
      (subst (IsSubterm (Apply (op.Input k s) End)) (sym (only_one t stands.0 stands.1)) stands.2)))
      (no-longer g.args env (λ number e. let last = w.last number e in (last.0, (m.inputs number last.0).0 last.1)))

  witness-differs : (env : List Value) → IsWitness (t ∷ []) env → ¬ (pattern_results f p env ≡ goal_results g env)
  witness-differs env w =
      let truth : IsTrueAt env t = w.truths 0 t (omega arith) in
      (m.value env (witness-sorts env w)).0 truth

  rule-without_witness : HaveNoWitness (t ∷ []) → IsPlainRule f g p
  rule-without_witness none inputs sorts =
      ⊎_elim (λ same. same)
      (λ differ. absurd (none inputs (All-one (InputsFit inputs) t (m.fit inputs sorts))
      (All-one (IsTrueAt inputs) t ((m.value inputs sorts).1 differ))))
      (values-or-not (pattern_results f p inputs) (goal_results g inputs))

  model-differs : (cnf : Formula) (bits : List (ℕ × ℕ × ℕ)) → AreClausesFor (t ∷ []) cnf bits
      → (v : ℕ → Bool) → IsTrue (is_model v cnf.clauses) → ¬ IsPlainRule f g p
  model-differs cnf bits clauses v holds rule =
      let w = model-witness (t ∷ []) cnf bits clauses f.pointer (All-one (IsFormula f.pointer) t m.formula) one-sort v
      holds in
      witness-differs w.0 w.1 (rule w.0 (witness-sorts w.0 w.1))

  -- of the inputs under the numbers below a bound all agree, or one differs
  tried-below : (n : ℕ) → AgreesBelow f g p n ⊎ ((k : ℕ) × ¬ AgreesAt f g p k)
  tried-below zero = inl (λ k l. absurd (omega (arith, l)))
  tried-below (suc n) =
      let e : n + 1 ≡ suc n = omega arith in
      ⊎_elim
      (λ (below : AgreesBelow f g p n). ⊎_elim
      (λ (same : AgreesAt f g p n). inl (subst (AgreesBelow f g p) e (AgreesBelow-more f g p n below same)))
      (λ (differ : ¬ AgreesAt f g p n). inr (n, differ))
      (values-or-not (pattern_results f p (inputs_numbered g.args n)) (goal_results g (inputs_numbered g.args n))))
      (λ found. inr found) (tried-below n)

  differs-model : (cnf : Formula) (bits : List (ℕ × ℕ × ℕ)) → AreClausesFor (t ∷ []) cnf bits → TakesNoMemory g
      → ¬ IsPlainRule f g p → (v : ℕ → Bool) × IsTrue (is_model v cnf.clauses)
  differs-model cnf bits clauses plain none =
      let count : ℕ = 2 ^ sum_by width_of g.args in
      ⊎_elim
      (λ (below : AgreesBelow f g p count).
      absurd (none (rule_from_all f g p g.args count count refl refl (omega arith) below)))
      (λ (found : (k : ℕ) × ¬ AgreesAt f g p k).
      let env : List Value = inputs_numbered g.args found.0 in
      let sorts = goal_inputs g found.0 plain in
      let model = (clauses.models env (All-one (InputsFit env) t (m.fit env sorts))).0
      (All-one (IsTrueAt env) t ((m.value env sorts).1 found.1)) in
      (model.0, model.1)) (tried-below count)

-- what was decided of the formula
pub record IsDecided (t : Term) (old new : ℕ) (d : Decision) : Type 0 where
  pub witness : OnYes d (IsWitness (t ∷ []))
  pub none : OnNo d (λ r. HaveNoWitness (t ∷ []))
  pub clauses : OnClauses d (AreClausesFor (t ∷ []))
  pub new_clauses : OnLog d (λ cnf chains. AreNewClauses cnf.clauses chains)
  pub count : OnLog d (λ cnf chains. length chains + new ≡ old)
  pub spent : OnSpent d (λ cnf. new ≡ 0)

pub asked-is : (c : Claim) (p : Pattern) (t : Term) (old new : ℕ) (d : Decision) → IsMiterOf c.file c.goal p t
    → IsRule c.file c.goal p ↔ IsPlainRule c.file c.goal p → TakesNoMemory c.goal → IsDecided t old new d
    → IsAsked c p old new d
asked-is c p t old new (answer.Yes env) m rule plain h = (
  witness-sorts c.file c.goal p t m env.values h.witness,
  witness-differs c.file c.goal p t m env.values h.witness,
)
asked-is c p t old new (answer.No refutation) m rule plain h =
    rule.1 (rule-without_witness c.file c.goal p t m h.none)
asked-is c p t old new (answer.Spent blasted log) m rule plain h = (
  h.spent,
  record {
    models = (
      λ has is. model-differs c.file c.goal p t m blasted.cnf blasted.bits h.clauses has.0 has.1 (rule.0 is),
      λ differs. differs-model c.file c.goal p t m blasted.cnf blasted.bits h.clauses plain
          (λ is. differs (rule.1 is)),
    );
    new = h.new_clauses;
    count = omega (arith, h.count, h.spent);
  },
)

-- all that a call ensures of its answer
pub asked-result : (t : Term) (old new : ℕ) (Q : Decision → Type 0) (r : Result Decision AllocError)
    → IfOk r (λ d. OnYes d (IsWitness (t ∷ []))) → IfOk r (λ d. OnNo d (λ r. HaveNoWitness (t ∷ [])))
    → IfOk r (λ d. OnClauses d (AreClausesFor (t ∷ [])))
    → IfOk r (λ d. OnLog d (λ cnf chains. AreNewClauses cnf.clauses chains))
    → IfOk r (λ d. OnLog d (λ cnf chains. length chains + new ≡ old)) → IfOk r (λ d. OnSpent d (λ cnf. new ≡ 0))
    → ((d : Decision) → IsDecided t old new d → Q d) → IfOk r Q
asked-result t old new Q (Ok d) w n c k m s f =
    f d (record { witness = w; none = n; clauses = c; new_clauses = k; count = m; spent = s })
asked-result t old new Q (Err e) w n c k m s f = tt

-- ---- all inputs

-- inputs under a number, at which the pattern differs
pub found-among : (f : File) (g : Goal) (p : Pattern) (number : ℕ) (x : Example) → TakesNoMemory g
    → IsFoundAt f g p number (Some x)
    → HaveSorts g.args x.inputs × ¬ (pattern_results f p x.inputs ≡ goal_results g x.inputs)
found-among f g p number x plain found = (
  subst (HaveSorts g.args) (sym found.0) (goal_inputs g number plain),
  subst (λ (vs : List Value). ¬ (pattern_results f p vs ≡ goal_results g vs)) (sym found.0) found.1,
)

-- ---- no answer

pub spent-is : (c : Claim) (p : Pattern) (units left : ℕ) (call : Tried) (a : Confirm)
    → a ≡ confirm.Spent (call ∷ []) → left ≡ 0 → units < 2 ^ sum_by width_of c.goal.args → IsCall c p units call
    → IsAnswer c p units left a
spent-is c p units left call a e none few is =
    subst (IsAnswer c p units left) (sym e) (none, few, (call, refl, is))

-- so many bits have more inputs than there are units
pub many-bits : (units bits : ℕ) → units < 2 ^ 64 → 64 ≤ bits → units < 2 ^ bits
many-bits units bits small wide =
    let grows : 2 ^ 64 ≤ 2 ^ bits = pow_mono wide in omega (arith, grows, small)
