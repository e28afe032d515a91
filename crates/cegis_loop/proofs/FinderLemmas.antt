-- The formulas by which the next candidate of a claim is found.
use Rattle.std.proofs.Common.{◌≡◌, ◌∙◌, ◌<◌, ◌+◌, ℕ, List, [], ◌∷◌, ◌++◌, All, map, length, sym, subst, ap, arith}
use Rattle.std.proofs.lemmas.List.{map-append}
use Rattle.std.proofs.lemmas.List.Elements.{All-contains, All-map, All-push, All-weaker}
use Rattle.std.specs.Prelude.{◌↔◌, Bool, IsTrue, Result, Ok, Err, IfOk}
use Rattle.std.specs.declared.alloc.AllocError.{AllocError}
use Rattle.bv_terms.specs.declared.op.Op.TheVariants as op
use Rattle.bv_terms.specs.declared.op.TermId.{TermId}
use Rattle.bv_terms.specs.declared.value.Sort.{Sort}
use Rattle.bv_terms.specs.declared.value.Value.{Value}
use Rattle.bv_terms.specs.Subterm.{IsSubterm}
use Rattle.bv_terms.specs.Table.{Table, Extends, term_at}
use Rattle.bv_terms.specs.Term.{Term, Apply, End}
use Rattle.bv_terms.specs.WellSorted.{InputsFit}
use Rattle.bv_terms.proofs.GraftLemmas.{Extends-terms}
use Rattle.bit_blast.specs.Clauses.{IsTrueAt, AreClausesFor}
use Rattle.bv_query.specs.Decision.{OnYes, OnNo, OnSpent, OnClauses, OnLog, IsWitness, HaveNoWitness}
use Rattle.bv_query.specs.declared.decision.Decision.{Decision}
use Rattle.bv_query.specs.declared.decision.Decision.TheVariants as answer
use Rattle.bv_query.specs.Inputs.{HaveOneSort}
use Rattle.bv_query.specs.Session.{formulas_in, IsRightSession}
use Rattle.cnf_core.specs.Clause.{is_model}
use Rattle.cnf_core.specs.Formula.{Formula}
use Rattle.cnf_core.specs.Resolution.{AreNewClauses}
use Rattle.isel_spec.specs.declared.spec.Spec.{Spec}
use Rattle.list_lemmas.proofs.Lookups.{All-front, all-right, All-one, Contains-first}
use Rattle.list_lemmas.proofs.Members.{In-from_Contains, Contains-from_In, In_of_map}
use Rattle.loc_encode.specs.declared.encoded.Encoded.{Encoded}
use Rattle.loc_encode.specs.Encoded.{IsSought, IsRight}
use Rattle.loc_encode.specs.Given.{IsGiven, IsRightFor}
use Rattle.loc_encode.specs.Parts as part
use Rattle.loc_encode.specs.Standing.{Fits, StandsFor}
use Rattle.loc_encode.proofs.AssignLemmas.{fits-term}
use Rattle.loc_encode.proofs.ConditionLemmas.{truth-kept}
use Rattle.pattern_core.specs.Claim.{Claim, IsClaim, IsPatternOf}
use Rattle.pattern_core.specs.declared.pattern.Pattern.{Pattern}
use Rattle.pattern_core.specs.Walk.{IsCanonical}
use Rattle.cegis_loop.specs.declared.finder.Finder.{Finder}
use Rattle.cegis_loop.specs.Finder.{IsFinder, IsDecidedFor}
use Rattle.cegis_loop.proofs.ModelLemmas.{model-witness}

-- inputs in the terms of nodes of which any two agree on sorts have one sort each
pub formulas-one_sort : (table : Table) (fs : List TermId) (P : TermId → Type 0) → All P fs
    → ((a b : TermId) → P a → P b → (k : ℕ) (s t : Sort) → IsSubterm (Apply (op.Input k s) End) (term_at table a)
    → IsSubterm (Apply (op.Input k t) End) (term_at table b) → s ≡ t)
    → HaveOneSort (map (term_at table) fs)
formulas-one_sort table fs P all law = λ number r s first second.
    let a = In_of_map (term_at table) fs first.0 (In-from_Contains (map (term_at table) fs) first.0 first.1) in
    let b = In_of_map (term_at table) fs second.0 (In-from_Contains (map (term_at table) fs) second.0 second.1) in
    law a.0 b.0 (All-contains P fs a.0 all (Contains-from_In fs a.0 a.1))
    (All-contains P fs b.0 all (Contains-from_In fs b.0 b.1)) number r s
    (subst (IsSubterm (Apply (op.Input number r) End)) (sym a.2) first.2)
    (subst (IsSubterm (Apply (op.Input number s) End)) (sym b.2) second.2)

-- the claim of a goal with operations, by a formula's goal and operations
claim-of : (s : Spec) (place : ℕ) (ops : List ℕ) (goal : ℕ) (multi : List ℕ) (c : Claim) → goal ≡ place → multi ≡ ops
    → IsClaim s place ops c → IsClaim s goal multi c
claim-of s place ops goal multi c e f claim =
    subst (λ g. IsClaim s g multi c) (sym e) (subst (λ (os : List ℕ). IsClaim s place os c) (sym f) claim)

pub claim-from : (s : Spec) (place : ℕ) (ops : List ℕ) (goal : ℕ) (multi : List ℕ) (c : Claim) → goal ≡ place
    → multi ≡ ops → IsClaim s goal multi c → IsClaim s place ops c
claim-from s place ops goal multi c e f = claim-of s goal multi place ops c (sym e) (sym f)

pub given-for : (s : Spec) (place : ℕ) (ops : List ℕ) (goal : ℕ) (multi : List ℕ) → goal ≡ place → multi ≡ ops
    → IsGiven s place ops → IsGiven s goal multi
given-for s place ops goal multi e f given =
    subst (λ g. IsGiven s g multi) (sym e) (subst (λ (os : List ℕ). IsGiven s place os) (sym f) given)

-- the first formula is over slots
pub formula-over : (s : Spec) (place : ℕ) (ops : List ℕ) (e : Encoded) (table : Table) → e.goal ≡ place → e.multi ≡ ops
    → IsRightFor s e table → (c : Claim) → IsClaim s place ops c → part.IsTruthOver c table e.formula
formula-over s place ops e table goal multi right c claim =
    (right c (claim-of s place ops e.goal e.multi c goal multi claim)).over

-- what was asserted is over slots still, where the table has more nodes
pub before-kept : (s : Spec) (place : ℕ) (ops : List ℕ) (n : Finder) (new : Table) (goal : ℕ) (multi : List ℕ)
    → IsFinder s place ops n → Extends n.terms new → goal ≡ place → multi ≡ ops → (c : Claim)
    → IsClaim s goal multi c → All (λ (at : TermId). part.IsTruthOver c new at) n.session.blast.formulas
before-kept s place ops n new goal multi is grown e f c claim =
    let Q = λ (a : TermId). part.IsTruthOver c n.terms a in
    let P = λ (a : TermId). part.IsTruthOver c new a in
    All-weaker Q P (λ a. truth-kept c n.terms new a grown) n.session.blast.formulas
    (is.over c (claim-from s place ops goal multi c e f claim))

-- ---- one formula more

-- what holds of the formulas and of one more
terms-push : (P : Term → Type 0) (table : Table) (fs : List TermId) (at : TermId)
    → All P (map (term_at table) (fs ++ at ∷ [])) ↔ (All P (map (term_at table) fs) × P (term_at table at))
terms-push P table fs at =
    let f = term_at table in
    let e : map f (fs ++ at ∷ []) ≡ map f fs ++ f at ∷ [] = map-append f fs (at ∷ []) in (
      λ all. (
        All-front P (map f fs) (f at ∷ []) (subst (All P) e all),
        All-contains P (f at ∷ []) (f at) (all-right P (map f fs) (f at ∷ []) (subst (All P) e all))
            (Contains-first (f at) []),
      ),
      λ both. subst (All P) (sym e) (All-push P (map f fs) (f at) both.0 both.1),
    )

-- the same over a table with more nodes, where the formulas stand in the old one
terms-more : (P : Term → Type 0) (old new : Table) (fs : List TermId) (at : TermId) → Extends old new
    → All (λ (a : TermId). a.0 < length old.nodes) fs
    → All P (map (term_at new) (fs ++ at ∷ [])) ↔ (All P (map (term_at old) fs) × P (term_at new at))
terms-more P old new fs at grown within =
    let kept : map (term_at new) fs ≡ map (term_at old) fs = Extends-terms old new grown fs within in
    subst (λ (ts : List Term). All P (map (term_at new) (fs ++ at ∷ [])) ↔ (All P ts × P (term_at new at))) kept
    (terms-push P new fs at)

-- the first formula
pub finder-start : (s : Spec) (place : ℕ) (ops : List ℕ) (n : Finder) → n.encoded.goal ≡ place → n.encoded.multi ≡ ops
    → n.terms.pointer ≡ s.pointer → IsRightFor s n.encoded n.terms → IsRightSession n.session n.terms
    → n.session.blast.formulas ≡ n.encoded.formula ∷ [] → IsFinder s place ops n
finder-start s place ops n goal multi pointer right session formulas =
    let f = n.encoded.formula in
    let one : (P : Term → Type 0) → All P (formulas_in n.terms n.session) ↔ P (term_at n.terms f) =
    λ P.
    let e : formulas_in n.terms n.session ≡ term_at n.terms f ∷ [] = ap (map (term_at n.terms)) formulas in (
      λ all. All-contains P (term_at n.terms f ∷ []) (term_at n.terms f) (subst (All P) e all)
          (Contains-first (term_at n.terms f) []),
      λ holds. subst (All P) (sym e) (All-one P (term_at n.terms f) holds),
    ) in
    record {
      goal_is = goal;
      ops_are = multi;
      pointer = pointer;
      right = right;
      session = session;
      over = λ c claim.
          let P = λ (at : TermId). part.IsTruthOver c n.terms at in
          subst (All P) (sym formulas)
          (All-one P f (formula-over s place ops n.encoded n.terms goal multi right c claim));
      fits = λ c claim env all.
          let own = claim-of s place ops n.encoded.goal n.encoded.multi c goal multi claim in
          (right c own).fits env ((one (InputsFit env)).0 all);
      truth = λ env. one (IsTrueAt env);
    }

-- one part more
finder-more : (s : Spec) (place : ℕ) (ops : List ℕ) (n m : Finder) (at : TermId) → IsFinder s place ops n
    → Extends n.terms m.terms → m.encoded.goal ≡ n.encoded.goal → m.encoded.multi ≡ n.encoded.multi
    → IsRightFor s m.encoded m.terms → IsRightSession m.session m.terms
    → m.session.blast.formulas ≡ n.session.blast.formulas ++ at ∷ []
    → ((c : Claim) → IsClaim s place ops c → part.IsTruthOver c m.terms at)
    → ((env : List Value) → part.IsTrueAt m.terms m.encoded.formula env
    ↔ (part.IsTrueAt n.terms n.encoded.formula env × part.IsTrueAt m.terms at env))
    → IsFinder s place ops m
finder-more s place ops n m at is grown goal multi right session formulas over both =
    let fs = n.session.blast.formulas in
    let all : (P : Term → Type 0) → All P (formulas_in m.terms m.session)
    ↔ (All P (formulas_in n.terms n.session) × P (term_at m.terms at)) =
    λ P. subst
    (λ (gs : List TermId). All P (map (term_at m.terms) gs)
    ↔ (All P (formulas_in n.terms n.session) × P (term_at m.terms at)))
    (sym formulas) (terms-more P n.terms m.terms fs at grown is.session.blast.formulas) in
    record {
      goal_is = goal ∙ is.goal_is;
      ops_are = multi ∙ is.ops_are;
      pointer = grown.pointer ∙ is.pointer;
      right = right;
      session = session;
      over = λ c claim.
          let Q = λ (a : TermId). part.IsTruthOver c n.terms a in
          let P = λ (a : TermId). part.IsTruthOver c m.terms a in
          subst (All P) (sym formulas) (All-push P fs at
          (All-weaker Q P (λ a. truth-kept c n.terms m.terms a grown) fs (is.over c claim)) (over c claim));
      fits = λ c claim env h. is.fits c claim env ((all (InputsFit env)).0 h).0;
      truth = λ env. (
        λ h. let parts = (all (IsTrueAt env)).0 h in (both env).1 ((is.truth env).0 parts.0, parts.1),
        λ h. let parts = (both env).0 h in (all (IsTrueAt env)).1 ((is.truth env).1 parts.0, parts.1),
      );
    }

-- all that is known of the result with one part more
pub more-result : (s : Spec) (place : ℕ) (ops : List ℕ) (n : Finder) (terms : Table) (encoded : Encoded) (at : TermId)
    → IsFinder s place ops n → Extends n.terms terms → encoded.goal ≡ n.encoded.goal
    → encoded.multi ≡ n.encoded.multi → IsRightFor s encoded terms
    → ((c : Claim) → IsClaim s place ops c → part.IsTruthOver c terms at)
    → ((env : List Value) → part.IsTrueAt terms encoded.formula env
    ↔ (part.IsTrueAt n.terms n.encoded.formula env × part.IsTrueAt terms at env))
    → (r : Result Finder AllocError) → IfOk r (λ m. m.terms ≡ terms) → IfOk r (λ m. m.encoded ≡ encoded)
    → IfOk r (λ m. m.session.blast.formulas ≡ n.session.blast.formulas ++ at ∷ [])
    → IfOk r (λ m. IsRightSession m.session terms) → IfOk r (IsFinder s place ops)
more-result s place ops n terms encoded at is grown goal multi right over both (Ok m) table same formulas session =
    let new : Finder = record { terms = terms; encoded = encoded; session = m.session } in
    let equal : new ≡ m = λ i. record { terms = sym table i; encoded = sym same i; session = m.session } in
    subst (IsFinder s place ops) equal
    (finder-more s place ops n new at is grown goal multi right session formulas over both)
more-result s place ops n terms encoded at is grown goal multi right over both (Err e) table same formulas session = tt

-- ---- what the solver's answer says

module _ (s : Spec) (n : Finder) (is : IsFinder s n.encoded.goal n.encoded.multi n) (c : Claim)
    (claim : IsClaim s n.encoded.goal n.encoded.multi c) where
  abbrev asserted : List Term
  asserted = formulas_in n.terms n.session

  right : IsRight c n.encoded n.terms
  right = is.right c claim

  all-fit : (env : List Value) → Fits c env → All (InputsFit env) asserted
  all-fit env fits =
      let fs = n.session.blast.formulas in
      let Q = λ (at : TermId). part.IsTruthOver c n.terms at in
      let P = λ (at : TermId). InputsFit env (term_at n.terms at) in
      All-map (InputsFit env) (term_at n.terms) fs
      (All-weaker Q P (λ at over. fits-term c env n.terms at over fits) fs (is.over c claim))

  -- values that make all formulas true make the claim's true
  witness-holds : (env : List Value) → IsWitness asserted env
      → InputsFit env (term_at n.terms n.encoded.formula) × part.IsTrueAt n.terms n.encoded.formula env
  witness-holds env w = (
    fits-term c env n.terms n.encoded.formula right.over (is.fits c claim env w.fits),
    (is.truth env).0 w.truths,
  )

  witness-sought : (env : List Value) → IsWitness asserted env → (p : Pattern) × IsSought c n.encoded p
  witness-sought env w =
      let h = witness-holds env w in
      let found = right.sound env h.0 h.1 in
      (found.0, found.1)

  model-sought : (cnf : Formula) (bits : List (ℕ × ℕ × ℕ)) → AreClausesFor asserted cnf bits
      → (v : ℕ → Bool) → IsTrue (is_model v cnf.clauses) → (p : Pattern) × IsSought c n.encoded p
  model-sought cnf bits clauses v holds =
      let w = model-witness asserted cnf bits clauses n.terms.pointer is.session.formulas is.session.one_sort v holds in
      witness-sought w.0 w.1

  -- values that stand for a canonical pattern that is sought make all formulas true
  sought-truths : (env : List Value) (p : Pattern) → IsSought c n.encoded p → IsCanonical p → StandsFor c env p
      → All (InputsFit env) asserted × All (IsTrueAt env) asserted
  sought-truths env p sought canonical stands = (
    all-fit env stands.fits,
    (is.truth env).1 (right.complete env p sought canonical stands),
  )

  sought-model : (cnf : Formula) (bits : List (ℕ × ℕ × ℕ)) → AreClausesFor asserted cnf bits
      → (env : List Value) (p : Pattern) → IsSought c n.encoded p → IsCanonical p → StandsFor c env p
      → (v : ℕ → Bool) × IsTrue (is_model v cnf.clauses)
  sought-model cnf bits clauses env p sought canonical stands =
      let h = sought-truths env p sought canonical stands in
      let model = (clauses.models env h.0).0 h.1 in
      (model.0, model.1)

-- what was decided of formulas
pub record IsAnswered (ts : List Term) (old new : ℕ) (d : Decision) : Type 0 where
  pub witness : OnYes d (IsWitness ts)
  pub none : OnNo d (λ r. HaveNoWitness ts)
  pub clauses : OnClauses d (AreClausesFor ts)
  pub new_clauses : OnLog d (λ cnf chains. AreNewClauses cnf.clauses chains)
  pub count : OnLog d (λ cnf chains. length chains + new ≡ old)
  pub spent : OnSpent d (λ cnf. new ≡ 0)

pub find-decided : (s : Spec) (n : Finder) (units left : ℕ) (d : Decision)
    → IsFinder s n.encoded.goal n.encoded.multi n
    → (c : Claim) × IsClaim s n.encoded.goal n.encoded.multi c
    → ((c : Claim) (p : Pattern) → IsClaim s n.encoded.goal n.encoded.multi c → IsPatternOf c p
    → (env : List Value) × StandsFor c env p)
    → IsAnswered (formulas_in n.terms n.session) units left d → IsDecidedFor s n.terms n.encoded units d
find-decided s n units left (answer.Yes env) is one values h = witness-holds s n is one.0 one.1 env.values h.witness
find-decided s n units left (answer.No refutation) is one values h = λ c claim p sought canonical.
    let v = values c p claim sought.pattern in
    let truths = sought-truths s n is c claim v.0 p sought canonical v.1 in
    h.none v.0 truths.0 truths.1
find-decided s n units left (answer.Spent blasted log) is one values h = λ c claim. record {
  sound = λ model. model-sought s n is c claim blasted.cnf blasted.bits h.clauses model.0 model.1;
  complete = λ p sought canonical.
      let v = values c p claim sought.pattern in
      sought-model s n is c claim blasted.cnf blasted.bits h.clauses v.0 p sought canonical v.1;
  new = h.new_clauses;
  count = omega (arith, h.count, h.spent);
}
