-- Formulas that get one term more.
use Rattle.std.proofs.Common.{◌≡◌, ◌∙◌, ◌<◌, ◌↔◌, ⊎_elim, ℕ, List, [], ◌∷◌, ◌++◌, refl, sym, ap, subst, length, arith}
use Rattle.std.proofs.Common.{All, Contains, reverse}
use Rattle.std.proofs.lemmas.List.{append_assoc, reverse-append, reverse-reverse}
use Rattle.std.proofs.lemmas.List.Elements.{All-nil, All-cons, All-push, Contains-append_left, Contains-append_right}
use Rattle.std.proofs.lemmas.List.Elements.{Contains-append_cases}
use Rattle.bv_terms.specs.declared.op.Op.TheVariants as op
use Rattle.bv_terms.specs.declared.op.TermId.{TermId}
use Rattle.bv_terms.specs.declared.value.Sort.TheVariants as sort
use Rattle.bv_terms.specs.declared.value.Value.{Value}
use Rattle.bv_terms.specs.Table.{Table, Extends, term_at}
use Rattle.bv_terms.specs.Term.{Term, Apply, End, Then, value}
use Rattle.bv_terms.specs.WellSorted.{InputsFit}
use Rattle.bv_terms.proofs.GraftLemmas.{Extends-term}
use Rattle.bv_terms.proofs.SubtermLemmas.{InputsFit-subterm, IsSubterm-itself}
use Rattle.isel_spec.specs.declared.spec.Spec.{Spec}
use Rattle.pattern_core.specs.Claim.{Claim, IsClaim, Agrees}
use Rattle.pattern_core.specs.declared.pattern.Example.{Example}
use Rattle.pattern_core.specs.declared.pattern.Pattern.{Pattern}
use Rattle.list_lemmas.proofs.Lookups.{All-front, all-right, All-slice_get, only_one, Contains-first}
use Rattle.loc_encode.specs.declared.encoded.Encoded.{Encoded}
use Rattle.loc_encode.specs.Parts.{IsTruthOver, IsTrueAt, IsOver, IsShape, IsAgreement, IsDifference}
use Rattle.loc_encode.specs.Standing.{Fits, StandsFor}
use Rattle.loc_encode.specs.Encoded.{IsSought, IsRight}
use Rattle.loc_encode.specs.Condition.{IsMade}
use Rattle.loc_encode.specs.Given.{IsExampleFor, IsPatternFor, IsRightFor, Keeps, IsExtending, IsBlocking}
use Rattle.loc_encode.proofs.ClaimLemmas.{has_claim}
use Rattle.loc_encode.proofs.TermFacts.{IsTrue, and-parts, and-true, first-below, input-fits}
use Rattle.loc_encode.proofs.ConditionLemmas.{made-sort, over-two, truth-kept}

-- ---- over a table with more nodes

pub true-kept : (old new : Table) (at : TermId) → Extends old new → at.0 < length old.nodes → (env : List Value)
    → IsTrueAt new at env ↔ IsTrueAt old at env
true-kept old new at grown there env =
    let term = Extends-term old new grown at there in
    (λ e. sym (ap (value env) term) ∙ e, λ e. ap (value env) term ∙ e)

pub right-kept : (c : Claim) (e : Encoded) (old new : Table) → Extends old new → IsRight c e old → IsRight c e new
right-kept c e old new grown is =
    let there = is.over.there in
    let term : term_at new e.formula ≡ term_at old e.formula = Extends-term old new grown e.formula there in
    record {
      over = truth-kept c old new e.formula grown is.over;
      fits = λ env fit. is.fits env (subst (InputsFit env) term fit);
      sound = λ env fit holds.
          is.sound env (subst (InputsFit env) term fit) ((true-kept old new e.formula grown there env).0 holds);
      complete = λ env p sought canonical stands.
          (true-kept old new e.formula grown there env).1 (is.complete env p sought canonical stands);
    }

pub agreement-kept : (c : Claim) (inputs : List Value) (old new : Table) (at : TermId) → Extends old new
    → IsAgreement c inputs old at → IsAgreement c inputs new at
agreement-kept c inputs old new at grown is = record {
  over = truth-kept c old new at grown is.over;
  agrees = λ env p pattern stands.
      let same = true-kept old new at grown is.over.there env in
      let holds = is.agrees env p pattern stands in
      (λ e. holds.0 (same.0 e), λ h. same.1 (holds.1 h));
}

pub difference-kept : (c : Claim) (p : Pattern) (old new : Table) (at : TermId) → Extends old new
    → IsDifference c p old at → IsDifference c p new at
difference-kept c p old new at grown is = record {
  over = truth-kept c old new at grown is.over;
  differs = λ env q pattern stands.
      let same = true-kept old new at grown is.over.there env in
      let holds = is.differs env q pattern stands in
      (λ e. holds.0 (same.0 e), λ h. same.1 (holds.1 h));
}

-- ---- the shape alone

none-blocked : (p : Pattern) → Contains [] p → ⊥
none-blocked p h = absurd (omega (arith, h.1))

pub right-first : (c : Claim) (e : Encoded) (table : Table) → e.examples ≡ [] → e.blocked ≡ []
    → IsShape c table e.formula → IsRight c e table
right-first c e table no_examples none is = record {
  over = is.over;
  fits = fits;
  sound = λ env fit holds.
      let found = is.sound env (fits env fit) holds in (
        found.0,
        record {
          pattern = found.1;
          agrees =
              subst (All (λ (x : Example). Agrees c found.0 x.inputs)) (sym no_examples)
              (All-nil (λ (x : Example). Agrees c found.0 x.inputs));
          unblocked = λ h. none-blocked found.0 (subst (λ (ps : List Pattern). Contains ps found.0) none h);
        },
        found.2,
      );
  complete = λ env p sought canonical stands. is.complete env p sought.pattern canonical stands;
}
  where
    fits : (env : List Value) → InputsFit env (term_at table e.formula) → Fits c env
    fits env fit x s slot = input-fits env _ s (term_at table e.formula) fit (is.all x s slot)

-- ---- one term more

pub true-and : (mid new : Table) (a b f : TermId) → IsMade mid op.And (a ∷ b ∷ []) new f → (env : List Value)
    → IsTrueAt new f env ↔ (IsTrueAt mid a env × IsTrueAt mid b env)
true-and mid new a b f made env = (
  λ e. and-parts env (term_at mid a) (term_at mid b) (subst (IsTrue env) made.term e),
  λ h. subst (IsTrue env) (sym made.term) (and-true env (term_at mid a) (term_at mid b) h.0 h.1),
)

-- a formula that besides is of a term, which what is sought then meets
pub right-and : (c : Claim) (e more : Encoded) (mid new : Table) (b : TermId) → IsRight c e mid → IsTruthOver c mid b
    → IsMade mid op.And (e.formula ∷ b ∷ []) new more.formula
    → ((env : List Value) (p : Pattern) → IsSought c e p → StandsFor c env p → IsTrueAt mid b env → IsSought c more p)
    → ((p : Pattern) → IsSought c more p → IsSought c e p)
    → ((env : List Value) (p : Pattern) → IsSought c more p → StandsFor c env p → IsTrueAt mid b env)
    → IsRight c more new
right-and c e more mid new b is over made to from holds = record {
  over = record {
    there = made.there;
    truth = made-sort mid op.And (e.formula ∷ b ∷ []) new more.formula sort.Bool (λ ss. refl) made;
    over =
        subst (IsOver c) (sym made.term)
        (over-two c op.And (term_at mid e.formula) (term_at mid b) is.over.over over.over);
  };
  fits = λ env fit. is.fits env (first env fit);
  sound = λ env fit true.
      let parts = (true-and mid new e.formula b more.formula made env).0 true in
      let found = is.sound env (first env fit) parts.0 in
      (found.0, to env found.0 found.1 found.2 parts.1, found.2);
  complete = λ env p sought canonical stands.
      (true-and mid new e.formula b more.formula made env).1 (
        is.complete env p (from p sought) canonical stands,
        holds env p sought stands,
      );
}
  where
    first : (env : List Value) → InputsFit env (term_at new more.formula) → InputsFit env (term_at mid e.formula)
    first env fit =
        let t : Term = term_at mid e.formula in
        let u : Term = term_at mid b in
        InputsFit-subterm env (Apply op.And (Then t (Then u End))) (subst (InputsFit env) made.term fit) t
        (first-below op.And t (Then u End) t (IsSubterm-itself t))

-- one example more
pub right-example : (c : Claim) (e more : Encoded) (x : Example) (mid new : Table) (b : TermId) → IsRight c e mid
    → IsAgreement c x.inputs mid b → IsMade mid op.And (e.formula ∷ b ∷ []) new more.formula
    → more.examples ≡ e.examples ++ x ∷ [] → more.blocked ≡ e.blocked → IsRight c more new
right-example c e more x mid new b is agreement made examples blocked =
    right-and c e more mid new b is agreement.over made to from holds
  where
    to : (env : List Value) (p : Pattern) → IsSought c e p → StandsFor c env p → IsTrueAt mid b env → IsSought c more p
    to env p sought stands true = record {
      pattern = sought.pattern;
      agrees =
          subst (All (λ (y : Example). Agrees c p y.inputs)) (sym examples)
          (All-push (λ (y : Example). Agrees c p y.inputs) e.examples x sought.agrees
          ((agreement.agrees env p sought.pattern stands).0 true));
      unblocked = λ h. sought.unblocked (subst (λ (ps : List Pattern). Contains ps p) blocked h);
    }

    each : (p : Pattern) → IsSought c more p → All (λ (y : Example). Agrees c p y.inputs) (e.examples ++ x ∷ [])
    each p sought = subst (All (λ (y : Example). Agrees c p y.inputs)) examples sought.agrees

    from : (p : Pattern) → IsSought c more p → IsSought c e p
    from p sought = record {
      pattern = sought.pattern;
      agrees = All-front (λ (y : Example). Agrees c p y.inputs) e.examples (x ∷ []) (each p sought);
      unblocked = λ h. sought.unblocked (subst (λ (ps : List Pattern). Contains ps p) (sym blocked) h);
    }

    holds : (env : List Value) (p : Pattern) → IsSought c more p → StandsFor c env p → IsTrueAt mid b env
    holds env p sought stands =
        (agreement.agrees env p sought.pattern stands).1
        (All-slice_get (λ (y : Example). Agrees c p y.inputs) (x ∷ []) 0 x
        (all-right (λ (y : Example). Agrees c p y.inputs) e.examples (x ∷ []) (each p sought)) refl)

-- one blocked pattern more
pub right-blocked : (c : Claim) (e more : Encoded) (q : Pattern) (mid new : Table) (b : TermId) → IsRight c e mid
    → IsDifference c q mid b → IsMade mid op.And (e.formula ∷ b ∷ []) new more.formula
    → more.examples ≡ e.examples → more.blocked ≡ e.blocked ++ q ∷ [] → IsRight c more new
right-blocked c e more q mid new b is difference made examples blocked =
    right-and c e more mid new b is difference.over made to from holds
  where
    to : (env : List Value) (p : Pattern) → IsSought c e p → StandsFor c env p → IsTrueAt mid b env → IsSought c more p
    to env p sought stands true = record {
      pattern = sought.pattern;
      agrees = subst (All (λ (y : Example). Agrees c p y.inputs)) (sym examples) sought.agrees;
      unblocked = λ h.
          ⊎_elim sought.unblocked
          (λ last. (difference.differs env p sought.pattern stands).0 true (sym (only_one q p last)))
          (Contains-append_cases e.blocked (q ∷ []) p (subst (λ (ps : List Pattern). Contains ps p) blocked h));
    }

    from : (p : Pattern) → IsSought c more p → IsSought c e p
    from p sought = record {
      pattern = sought.pattern;
      agrees = subst (All (λ (y : Example). Agrees c p y.inputs)) examples sought.agrees;
      unblocked = λ h.
          sought.unblocked
          (subst (λ (ps : List Pattern). Contains ps p) (sym blocked) (Contains-append_left e.blocked (q ∷ []) p h));
    }

    holds : (env : List Value) (p : Pattern) → IsSought c more p → StandsFor c env p → IsTrueAt mid b env
    holds env p sought stands =
        (difference.differs env p sought.pattern stands).1
        (λ same. sought.unblocked
        (subst (λ (ps : List Pattern). Contains ps p) (sym blocked)
        (Contains-append_right e.blocked (q ∷ []) p
        (subst (Contains (q ∷ [])) (sym same) (Contains-first q [])))))

-- ---- what the calls are given and give

-- a formula and a term that is made after it stand in the table
pub both-there : (s : Spec) (place : ℕ) (ops : List ℕ) → place < length s.goals → (old mid : Table) (f t : TermId)
    → Extends old mid → ((c : Claim) → IsClaim s place ops c → IsTruthOver c old f)
    → ((c : Claim) → IsClaim s place ops c → IsTruthOver c mid t)
    → All (λ (a : TermId). a.0 < length mid.nodes) (f ∷ t ∷ [])
both-there s place ops within old mid f t grown first second =
    let found = has_claim s place ops within in
    let P : TermId → Type 0 = λ a. a.0 < length mid.nodes in
    let over = truth-kept found.0 old mid f grown (first found.0 found.1) in
    let term = second found.0 found.1 in
    All-cons P f (t ∷ []) over.there (All-cons P t [] term.there (All-nil P))

-- where both are true
pub true-both : (s : Spec) (place : ℕ) (ops : List ℕ) → place < length s.goals → (old mid new : Table) (f t n : TermId)
    → Extends old mid → Extends mid new → ((c : Claim) → IsClaim s place ops c → IsTruthOver c old f)
    → ((c : Claim) → IsClaim s place ops c → IsTruthOver c mid t) → IsMade mid op.And (f ∷ t ∷ []) new n
    → (env : List Value) → IsTrueAt new n env ↔ (IsTrueAt old f env × IsTrueAt new t env)
true-both s place ops within old mid new f t n first second over term made env =
    let found = has_claim s place ops within in
    let both = true-and mid new f t n made env in
    let before = over found.0 found.1 in
    let after = term found.0 found.1 in
    let a = true-kept old mid f first before.there env in
    let b = true-kept mid new t second after.there env in
    (λ e. let h = both.0 e in (a.0 h.0, b.1 h.1), λ h. both.1 (a.1 h.0, b.0 h.1))

-- ---- examples and blocked patterns one after the other

next-one : {A : Type 0} (before rest all : List A) (x : A) → before ++ reverse (rest ++ x ∷ []) ≡ all
    → (before ++ x ∷ []) ++ reverse rest ≡ all
next-one before rest all x e =
    append_assoc before (x ∷ []) (reverse rest)
    ∙ ap (λ xs. before ++ xs) (sym (reverse-append rest (x ∷ []))) ∙ e

All-reversed : {A : Type 0} (P : A → Type 0) (xs : List A) → All P xs → All P (reverse xs)
All-reversed P [] h = All-nil P
All-reversed P (x ∷ xs) h =
    subst (All P) (sym (reverse-append (x ∷ []) xs))
    (All-push P (reverse xs) x (All-reversed P xs (all-right P (x ∷ []) xs h)) (All-slice_get P (x ∷ xs) 0 x h refl))

pub last-one : {A : Type 0} (P : A → Type 0) (rest : List A) (x : A) → All P (rest ++ x ∷ []) → P x
last-one P rest x h = All-slice_get P (x ∷ []) 0 x (all-right P rest (x ∷ []) h) refl

pub extending-first : (s : Spec) (first : Encoded) (examples : List Example) (table : Table) → IsRightFor s first table
    → All (IsExampleFor s first.goal first.multi) examples
    → IsExtending s first examples (reverse examples) first table
extending-first s first examples table right fit = record {
  right = right;
  keeps = (
    first.examples,
    ap (λ xs. first.examples ++ xs) (reverse-reverse examples),
    record { goal_is = refl; ops_are = refl; inputs_are = refl; examples_are = refl; blocked_are = refl },
  );
  fit = All-reversed (IsExampleFor s first.goal first.multi) examples fit;
}

pub extending-more : (s : Spec) (first : Encoded) (examples rest : List Example) (x : Example) (now more : Encoded)
    (old new : Table) → IsExtending s first examples (rest ++ x ∷ []) now old → IsRightFor s more new
    → Keeps now.goal now.multi now.inputs (now.examples ++ x ∷ []) now.blocked more
    → IsExtending s first examples rest more new
extending-more s first examples rest x now more old new is right kept =
    let before : List Example = is.keeps.0 in
    let was : Keeps first.goal first.multi first.inputs before first.blocked now = is.keeps.2 in
    record {
      right = right;
      keeps = (
        before ++ x ∷ [],
        next-one before rest (first.examples ++ examples) x is.keeps.1,
        record {
          goal_is = kept.goal_is ∙ was.goal_is;
          ops_are = kept.ops_are ∙ was.ops_are;
          inputs_are = kept.inputs_are ∙ was.inputs_are;
          examples_are = kept.examples_are ∙ ap (λ xs. xs ++ x ∷ []) was.examples_are;
          blocked_are = kept.blocked_are ∙ was.blocked_are;
        },
      );
      fit = All-front (IsExampleFor s first.goal first.multi) rest (x ∷ []) is.fit;
    }

pub blocking-first : (s : Spec) (first : Encoded) (patterns : List Pattern) (table : Table) → IsRightFor s first table
    → All (IsPatternFor s first.goal first.multi) patterns
    → IsBlocking s first patterns (reverse patterns) first table
blocking-first s first patterns table right fit = record {
  right = right;
  keeps = (
    first.blocked,
    ap (λ xs. first.blocked ++ xs) (reverse-reverse patterns),
    record { goal_is = refl; ops_are = refl; inputs_are = refl; examples_are = refl; blocked_are = refl },
  );
  fit = All-reversed (IsPatternFor s first.goal first.multi) patterns fit;
}

pub blocking-more : (s : Spec) (first : Encoded) (patterns rest : List Pattern) (x : Pattern) (now more : Encoded)
    (old new : Table) → IsBlocking s first patterns (rest ++ x ∷ []) now old → IsRightFor s more new
    → Keeps now.goal now.multi now.inputs now.examples (now.blocked ++ x ∷ []) more
    → IsBlocking s first patterns rest more new
blocking-more s first patterns rest x now more old new is right kept =
    let before : List Pattern = is.keeps.0 in
    let was : Keeps first.goal first.multi first.inputs first.examples before now = is.keeps.2 in
    record {
      right = right;
      keeps = (
        before ++ x ∷ [],
        next-one before rest (first.blocked ++ patterns) x is.keeps.1,
        record {
          goal_is = kept.goal_is ∙ was.goal_is;
          ops_are = kept.ops_are ∙ was.ops_are;
          inputs_are = kept.inputs_are ∙ was.inputs_are;
          examples_are = kept.examples_are ∙ was.examples_are;
          blocked_are = kept.blocked_are ∙ ap (λ xs. xs ++ x ∷ []) was.blocked_are;
        },
      );
      fit = All-front (IsPatternFor s first.goal first.multi) rest (x ∷ []) is.fit;
    }

-- what holds for the goal and the operations of the first formula holds for those of the formula so far
pub for-now : (P : ℕ → List ℕ → Type 0) (goal inputs : ℕ) (ops : List ℕ) (examples : List Example)
    (blocked : List Pattern)
    (now : Encoded) → Keeps goal ops inputs examples blocked now → P goal ops → P now.goal now.multi
for-now P goal inputs ops examples blocked now kept h =
    subst (λ g. P g now.multi) (sym kept.goal_is) (subst (P goal) (sym kept.ops_are) h)
