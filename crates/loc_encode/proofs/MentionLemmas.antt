-- Slots that are mentioned in a formula.
use Rattle.std.proofs.Common.{◌≡◌, ℕ, ◌+◌, ◌<◌, inl, inr, Bool, true, false, ◌&&◌, ◌==◌}
use Rattle.std.proofs.Common.{length, refl, sym, ap, ◌∙◌, subst, arith}
use Rattle.std.proofs.lemmas.Bool.{cases_lt}
use Rattle.bv_terms.specs.declared.op.TermId.{TermId}
use Rattle.bv_terms.specs.declared.value.Sort.{Sort}
use Rattle.bv_terms.specs.declared.value.Value.{Value}
use Rattle.bv_terms.specs.declared.value.Value.TheVariants as val
use Rattle.bv_terms.specs.Sorts.{IsSized}
use Rattle.bv_terms.specs.Subterm.{IsSubterm}
use Rattle.bv_terms.specs.Table.{Table, term_at, Extends}
use Rattle.bv_terms.specs.Term.{Term, value, same_value}
use Rattle.bv_terms.proofs.GraftLemmas.{Extends-itself, Extends-further, Extends-term}
use Rattle.bv_terms.proofs.SubtermLemmas.{IsSubterm-itself, IsSubterm-through}
use Rattle.pattern_core.specs.Claim.{Claim}
use Rattle.list_lemmas.proofs.Bools.{and-both}
use Rattle.loc_encode.specs.declared.slots.Slot.{Slot}
use Rattle.loc_encode.specs.Slots.{slot_number, IsSlot}
use Rattle.loc_encode.specs.Mentions.{Mentions, Keeps}
use Rattle.loc_encode.specs.Tests.{IsTestTerm, IsTest}
use Rattle.loc_encode.specs.Truths.{input, equality, conjunction, Denotes}
use Rattle.loc_encode.proofs.TallyLemmas.{equal_test}
use Rattle.loc_encode.proofs.TruthLemmas.{IsTruthTerm-equality, value-equality}
use Rattle.loc_encode.proofs.TestLemmas.{IsTest-kept, IsTest-and, IsTest-same, IsTest-made}

-- ---- an input is equal to itself

same-itself : (v : Value) → same_value v v ≡ true
same-itself (val.Bool true) = refl
same-itself (val.Bool false) = refl
same-itself (val.Bits w n) = and-both (w == w) (n == n) (equal_test w) (equal_test n)

itself-test : (c : Claim) (p : ℕ) (x : Slot) (s : Sort) → IsSlot c x s → IsSized s
    → IsTestTerm c p (equality (input (slot_number x) s) (input (slot_number x) s)) (λ g. true)
itself-test c p x s slot sized = record {
  truth = IsTruthTerm-equality c p x s slot sized;
  value = λ env fits.
      let v = value env (input (slot_number x) s) in
      value-equality env (input (slot_number x) s) (input (slot_number x) s) (value env (input (slot_number x) s))
      (value env (input (slot_number x) s)) refl refl
      ∙ ap (λ b. val.Bool b) (same-itself (value env (input (slot_number x) s)));
}

first-part : (t u : Term) → IsSubterm t (conjunction t u)
unfolding IsSubterm
first-part t u = inr (inl (IsSubterm-itself t))

second-part : (t u : Term) → IsSubterm u (conjunction t u)
unfolding IsSubterm
second-part t u = inr (inr (inl (IsSubterm-itself u)))

one-part : (t u : Term) → IsSubterm t (equality t u)
unfolding IsSubterm
one-part t u = inr (inl (IsSubterm-itself t))

-- ---- one slot more

pub Keeps-itself : (c : Claim) (table : Table) (at : TermId) → Keeps c table at table at
Keeps-itself c table at =
    record { extends = Extends-itself table; test = λ f h. h; kept = λ t h. h }

pub Keeps-further : (c : Claim) (a b d : Table) (x y z : TermId) → Keeps c a x b y → Keeps c b y d z → Keeps c a x d z
Keeps-further c a b d x y z h k = record {
  extends = Extends-further a b d h.extends k.extends;
  test = λ f t. k.test f (h.test f t);
  kept = λ t i. k.kept t (h.kept t i);
}

-- the terms of the steps of a mention
record IsMention (old new : Table) (all id : TermId) (t u : Term) : Type 0 where
  extends : Extends old new
  there : all.0 < length old.nodes
  term : term_at new id ≡ conjunction (term_at old all) (equality t u)

mention-term : (old a b new : Table) (all value same id : TermId) (t : Term) → all.0 < length old.nodes → Extends old a
    → Denotes a value t → Extends a b → Denotes b same (equality (term_at a value) (term_at a value)) → Extends b new
    → Denotes new id (conjunction (term_at b all) (term_at b same)) → IsMention old new all id t t
mention-term old a b new all value same id t there h one i two j three =
    let more = Extends-further old a b h i in
    let kept = Extends-term old b more all there in
    record {
      extends = Extends-further old b new more j;
      there = there;
      term = three.term ∙ ap (λ u. conjunction u (term_at b same)) kept
          ∙ ap (λ u. conjunction (term_at old all) u) (two.term ∙ (λ k. equality (one.term k) (one.term k)));
    }

pub mention-keeps : (c : Claim) (old a b new : Table) (all value same id : TermId) (x : Slot) (s : Sort)
    → IsSlot c x s → IsSized s → all.0 < length old.nodes → Extends old a
    → Denotes a value (input (slot_number x) s) → Extends a b
    → Denotes b same (equality (term_at a value) (term_at a value)) → Extends b new
    → Denotes new id (conjunction (term_at b all) (term_at b same)) → Keeps c old all new id
mention-keeps c old a b new all value same id x s slot sized there h one i two j three =
    let t = input (slot_number x) s in
    let is = mention-term old a b new all value same id (input (slot_number x) s) there h one i two j three in
    let term : term_at a value ≡ input (slot_number x) s = one.term in
    let two' : Denotes b same (equality (input (slot_number x) s) (input (slot_number x) s)) =
    subst (λ u. Denotes b same (equality u u)) term two in
    let itself : IsTest c b same (λ g. true) = IsTest-made c a b same
    (equality (input (slot_number x) s) (input (slot_number x) s)) (λ g. true) i two'
    (itself-test c a.pointer x s slot sized) in
    record {
      extends = is.extends;
      test = λ f test.
          IsTest-same c new id (λ g. f g && true) f (λ g. and-true (f g))
          (IsTest-and c b new id all same f (λ g. true) (IsTest-kept c old b all f (Extends-further old a b h i) test)
          itself j three);
      kept = λ u below. subst (IsSubterm u) (sym is.term)
          (IsSubterm-through u (term_at old all) (conjunction (term_at old all)
          (equality (input (slot_number x) s) (input (slot_number x) s))) below
          (first-part (term_at old all) (equality (input (slot_number x) s) (input (slot_number x) s))));
    }
  where
    and-true : (b : Bool) → (b && true) ≡ b
    and-true true = refl
    and-true false = refl

pub mention-mentions : (old a b new : Table) (all value same id : TermId) (x : Slot) (s : Sort)
    → all.0 < length old.nodes → Extends old a
    → Denotes a value (input (slot_number x) s) → Extends a b
    → Denotes b same (equality (term_at a value) (term_at a value)) → Extends b new
    → Denotes new id (conjunction (term_at b all) (term_at b same)) → Mentions new id x s
mention-mentions old a b new all value same id x s there h one i two j three =
    let is = mention-term old a b new all value same id (input (slot_number x) s) there h one i two j three in
    subst (IsSubterm (input (slot_number x) s)) (sym is.term)
    (IsSubterm-through (input (slot_number x) s) (equality (input (slot_number x) s) (input (slot_number x) s))
    (conjunction (term_at old all) (equality (input (slot_number x) s) (input (slot_number x) s)))
    (one-part (input (slot_number x) s) (input (slot_number x) s))
    (second-part (term_at old all) (equality (input (slot_number x) s) (input (slot_number x) s))))

-- ---- in loops

-- what is mentioned stays so
pub Mentions-kept : (c : Claim) (a b : Table) (x y : TermId) (slot : Slot) (s : Sort) → Keeps c a x b y
    → Mentions a x slot s → Mentions b y slot s
Mentions-kept c a b x y slot s keeps h = keeps.kept (input (slot_number slot) s) h

pub below-said : (P : ℕ → Type 0) (i : ℕ) → ((k : ℕ) → k < i → P k) → P i → (k : ℕ) → k < i + 1 → P k
below-said P i before here k m =
    elim (cases_lt k i) [
      | inl less ↦ before k less
      | inr past ↦ (let same : i ≡ k = omega (arith, m, past) in subst P same here)
    ]
