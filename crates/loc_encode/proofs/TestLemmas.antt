-- Tests of choices, put together.
use Rattle.std.proofs.Common.{◌≡◌, ℕ, Bool, true, false, not, ◌&&◌, ◌||◌, cond, Some}
use Rattle.std.proofs.Common.{refl, sym, ap, ◌∙◌, arith}
use Rattle.bv_terms.specs.declared.op.TermId.{TermId}
use Rattle.bv_terms.specs.declared.value.Sort.TheVariants as sort
use Rattle.bv_terms.specs.declared.value.Value.{Value}
use Rattle.bv_terms.specs.declared.value.Value.TheVariants as val
use Rattle.bv_terms.specs.Sorts.{HasSort}
use Rattle.bv_terms.specs.Term.{Term, value}
use Rattle.bv_terms.specs.Table.{Table, term_at, Extends}
use Rattle.bv_terms.proofs.GraftLemmas.{Extends-term, Extends-longer}
use Rattle.pattern_core.specs.Claim.{Claim}
use Rattle.loc_encode.specs.declared.slots.Slot.{Slot}
use Rattle.loc_encode.specs.Slots.{slot_number, IsSlot}
use Rattle.loc_encode.specs.Parts.{IsTruthOver}
use Rattle.loc_encode.specs.Truths.{truth, input, negation, conjunction, disjunction, choice, Denotes}
use Rattle.loc_encode.specs.Tests.{is_true, chosen, Test, IsTestTerm, IsTest}
use Rattle.loc_encode.proofs.TruthLemmas.{IsTruthTerm-truth, IsTruthTerm-input, IsTruthTerm-negation}
use Rattle.loc_encode.proofs.TruthLemmas.{IsTruthTerm-conjunction, IsTruthTerm-disjunction, IsTruthTerm-choice}
use Rattle.loc_encode.proofs.TruthLemmas.{value-truth, value-input, value-negation, value-conjunction}
use Rattle.loc_encode.proofs.TruthLemmas.{value-disjunction, value-choice, IsTruthOver-made}

-- ---- terms

test-truth : (c : Claim) (p : ℕ) (b : Bool) → IsTestTerm c p (truth b) (λ g. b)
test-truth c p b = record { truth = IsTruthTerm-truth c p b; value = λ env fits. value-truth env b }

is_truth : (v : Value) → HasSort sort.Bool v → v ≡ val.Bool (is_true (Some v))
is_truth (val.Bool b) h = refl
is_truth (val.Bits w n) h = absurd h

test-slot : (c : Claim) (p : ℕ) (x : Slot) → IsSlot c x sort.Bool
    → IsTestTerm c p (input (slot_number x) sort.Bool) (λ g. g x)
test-slot c p x slot = record {
  truth = IsTruthTerm-input c p x slot;
  value = λ env fits.
      let v = fits x sort.Bool slot in
      value-input env (slot_number x) sort.Bool v.0 v.1 ∙ is_truth v.0 v.2
      ∙ ap (λ o. val.Bool (is_true o)) (sym v.1);
}

test-negation : (c : Claim) (p : ℕ) (t : Term) (f : Test) → IsTestTerm c p t f
    → IsTestTerm c p (negation t) (λ g. not (f g))
test-negation c p t f h = record {
  truth = IsTruthTerm-negation c p t h.truth;
  value = λ env fits. value-negation env t (f (chosen env)) (h.value env fits);
}

test-conjunction : (c : Claim) (p : ℕ) (t u : Term) (f g : Test) → IsTestTerm c p t f → IsTestTerm c p u g
    → IsTestTerm c p (conjunction t u) (λ x. f x && g x)
test-conjunction c p t u f g h i = record {
  truth = IsTruthTerm-conjunction c p t u h.truth i.truth;
  value = λ env fits.
      value-conjunction env t u (f (chosen env)) (g (chosen env)) (h.value env fits) (i.value env fits);
}

test-disjunction : (c : Claim) (p : ℕ) (t u : Term) (f g : Test) → IsTestTerm c p t f → IsTestTerm c p u g
    → IsTestTerm c p (disjunction t u) (λ x. f x || g x)
test-disjunction c p t u f g h i = record {
  truth = IsTruthTerm-disjunction c p t u h.truth i.truth;
  value = λ env fits.
      value-disjunction env t u (f (chosen env)) (g (chosen env)) (h.value env fits) (i.value env fits);
}

truth-of_choice : (a b c : Bool) → cond a (val.Bool b) (val.Bool c) ≡ val.Bool (cond a b c)
truth-of_choice true b c = refl
truth-of_choice false b c = refl

test-choice : (c : Claim) (p : ℕ) (t u v : Term) (f g h : Test) → IsTestTerm c p t f → IsTestTerm c p u g
    → IsTestTerm c p v h → IsTestTerm c p (choice t u v) (λ x. cond (f x) (g x) (h x))
test-choice c p t u v f g h i j k = record {
  truth = IsTruthTerm-choice c p t u v i.truth j.truth k.truth;
  value = λ env fits.
      let x = chosen env in
      value-choice env t u v (f x) (val.Bool (g x)) (val.Bool (h x)) (i.value env fits) (j.value env fits)
      (k.value env fits) ∙ truth-of_choice (f x) (g x) (h x);
}

-- ---- nodes

-- the node of a term in a table that extends the one over which the term was made
pub IsTest-made : (c : Claim) (old new : Table) (id : TermId) (t : Term) (f : Test) → Extends old new → Denotes new id t
    → IsTestTerm c old.pointer t f → IsTest c new id f
IsTest-made c old new id t f more made h =
    let over = IsTruthOver-made c old new id t more made h.truth in
    record {
      there = made.there;
      term = record {
        truth = record { truth = over.truth; over = over.over };
        value = λ env fits. ap (value env) made.term ∙ h.value env fits;
      };
    }

pub IsTest-kept : (c : Claim) (old new : Table) (at : TermId) (f : Test) → Extends old new → IsTest c old at f
    → IsTest c new at f
IsTest-kept c old new at f more h =
    IsTest-made c old new at (term_at old at) f more
    (record {
      there = omega (arith, h.there, Extends-longer old new more);
      term = Extends-term old new more at h.there;
    })
    h.term

pub IsTest-over : (c : Claim) (table : Table) (at : TermId) (f : Test) → IsTest c table at f → IsTruthOver c table at
IsTest-over c table at f h =
    record { there = h.there; truth = h.term.truth.truth; over = h.term.truth.over }

pub IsTest-truth : (c : Claim) (old new : Table) (id : TermId) (b : Bool) → Extends old new → Denotes new id (truth b)
    → IsTest c new id (λ g. b)
IsTest-truth c old new id b more made = IsTest-made c old new id (truth b) (λ g. b) more made
    (test-truth c old.pointer b)

pub IsTest-slot : (c : Claim) (old new : Table) (id : TermId) (x : Slot) → IsSlot c x sort.Bool → Extends old new
    → Denotes new id (input (slot_number x) sort.Bool) → IsTest c new id (λ g. g x)
IsTest-slot c old new id x slot more made =
    IsTest-made c old new id (input (slot_number x) sort.Bool) (λ g. g x) more made (test-slot c old.pointer x slot)

pub IsTest-not : (c : Claim) (old new : Table) (id a : TermId) (f : Test) → IsTest c old a f → Extends old new
    → Denotes new id (negation (term_at old a)) → IsTest c new id (λ g. not (f g))
IsTest-not c old new id a f h more made =
    IsTest-made c old new id (negation (term_at old a)) (λ g. not (f g)) more made
    (test-negation c old.pointer (term_at old a) f h.term)

pub IsTest-and : (c : Claim) (old new : Table) (id a b : TermId) (f g : Test) → IsTest c old a f → IsTest c old b g
    → Extends old new → Denotes new id (conjunction (term_at old a) (term_at old b))
    → IsTest c new id (λ x. f x && g x)
IsTest-and c old new id a b f g h i more made =
    IsTest-made c old new id (conjunction (term_at old a) (term_at old b)) (λ x. f x && g x) more made
    (test-conjunction c old.pointer (term_at old a) (term_at old b) f g h.term i.term)

pub IsTest-or : (c : Claim) (old new : Table) (id a b : TermId) (f g : Test) → IsTest c old a f → IsTest c old b g
    → Extends old new → Denotes new id (disjunction (term_at old a) (term_at old b))
    → IsTest c new id (λ x. f x || g x)
IsTest-or c old new id a b f g h i more made =
    IsTest-made c old new id (disjunction (term_at old a) (term_at old b)) (λ x. f x || g x) more made
    (test-disjunction c old.pointer (term_at old a) (term_at old b) f g h.term i.term)

pub IsTest-ite : (c : Claim) (old new : Table) (id a b d : TermId) (f g h : Test) → IsTest c old a f
    → IsTest c old b g → IsTest c old d h → Extends old new
    → Denotes new id (choice (term_at old a) (term_at old b) (term_at old d))
    → IsTest c new id (λ x. cond (f x) (g x) (h x))
IsTest-ite c old new id a b d f g h i j k more made =
    IsTest-made c old new id (choice (term_at old a) (term_at old b) (term_at old d)) (λ x. cond (f x) (g x) (h x))
    more made (test-choice c old.pointer (term_at old a) (term_at old b) (term_at old d) f g h i.term j.term k.term)

-- the same test
pub IsTest-same : (c : Claim) (table : Table) (at : TermId) (f g : Test) → ((x : Slot → Bool) → f x ≡ g x)
    → IsTest c table at f → IsTest c table at g
IsTest-same c table at f g same h = record {
  there = h.there;
  term = record {
    truth = h.term.truth;
    value = λ env fits. h.term.value env fits ∙ ap (λ b. val.Bool b) (same (chosen env));
  };
}
